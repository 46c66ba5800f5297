use Rattle.std.proofs.Common.{◌∙◌, ◌++◌, ◌+◌, ℕ, List, [], ◌∷◌, refl, ap, sym, subst, take, get_or}
use Rattle.std.proofs.lemmas.List.{take_more}
use Rattle.rotor_base.specs.declared.source.SourceFile.{SourceFile}
use Rattle.renaming_edits.specs.declared.renaming.FileEdits.{FileEdits}
use Rattle.renaming_edits.specs.Edits.{AreListed}
use Rattle.renaming_edits.proofs.Listed.{listed_more, gives_words}
use Rattle.renaming_edits.proofs.renaming.listed_edits.Goals as goal

pub loop-file-preserved : goal.loop-file-preserved
loop-file-preserved c =
    let items = c.as_slice-file-items.result.now in
    let i : ℕ = c.loop-file.file-index in
    let file : ℕ = get_or items i 0 in
    let set = c.args.set.now in
    let new = c.args.done.now.new in
    let sources = c.args.sources.now in
    let e : FileEdits = record { file = file; edits = c.in_ok-edits.edits } in
    let more = listed_more c.args.counting set new sources (take i items) c.loop-file.list.items file e c.loop-file.invariant
    (gives_words c.args.counting set new sources file e c.index-sources-file.result c.as_slice-source.result.now c.as_bytes.result.now refl
    c.index-sources-file.is (c.as_slice-source.ensures ∙ sym (ap (λ (s : SourceFile). s.bytes) c.index-sources-file.is)) c.as_bytes.ensures
    c.in_ok-edits.ensures) in
    let P : List ℕ → List FileEdits → Type 0 = λ fs es. AreListed c.args.counting set new sources fs es in
    subst (λ es. P (take (i + 1) items) es) (sym c.in_ok-push.ensures.items)
    (subst (λ fs. P fs (c.loop-file.list.items ++ e ∷ [])) (sym (take_more items i 0 c.loop-file-test.true)) more)
