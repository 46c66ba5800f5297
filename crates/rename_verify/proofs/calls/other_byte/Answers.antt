use Rattle.std.proofs.Common.{List, ℕ, map, length, ap, sym, subst, ◌∙◌}
use Rattle.std.specs.Global.{Vec}
use Rattle.rotor_base.specs.declared.source.SourceFile.{SourceFile}
use Rattle.ml_trees.specs.View.{view_project}
use Rattle.binding_model.specs.Renaming.{Renaming}
use Rattle.rename_respell.specs.Respelled.{AreRespelledBytes, mapped_words}
use Rattle.rename_verify.specs.Scans.{IsSpot}
use Rattle.rename_verify.proofs.Judged.{as_many_sources}
use Rattle.rename_verify.proofs.calls.other_byte.Goals as goal

abbrev bytes_of : Vec ℕ → List ℕ
bytes_of bytes = bytes.items

abbrev source_bytes : SourceFile → List ℕ
source_bytes source = source.bytes

pub first_spot-requires-clause-same : goal.first_spot-requires-clause-same
first_spot-requires-clause-same c =
    let words = mapped_words (view_project c.args.read.now.project) c.deref.result.now in
    ap (λ (l : List (Vec ℕ)). length l) c.deref-2.ensures.value
    ∙ (as_many_sources bytes_of words c.args.old.now.entries c.args.new.now.entries c.in_ok-sources.sources.items c.requires.names
    c.in_ok-sources.ensures
    ∙ ap (λ (l : List SourceFile). length l) (sym c.entries.ensures.entries))

pub returns : goal.returns
returns c =
    let us = view_project c.args.read.now.project in
    let sources = map bytes_of c.in_ok-sources.sources.items in (
      sources,
      subst (λ (m : Renaming). AreRespelledBytes (mapped_words us m) 0 c.args.old.now.entries sources) c.deref.ensures.value
          c.in_ok-sources.ensures,
      subst (λ (l : List SourceFile). IsSpot sources (map source_bytes l) c.first_spot.result) c.entries.ensures.entries
          (subst (λ (l : List (Vec ℕ)). IsSpot (map bytes_of l) (map source_bytes c.entries.result.now) c.first_spot.result)
          c.deref-2.ensures.value c.first_spot.ensures),
    )
