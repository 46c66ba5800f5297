use Rattle.std.proofs.Common.{◌<◌, All, List, length, sym, subst}
use Rattle.rotor_base.specs.declared.source.SourceFile.{SourceFile}
use Rattle.renaming_edits.specs.Edits.{AreListed}
use Rattle.renaming_edits.proofs.Listed.{changed_within, are_edits}
use Rattle.renaming_edits.proofs.renaming.edits_of.Goals as goal

pub find_no_text-requires : goal.find_no_text-requires
find_no_text-requires c =
    let within = changed_within c.args.files.now c.args.facts.now c.args.done.now c.requires in
    subst (All (λ f. f < length c.entries-sources.result.now)) (sym c.as_slice.ensures)
    (subst (λ (l : List SourceFile). All (λ f. f < length l) c.args.done.now.changed) (sym c.entries-sources.ensures.entries) within)

pub listed_edits-requires-clause-within : goal.listed_edits-requires-clause-within
listed_edits-requires-clause-within c =
    subst (λ (l : List SourceFile). All (λ f. f < length l) c.args.done.now.changed) (sym c.entries-sources.ensures.entries)
    (changed_within c.args.files.now c.args.facts.now c.args.done.now c.requires)

pub returns-clause-edits : goal.returns-clause-edits
returns-clause-edits c =
    let listed = subst
    (λ (l : List SourceFile). AreListed c.args.counting c.in_ok-set.set c.args.done.now.new l c.args.done.now.changed c.in_ok-list.list.items)
    c.entries-sources.ensures.entries c.in_ok-list.ensures in
    are_edits c.args.counting c.args.files.now c.args.facts.now c.args.done.now c.requires c.in_ok-set.set c.in_ok-set.ensures c.in_ok-list.list.items
    listed
