use Rattle.std.proofs.Common.{◌++◌, ◌∷◌, [], map, refl, sym, ap, ◌∙◌}
use Rattle.std.proofs.lemmas.List.{map-append}
use Rattle.rotor_base.specs.declared.source.SourceFile.{SourceFile}
use Rattle.tree_io.specs.declared.slot.Slot.{Slot}
use Rattle.tree_io.specs.Slots.{files_in}
use Rattle.tree_io.proofs.Slots.{files_pushed}
use Rattle.tree_io.proofs.store.make_slots.Goals as goal

pub loop-file-preserved : goal.loop-file-preserved
loop-file-preserved c = record {
  files =
      ap files_in c.in_ok-push.ensures.items
      ∙ files_pushed c.loop-file.slots.items _ refl
      ∙ (λ i. c.loop-file.invariant.files i ++ (c.in-Some.file.name, c.into_vec.ensures i) ∷ [])
      ∙ sym (map-append (λ (file : SourceFile). (file.name, file.bytes)) c.loop-file.yielded (c.in-Some.file ∷ []));
  names =
      ap (map (λ (slot : Slot). slot.name)) c.in_ok-push.ensures.items
      ∙ map-append (λ (slot : Slot). slot.name) c.loop-file.slots.items _
      ∙ (λ i. c.loop-file.invariant.names i ++ c.in-Some.file.name ∷ [])
      ∙ sym (map-append (λ (file : SourceFile). file.name) c.loop-file.yielded (c.in-Some.file ∷ []));
}
