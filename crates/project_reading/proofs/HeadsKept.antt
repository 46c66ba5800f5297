-- The heads of a respelled file are the file's: only names of values are respelled, and no path has them as its head.
use Rattle.std.proofs.Common.{◌≡◌, ℕ, List, [], Some, refl, ap}
use Rattle.value_sites.specs.Respelled.{Spelling, spell_file}
use Rattle.value_sites.proofs.SpelledEvents.{spell_event, file_spelled}
use Rattle.ml_trees.specs.Tree.{FileTree, UpperName, AnyName}
use Rattle.ml_trees.specs.Events.{Event, said, run_of, module_path, last_path, qualifier, scope_begins, scope_ends, brings}
use Rattle.tree_events.specs.Behind.{behind}
use Rattle.unit_heads.specs.Heads.{Needed, needed, hears, file_heads}

-- more says the same of each state
abbrev SaySame : (Needed → Needed) → (Needed → Needed) → Type 0
SaySame k k' = (s : Needed) → k s ≡ k' s

event-kept : (w : Spelling) (e : Event) (k k' : Needed → Needed) → SaySame k k' → SaySame (behind hears (spell_event w e) k) (behind hears e k')
event-kept w (said t) k k' same s = same s
event-kept w (run_of ts) k k' same s = same s
event-kept w (module_path path) k k' same s = same (hears s (module_path path))
event-kept w (last_path path) k k' same s = same (hears s (last_path path))
event-kept w (qualifier path) k k' same s = same (hears s (qualifier path))
event-kept w scope_begins k k' same s = same (hears s scope_begins)
event-kept w scope_ends k k' same s = same (hears s scope_ends)
event-kept w (brings (UpperName x)) k k' same s = same (hears s (brings (UpperName x)))
event-kept w (brings (AnyName at)) k k' same s = same s
event-kept w _ k k' same s = same s

pub file-kept : (t : FileTree) (w : Spelling) (found : List (List ℕ)) → file_heads found (Some (spell_file w t)) ≡ file_heads found (Some t)
file-kept t w found = ap (λ s. s.found) (file_spelled (behind hears) (behind hears) SaySame w (event-kept w) t (λ s. refl) (needed [] [] found))
