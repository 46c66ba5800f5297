-- Whether two lists of references, or of links, differ, and the first place at which they do.
use Rattle.std.proofs.Common.{◌⊎◌, inl, inr, List, Option, Some, None}
use Rattle.rotor_base.specs.declared.place.Place.{Place}
use Rattle.rotor_base.specs.declared.place.Goal.{Goal}
use Rattle.rotor_base.specs.declared.place.Ref.{Ref}
use Rattle.rotor_base.specs.declared.place.Link.{Link}
use Rattle.capture_check.specs.declared.fault.Change.{Change}
use Rattle.capture_check.specs.Fault.{IsFirstDiffering, of_ref, of_link}
use Rattle.capture_check.specs.Firsts.{IsFirstChange, Tells}
use Rattle.capture_check.proofs.Equal.{first_or_none, tell_ref, tell_link}
use Rattle.capture_check.proofs.Least.{KeepsPlace, keeps_ref, keeps_link}

module _ {A : Type 0} (make : Place → Goal → A) (keeps : KeepsPlace make) (old new : List A)
    (tell : (o p : Option A) → (c : Option Change) × Tells make o p c) where
  -- a first difference, or none
  differs_or_not : ((at : Place) × (was : Goal) × (would : Goal) × IsFirstDiffering make old new at was would)
      ⊎ ((at : Place) (was would : Goal) → IsFirstDiffering make old new at was would → ⊥)
  differs_or_not = let first = first_or_none make keeps old new tell in by first.0 first.1 where
    by : (o : Option Change) → IsFirstChange make old new o
        → ((at : Place) × (was : Goal) × (would : Goal) × IsFirstDiffering make old new at was would)
        ⊎ ((at : Place) (was would : Goal) → IsFirstDiffering make old new at was would → ⊥)
    by None n = inr (λ at was would f. n f.number at was would f.differs)
    by (Some c) h = inl (c.at, c.was, c.would, h)

pub refs_differ : (old new : List Ref) → ((at : Place) × (was : Goal) × (would : Goal) × IsFirstDiffering of_ref old new at was would)
    ⊎ ((at : Place) (was would : Goal) → IsFirstDiffering of_ref old new at was would → ⊥)
refs_differ old new = differs_or_not of_ref keeps_ref old new tell_ref

pub links_differ : (old new : List Link) → ((at : Place) × (was : Goal) × (would : Goal) × IsFirstDiffering of_link old new at was would)
    ⊎ ((at : Place) (was would : Goal) → IsFirstDiffering of_link old new at was would → ⊥)
links_differ old new = differs_or_not of_link keeps_link old new tell_link
