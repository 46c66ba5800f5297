-- The first fault from the three first answers, and that there is one at most.
use Rattle.std.proofs.Common.{◌≡◌, sym, ◌∙◌, inl, inr, List, Contains, Option, Some, None, Result, Ok, Err, IfOk}
use Rattle.rotor_base.specs.declared.fault.Memory.{Memory}
use Rattle.rotor_base.specs.declared.place.Place.{Place}
use Rattle.rotor_base.specs.declared.place.Goal.TheVariants.{Decl, Outside, Missing, Hidden, Blur}
use Rattle.rotor_base.specs.declared.place.Facts.{Facts}
use Rattle.capture_check.specs.declared.fault.Fault.TheVariants.{Clash, Capture, Mislink}
use Rattle.capture_check.specs.declared.fault.Change.{Change}
use Rattle.capture_check.specs.declared.fault.Repeat.{Repeat}
use Rattle.capture_check.specs.Fault.{Names, Repeats, IsClash, of_ref, of_link, IsCapture, IsMislink, IsMet, IsFirstFault}
use Rattle.capture_check.specs.Firsts.{IsFirstChange, IsFirstRepeat, fault_of}

-- names that agree in the groups have the same repeats
abbrev pub Agree : Names → Names → List (List Place) → Type 0
Agree f g groups = (group : List Place) (d : Place) → Contains groups group → Contains group d → f d ≡ g d

repeats_as : (f g : Names) (groups : List (List Place)) → Agree f g groups → (p q : Place) → Repeats f groups p q → Repeats g groups p q
repeats_as f g groups a p q r =
    record {
      group = r.group;
      among = r.among;
      here = r.here;
      there = r.there;
      order = r.order;
      same = sym (a r.group p r.among r.here)
          ∙ (r.same ∙ a r.group q r.among r.there);
    }

pub first_as : (f g : Names) (groups : List (List Place)) → Agree f g groups → (o : Option Repeat) → IsFirstRepeat f groups o
    → IsFirstRepeat g groups o
first_as f g groups a None h = λ p q r. h p q (repeats_as g f groups (λ x d i j. sym (a x d i j)) p q r)
first_as f g groups a (Some s) h = record {
  repeats = repeats_as f g groups a s.first s.again h.repeats;
  least = λ p q r. h.least p q (repeats_as g f groups (λ x d i j. sym (a x d i j)) p q r);
}

pub first_ok : (f g : Names) (groups : List (List Place)) → Agree f g groups → (r : Result (Option Repeat) Memory) → IfOk r (IsFirstRepeat f groups)
    → IfOk r (IsFirstRepeat g groups)
first_ok f g groups a (Ok o) h = first_as f g groups a o h
first_ok f g groups a (Err e) h = tt

module _ (names : Names) (old new : Facts) where
  no_clash : IsFirstRepeat names new.groups None → IsMet (IsClash names new.groups) → ⊥
  no_clash h (Clash first again, l) = h first again l.repeats
  no_clash h (Capture at was would, l) = l
  no_clash h (Mislink item was would, l) = l

  no_capture : IsFirstChange of_ref old.refs new.refs None → IsMet (IsCapture old.refs new.refs) → ⊥
  no_capture h (Clash first again, l) = l
  no_capture h (Capture at was would, l) = h l.number at was would l.differs
  no_capture h (Mislink item was would, l) = l

  no_mislink : IsFirstChange of_link old.links new.links None → IsMet (IsMislink old.links new.links) → ⊥
  no_mislink h (Clash first again, l) = l
  no_mislink h (Capture at was would, l) = l
  no_mislink h (Mislink (Decl item) was would, l) = h l.number item was would l.differs
  no_mislink h (Mislink Outside was would, l) = l
  no_mislink h (Mislink Missing was would, l) = l
  no_mislink h (Mislink Hidden was would, l) = l
  no_mislink h (Mislink (Blur by n b) was would, l) = l

  pub fault_is : (r : Option Repeat) (c m : Option Change) → IsFirstRepeat names new.groups r → IsFirstChange of_ref old.refs new.refs c
      → IsFirstChange of_link old.links new.links m
      → IsFirstFault names old new (fault_of r c m)
  fault_is (Some r) c m h k l = inl h
  fault_is None (Some c) m h k l = inr (no_clash h, inl k)
  fault_is None None (Some m) h k l = inr (no_clash h, inr (no_capture k, l))
  fault_is None None None h k l = λ met. elim met.1 [
    | inl x ↦ no_clash h (met.0, x)
    | inr x ↦ elim x.1 [ inl y ↦ no_capture k (met.0, y) | inr y ↦ no_mislink l (met.0, y.1) ]
  ]
