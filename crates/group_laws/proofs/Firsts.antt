-- If no least place repeats a name of its group, none does: some groups have a first repeat, or none.
use Rattle.std.proofs.Common.{◌≡◌, ℕ, zero, suc, ◌+◌, ◌<◌, ◌≤◌, bytes_eq, if◌then◌else◌, refl, subst, arith, List, [], ◌∷◌, length, get_or, Option}
use Rattle.std.proofs.Common.{Some, None}
use Rattle.std.proofs.lemmas.List.{get_or_default}
use Rattle.rotor_base.specs.declared.place.Place.{Place}
use Rattle.capture_check.specs.declared.fault.Repeat.{Repeat}
use Rattle.capture_check.specs.Fault.{Names, Repeats}
use Rattle.capture_check.specs.Firsts.{IsFirstRepeat, earlier_repeat, repeat_of, lesser}
use Rattle.capture_check.proofs.Twice.{IsBestPair}
use Rattle.capture_check.proofs.Groups.{Scans, scan_begin, scan_more, scan_end, Below, groups_begin, groups_more, groups_end}
use Rattle.group_laws.specs.Laws.{NoLeastIsNone}

no_place : Place
no_place = record { file = 0; token = 0 }

module _ (names : Names) where
  -- what a scan of a group has after so many places
  record Scanned (group : List Place) (n : ℕ) : Type 0 where
    seen : List ℕ → Option Place
    best : Option Repeat
    scans : Scans names group n seen best

  scanned : (group : List Place) (n : ℕ) → n ≤ length group → Scanned group n
  scanned group zero l = record { seen = λ x. None; best = None; scans = scan_begin names group (λ x. None) (λ x. refl) }
  scanned group (suc n) l =
      let within : n < length group = omega (arith, l) in
      let s = scanned group n (omega (arith, l)) in
      let p = get_or group n no_place in
      let is : p ≡ get_or group n p = get_or_default group n no_place p within in
      let now : List ℕ → Option Place = λ x. if bytes_eq (names p) x then Some (lesser (s.seen (names p)) p) else s.seen x in
      let found = repeat_of (s.seen (names p)) p in
      let next : n + 1 ≡ suc n = omega arith in
      record {
        seen = now;
        best = earlier_repeat s.best found;
        scans = subst (λ (m : ℕ). Scans names group m now (earlier_repeat s.best found)) next
            (scan_more names group n s.seen now s.best found p within is refl (λ x. refl) s.scans);
      }

  group_first : (group : List Place) → (o : Option Repeat) × IsFirstRepeat names (group ∷ []) o
  group_first group =
      let s = scanned group (length group) (omega arith) in
      (s.best, scan_end names group (length group) s.best (omega arith) (omega arith) s.scans.1)

  groups_at : (groups : List (List Place)) (n : ℕ) → n ≤ length groups → (o : Option Repeat) × IsBestPair (Below names groups n) o
  groups_at groups zero l = (None, groups_begin names groups)
  groups_at groups (suc n) l =
      let within : n < length groups = omega (arith, l) in
      let s = groups_at groups n (omega (arith, l)) in
      let g = get_or groups n [] in
      let is : g ≡ get_or groups n g = get_or_default groups n [] g within in
      let found = group_first g in
      let next : n + 1 ≡ suc n = omega arith in (
        earlier_repeat s.0 found.0,
        subst (λ (m : ℕ). IsBestPair (Below names groups m) (earlier_repeat s.0 found.0)) next
            (groups_more names groups n s.0 found.0 g within is found.1 s.1),
      )

  first_or_none : (groups : List (List Place)) → (o : Option Repeat) × IsFirstRepeat names groups o
  first_or_none groups = let s = groups_at groups (length groups) (omega arith) in
      (s.0, groups_end names groups (length groups) s.0 (omega arith) (omega arith) s.1)

pub no_least_is_none : NoLeastIsNone
no_least_is_none names groups h = by (first_or_none names groups).0 (first_or_none names groups).1 where
  by : (o : Option Repeat) → IsFirstRepeat names groups o → (first again : Place) → Repeats names groups first again → ⊥
  by None k = k
  by (Some r) k = λ first again s. h r.first r.again k
