-- What look-ups find in two lists, one after the other, by what they find in each.
use Rattle.std.proofs.Common.{◌≡◌, ℕ, suc, ◌+◌, ◌<◌, ◌≤◌, ◌^◌, ◌-◌, Bool, true, false, List, [], ◌∷◌, ◌++◌, length, Option, Some, None, refl}
use Rattle.std.proofs.Common.{sym, ap, subst, ◌∙◌, arith, length-append, min, take, get_or}
use Rattle.std.specs.Prelude.{is_some, option_copied}
use Rattle.std.specs.Option.{option_or}
use Rattle.std.specs.Borrow.{Bor}
use Rattle.rotor_base.specs.declared.place.Place.{Place}
use Rattle.rotor_base.specs.declared.place.Goal.{Goal}
use Rattle.shape_core.specs.declared.shared.SharedEntry.{SharedEntry}
use Rattle.shape_core.specs.declared.shape.Seen.{Seen}
use Rattle.shape_core.specs.Node.{entries_of}
use Rattle.shape_core.specs.Looks.{Test, Spot, moved, last_where, some_place}
use Rattle.shape_core.specs.Shape.{Name, Shape, Entries, none, a_val, a_mod, a_mty, a_dark, ◌⊕◌, or_else, some_if, unless_some, vals, darks}
use Rattle.shape_core.specs.Shape.{decl_of, find_mod, find_mty, last_of, last_place, passed}
use Rattle.shape_core.specs.View.{Sees}
use Rattle.shape_core.proofs.Lists.{or_else_assoc, darks-append, find_vals, find_mods, find_mtys, passed-append, last_place-append}
use Rattle.shape_core.proofs.Shown.{number, number_of, entries_of-append}
use Rattle.shape_core.proofs.Telling.{taken}

-- modules and module types
pub mod_of_both : (a b : List SharedEntry) (x : Name)
    → find_mod (entries_of (a ++ b)) x ≡ or_else (find_mod (entries_of b) x) (find_mod (entries_of a) x)
mod_of_both a b x = ap (λ l. find_mod l x) (entries_of-append a b) ∙ find_mods (entries_of a) (entries_of b) x

pub mty_of_both : (a b : List SharedEntry) (x : Name)
    → find_mty (entries_of (a ++ b)) x ≡ or_else (find_mty (entries_of b) x) (find_mty (entries_of a) x)
mty_of_both a b x = ap (λ l. find_mty l x) (entries_of-append a b) ∙ find_mtys (entries_of a) (entries_of b) x

-- what the later list has, and what the earlier one has if the later one has nothing
pub mod_later : (a b : List SharedEntry) (x : Name) (s : Shape) → Some s ≡ find_mod (entries_of b) x → Some s ≡ find_mod (entries_of (a ++ b)) x
mod_later a b x s h = ap (λ o. or_else o (find_mod (entries_of a) x)) h ∙ sym (mod_of_both a b x)

pub mod_earlier : (a b : List SharedEntry) (x : Name) (o : Option Shape) → None ≡ find_mod (entries_of b) x → o ≡ find_mod (entries_of a) x
    → o ≡ find_mod (entries_of (a ++ b)) x
mod_earlier a b x o empty h = h ∙ ap (λ z. or_else z (find_mod (entries_of a) x)) empty ∙ sym (mod_of_both a b x)

pub mty_later : (a b : List SharedEntry) (x : Name) (s : Shape) → Some s ≡ find_mty (entries_of b) x → Some s ≡ find_mty (entries_of (a ++ b)) x
mty_later a b x s h = ap (λ o. or_else o (find_mty (entries_of a) x)) h ∙ sym (mty_of_both a b x)

pub mty_earlier : (a b : List SharedEntry) (x : Name) (o : Option Shape) → None ≡ find_mty (entries_of b) x → o ≡ find_mty (entries_of a) x
    → o ≡ find_mty (entries_of (a ++ b)) x
mty_earlier a b x o empty h = h ∙ ap (λ z. or_else z (find_mty (entries_of a) x)) empty ∙ sym (mty_of_both a b x)

-- the same after one entry more
pub mod_taken : (list : List SharedEntry) (i : ℕ) (d : SharedEntry) (x : Name) → i < length list → d ≡ get_or list i d
    → find_mod (entries_of (take (i + 1) list)) x ≡ or_else (find_mod (entries_of (d ∷ [])) x) (find_mod (entries_of (take i list)) x)
mod_taken list i d x h k = ap (λ l. find_mod (entries_of l) x) (taken list i d h k) ∙ mod_of_both (take i list) (d ∷ []) x

pub mty_taken : (list : List SharedEntry) (i : ℕ) (d : SharedEntry) (x : Name) → i < length list → d ≡ get_or list i d
    → find_mty (entries_of (take (i + 1) list)) x ≡ or_else (find_mty (entries_of (d ∷ [])) x) (find_mty (entries_of (take i list)) x)
mty_taken list i d x h k = ap (λ l. find_mty (entries_of l) x) (taken list i d h k) ∙ mty_of_both (take i list) (d ∷ []) x

pub copied_or : {A : Type 0} (o p : Option (Bor A)) → option_copied (option_or o p) ≡ or_else (option_copied o) (option_copied p)
copied_or None p = refl
copied_or (Some a) p = refl

-- Dark entries
pub darks_of_both : (a b : List SharedEntry) → darks (entries_of (a ++ b)) ≡ darks (entries_of a) ++ darks (entries_of b)
darks_of_both a b = ap darks (entries_of-append a b) ∙ darks-append (entries_of a) (entries_of b)

number_of_both : (a b : List SharedEntry) → length (darks (entries_of (a ++ b))) ≡ length (darks (entries_of a)) + length (darks (entries_of b))
number_of_both a b = ap length (darks_of_both a b) ∙ length-append (darks (entries_of a)) (darks (entries_of b))

last_of_darks : (a b : List SharedEntry)
    → last_place (darks (entries_of (a ++ b))) ≡ or_else (last_place (darks (entries_of b))) (last_place (darks (entries_of a)))
last_of_darks a b = ap last_place (darks_of_both a b) ∙ last_place-append (darks (entries_of a)) (darks (entries_of b))

-- a list has no more Dark entries than entries, and a look-up passes no more
few_darks : (es : Entries) → length (darks es) ≤ number es
few_darks none = omega arith
few_darks (a_val x g es) = omega (arith, few_darks es)
few_darks (a_mod X s es) = omega (arith, few_darks es)
few_darks (a_mty S s es) = omega (arith, few_darks es)
few_darks (a_dark at es) = omega (arith, few_darks es)

pub darks_few : (list : List SharedEntry) → length (darks (entries_of list)) ≤ length list
darks_few list = omega (arith, few_darks (entries_of list), number_of list)

passed_or : {V : Type 0} (o : Option V) (at : Place) (l : List Place) → length (unless_some o (at ∷ l) l) ≤ suc (length l)
passed_or None at l = omega arith
passed_or (Some v) at l = omega arith

few_passed : (es : Entries) (x : Name) → length (passed es x) ≤ number es
few_passed none x = omega arith
few_passed (a_val y g es) x = omega (arith, few_passed es x)
few_passed (a_mod X s es) x = omega (arith, few_passed es x)
few_passed (a_mty S s es) x = omega (arith, few_passed es x)
few_passed (a_dark at es) x = omega (arith, few_passed es x, passed_or (last_of (vals es) x) at (passed es x))

pub passed_few : (list : List SharedEntry) (x : Name) → length (passed (entries_of list) x) ≤ length list
passed_few list x = omega (arith, few_passed (entries_of list) x, number_of list)

-- a value in the later list
later_seen : (a b : Entries) (x : Name) (s : Seen) (g : Goal) → s.found ≡ Some g → Sees b x s → Sees (a ⊕ b) x s
later_seen a b x s g is h = record {
  found = is ∙ sym (find_vals a b x ∙ ap (λ o. or_else o (last_of (vals a) x)) there);
  by = h.by ∙ sym (ap last_place p);
  passed = h.passed ∙ sym (ap length p);
} where
  there : last_of (vals b) x ≡ Some g
  there = sym h.found ∙ is

  p : passed (a ⊕ b) x ≡ passed b x
  p = passed-append a b x ∙ ap (λ o. unless_some o (passed a x ++ passed b x) (passed b x)) there

-- no value in the later list
both_seen : (a b : Entries) (x : Name) (r s t : Seen) → s.found ≡ None → r.found ≡ t.found → r.by ≡ or_else s.by t.by → r.passed ≡ t.passed + s.passed
    → Sees a x t → Sees b x s → Sees (a ⊕ b) x r
both_seen a b x r s t is f y n h k = record {
  found = f ∙ h.found ∙ sym (find_vals a b x ∙ ap (λ o. or_else o (last_of (vals a) x)) there);
  by = y ∙ ap (λ o. or_else o t.by) k.by ∙ ap (or_else (last_place (passed b x))) h.by
      ∙ sym (ap last_place p ∙ last_place-append (passed a x) (passed b x));
  passed = n ∙ ap (λ m. m + s.passed) h.passed ∙ ap (λ m. length (passed a x) + m) k.passed
      ∙ sym (ap length p ∙ length-append (passed a x) (passed b x));
} where
  there : last_of (vals b) x ≡ None
  there = sym k.found ∙ is

  p : passed (a ⊕ b) x ≡ passed a x ++ passed b x
  p = passed-append a b x ∙ ap (λ o. unless_some o (passed a x ++ passed b x) (passed b x)) there

pub seen_later : (a b : List SharedEntry) (x : Name) (s : Seen) (g : Goal) → s.found ≡ Some g → Sees (entries_of b) x s
    → Sees (entries_of (a ++ b)) x s
seen_later a b x s g is h = subst (λ l. Sees l x s) (sym (entries_of-append a b)) (later_seen (entries_of a) (entries_of b) x s g is h)

-- the same, by a test
has_found : (o : Option Goal) → is_some o ≡ true → (g : Goal) × (o ≡ Some g)
has_found None h = absurd cc
has_found (Some g) h = (g, refl)

pub seen_if_later : (a b : List SharedEntry) (x : Name) (s : Seen) → is_some s.found ≡ true → Sees (entries_of b) x s → Sees (entries_of (a ++ b)) x s
seen_if_later a b x s is h = let found = has_found s.found is in seen_later a b x s found.0 found.1 h

pub seen_both : (a b : List SharedEntry) (x : Name) (r s t : Seen) → length (a ++ b) < 2 ^ 64 → s.found ≡ None → r.found ≡ t.found
    → r.by ≡ or_else s.by t.by → r.passed ≡ min (t.passed + s.passed) (2 ^ 64 - 1) → Sees (entries_of a) x t → Sees (entries_of b) x s
    → Sees (entries_of (a ++ b)) x r
seen_both a b x r s t few is f y n h k =
    let sum : r.passed ≡ t.passed + s.passed =
    omega (arith, n, h.passed, k.passed, passed_few a x, passed_few b x, length-append a b, few) in
    subst (λ l. Sees l x r) (sym (entries_of-append a b)) (both_seen (entries_of a) (entries_of b) x r s t is f y sum h k)

-- a spot behind so many entries more, and with so many Dark entries more after it
abbrev pub behind : ℕ → Option Spot → Option Spot
behind n None = None
behind n (Some s) = Some (n + s.0, s.1, s.2)

abbrev pub before : ℕ → Option Spot → Option Spot
before n None = None
before n (Some s) = Some (s.0, s.1, s.2 + n)

-- the last value that a test accepts
behind_none : (o : Option Spot) → behind 0 o ≡ o
behind_none None = refl
behind_none (Some s) =
    let e : 0 + s.0 ≡ s.0 = omega arith in
    let at : ℕ → Option Spot = λ n. Some (n, s.1, s.2) in ap at e

moved_both : (n m : ℕ) (o p : Option Spot) → moved (or_else (behind n o) (before m p)) ≡ or_else (behind (suc n) o) (before m (moved p))
moved_both n m None None = refl
moved_both n m None (Some t) = refl
moved_both n m (Some s) p =
    let e : suc (n + s.0) ≡ suc n + s.0 = omega arith in
    let at : ℕ → Option Spot = λ k. Some (k, s.1, s.2) in ap at e

before_or : (m : ℕ) (o p : Option Spot) → or_else (before m o) (before m p) ≡ before m (or_else o p)
before_or m None p = refl
before_or m (Some s) p = refl

before_if : (m n k : ℕ) (b : Bool) (at : Place) → k ≡ n + m → some_if {V = Spot} b (0, at, k) ≡ before m (some_if {V = Spot} b (0, at, n))
before_if m n k true at e = let here : ℕ → Option Spot = λ d. Some (0, at, d) in ap here e
before_if m n k false at e = refl

pub last_where-append : (test : Test) (a b : Entries) → last_where test (a ⊕ b) ≡ or_else (behind (number a) (last_where test b))
    (before (length (darks b)) (last_where test a))
last_where-append test none b = sym (none_before (last_where test b))
  where
    none_before : (o : Option Spot) → or_else (behind 0 o) None ≡ o
    none_before None = refl
    none_before (Some s) = behind_none (Some s)
last_where-append test (a_val x g a) b =
    let m = length (darks b) in
    let here : ℕ → Option Spot = λ k. some_if (test x g) (0, some_place (decl_of g), k) in
    let k : length (darks (a ⊕ b)) ≡ length (darks a) + m = ap length (darks-append a b) ∙ length-append (darks a) (darks b) in
    let later = behind (suc (number a)) (last_where test b) in
    ap (λ o. or_else (moved o) (here (length (darks (a ⊕ b))))) (last_where-append test a b)
    ∙ ap (λ o. or_else o (here (length (darks (a ⊕ b))))) (moved_both (number a) m (last_where test b) (last_where test a))
    ∙ or_else_assoc later (before m (moved (last_where test a))) (here (length (darks (a ⊕ b))))
    ∙ ap (λ o. or_else later (or_else (before m (moved (last_where test a))) o))
    (before_if m (length (darks a)) (length (darks (a ⊕ b))) (test x g) (some_place (decl_of g)) k)
    ∙ ap (or_else later) (before_or m (moved (last_where test a)) (here (length (darks a))))
last_where-append test (a_mod X s a) b = ap moved (last_where-append test a b)
    ∙ moved_both (number a) (length (darks b)) (last_where test b) (last_where test a)
last_where-append test (a_mty S s a) b = ap moved (last_where-append test a b)
    ∙ moved_both (number a) (length (darks b)) (last_where test b) (last_where test a)
last_where-append test (a_dark at a) b = ap moved (last_where-append test a b)
    ∙ moved_both (number a) (length (darks b)) (last_where test b) (last_where test a)

-- a spot is within so many entries, with at most so many Dark entries after it
abbrev Within : ℕ → ℕ → Option Spot → Type 0
Within n m None = Unit {0}
Within n m (Some s) = (s.0 < n) × (s.2 ≤ m)

within_val : (n m : ℕ) (o : Option Spot) (b : Bool) (at : Place) → Within n m o
    → Within (suc n) m (or_else (moved o) (some_if {V = Spot} b (0, at, m)))
within_val n m None true at h = (omega arith, omega arith)
within_val n m None false at h = tt
within_val n m (Some s) b at h = (omega (arith, h.0), h.1)

within_moved : (n m k : ℕ) (o : Option Spot) → m ≤ k → Within n m o → Within (suc n) k (moved o)
within_moved n m k None e h = tt
within_moved n m k (Some s) e h = (omega (arith, h.0), omega (arith, e, h.1))

within : (test : Test) (es : Entries) → Within (number es) (length (darks es)) (last_where test es)
within test none = tt
within test (a_val x g es) =
    within_val (number es) (length (darks es)) (last_where test es) (test x g) (some_place (decl_of g)) (within test es)
within test (a_mod X s es) =
    within_moved (number es) (length (darks es)) (length (darks es)) (last_where test es) (omega arith) (within test es)
within test (a_mty S s es) =
    within_moved (number es) (length (darks es)) (length (darks es)) (last_where test es) (omega arith) (within test es)
within test (a_dark at es) =
    within_moved (number es) (length (darks es)) (suc (length (darks es))) (last_where test es) (omega arith) (within test es)

module _ (test : Test) (a b : List SharedEntry) where
  last_of_both : last_where test (entries_of (a ++ b)) ≡ or_else (behind (length a) (last_where test (entries_of b)))
      (before (length (darks (entries_of b))) (last_where test (entries_of a)))
  last_of_both = ap (last_where test) (entries_of-append a b) ∙ last_where-append test (entries_of a) (entries_of b)
      ∙ ap (λ n. or_else (behind n (last_where test (entries_of b))) (before (length (darks (entries_of b))) (last_where test (entries_of a))))
      (number_of a)

  -- the later list has a value
  pub last_later : (n r : ℕ) (s : Spot) → length (a ++ b) < 2 ^ 64 → n ≡ length a → Some s ≡ last_where test (entries_of b)
      → r ≡ min (s.0 + n) (2 ^ 64 - 1) → Some (r, s.1, s.2) ≡ last_where test (entries_of (a ++ b))
  last_later n r s few en is er =
      let in_b = subst (Within (number (entries_of b)) (length (darks (entries_of b)))) (sym is) (within test (entries_of b)) in
      let place : r ≡ length a + s.0 = omega (arith, few, en, er, in_b.0, number_of b, length-append a b) in
      let at : ℕ → Option Spot = λ k. Some (k, s.1, s.2) in
      ap at place ∙ ap (λ o. or_else (behind (length a) o) (before (length (darks (entries_of b))) (last_where test (entries_of a)))) is
      ∙ sym last_of_both

  -- the later list has none
  pub last_earlier : (d r : ℕ) (s : Spot) → length (a ++ b) < 2 ^ 64 → d ≡ length (darks (entries_of b)) → None ≡ last_where test (entries_of b)
      → Some s ≡ last_where test (entries_of a) → r ≡ min (s.2 + d) (2 ^ 64 - 1)
      → Some (s.0, s.1, r) ≡ last_where test (entries_of (a ++ b))
  last_earlier d r s few ed empty is er =
      let in_a = subst (Within (number (entries_of a)) (length (darks (entries_of a)))) (sym is) (within test (entries_of a)) in
      let after : r ≡ s.2 + length (darks (entries_of b)) =
      omega (arith, few, ed, er, in_a.1, darks_few a, darks_few b, length-append a b) in
      let at : ℕ → Option Spot = λ k. Some (s.0, s.1, k) in
      ap at after ∙ ap (before (length (darks (entries_of b)))) is
      ∙ ap (λ o. or_else (behind (length a) o) (before (length (darks (entries_of b))) (last_where test (entries_of a)))) empty ∙ sym last_of_both

  pub last_neither : None ≡ last_where test (entries_of b) → None ≡ last_where test (entries_of a)
      → None ≡ last_where test (entries_of (a ++ b))
  last_neither empty is =
      ap (before (length (darks (entries_of b)))) is
      ∙ ap (λ o. or_else (behind (length a) o) (before (length (darks (entries_of b))) (last_where test (entries_of a)))) empty ∙ sym last_of_both

-- Dark entries of two lists
pub count_of_both : (a b : List SharedEntry) (m n r : ℕ) → length (a ++ b) < 2 ^ 64 → m ≡ length (darks (entries_of a))
    → n ≡ length (darks (entries_of b)) → r ≡ min (m + n) (2 ^ 64 - 1) → r ≡ length (darks (entries_of (a ++ b)))
count_of_both a b m n r few em en er = omega (arith, few, em, en, er, darks_few a, darks_few b, length-append a b, number_of_both a b)

pub place_of_both : (a b : List SharedEntry) (o p r : Option Place) → o ≡ last_place (darks (entries_of a)) → p ≡ last_place (darks (entries_of b))
    → r ≡ or_else p o → r ≡ last_place (darks (entries_of (a ++ b)))
place_of_both a b o p r eo ep er = er ∙ ap (or_else p) eo ∙ ap (λ z. or_else z (last_place (darks (entries_of a)))) ep ∙ sym (last_of_darks a b)
