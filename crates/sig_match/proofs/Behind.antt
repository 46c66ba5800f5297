-- The last value that a test accepts, and those behind a position.
use Rattle.std.proofs.Common.{◌≡◌, ℕ, zero, suc, ◌+◌, ◌≤◌, Bool, true, false, cond, List, drop, length, Option, Some, None, is_some, refl, ap, sym}
use Rattle.std.proofs.Common.{◌∙◌, arith}
use Rattle.std.specs.Prelude.{nat_lt}
use Rattle.rotor_base.specs.declared.place.Place.{Place}
use Rattle.shape_core.specs.declared.shared.SharedEntry.{SharedEntry}
use Rattle.shape_core.specs.Looks.{Test, Spot, last_where, moved, some_place}
use Rattle.shape_core.specs.Node.{entries_of}
use Rattle.shape_core.specs.Shape.{Entries, none, a_val, a_mod, a_mty, a_dark, darks, decl_of, entries_from, or_else, some_if}
use Rattle.shape_core.proofs.Shown.{from_drop}
use Rattle.sig_match.specs.Tests.{is_behind, kept_from}

below_more : (a b : ℕ) → nat_lt a b ≡ nat_lt (suc a) (suc b)
below_more a b = grind arith

none_below : (a : ℕ) → false ≡ nat_lt (suc a) 0
none_below a = grind arith

some_below : (a : ℕ) → true ≡ nat_lt 0 (suc a)
some_below a = grind arith

not_below : (a b : ℕ) → nat_lt a b ≡ false → nat_lt b (suc a) ≡ true
not_below a b h = grind (arith, h)

at_least : (a b : ℕ) → b ≤ a → nat_lt a b ≡ false
at_least a b h = grind (arith, h)

-- behind the first entry
first : (o : Option Spot) (b : Bool) (q : Place) (k : ℕ) → is_some o ≡ is_behind 0 (or_else (moved o) (some_if b (0, q, k)))
first None true q k = refl
first None false q k = refl
first (Some s) b q k = some_below s.0

first_moved : (o : Option Spot) → is_some o ≡ is_behind 0 (moved o)
first_moved None = refl
first_moved (Some s) = some_below s.0

-- behind a later one
next : (n : ℕ) (o : Option Spot) (b : Bool) (q : Place) (k : ℕ) → is_behind n o ≡ is_behind (suc n) (or_else (moved o) (some_if b (0, q, k)))
next n None true q k = none_below n
next n None false q k = refl
next n (Some s) b q k = below_more n s.0

next_moved : (n : ℕ) (o : Option Spot) → is_behind n o ≡ is_behind (suc n) (moved o)
next_moved n None = refl
next_moved n (Some s) = below_more n s.0

-- a value is behind a position exactly if the last one is
behind_is : (t : Test) (n : ℕ) (es : Entries) → is_some (last_where t (entries_from (suc n) es)) ≡ is_behind n (last_where t es)
behind_is t n none = refl
behind_is t zero (a_val x g es) = first (last_where t es) (t x g) (some_place (decl_of g)) (length (darks es))
behind_is t zero (a_mod X s es) = first_moved (last_where t es)
behind_is t zero (a_mty S s es) = first_moved (last_where t es)
behind_is t zero (a_dark at es) = first_moved (last_where t es)
behind_is t (suc n) (a_val x g es) =
    behind_is t n es ∙ next n (last_where t es) (t x g) (some_place (decl_of g)) (length (darks es))
behind_is t (suc n) (a_mod X s es) = behind_is t n es ∙ next_moved n (last_where t es)
behind_is t (suc n) (a_mty S s es) = behind_is t n es ∙ next_moved n (last_where t es)
behind_is t (suc n) (a_dark at es) = behind_is t n es ∙ next_moved n (last_where t es)

pub later_behind : (t : Test) (n : ℕ) (es : Entries) (o : Option Spot) (b : Bool) → b ≡ is_behind n o → o ≡ last_where t es
    → b ≡ is_some (last_where t (entries_from (n + 1) es))
later_behind t n es o b h k =
    let q : suc n ≡ n + 1 = omega arith in
    h ∙ ap (is_behind n) k ∙ sym (behind_is t n es) ∙ ap (λ m. is_some (last_where t (entries_from m es))) q

-- ---- the last value, if it is not below a position

pub kept_all : (o : Option Spot) → kept_from 0 o ≡ o
kept_all None = refl
kept_all (Some s) = ap (λ b. cond b None (Some s)) (at_least s.0 0 (omega arith))

pub kept_found : (n i : ℕ) (p : Place) (k : ℕ) (o : Option Spot) → n ≤ i → Some (i, p, k) ≡ o → Some (i, p, k) ≡ kept_from n o
kept_found n i p k o h is =
    let here : Spot = (i, p, k) in ap (λ b. cond b None (Some here)) (sym (at_least i n h)) ∙ ap (kept_from n) is

none_past : (n : ℕ) (o : Option Spot) → is_behind n o ≡ false → None ≡ kept_from (suc n) o
none_past n None h = refl
none_past n (Some s) h = ap (λ b. cond b None (Some s)) (sym (not_below n s.0 h))

pub none_kept : (t : Test) (n : ℕ) (list : List SharedEntry) → last_where t (entries_of (drop n list)) ≡ None
    → None ≡ kept_from n (last_where t (entries_of list))
none_kept t zero list h = ap (kept_from 0) (sym h)
none_kept t (suc n) list h =
    none_past n (last_where t (entries_of list))
    (sym (behind_is t n (entries_of list)) ∙ ap (λ es. is_some (last_where t es)) (from_drop (suc n) list) ∙ ap is_some h)

-- what is kept is the last value
pub some_kept : (n : ℕ) (s : Spot) (o : Option Spot) → kept_from n o ≡ Some s → Some s ≡ o
some_kept n s None h = absurd cc
some_kept n s (Some t) h = by (nat_lt t.0 n) h
  where
    by : (b : Bool) → cond b None (Some t) ≡ Some s → Some s ≡ Some t
    by true k = absurd cc
    by false k = sym k
