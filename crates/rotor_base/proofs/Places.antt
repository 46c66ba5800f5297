-- The order of places.
use Rattle.std.proofs.Common.{◌≡◌, ℕ, true, refl, ap, sym, ◌∙◌, subst, inl, inr, List, get_or, Contains, AllPairs}
use Rattle.std.specs.Cmp.{IsTotalOrder, eq_by_cmp_equiv}
use Rattle.std.specs.List.{list_any}
use Rattle.std.proofs.lemmas.Map.Views.{Contains-from_any, list_any-from_Contains}
use Rattle.std.specs.Ordering.{nat_cmp, ordering_then, is_eq, MatchOrdering, eq_by_cmp}
use Rattle.std.specs.declared.cmp.Ordering.{Ordering}
use Rattle.std.specs.declared.cmp.Ordering.TheVariants.{Less, Equal, Greater}
use Rattle.std.proofs.lemmas.Cmp.{nat_cmp_total, on_total, then_total, ranked}
use Rattle.std.proofs.lemmas.Map.Keys.{Less-from_sorted}
use Rattle.std.specs.List.Sorted.{IsStrictlySortedBy}
use Rattle.std.specs.BTreeMap.{is_at}
use Rattle.rotor_base.specs.declared.place.Place.{Place}
use Rattle.rotor_base.specs.Place.{IsBefore, place_cmp}

pub place_total : IsTotalOrder place_cmp
place_total = then_total (on_total (λ (p : Place). p.file) nat_cmp_total) (on_total (λ (p : Place). p.token) nat_cmp_total)

-- what the two comparisons of a place's parts say
compared : (p q : Place) (r s : Ordering) → r ≡ nat_cmp p.file q.file → s ≡ nat_cmp p.token q.token
    → MatchOrdering (ordering_then r s) (IsBefore p q) (p ≡ q) (IsBefore q p)
compared p q Less s e f = inl (ranked p.file q.file Less e)
compared p q Greater s e f = inl (ranked p.file q.file Greater e)
compared p q Equal Less e f = inr (ranked p.file q.file Equal e, ranked p.token q.token Less f)
compared p q Equal Greater e f = inr (sym (ranked p.file q.file Equal e), ranked p.token q.token Greater f)
compared p q Equal Equal e f =
    let files : p.file ≡ q.file = ranked p.file q.file Equal e in
    let tokens : p.token ≡ q.token = ranked p.token q.token Equal f in
    let place : ℕ → ℕ → Place = λ file token. record { file = file; token = token } in
    ap (λ (file : ℕ). place file p.token) files ∙ ap (λ (token : ℕ). place q.file token) tokens

pub place_ranked : (p q : Place) → MatchOrdering (place_cmp p q) (IsBefore p q) (p ≡ q) (IsBefore q p)
place_ranked p q = compared p q (nat_cmp p.file q.file) (nat_cmp p.token q.token) refl refl

-- places that compare as equal are equal
pub place_exact : (p q : Place) → place_cmp p q ≡ Equal → p ≡ q
place_exact p q e = let P : Ordering → Type 0 = λ o. MatchOrdering o (IsBefore p q) (p ≡ q) (IsBefore q p) in subst P e (place_ranked p q)

pub place_before : (p q : Place) → place_cmp p q ≡ Less → IsBefore p q
place_before p q e = let P : Ordering → Type 0 = λ o. MatchOrdering o (IsBefore p q) (p ≡ q) (IsBefore q p) in subst P e (place_ranked p q)

equal_of : (o : Ordering) → is_eq o ≡ true → o ≡ Equal
equal_of Less e = cc
equal_of Equal e = refl
equal_of Greater e = cc

-- a place that a test for another finds is that other
pub place_found : (p q : Place) → is_at (place_cmp p) q ≡ true → p ≡ q
place_found p q e = place_exact p q (equal_of (place_cmp p q) e)

-- a list that is in order has each place before the later ones
pub all_before : (ps : List Place) → IsStrictlySortedBy place_cmp ps → AllPairs IsBefore ps
all_before ps h i j d ij jn = place_before (get_or ps i d) (get_or ps j d) (Less-from_sorted place_cmp ps i j d h ij jn)

-- a set has a place exactly if its list of places has it
pub listed : (ps : List Place) (p : Place) → list_any (is_at (place_cmp p)) ps ≡ true → Contains ps p
listed ps p h = Contains-from_any {eq = eq_by_cmp place_cmp} place_found p ps h

pub found_listed : (ps : List Place) (p : Place) → Contains ps p → list_any (is_at (place_cmp p)) ps ≡ true
found_listed ps p h = list_any-from_Contains {eq = eq_by_cmp place_cmp} (eq_by_cmp_equiv place_total) p ps h
