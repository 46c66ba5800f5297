-- The files of places.
use Rattle.std.proofs.Common.{◌≡◌, ℕ, ◌+◌, ◌<◌, ◌==◌, ◌||◌, List, Bool, true, false, cond}
use Rattle.std.proofs.Common.{drop, length, get_or, refl, ap, sym, ◌∙◌, arith}
use Rattle.std.specs.BTreeMap.{is_at}
use Rattle.std.specs.BTreeSet.{BTreeSet, contains}
use Rattle.std.specs.List.{list_any}
use Rattle.std.specs.Ordering.{nat_cmp}
use Rattle.std.proofs.lemmas.List.{drop_more}
use Rattle.rotor_base.specs.declared.place.Place.{Place}

-- ---- the numbers of the files

same_number : (a b : ℕ) → is_at (nat_cmp a) b ≡ (a == b)
same_number a b = grind arith

abbrev pub of_file : ℕ → Place → Bool
of_file n p = p.file == n

abbrev pub Gathers : List Place → ℕ → BTreeSet ℕ → Type 0
Gathers ps i set = (n : ℕ) → (contains nat_cmp set n || list_any (of_file n) (drop i ps)) ≡ list_any (of_file n) ps

joined : (a b r : Bool) → (cond a true b || r) ≡ (b || (a || r))
joined true true r = refl
joined true false r = refl
joined false b r = refl

pub gathers_more : (ps : List Place) (i : ℕ) (d : Place) (old new : BTreeSet ℕ) → i < length ps
    → ((q : ℕ) → contains nat_cmp new q ≡ cond (is_at (nat_cmp (get_or ps i d).file) q) true (contains nat_cmp old q)) → Gathers ps i old
    → Gathers ps (i + 1) new
gathers_more ps i d old new w put h n =
    let x = get_or ps i d in
    let rest = list_any (of_file n) (drop (i + 1) ps) in
    ap (λ b. b || rest) (put n ∙ ap (λ b. cond b true (contains nat_cmp old n)) (same_number x.file n))
    ∙ (joined (x.file == n) (contains nat_cmp old n) rest
    ∙ (sym (ap (λ l. contains nat_cmp old n || list_any (of_file n) l) (drop_more ps i d w)) ∙ h n))
