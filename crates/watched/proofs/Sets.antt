-- Sets of places, place by place.
use Rattle.std.proofs.Common.{◌≡◌, ℕ, ◌+◌, ◌<◌, ◌||◌, Bool, true, false, cond, refl, ap, sym, ◌∙◌, List, drop, length, get_or}
use Rattle.std.specs.BTreeMap.{is_at}
use Rattle.std.specs.BTreeSet.{BTreeSet, contains}
use Rattle.std.specs.List.{list_any}
use Rattle.std.proofs.lemmas.List.{drop_more}
use Rattle.rotor_base.specs.Place.{same_place, place_cmp}
use Rattle.rotor_base.specs.declared.place.Place.{Place}
use Rattle.shape_core.proofs.Declaring.{tests_same}

joined : (a b r : Bool) → (cond a true b || r) ≡ (b || (a || r))
joined true true r = refl
joined true false r = refl
joined false b r = refl

-- with what is left, the set has all that it shall have
abbrev pub Gathers : List Place → ℕ → BTreeSet Place → Type 0
Gathers ds i set = (p : Place) → (contains place_cmp set p || list_any (same_place p) (drop i ds)) ≡ list_any (same_place p) ds

pub gathers_more : (ds : List Place) (i : ℕ) (d : Place) (old new : BTreeSet Place) → i < length ds
    → ((q : Place) → contains place_cmp new q ≡ cond (is_at (place_cmp (get_or ds i d)) q) true (contains place_cmp old q)) → Gathers ds i old
    → Gathers ds (i + 1) new
gathers_more ds i d old new w put h p =
    let x = get_or ds i d in
    let rest = list_any (same_place p) (drop (i + 1) ds) in
    ap (λ b. b || rest) (put p ∙ ap (λ b. cond b true (contains place_cmp old p)) (tests_same p x))
    ∙ (joined (same_place p x) (contains place_cmp old p) rest
    ∙ (sym (ap (λ l. contains place_cmp old p || list_any (same_place p) l) (drop_more ds i d w)) ∙ h p))
