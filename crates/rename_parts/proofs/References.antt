-- The references to members, with one reference more or not.
use Rattle.std.proofs.Common.{◌≡◌, ℕ, ◌+◌, ◌<◌, List, [], ◌∷◌, ◌++◌, Bool, true, false, cond, map, take, length, get_or, refl, ap, sym, ◌∙◌}
use Rattle.std.proofs.Common.{append_assoc, length-append}
use Rattle.std.proofs.lemmas.List.{append-nil, map-append, take_more}
use Rattle.std.proofs.lemmas.List.Elements.{filter-append}
use Rattle.rotor_base.specs.declared.place.Place.{Place}
use Rattle.rotor_base.specs.declared.place.Goal.{Goal}
use Rattle.rotor_base.specs.declared.place.Goal.TheVariants.{Decl, Outside, Missing, Hidden, Blur}
use Rattle.rotor_base.specs.declared.place.Ref.{Ref}
use Rattle.rotor_base.specs.declared.place.Foot.{Foot}
use Rattle.shape_core.specs.Places.{is_among}
use Rattle.rename_model.specs.Foot.{leads_in, refs_to}

leads : (foot : Foot) (g : Goal) → leads_in foot g ≡ is_among foot.decls g
leads foot (Decl d) = refl
leads foot Outside = refl
leads foot Missing = refl
leads foot Hidden = refl
leads foot (Blur by n behind) = refl

refs_next : (foot : Foot) (rs : List Ref) (i : ℕ) (d : Ref) (b : Bool) → i < length rs → is_among foot.decls (get_or rs i d).goal ≡ b
    → refs_to foot (take (i + 1) rs) ≡ refs_to foot (take i rs) ++ cond b (get_or rs i d ∷ []) []
refs_next foot rs i d b w t =
    ap (refs_to foot) (take_more rs i d w)
    ∙ filter-append (λ r. leads_in foot r.goal) (take i rs) (get_or rs i d ∷ [])
    ∙ ap (λ c. refs_to foot (take i rs) ++ cond c (get_or rs i d ∷ []) []) (leads foot (get_or rs i d).goal ∙ t)

refs_same : (foot : Foot) (rs : List Ref) (i : ℕ) (d : Ref) → i < length rs → is_among foot.decls (get_or rs i d).goal ≡ false
    → refs_to foot (take (i + 1) rs) ≡ refs_to foot (take i rs)
refs_same foot rs i d w t = refs_next foot rs i d false w t ∙ append-nil (refs_to foot (take i rs))

-- the places of the members and of the references to them
abbrev pub places_to : Foot → List Ref → List Place
places_to foot rs = foot.decls ++ map (λ r. r.at) (refs_to foot rs)

pub place_more : (foot : Foot) (rs : List Ref) (i : ℕ) (d : Ref) (old new : List Place) → i < length rs
    → is_among foot.decls (get_or rs i d).goal ≡ true → old ≡ places_to foot (take i rs) → new ≡ old ++ (get_or rs i d).at ∷ []
    → new ≡ places_to foot (take (i + 1) rs)
place_more foot rs i d old new w t h k =
    k ∙ ap (λ l. l ++ (get_or rs i d).at ∷ []) h
    ∙ append_assoc foot.decls (map (λ r. r.at) (refs_to foot (take i rs))) ((get_or rs i d).at ∷ [])
    ∙ ap (λ l. foot.decls ++ l)
    (sym (ap (map (λ r. r.at)) (refs_next foot rs i d true w t) ∙ map-append (λ r. r.at) (refs_to foot (take i rs)) (get_or rs i d ∷ [])))

pub place_same : (foot : Foot) (rs : List Ref) (i : ℕ) (d : Ref) → i < length rs → is_among foot.decls (get_or rs i d).goal ≡ false
    → places_to foot (take i rs) ≡ places_to foot (take (i + 1) rs)
place_same foot rs i d w t = ap (λ l. foot.decls ++ map (λ r. r.at) l) (sym (refs_same foot rs i d w t))

-- the number of the references
pub count_more : (foot : Foot) (rs : List Ref) (i : ℕ) (d : Ref) → i < length rs → is_among foot.decls (get_or rs i d).goal ≡ true
    → length (refs_to foot (take i rs)) + 1 ≡ length (refs_to foot (take (i + 1) rs))
count_more foot rs i d w t =
    sym (ap (λ (l : List Ref). length l) (refs_next foot rs i d true w t) ∙ length-append (refs_to foot (take i rs)) (get_or rs i d ∷ []))

pub count_same : (foot : Foot) (rs : List Ref) (i : ℕ) (d : Ref) → i < length rs → is_among foot.decls (get_or rs i d).goal ≡ false
    → length (refs_to foot (take i rs)) ≡ length (refs_to foot (take (i + 1) rs))
count_same foot rs i d w t = ap (λ (l : List Ref). length l) (sym (refs_same foot rs i d w t))
