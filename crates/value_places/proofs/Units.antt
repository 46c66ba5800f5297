-- The places of a project, unit by unit.
use Rattle.std.proofs.Common.{◌≡◌, ℕ, List, [], ◌∷◌, ◌++◌, Bool, true, false, cond, Option, Some, None, map, get_or}
use Rattle.std.proofs.Common.{refl, ap, sym, ◌∙◌, append_assoc, arith}
use Rattle.std.proofs.lemmas.List.{append-nil}
use Rattle.rotor_base.specs.declared.place.Place.{Place}
use Rattle.rotor_base.specs.Place.{same_place}
use Rattle.value_sites.specs.Each.{Each}
use Rattle.value_sites.specs.Places.{Site}
use Rattle.value_sites.specs.Sound.{IsSound, IsSoundUnit, part_files, unit_files}
use Rattle.ml_trees.specs.Tree.{UnitTree}
use Rattle.shape_core.specs.Shape.{or_else, some_if}
use Rattle.binding_model.specs.Renaming.{places, file_places, at_place}
use Rattle.binding_model.proofs.Projects.{each_front, each_back}
use Rattle.binding_model.proofs.Sounds.{Distinct, distinct_of, each_all, each_of_all}
use Rattle.value_places.specs.Binders.{binder_places, binding}
use Rattle.value_places.specs.Placed.{Files, Adds, ArePlacesOf, Rises, site_in}
use Rattle.value_places.proofs.FileSites.{IsEmpty, or_none, part_found, part_empty, part_distinct, part_rise, body_sound, face_sound}

-- ---- lists of places

else_assoc : {V : Type 0} (a b c : Option V) → or_else (or_else a b) c ≡ or_else a (or_else b c)
else_assoc (Some v) b c = refl
else_assoc None b c = refl

pub at_append : (xs ys : List (Place × Site)) (p : Place) → at_place (xs ++ ys) p ≡ or_else (at_place xs p) (at_place ys p)
at_append [] ys p = refl
at_append (e ∷ xs) ys p = ap (or_else (some_if (same_place e.0 p) e.1)) (at_append xs ys p)
    ∙ sym (else_assoc (some_if (same_place e.0 p) e.1) (at_place xs p) (at_place ys p))

binders_case : (e : Place × Site) (l xs : List (Place × Site)) (ys : List Place) (b : Bool) → map (λ (z : Place × Site). z.0) l ≡ map
    (λ (z : Place × Site). z.0) xs ++ ys
    → map (λ (z : Place × Site). z.0) (cond b (e ∷ l) l) ≡ map (λ (z : Place × Site). z.0) (cond b (e ∷ xs) xs) ++ ys
binders_case e l xs ys true h = ap (λ k. e.0 ∷ k) h
binders_case e l xs ys false h = h

pub binders_append : (xs ys : List (Place × Site)) → binder_places (xs ++ ys) ≡ binder_places xs ++ binder_places ys
binders_append [] ys = refl
binders_append (e ∷ xs) ys = binders_case e (binding (xs ++ ys)) (binding xs) (binder_places ys) e.1.binds (binders_append xs ys)

-- ---- the units that are left

-- with the units that are left, the files and binders are those of all units
pub record Leaves (us rest : List UnitTree) (files : Files) (binders : List Place) : Type 0 where
  pub found : (p : Place) → or_else (site_in files p) (at_place (places rest) p) ≡ at_place (places us) p
  pub empty : Each (IsEmpty files) (unit_files rest)
  pub rise : (n : ℕ) → Rises (get_or files n [])
  pub spots : binders ++ binder_places (places rest) ≡ binder_places (places us)
  pub sound : Each IsSoundUnit rest
  pub apart : Distinct (unit_files rest)

pub leaves_all : (us : List UnitTree) → IsSound us → Leaves us us [] []
leaves_all us s = record {
  found = λ p. refl;
  empty = each_all (IsEmpty []) (unit_files us) (λ n. refl);
  rise = λ n i j d l w. absurd (omega (arith, w));
  spots = refl;
  sound = each_of_all IsSoundUnit us s.0;
  apart = distinct_of (unit_files us) s.1;
}

pub leaves_none : (us : List UnitTree) (files : Files) (binders : List Place) → Leaves us [] files binders
    → ArePlacesOf (places us) files × (binders ≡ binder_places (places us))
leaves_none us files binders h =
    (record { found = λ p. sym (or_none (site_in files p)) ∙ h.found p; rise = h.rise }, sym (append-nil binders) ∙ h.spots)

four : {V : Type 0} (o b f r m n : Option V) → m ≡ or_else o b → n ≡ or_else m f → or_else n r ≡ or_else o (or_else b (or_else f r))
four o b f r m n e g =
    ap (λ x. or_else x r) (g ∙ ap (λ x. or_else x f) e)
    ∙ (else_assoc (or_else o b) f r ∙ else_assoc o b (or_else f r))

pub leaves_more : (us : List UnitTree) (u : UnitTree) (rest : List UnitTree) (old mid new : Files) (b0 b1 b2 : List Place) → Adds old u.body mid
    → Adds mid u.face new → b1 ≡ b0 ++ binder_places (file_places u.body) → b2 ≡ b1 ++ binder_places (file_places u.face)
    → Leaves us (u ∷ rest) old b0 → Leaves us rest new b2
leaves_more us u rest old mid new b0 b1 b2 body face e g h =
    let B = file_places u.body in
    let F = file_places u.face in
    let R = places rest in
    let behind = part_files u.face ++ unit_files rest in
    let s : IsSoundUnit u = h.sound.0 in
    let empty0 : Each (IsEmpty old) (part_files u.body) = each_front (IsEmpty old) (part_files u.body) behind h.empty in
    let empty1 : Each (IsEmpty mid) behind =
    part_empty u.body old mid behind body h.apart (each_back (IsEmpty old) (part_files u.body) behind h.empty) in
    let apart1 : Distinct behind = part_distinct u.body behind h.apart in
    record {
      found = λ p.
          four (site_in old p) (at_place B p) (at_place F p) (at_place R p) (site_in mid p) (site_in new p) (part_found u.body old mid p body empty0)
          (part_found u.face mid new p face (each_front (IsEmpty mid) (part_files u.face) (unit_files rest) empty1))
          ∙ (sym (ap (or_else (site_in old p)) (at_append B (F ++ R) p ∙ ap (or_else (at_place B p)) (at_append F R p))) ∙ h.found p);
      empty = part_empty u.face mid new (unit_files rest) face apart1 (each_back (IsEmpty mid) (part_files u.face) (unit_files rest) empty1);
      rise = part_rise u.face mid new face (face_sound u.face s.1) (part_rise u.body old mid body (body_sound u.body s.0) h.rise);
      spots =
          ap (λ l. l ++ binder_places R) (g ∙ ap (λ l. l ++ binder_places F) e)
          ∙ (append_assoc (b0 ++ binder_places B) (binder_places F) (binder_places R)
          ∙ (append_assoc b0 (binder_places B) (binder_places F ++ binder_places R)
          ∙ (sym (ap (λ l. b0 ++ l) (binders_append B (F ++ R) ∙ ap (λ l. binder_places B ++ l) (binders_append F R))) ∙ h.spots)));
      sound = h.sound.1;
      apart = part_distinct u.face (unit_files rest) apart1;
    }
