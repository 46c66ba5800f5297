-- The sites of files, one file after another.
use Rattle.std.proofs.Common.{◌≡◌, ◌≢◌, ◌==◌, ◌<◌, ◌&&◌, ℕ, zero, suc, List, [], ◌∷◌, ◌++◌, Bool, true, false, cond, Option, Some, None}
use Rattle.std.proofs.Common.{refl, ap, sym, subst, ◌∙◌, filter, get_or, length, map, arith}
use Rattle.std.proofs.lemmas.Bool.{eqb-true}
use Rattle.rotor_base.specs.declared.place.Place.{Place}
use Rattle.ml_syntax.specs.declared.sites.Site.{Site}
use Rattle.value_sites.specs.Each.{Each}
use Rattle.value_sites.specs.Places as pure
use Rattle.value_sites.specs.Places.{sites}
use Rattle.ml_syntax.specs.Sites.{view_site, view_sites}
use Rattle.value_sites.specs.Sound.{IsSoundFile, IsBodyPart, IsFacePart, part_files}
use Rattle.ml_syntax.specs.Standing.{RiseFrom}
use Rattle.ml_syntax.proofs.Numbers.{sites_are_ordered}
use Rattle.ml_trees.specs.Tree.{FileTree, Body, Face}
use Rattle.shape_core.specs.Shape.{or_else, some_if}
use Rattle.binding_model.specs.Scopes.{here}
use Rattle.binding_model.specs.Renaming.{placed_sites, file_places, at_place}
use Rattle.binding_model.proofs.Sounds.{Distinct, each_map, not_equal}
use Rattle.value_places.specs.Binders.{binder_places, binding}
use Rattle.value_places.specs.Placed.{Files, Adds, Rises, at_token, number_of, site_in}

pub or_none : {A : Type 0} (o : Option A) → or_else o None ≡ o
or_none (Some x) = refl
or_none None = refl

-- ---- what is at a place of a file

absent : (file : ℕ) (xs : List pure.Site) (p : Place) → (file == p.file) ≡ false → at_place (placed_sites file xs) p ≡ None
absent file [] p e = refl
absent file (x ∷ xs) p e =
    ap (λ b. or_else (some_if (b && (x.at == p.token)) x) (at_place (placed_sites file xs) p)) e ∙ absent file xs p e

present : (file : ℕ) (xs : List Site) (p : Place) → (file == p.file) ≡ true → at_place (placed_sites file (view_sites xs)) p ≡ at_token xs p.token
present file [] p e = refl
present file (x ∷ xs) p e =
    ap (λ b. or_else (some_if (b && (x.token == p.token)) (view_site x)) (at_place (placed_sites file (view_sites xs)) p)) e
    ∙ ap (or_else (some_if (x.token == p.token) (view_site x))) (present file xs p e)

-- the sites of a file are at its number, and the others stay
abbrev pub Puts : ℕ → List Site → Files → Files → Type 0
Puts file xs old new = (n : ℕ) → get_or new n [] ≡ cond (file == n) xs (get_or old n [])

abbrev pub IsEmpty : Files → ℕ → Type 0
IsEmpty files n = get_or files n [] ≡ []

file_found : (file : ℕ) (xs : List Site) (ss : List pure.Site) (old new : Files) (p : Place) (b : Bool) → (file == p.file) ≡ b
    → view_sites xs ≡ ss → Puts file xs old new → IsEmpty old file
    → site_in new p ≡ or_else (site_in old p) (at_place (placed_sites file ss) p)
file_found file xs ss old new p true e v h z =
    let now : get_or new p.file [] ≡ xs = h p.file ∙ ap (λ b. cond b xs (get_or old p.file [])) e in
    let before : get_or old p.file [] ≡ [] = subst (IsEmpty old) (eqb-true file p.file e) z in
    ap (λ l. at_token l p.token) now
    ∙ (sym (present file xs p e)
    ∙ (ap (λ l. at_place (placed_sites file l) p) v
    ∙ sym (ap (λ l. or_else (at_token l p.token) (at_place (placed_sites file ss) p)) before)))
file_found file xs ss old new p false e v h z =
    let now : get_or new p.file [] ≡ get_or old p.file [] = h p.file ∙ ap (λ b. cond b xs (get_or old p.file [])) e in
    ap (λ l. at_token l p.token) now ∙ sym (ap (or_else (site_in old p)) (absent file ss p e) ∙ or_none (site_in old p))

pub part_found : (part : Option FileTree) (old new : Files) (p : Place) → Adds old part new → Each (IsEmpty old) (part_files part)
    → site_in new p ≡ or_else (site_in old p) (at_place (file_places part) p)
part_found None old new p h z = ap (λ l. at_token l p.token) (h p.file) ∙ sym (or_none (site_in old p))
part_found (Some (Body file is)) old new p h z = file_found file h.0 (sites (Body file is)) old new p (file == p.file) refl h.1 h.2 z.0
part_found (Some (Face file is)) old new p h z = file_found file h.0 (sites (Face file is)) old new p (file == p.file) refl h.1 h.2 z.0

-- ---- the files that follow have no sites yet

file_empty : (file : ℕ) (xs : List Site) (old new : Files) (rest : List ℕ) → Puts file xs old new → Each (λ n. file ≢ n) rest
    → Each (IsEmpty old) rest → Each (IsEmpty new) rest
file_empty file xs old new [] h d z = tt
file_empty file xs old new (n ∷ rest) h d z =
    (h n ∙ (ap (λ b. cond b xs (get_or old n [])) (not_equal file n (file == n) refl d.0) ∙ z.0), file_empty file xs old new rest h d.1 z.1)

pub part_empty : (part : Option FileTree) (old new : Files) (rest : List ℕ) → Adds old part new → Distinct (part_files part ++ rest)
    → Each (IsEmpty old) rest → Each (IsEmpty new) rest
part_empty None old new rest h d z = each_map (IsEmpty old) (IsEmpty new) rest (λ n e. h n ∙ e) z
part_empty (Some (Body file is)) old new rest h d z = file_empty file h.0 old new rest h.2 d.0 z
part_empty (Some (Face file is)) old new rest h d z = file_empty file h.0 old new rest h.2 d.0 z

pub part_distinct : (part : Option FileTree) (rest : List ℕ) → Distinct (part_files part ++ rest) → Distinct rest
part_distinct None rest d = d
part_distinct (Some (Body file is)) rest d = d.1
part_distinct (Some (Face file is)) rest d = d.1

-- ---- tokens rise

above : (low : ℕ) (xs : List Site) → RiseFrom low (view_sites xs) → (j : ℕ) (d : Site) → j < length xs → low < (get_or xs j d).token
above low [] h j d w = absurd (omega (arith, w))
above low (x ∷ xs) h zero d w = h.0
above low (x ∷ xs) h (suc j) d w = let more = above x.token xs h.1 j d (omega (arith, w)) in omega (arith, h.0, more)

rises : (low : ℕ) (xs : List Site) → RiseFrom low (view_sites xs) → Rises xs
rises low [] h i j d l w = absurd (omega (arith, w))
rises low (x ∷ xs) h i zero d l w = absurd (omega (arith, l))
rises low (x ∷ xs) h zero (suc j) d l w = above x.token xs h.1 j d (omega (arith, w))
rises low (x ∷ xs) h (suc i) (suc j) d l w = rises x.token xs h.1 i j d (omega (arith, l)) (omega (arith, w))

abbrev pub IsSoundPart : Option FileTree → Type 0
IsSoundPart None = Unit {0}
IsSoundPart (Some t) = IsSoundFile t

pub body_sound : (part : Option FileTree) → IsBodyPart part → IsSoundPart part
body_sound None h = tt
body_sound (Some (Body file is)) h = h
body_sound (Some (Face file is)) h = absurd h

pub face_sound : (part : Option FileTree) → IsFacePart part → IsSoundPart part
face_sound None h = tt
face_sound (Some (Body file is)) h = absurd h
face_sound (Some (Face file is)) h = h

put_rise : (file : ℕ) (xs : List Site) (old new : Files) → Puts file xs old new → Rises xs → ((n : ℕ) → Rises (get_or old n []))
    → (n : ℕ) → Rises (get_or new n [])
put_rise file xs old new h r o n = subst Rises (sym (h n)) (by (file == n)) where
  by : (b : Bool) → Rises (cond b xs (get_or old n []))
  by true = r
  by false = o n

file_rises : (t : FileTree) (xs : List Site) → IsSoundFile t → view_sites xs ≡ sites t → Rises xs
file_rises t xs s v = rises 0 xs (subst (RiseFrom 0) (sym v) (sites_are_ordered t s.0 s.1))

pub part_rise : (part : Option FileTree) (old new : Files) → Adds old part new → IsSoundPart part → ((n : ℕ) → Rises (get_or old n []))
    → (n : ℕ) → Rises (get_or new n [])
part_rise None old new h s r n = subst Rises (sym (h n)) (r n)
part_rise (Some (Body file is)) old new h s r n = put_rise file h.0 old new h.2 (file_rises (Body file is) h.0 s h.1) r n
part_rise (Some (Face file is)) old new h s r n = put_rise file h.0 old new h.2 (file_rises (Face file is) h.0 s h.1) r n

-- ---- binders

binders_case : (file : ℕ) (x : Site) (xs : List Site) (ps : List (Place × pure.Site)) (b : Bool)
    → map (λ (y : Site). here file y.token) xs ≡ map (λ (e : Place × pure.Site). e.0) ps
    → map (λ (y : Site). here file y.token) (cond b (x ∷ xs) xs) ≡ map (λ (e : Place × pure.Site). e.0)
    (cond b ((here file x.token, view_site x) ∷ ps) ps)
binders_case file x xs ps true h = ap (λ l. here file x.token ∷ l) h
binders_case file x xs ps false h = h

placed_binders : (file : ℕ) (xs : List Site) → map (λ (y : Site). here file y.token) (filter (λ (y : Site). y.binds) xs) ≡ binder_places
    (placed_sites file (view_sites xs))
placed_binders file [] = refl
placed_binders file (x ∷ xs) =
    binders_case file x (filter (λ (y : Site). y.binds) xs) (binding (placed_sites file (view_sites xs))) x.binds (placed_binders file xs)

pub file_binders : (t : FileTree) (file : ℕ) (xs : List Site) → file ≡ number_of t → view_sites xs ≡ sites t
    → map (λ (y : Site). here file y.token) (filter (λ (y : Site). y.binds) xs) ≡ binder_places (file_places (Some t))
file_binders (Body n is) file xs e v =
    placed_binders file xs ∙ (ap (λ l. binder_places (placed_sites file l)) v ∙ ap (λ m. binder_places (placed_sites m (sites (Body n is)))) e)
file_binders (Face n is) file xs e v =
    placed_binders file xs ∙ (ap (λ l. binder_places (placed_sites file l)) v ∙ ap (λ m. binder_places (placed_sites m (sites (Face n is)))) e)
