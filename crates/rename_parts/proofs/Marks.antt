-- The binders of a project, file by file.
use Rattle.std.proofs.Common.{◌≡◌, ◌≢◌, ℕ, zero, suc, ◌<◌, ◌==◌, ◌&&◌, List, [], ◌∷◌, ◌++◌, Bool, true, false, true≢false, cond, Option, Some, None}
use Rattle.std.proofs.Common.{option_map, map, length, get_or, refl, ap, sym, ◌∙◌, arith}
use Rattle.std.specs.List.{filter}
use Rattle.rotor_base.specs.declared.place.Place.{Place}
use Rattle.rotor_base.specs.Place.{same_place}
use Rattle.value_sites.specs.declared.mark.Mark.{Mark}
use Rattle.value_sites.specs.Places.{Site, mark, sites, binder_sites}
use Rattle.value_sites.specs.Sound.{IsSound}
use Rattle.ml_trees.specs.Tree.{FileTree, Body, Face, UnitTree}
use Rattle.shape_core.specs.Shape.{or_else, some_if}
use Rattle.shape_core.specs.Respell.{over}
use Rattle.value_sites.specs.Each.{Each}
use Rattle.binding_model.specs.Scopes.{here}
use Rattle.binding_model.specs.Renaming.{places, placed_sites, file_places, at_place}
use Rattle.binding_model.proofs.Leasts.{place_in}
use Rattle.binding_model.proofs.Sounds.{found_all}
use Rattle.binding_model.proofs.Telltale.{apart_of}
use Rattle.value_places.specs.Binders.{binding}
use Rattle.value_places.specs.Placed.{number_of}
use Rattle.value_places.proofs.Units.{at_append}
use Rattle.rename_model.specs.Target.{first_at}
use Rattle.rename_parts.specs.Binders.{mark_at, IsMarkAt}

-- ---- lists of places

binding_case : (e : Place × Site) (xs ys : List (Place × Site)) (b : Bool) → binding (xs ++ ys) ≡ binding xs ++ binding ys
    → cond b (e ∷ binding (xs ++ ys)) (binding (xs ++ ys)) ≡ cond b (e ∷ binding xs) (binding xs) ++ binding ys
binding_case e xs ys true h = ap (λ l. e ∷ l) h
binding_case e xs ys false h = h

pub binding_append : (xs ys : List (Place × Site)) → binding (xs ++ ys) ≡ binding xs ++ binding ys
binding_append [] ys = refl
binding_append (e ∷ xs) ys = binding_case e xs ys e.1.binds (binding_append xs ys)

over_else : (a b : Option Site) → over mark (or_else a b) ≡ or_else (over mark a) (over mark b)
over_else (Some x) b = refl
over_else None b = refl

pub mark_append : (xs ys : List (Place × Site)) (p : Place) → mark_at (xs ++ ys) p ≡ or_else (mark_at xs p) (mark_at ys p)
mark_append xs ys p = ap (λ l. over mark (at_place l p)) (binding_append xs ys)
    ∙ (ap (over mark) (at_append (binding xs) (binding ys) p) ∙ over_else (at_place (binding xs) p) (at_place (binding ys) p))

-- a unit before others
pub unit_mark : (u : UnitTree) (us : List UnitTree) (p : Place) (a b o : Option Mark) → a ≡ mark_at (file_places u.body) p
    → b ≡ mark_at (file_places u.face) p → mark_at (places (u ∷ us)) p ≡ o
    → or_else a (or_else b (mark_at (places us) p)) ≡ o
unit_mark u us p a b o e f h =
    ap (λ x. or_else x (or_else b (mark_at (places us) p))) e
    ∙ (ap (λ x. or_else (mark_at (file_places u.body) p) (or_else x (mark_at (places us) p))) f
    ∙ (ap (or_else (mark_at (file_places u.body) p)) (sym (mark_append (file_places u.face) (places us) p))
    ∙ (sym (mark_append (file_places u.body) (file_places u.face ++ places us) p) ∙ h)))

-- ---- one file

placed_case : (f : ℕ) (x : Site) (xs ys : List Site) (b : Bool) → binding (placed_sites f xs) ≡ placed_sites f ys
    → cond b ((here f x.at, x) ∷ binding (placed_sites f xs)) (binding (placed_sites f xs)) ≡ placed_sites f (cond b (x ∷ ys) ys)
placed_case f x xs ys true h = ap (λ l. (here f x.at, x) ∷ l) h
placed_case f x xs ys false h = h

binding_placed : (f : ℕ) (xs : List Site) → binding (placed_sites f xs) ≡ placed_sites f (filter (λ x. x.binds) xs)
binding_placed f [] = refl
binding_placed f (x ∷ xs) = placed_case f x xs (filter (λ x. x.binds) xs) x.binds (binding_placed f xs)

pub file_binding : (t : FileTree) → binding (file_places (Some t)) ≡ placed_sites (number_of t) (binder_sites t)
file_binding (Body file is) = binding_placed file (sites (Body file is))
file_binding (Face file is) = binding_placed file (sites (Face file is))

-- no place of another file
other_file : (f n : ℕ) (b : Bool) → (f == n) ≡ b → f ≢ n → b ≡ false
other_file f n true e h = absurd (h (grind arith))
other_file f n false e h = refl

no_mark : (f : ℕ) (p : Place) (xs : List Site) → (f == p.file) ≡ false → over mark (at_place (placed_sites f xs) p) ≡ None
no_mark f p [] e = refl
no_mark f p (x ∷ xs) e = ap (λ b. over mark (or_else (some_if (b && (x.at == p.token)) x) (at_place (placed_sites f xs) p))) e ∙ no_mark f p xs e

pub elsewhere : (t : FileTree) (f : ℕ) (p : Place) → f ≡ number_of t → f ≢ p.file → None ≡ mark_at (file_places (Some t)) p
elsewhere t f p e d =
    sym (ap (λ l. over mark (at_place l p)) (file_binding t)
    ∙ no_mark (number_of t) p (binder_sites t) (ap (λ n. n == p.file) (sym e) ∙ other_file f p.file (f == p.file) refl d))

-- the mark of a token, by its position
abbrev pub picked : List Mark → Option ℕ → Option Mark
picked ms None = None
picked ms (Some i) = Some (get_or ms i (record { token = 0; name = []; pun = false; operator = false }))

moved_on : (m : Mark) (ms : List Mark) (o : Option ℕ) → picked (m ∷ ms) (option_map suc o) ≡ picked ms o
moved_on m ms None = refl
moved_on m ms (Some i) = refl

same_file : (f n : ℕ) → f ≡ n → (f == n) ≡ true
same_file f n e = grind arith

picked_case : (f : ℕ) (p : Place) (x : Site) (xs : List Site) (b : Bool) → over mark (at_place (placed_sites f xs) p) ≡ picked (map mark xs)
    (first_at (λ m. m.token == p.token) (map mark xs))
    → over mark (or_else (some_if b x) (at_place (placed_sites f xs) p)) ≡ picked (mark x ∷ map mark xs)
    (cond b (Some 0) (option_map suc (first_at (λ m. m.token == p.token) (map mark xs))))
picked_case f p x xs true h = refl
picked_case f p x xs false h = h ∙ sym (moved_on (mark x) (map mark xs) (first_at (λ m. m.token == p.token) (map mark xs)))

mark_picked : (f : ℕ) (p : Place) (xs : List Site) → (f == p.file) ≡ true → over mark (at_place (placed_sites f xs) p) ≡ picked (map mark xs)
    (first_at (λ m. m.token == p.token) (map mark xs))
mark_picked f p [] e = refl
mark_picked f p (x ∷ xs) e =
    ap (λ b. over mark (or_else (some_if (b && (x.at == p.token)) x) (at_place (placed_sites f xs) p))) e
    ∙ picked_case f p x xs (x.at == p.token) (mark_picked f p xs e)

pub found_mark : (t : FileTree) (f : ℕ) (p : Place) (marks : List Mark) → f ≡ number_of t → f ≡ p.file → marks ≡ map mark (binder_sites t)
    → mark_at (file_places (Some t)) p ≡ picked marks (first_at (λ m. m.token == p.token) marks)
found_mark t f p marks e g m =
    ap (λ l. over mark (at_place l p)) (file_binding t)
    ∙ (mark_picked (number_of t) p (binder_sites t) (same_file (number_of t) p.file (sym e ∙ g))
    ∙ ap (λ ms. picked ms (first_at (λ x. x.token == p.token) ms)) (sym m))

-- ---- in a sound project

found_case : (e : Place × Site) (p : Place) (x : Site) (rest : List (Place × Site)) (b c : Bool) → e.1.binds ≡ c
    → or_else (some_if b e.1) (at_place rest p) ≡ Some x → x.binds ≡ true
    → (at_place rest p ≡ Some x → at_place (binding rest) p ≡ Some x) → same_place e.0 p ≡ b
    → at_place (cond c (e ∷ binding rest) (binding rest)) p ≡ Some x
found_case e p x rest true true k h w f s = ap (λ b. or_else (some_if b e.1) (at_place (binding rest) p)) s ∙ h
found_case e p x rest true false k h w f s = let z : e.1 ≡ x = cc in absurd (true≢false (sym w ∙ (ap (λ (y : Site). y.binds) (sym z) ∙ k)))
found_case e p x rest false true k h w f s = ap (λ b. or_else (some_if b e.1) (at_place (binding rest) p)) s ∙ f h
found_case e p x rest false false k h w f s = f h

found_binding : (L : List (Place × Site)) (p : Place) (x : Site) → at_place L p ≡ Some x → x.binds ≡ true → at_place (binding L) p ≡ Some x
found_binding [] p x h w = h
found_binding (e ∷ L) p x h w = found_case e p x L (same_place e.0 p) e.1.binds refl h w (λ k. found_binding L p x k w) refl

binding_of : (P : Place × Site → Type 0) (e : Place × Site) (ps : List (Place × Site)) (b : Bool) → e.1.binds ≡ b → P e
    → Each (λ z. P z × (z.1.binds ≡ true)) ps
    → Each (λ z. P z × (z.1.binds ≡ true)) (cond b (e ∷ ps) ps)
binding_of P e ps true k h r = ((h, k), r)
binding_of P e ps false k h r = r

each_binding : (P : Place × Site → Type 0) (L : List (Place × Site)) → Each P L → Each (λ e. P e × (e.1.binds ≡ true)) (binding L)
each_binding P [] h = tt
each_binding P (e ∷ L) h = binding_of P e (binding L) e.1.binds refl h.0 (each_binding P L h.1)

some_mark : (o : Option Site) (m : Mark) → Some m ≡ over mark o → (x : Site) × (o ≡ Some x) × (m ≡ mark x)
some_mark None m e = absurd cc
some_mark (Some x) m e = (x, refl, cc)

none_mark : (o : Option Site) → None ≡ over mark o → o ≡ None
none_mark None e = refl
none_mark (Some x) e = absurd cc

pub mark_is : (us : List UnitTree) → IsSound us → (p : Place) (o : Option Mark) → o ≡ mark_at (places us) p → IsMarkAt us p o
mark_is us s p None e = λ b.
    let none = none_mark (at_place (binding (places us)) p) e in
    let some = found_binding (places us) p b.0 b.1 b.2 in
    let wrong : None ≡ Some b.0 = sym none ∙ some in
    absurd cc
mark_is us s p (Some m) e =
    let x = some_mark (at_place (binding (places us)) p) m e in
    let L = places us in
    let k = place_in (λ z. (at_place L z.0 ≡ Some z.1) × (z.1.binds ≡ true)) (binding L) p x.0
    (each_binding (λ z. at_place L z.0 ≡ Some z.1) L (found_all L (apart_of us s))) x.1 in
    (x.0, k.0, k.1, x.2)

-- the item at a position does not depend on a default
pub whatever_default : {A : Type 0} (xs : List A) (i : ℕ) (d e : A) → i < length xs → get_or xs i d ≡ get_or xs i e
whatever_default [] i d e w = absurd (omega arith)
whatever_default (x ∷ xs) zero d e w = refl
whatever_default (x ∷ xs) (suc i) d e w = whatever_default xs i d e (omega arith)
