-- A word that a renaming changes is that of a place in its file.
use Rattle.std.proofs.Common.{◌≡◌, ℕ, suc, ◌⊎◌, inl, inr, List, [], ◌∷◌, ◌++◌, All, Option, Some, None, get_or, false, refl, ap, sym, subst, ◌∙◌}
use Rattle.std.proofs.Common.{arith}
use Rattle.std.specs.Prelude.{Contains, IsTrue, slice_get}
use Rattle.std.proofs.lemmas.List.{get_or_default}
use Rattle.rotor_base.specs.Files.{FileSet, IsProject}
use Rattle.rotor_base.specs.Name.{is_value_name}
use Rattle.rotor_base.specs.declared.place.Place.{Place}
use Rattle.rotor_base.specs.declared.source.SourceFile.{SourceFile}
use Rattle.value_sites.specs.Places.{Site, sites}
use Rattle.ml_syntax.specs.RespelledFile.{ChangesNames}
use Rattle.ml_trees.specs.Tree.{FileTree, Body, Face, UnitTree}
use Rattle.parse_module.specs.declared.files.FileKind.{FileKind}
use Rattle.parse_module.specs.declared.files.FileKind.TheVariants as kind
use Rattle.parse_module.specs.Whole.{IsOfFile}
use Rattle.shape_core.specs.Shape.{Name}
use Rattle.shape_core.specs.Respell.{Words}
use Rattle.value_sites.specs.Each.{Each}
use Rattle.binding_model.specs.Renaming.{placed_sites, file_places, places, at_place, in_file}
use Rattle.binding_model.specs.Scopes.{here}
use Rattle.binding_model.proofs.Leasts.{place_in}
use Rattle.binding_model.proofs.Sounds.{each_map, each_joined}
use Rattle.project_reading.specs.Reads.{Reads}
use Rattle.project_reading.specs.Respelled.{ChangesNamesIn}
use Rattle.project_reading.specs.Source.{kind_of_source, ReadsAs}
use Rattle.project_reading.proofs.OneReading.{one_tree}
use Rattle.project_reading.proofs.Twins.{parts_are_trees}

-- a word is kept, or becomes a value name, and its place is one of the project and no operator
abbrev pub ChangesPlaces : List UnitTree → Words → Type 0
ChangesPlaces us w =
    (p : Place) (x : Name) → (w p x ≡ x) ⊎ (IsTrue (is_value_name (w p x)) × (s : Site) × (at_place (places us) p ≡ Some s) × (s.operator ≡ false))

-- ---- the file of a tree

abbrev pub number_of : FileTree → ℕ
number_of (Body f is) = f
number_of (Face f is) = f

pub number_is : (k : FileKind) (n : ℕ) (t : FileTree) → IsOfFile k n t → number_of t ≡ n
number_is kind.Body n (Body f is) h = h
number_is kind.Face n (Face f is) h = h
number_is kind.Body n (Face f is) h = absurd h
number_is kind.Face n (Body f is) h = absurd h

some_same : (a b : SourceFile) → Some a ≡ Some b → a ≡ b
some_same a b e = cc

-- a tree is a part of a unit of the project
abbrev pub IsIn : List UnitTree → FileTree → Type 0
IsIn us t = (u : UnitTree) × Contains us u × ((u.body ≡ Some t) ⊎ (u.face ≡ Some t))

module _ (fs : FileSet) (us : List UnitTree) (project : IsProject fs) (reads : Reads fs us) where
  -- trees of one number are one
  same_tree : (t v : FileTree) → IsIn us t → IsIn us v → number_of t ≡ number_of v → v ≡ t
  same_tree t v h k e =
      let a = parts_are_trees fs us project reads h.0 t h.1 h.2 in
      let b = parts_are_trees fs us project reads k.0 v k.1 k.2 in
      let same : a.0 ≡ b.0 =
      sym (number_is (kind_of_source a.1.name) a.0 t a.3.parsed.of_file) ∙ e ∙ number_is (kind_of_source b.1.name) b.0 v b.3.parsed.of_file
      in
      let source : a.1 ≡ b.1 = some_same a.1 b.1 (sym a.2 ∙ ap (slice_get fs.entries) same ∙ b.2) in
      one_tree b.0 b.1 t v (subst (λ s. ReadsAs b.0 s t) source (subst (λ n. ReadsAs n a.1 t) same a.3)) b.3

  -- ---- the places of a tree

  placed : (f : ℕ) (whole xs : List Site) → ((x : Site) → Contains xs x → Contains whole x)
      → Each (λ e. (e.0.file ≡ f) × Contains whole e.1 × (e.1.at ≡ e.0.token)) (placed_sites f xs)
  placed f whole [] inc = tt
  placed f whole (x ∷ xs) inc = ((refl, inc x (0, omega arith, refl), refl), placed f whole xs (λ y c. inc y (suc c.0, omega (arith, c.1), c.2)))

  module _ (t : FileTree) (is_in : IsIn us t) where
    -- a place in this tree's file is one of this tree
    abbrev Own : Place × Site → Type 0
    Own e = e.0.file ≡ number_of t → Contains (sites t) e.1 × (e.1.at ≡ e.0.token)

    own_part : (o : Option FileTree) → ((v : FileTree) → o ≡ Some v → IsIn us v) → Each Own (file_places o)
    own_part None h = tt
    own_part (Some (Body f js)) h =
        each_map (λ e. (e.0.file ≡ f) × Contains (sites (Body f js)) e.1 × (e.1.at ≡ e.0.token)) Own (placed_sites f (sites (Body f js)))
        (λ e k same. (subst (λ v. Contains (sites v) e.1) (same_tree t (Body f js) is_in (h (Body f js) refl) (sym same ∙ k.0)) k.1, k.2))
        (placed f (sites (Body f js)) (sites (Body f js)) (λ x c. c))
    own_part (Some (Face f js)) h =
        each_map (λ e. (e.0.file ≡ f) × Contains (sites (Face f js)) e.1 × (e.1.at ≡ e.0.token)) Own (placed_sites f (sites (Face f js)))
        (λ e k same. (subst (λ v. Contains (sites v) e.1) (same_tree t (Face f js) is_in (h (Face f js) refl) (sym same ∙ k.0)) k.1, k.2))
        (placed f (sites (Face f js)) (sites (Face f js)) (λ x c. c))

    own_places : (vs : List UnitTree) → ((v : UnitTree) → Contains vs v → Contains us v) → Each Own (places vs)
    own_places [] inc = tt
    own_places (v ∷ vs) inc =
        let here = inc v (0, omega arith, refl) in
        each_joined Own (file_places v.body) (file_places v.face ++ places vs) (own_part v.body (λ q e. (v, here, inl e)))
        (each_joined Own (file_places v.face) (places vs) (own_part v.face (λ q e. (v, here, inr e)))
        (own_places vs (λ q c. inc q (suc c.0, omega (arith, c.1), c.2))))

    -- what is at a place of this tree's file is a place of this tree
    pub place_is_own : (at : ℕ) (s : Site) → at_place (places us) (here (number_of t) at) ≡ Some s → Contains (sites t) s × (s.at ≡ at)
    place_is_own at s e = place_in Own (places us) (here (number_of t) at) s (own_places us (λ v k. k)) e refl

    changes_tree : (w : Words) → ChangesPlaces us w → ChangesNames (in_file w (number_of t)) (sites t)
    changes_tree w h at x = elim (h (here (number_of t) at) x) [
      | inl same ↦ inl same
      | inr c ↦
          let own = place_is_own at c.1 c.2 in
          inr (c.0, c.1, own.0, own.1, c.3)
    ]

  changes_in : (w : Words) → ChangesPlaces us w → (t : FileTree) → IsIn us t → ChangesNamesIn (in_file w) (Some t)
  changes_in w h (Body f js) is_in = changes_tree (Body f js) is_in w h
  changes_in w h (Face f js) is_in = changes_tree (Face f js) is_in w h

  changes_part : (w : Words) → ChangesPlaces us w → (o : Option FileTree) → ((v : FileTree) → o ≡ Some v → IsIn us v) → ChangesNamesIn (in_file w) o
  changes_part w h None k = tt
  changes_part w h (Some t) k = changes_in w h t (k t refl)

  pub changes_all : (w : Words) → ChangesPlaces us w → All (λ u. ChangesNamesIn (in_file w) u.body × ChangesNamesIn (in_file w) u.face) us
  changes_all w h = λ k d lt.
      let u = get_or us k d in
      let is_there : Contains us u = (k, lt, get_or_default us k u d lt) in
      (changes_part w h u.body (λ v e. (u, is_there, inl e)), changes_part w h u.face (λ v e. (u, is_there, inr e)))
