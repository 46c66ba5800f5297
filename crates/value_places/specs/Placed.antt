-- The places of a project's values as the program keeps them: the sites of each file, at the file's number (own).
use Rattle.std.specs.Prelude.{◌≡◌, ◌==◌, ◌<◌, ℕ, List, [], ◌∷◌, Option, Some, None, if◌then◌else◌, length, slice_index_or}
use Rattle.rotor_base.specs.declared.place.Place.{Place}
use Rattle.ml_syntax.specs.declared.sites.Site.{Site}
use Rattle.value_sites.specs.Places as pure
use Rattle.value_sites.specs.Places.{sites}
use Rattle.ml_syntax.specs.Sites.{view_site, view_sites}
use Rattle.ml_trees.specs.Tree.{FileTree, Body, Face}
use Rattle.shape_core.specs.Shape.{or_else, some_if}
use Rattle.binding_model.specs.Renaming.{at_place, site_name}

-- the sites of each file
abbrev pub Files : Type 0
Files = List (List Site)

-- the first site of a token
abbrev pub at_token : List Site → ℕ → Option pure.Site
at_token [] token = None
at_token (x ∷ xs) token = or_else (some_if (x.token == token) (view_site x)) (at_token xs token)

-- what is at a place
abbrev pub site_in : Files → Place → Option pure.Site
site_in files p = at_token (slice_index_or files p.file []) p.token

-- the tokens of sites rise strictly
abbrev pub Rises : List Site → Type 0
Rises xs = (i j : ℕ) (d : Site) → i < j → j < length xs → (slice_index_or xs i d).token < (slice_index_or xs j d).token

-- the files have what is at each of some places, by rising tokens
pub record ArePlacesOf (ps : List (Place × pure.Site)) (files : Files) : Type 0 where
  pub found : (p : Place) → site_in files p ≡ at_place ps p
  pub rise : (n : ℕ) → Rises (slice_index_or files n [])

-- the number of a file
abbrev pub number_of : FileTree → ℕ
number_of (Body file is) = file
number_of (Face file is) = file

-- one more file: its sites are at its number, and the others stay
abbrev pub Adds : Files → Option FileTree → Files → Type 0
Adds old None new = (n : ℕ) → slice_index_or new n [] ≡ slice_index_or old n []
Adds old (Some t) new =
    (xs : List Site) × (view_sites xs ≡ sites t)
    × ((n : ℕ) → slice_index_or new n [] ≡ (if number_of t == n then xs else slice_index_or old n []))

-- the name of a place, or the empty name
abbrev pub name_in : List (Place × pure.Site) → Place → List ℕ
name_in ps p = site_name (at_place ps p)
