-- Valid renamings, one after another (this project's own).
use Rattle.std.specs.Prelude.{◌≡◌, List, [], ◌++◌, map, Contains, IsTrue, None}
use Rattle.rotor_base.specs.declared.place.Place.{Place}
use Rattle.rotor_base.specs.Name.{is_value_name}
use Rattle.value_sites.specs.Sound.{IsSound}
use Rattle.ml_trees.specs.Tree.{UnitTree}
use Rattle.shape_core.specs.Shape.{Name}
use Rattle.binding_model.specs.Facts.{IsGood}
use Rattle.binding_model.specs.Renaming.{Renaming, IsValid, at_place, name_of, respell}
use Rattle.binding_model.specs.Walk.{steps}

-- the changes of one renaming and then of another: a place that both name has the name of the later one
abbrev pub together : Renaming → Renaming → Renaming
together first later = later ++ first

-- the renaming back: each binder of a renaming gets its old name
abbrev pub back : List UnitTree → Renaming → Renaming
back us r = map (λ e. (e.0, name_of us e.0)) r

-- the binders of a renaming have value names
abbrev pub HasValueNames : List UnitTree → Renaming → Type 0
HasValueNames us r = (d : Place) (y : Name) → Contains r (d, y) → IsTrue (is_value_name (name_of us d))

-- Law: no change is valid
abbrev pub NothingIsValid : Type 0
NothingIsValid = (us : List UnitTree) → IsSound us → IsGood us → IsValid us []

-- Law: a valid renaming, and a valid one of the renamed project, are together a valid one
abbrev pub ValidsCompose : Type 0
ValidsCompose =
    (us : List UnitTree) (first later : Renaming) → IsSound us → IsSound (respell us first) → IsValid us first → IsValid (respell us first) later
    → IsValid us (together first later)

-- Law: together they give a project that is resolved by the same steps as the one that they give one after the other
abbrev pub ValidsAreOne : Type 0
ValidsAreOne =
    (us : List UnitTree) (first later : Renaming) → IsSound us → IsSound (respell us first) → IsValid us first → IsValid (respell us first) later
    → steps (respell us (together first later)) ≡ steps (respell (respell us first) later)

-- the renaming back is valid, and the project is resolved by the old steps again
pub record GoesBack (us : List UnitTree) (r : Renaming) : Type 0 where
  pub valid : IsValid (respell us r) (back us r)
  pub same : steps (respell (respell us r) (back us r)) ≡ steps us

-- Law: the renaming back of a valid one is valid, if the old names are value names, and undoes it
abbrev pub ValidGoesBack : Type 0
ValidGoesBack =
    (us : List UnitTree) (r : Renaming) → IsSound us → IsSound (respell us r) → IsGood us → IsValid us r → HasValueNames us r → GoesBack us r

-- the later renaming names each place that the first one names
abbrev pub Covers : Renaming → Renaming → Type 0
Covers later first = (d : Place) → at_place later d ≡ None → at_place first d ≡ None

-- Law: a valid renaming, and a valid one of the renamed project that names the same places, are the later one: it is
-- valid in the first project
abbrev pub TwiceIsOnce : Type 0
TwiceIsOnce =
    (us : List UnitTree) (first later : Renaming) → IsSound us → IsSound (respell us first) → IsValid us first → IsValid (respell us first) later
    → Covers later first → IsValid us later

-- Law: and the other way: a later renaming that is valid in the first project is valid in the renamed one, if its old
-- names are value names
abbrev pub OnceIsTwice : Type 0
OnceIsTwice =
    (us : List UnitTree) (first later : Renaming) → IsSound us → IsSound (respell us first) → IsValid us first → IsValid us later
    → Covers later first → HasValueNames us later → IsValid (respell us first) later

-- Law: the later one gives a project that is resolved by the same steps
abbrev pub OnceIsTheSame : Type 0
OnceIsTheSame =
    (us : List UnitTree) (first later : Renaming) → IsSound us → IsSound (respell us first) → IsValid us first → IsValid us later
    → IsValid (respell us first) later → Covers later first
    → steps (respell us later) ≡ steps (respell (respell us first) later)
