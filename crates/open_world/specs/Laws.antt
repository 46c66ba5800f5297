-- What stays valid whatever units define the outside modules (own).
use Rattle.std.specs.Prelude.{◌≡◌, ◌<◌, ℕ, List, [], ◌∷◌, ◌++◌, map}
use Rattle.rotor_base.specs.declared.place.Place.{Place}
use Rattle.value_sites.specs.Each.{Each}
use Rattle.value_sites.specs.Sound.{IsSound}
use Rattle.ml_trees.specs.Tree.{FileTree, Body, Face, UnitTree}
use Rattle.shape_core.specs.Shape.{Shape, Struct, Functor, Unitary, Opaque, Entries, none, a_val, a_mod, a_mty, a_dark}
use Rattle.shape_core.specs.Respell.{over}
use Rattle.binding_model.specs.Facts.{facts, IsGood}
use Rattle.binding_model.specs.Renaming.{Renaming, places, words_of, IsValid}
use Rattle.binding_model.specs.Scopes.{unit_shape, after_unit}

-- each entry is a value
abbrev pub AreValues : Entries → Type 0
AreValues none = Unit {0}
AreValues (a_val x g es) = AreValues es
AreValues (a_mod X s es) = ⊥
AreValues (a_mty S s es) = ⊥
AreValues (a_dark at es) = ⊥

-- a structure of values alone
abbrev pub HoldsValues : Shape → Type 0
HoldsValues (Struct es) = AreValues es
HoldsValues (Functor p r) = ⊥
HoldsValues (Unitary r) = ⊥
HoldsValues Opaque = ⊥

-- each of these units, one after another, holds values alone
abbrev pub HoldValues : Entries → List UnitTree → Type 0
HoldValues sc [] = Unit {0}
HoldValues sc (u ∷ us) = HoldsValues (unit_shape sc u) × HoldValues (after_unit sc u) us

-- Units that define outside modules are linked before a project. They hold values alone, no two units of both have one
-- name and no two files one number, and the project that they make is good.
pub record Opens (outside us : List UnitTree) : Type 0 where
  pub values : HoldValues none outside
  pub sound : IsSound (outside ++ us)
  pub good : IsGood (outside ++ us)

-- Law: a renaming that is valid is valid whatever units define the outside modules, as long as these hold values alone
abbrev pub StaysValid : Type 0
StaysValid = (outside us : List UnitTree) (r : Renaming) → IsSound us → IsValid us r → Opens outside us → IsValid (outside ++ us) r

-- Each place of the project takes the word that it takes without the outside units. Each place of these keeps its word.
pub record TakesTheSameWords (outside us : List UnitTree) (r : Renaming) : Type 0 where
  pub project : Each (λ e. words_of r (facts (outside ++ us)).refs e.0 e.1.name ≡ words_of r (facts us).refs e.0 e.1.name) (places us)
  pub new_units : Each (λ e. words_of r (facts (outside ++ us)).refs e.0 e.1.name ≡ e.1.name) (places outside)

-- Law: each place takes the word that it takes without these units, and each of theirs keeps its word
abbrev pub WordsStay : Type 0
WordsStay = (outside us : List UnitTree) (r : Renaming) → IsSound us → IsValid us r → Opens outside us → TakesTheSameWords outside us r

-- ---- the numbers of files

-- files get other numbers, in the same order
abbrev pub KeepsOrder : (ℕ → ℕ) → Type 0
KeepsOrder φ = (a b : ℕ) → a < b → φ a < φ b

-- a place, a tree, a unit and a renaming with the other numbers
abbrev pub moved : (ℕ → ℕ) → Place → Place
moved φ p = record { file = φ p.file; token = p.token }

abbrev pub renumbered : (ℕ → ℕ) → FileTree → FileTree
renumbered φ (Body f is) = Body (φ f) is
renumbered φ (Face f is) = Face (φ f) is

abbrev pub unit_renumbered : (ℕ → ℕ) → UnitTree → UnitTree
unit_renumbered φ u = record { name = u.name; body = over (renumbered φ) u.body; face = over (renumbered φ) u.face }

abbrev pub moved_renaming : (ℕ → ℕ) → Renaming → Renaming
moved_renaming φ r = map (λ e. (moved φ e.0, e.1)) r

-- Law: a renaming that is valid is valid if the files get other numbers in the same order, as they do beside more files
abbrev pub NumbersStay : Type 0
NumbersStay =
    (us : List UnitTree) (r : Renaming) (φ : ℕ → ℕ) → KeepsOrder φ → IsValid us r → IsValid (map (unit_renumbered φ) us) (moved_renaming φ r)
