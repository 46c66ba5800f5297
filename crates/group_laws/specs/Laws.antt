-- The laws of groups that repeat no name (own).
use Rattle.std.specs.Prelude.{◌≡◌, List, None}
use Rattle.rotor_base.specs.declared.place.Place.{Place}
use Rattle.value_sites.specs.Sound.{IsSound}
use Rattle.ml_trees.specs.Tree.{UnitTree}
use Rattle.shape_core.specs.Shape.{vals}
use Rattle.value_sites.specs.Each.{Each}
use Rattle.binding_model.specs.Steps.{groups_of}
use Rattle.binding_model.specs.Walk.{steps}
use Rattle.binding_model.specs.Facts.{facts, unmatched, AreNamedApart, IsGood}
use Rattle.binding_model.specs.Renaming.{name_of}
use Rattle.capture_check.specs.Fault.{Names, Repeats, IsLeastRepeat}

-- no least place repeats a name of its group
abbrev pub HasNoRepeat : Names → List (List Place) → Type 0
HasNoRepeat names groups = (first again : Place) → IsLeastRepeat names groups first again → ⊥

-- Law: if no least place repeats a name of its group, no place does
abbrev pub NoLeastIsNone : Type 0
NoLeastIsNone = (names : Names) (groups : List (List Place)) → HasNoRepeat names groups → (first again : Place) → Repeats names groups first again → ⊥

-- Law: in a sound project whose groups repeat no name, the values of each group have names of their own
abbrev pub NoRepeatIsApart : Type 0
NoRepeatIsApart = (us : List UnitTree) → IsSound us → HasNoRepeat (name_of us) (facts us).groups
    → Each (λ es. AreNamedApart (vals es)) (groups_of (steps us))

-- Law: a sound project without Duplicate and Unmatched is Good
abbrev pub UnrefusedIsGood : Type 0
UnrefusedIsGood = (us : List UnitTree) → IsSound us → HasNoRepeat (name_of us) (facts us).groups → unmatched us ≡ None → IsGood us
