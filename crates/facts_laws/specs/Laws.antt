-- What holds of the values, the links, the groups and the footprints of every project (own).
use Rattle.std.specs.Prelude.{◌≡◌, ◌≤◌, List, None, length, Contains}
use Rattle.rotor_base.specs.declared.place.Foot.{Foot}
use Rattle.rotor_base.specs.declared.place.Goal.{Goal}
use Rattle.rotor_base.specs.declared.place.Goal.TheVariants.{Decl}
use Rattle.rotor_base.specs.declared.place.Place.{Place}
use Rattle.rotor_base.specs.Limits.{max_work}
use Rattle.dependency_kernel.specs.Foot.{IsFoot}
use Rattle.value_sites.specs.Sound.{IsSound}
use Rattle.ml_trees.specs.Tree.{UnitTree}
use Rattle.shape_core.specs.Shape.{Shape, Struct, Functor, Unitary, Opaque, Entries, none, a_val, a_mod, a_mty, a_dark}
use Rattle.binding_model.specs.Steps.{Steps, quiet, ◌⨾◌, UseAlone, UseUnder, MatchOf, PinOf, TieOf, GroupOf, WeighedSite, OpenedSite, UnitStart}
use Rattle.binding_model.specs.Walk.{steps}
use Rattle.binding_model.specs.Facts.{facts, IsGood}
use Rattle.binding_model.specs.Renaming.{name_of}
use Rattle.binding_model.specs.Sums.{heavy}
use Rattle.capture_check.specs.Fault.{Repeats}

-- the goal is a declaration
abbrev pub IsDecl : Goal → Type 0
IsDecl (Decl d) = Unit {0}
IsDecl _ = ⊥

abbrev mutual
  -- each value of a shape has a declaration as its goal
  pub IsDeclared : Shape → Type 0
  IsDeclared (Struct es) = AreDeclared es
  IsDeclared (Functor p r) = IsDeclared p × IsDeclared r
  IsDeclared (Unitary r) = IsDeclared r
  IsDeclared Opaque = Unit {0}

  -- each value of a list of entries, and of the shapes in it
  pub AreDeclared : Entries → Type 0
  AreDeclared none = Unit {0}
  AreDeclared (a_val x g es) = IsDecl g × AreDeclared es
  AreDeclared (a_mod X s es) = IsDeclared s × AreDeclared es
  AreDeclared (a_mty S s es) = IsDeclared s × AreDeclared es
  AreDeclared (a_dark at es) = AreDeclared es

-- each value of the scopes and the shapes that steps have
abbrev pub StepsAreDeclared : Steps → Type 0
StepsAreDeclared quiet = Unit {0}
StepsAreDeclared (a ⨾ b) = StepsAreDeclared a × StepsAreDeclared b
StepsAreDeclared (UseAlone at x sc) = AreDeclared sc
StepsAreDeclared (UseUnder at x s) = IsDeclared s
StepsAreDeclared (MatchOf s t) = IsDeclared s × IsDeclared t
StepsAreDeclared (PinOf s) = IsDeclared s
StepsAreDeclared (TieOf p q) = AreDeclared p × AreDeclared q
StepsAreDeclared (GroupOf es) = AreDeclared es
StepsAreDeclared (WeighedSite at s) = IsDeclared s
StepsAreDeclared (OpenedSite at s) = IsDeclared s
StepsAreDeclared UnitStart = Unit {0}

-- Law: each value in a scope or a shape of a project has a declaration as its goal
abbrev pub ValuesAreDeclared : Type 0
ValuesAreDeclared = (us : List UnitTree) → StepsAreDeclared (steps us)

-- Law: a project in which no site is too heavy has no more links than the bound on work
abbrev pub LinksAreFew : Type 0
LinksAreFew = (us : List UnitTree) → heavy us ≡ None → length (facts us).links ≤ max_work

-- Law: no group of a good project repeats a name
abbrev pub GoodRepeatsNone : Type 0
GoodRepeatsNone = (us : List UnitTree) → IsSound us → IsGood us → (first again : Place) → Repeats (name_of us) (facts us).groups first again → ⊥

-- Law: each declaration has a footprint
abbrev pub FootprintsExist : Type 0
FootprintsExist = (us : List UnitTree) (d : Place) → (foot : Foot) × IsFoot (facts us).links d foot

-- Law: a declaration is in its footprint
abbrev pub FootprintsCover : Type 0
FootprintsCover = (us : List UnitTree) (d : Place) (foot : Foot) → IsFoot (facts us).links d foot → Contains foot.decls d

-- Law: two footprints that have a member in common are the same
abbrev pub FootprintsAreApart : Type 0
FootprintsAreApart =
    (us : List UnitTree) (d e member : Place) (one other : Foot) → IsFoot (facts us).links d one → IsFoot (facts us).links e other
    → Contains one.decls member → Contains other.decls member → one ≡ other

-- Law: a footprint is that of each of its members
abbrev pub MembersShareFootprints : Type 0
MembersShareFootprints =
    (us : List UnitTree) (d member : Place) (foot : Foot) → IsFoot (facts us).links d foot → Contains foot.decls member
    → IsFoot (facts us).links member foot
