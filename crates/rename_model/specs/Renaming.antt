-- The refusals of a renaming, in their order, each a condition of its own (own).
use Rattle.std.specs.Prelude.{◌≡◌, List, Some, Contains, IsTrue, IsFalse}
use Rattle.rotor_base.specs.declared.place.Place.{Place}
use Rattle.rotor_base.specs.declared.place.Goal.{Goal}
use Rattle.rotor_base.specs.declared.place.Goal.TheVariants.{Decl}
use Rattle.rotor_base.specs.declared.place.Link.{Link}
use Rattle.rotor_base.specs.declared.place.Facts.{Facts}
use Rattle.rotor_base.specs.declared.place.Foot.{Foot}
use Rattle.rotor_base.specs.declared.looks.Watch.{Watch}
use Rattle.rotor_base.specs.declared.refusal.Refusal.{Refusal}
use Rattle.rotor_base.specs.declared.refusal.Refusal.TheVariants as refusal
use Rattle.rotor_base.specs.declared.source.SourceFile.{SourceFile}
use Rattle.rotor_base.specs.declared.target.Target.{Target}
use Rattle.rotor_base.specs.Files.{FileSet, are_over}
use Rattle.rotor_base.specs.Name.{is_value_name}
use Rattle.value_sites.specs.Places.{Site}
use Rattle.ml_syntax.specs.RespelledSource.{AreRespelled}
use Rattle.ml_trees.specs.Tree.{UnitTree}
use Rattle.shape_core.specs.Shape.{Name}
use Rattle.shape_core.specs.Respell.{Words}
use Rattle.binding_model.specs.Steps.{a_ref}
use Rattle.binding_model.specs.Facts.{facts}
use Rattle.binding_model.specs.Renaming.{places, at_place, name_of, respell, words_of, HasBehind, IsBlur, in_file}
use Rattle.binding_model.specs.Renaming.{renaming}
use Rattle.capture_check.specs.Fault.{before, IsLeastRepeat, IsFirstDiffering, of_ref, of_link}
use Rattle.rename_model.specs.Ladder.{no_more, IsLeast}
use Rattle.rename_model.specs.Foot.{IsTheFoot, IsIn, IsHit}
use Rattle.rename_model.specs.Target.{Aims}
use Rattle.rename_model.specs.Bytes.{position_with}

-- ---- what a renaming is about

-- the old name, the new one, and the footprint
abbrev pub watch_of : List UnitTree → Place → Foot → Name → Watch
watch_of us d foot new = record { old = name_of us d; new = new; foot = foot }

-- the project with the new name at the members and at the references to them
abbrev pub renamed : List UnitTree → Watch → List UnitTree
renamed us w = respell us (renaming w)

-- the words of it
abbrev pub renamed_words : List UnitTree → Watch → Words
renamed_words us w = words_of (renaming w) (facts us).refs

-- ---- the conditions

-- a place whose name is an operator
abbrev pub IsOperatorAt : List UnitTree → Place → Type 0
IsOperatorAt us p = (x : Site) × (at_place (places us) p ≡ Some x) × IsTrue x.operator

-- Operator: the target's name, which all members and all references to them have, is an operator
abbrev pub IsOperator : List UnitTree → Foot → Refusal → Type 0
IsOperator us foot refusal.Operator = (p : Place) × IsHit us foot p × IsOperatorAt us p
IsOperator us foot _ = ⊥

-- BadName: the new name is no value name
abbrev pub IsBadName : Name → Refusal → Type 0
IsBadName new refusal.BadName = IsFalse (is_value_name new)
IsBadName new _ = ⊥

-- SameName: the new name is the old one
abbrev pub IsSameName : List UnitTree → Place → Name → Refusal → Type 0
IsSameName us d new refusal.SameName = new ≡ name_of us d
IsSameName us d new _ = ⊥

-- Outside: a member of the footprint is linked with the outside; the least one
abbrev pub IsOutside : Foot → Refusal → Type 0
IsOutside foot (refusal.Outside at) = foot.outside ≡ Some at
IsOutside foot _ = ⊥

-- a place whose word is a label or a field too
abbrev pub IsPunAt : List UnitTree → Place → Type 0
IsPunAt us p = (x : Site) × (at_place (places us) p ≡ Some x) × IsTrue x.pun

-- Pun: a member, or a reference to one, is a pun; the least one
abbrev pub IsPun : List UnitTree → Foot → Refusal → Type 0
IsPun us foot (refusal.Pun at) = IsLeast (λ p. IsHit us foot p × IsPunAt us p) at
IsPun us foot _ = ⊥

-- a place at which a Dark entry hides what a member is: a reference with a member behind its Blur; a member that is the
-- item of a link with the source Blur; a member that is behind such a source
pub data IsBlurredAt (fs : Facts) (foot : Foot) (p : Place) : Type 0 where
  at_reference : (g : Goal) (d : Place) → Contains fs.refs (a_ref p g) → IsIn foot d → HasBehind d g → IsBlurredAt fs foot p
  at_item : (l : Link) → Contains fs.links l → IsIn foot p → l.item ≡ Decl p → IsBlur l.source → IsBlurredAt fs foot p
  at_source : (l : Link) → Contains fs.links l → IsIn foot p → HasBehind p l.source → IsBlurredAt fs foot p

-- Blurred: there is one; the least one
abbrev pub IsBlurred : List UnitTree → Foot → Refusal → Type 0
IsBlurred us foot (refusal.Blurred at) = IsLeast (IsBlurredAt (facts us) foot) at
IsBlurred us foot _ = ⊥

-- Grown: a new source is over the limit on bytes, or all new sources up to it are; the first one
abbrev pub IsGrown : List SourceFile → List UnitTree → Watch → Refusal → Type 0
IsGrown sources us w (refusal.Grown file) = (news : List SourceFile) × AreRespelled (in_file (renamed_words us w)) 0 sources news
    × (position_with are_over news ≡ Some file)
IsGrown sources us w _ = ⊥

-- Clash: a group of the new project has a name twice; the least place that repeats one, and the least place of that name
-- there
abbrev pub IsClash : List UnitTree → List UnitTree → Refusal → Type 0
IsClash us vs (refusal.Clash first again) = IsLeastRepeat (name_of vs) (facts vs).groups first again
IsClash us vs _ = ⊥

-- Capture: a reference has another goal in the new project; the least one
abbrev pub IsCapture : List UnitTree → List UnitTree → Refusal → Type 0
IsCapture us vs (refusal.Capture at was would) = IsFirstDiffering of_ref (facts us).refs (facts vs).refs at was would
IsCapture us vs _ = ⊥

-- Mislink: a link has another source in the new project; the least item that has such a link, and the first of its links
abbrev pub IsMislink : List UnitTree → List UnitTree → Refusal → Type 0
IsMislink us vs (refusal.Mislink (Decl item) was would) = IsFirstDiffering of_link (facts us).links (facts vs).links item was would
IsMislink us vs _ = ⊥

-- ---- the ladder

-- NoTarget: the target is no binder
abbrev pub HasNoTarget : FileSet → List UnitTree → Target → Refusal → Type 0
HasNoTarget files us target refusal.NoTarget = (d : Place) → Aims files us target d → ⊥
HasNoTarget files us target _ = ⊥

-- the refusals of a renaming of a binder and its footprint, in their order
abbrev pub refusals_of_binder : List SourceFile → List UnitTree → Place → Foot → Name → Refusal → Type 0
refusals_of_binder sources us d foot new =
    before (IsOperator us foot)
    (before (IsBadName new)
    (before (IsSameName us d new)
    (before (IsOutside foot)
    (before (IsPun us foot)
    (before (IsBlurred us foot)
    (before (IsGrown sources us (watch_of us d foot new))
    (before (IsClash us (renamed us (watch_of us d foot new)))
    (before (IsCapture us (renamed us (watch_of us d foot new)))
    (before (IsMislink us (renamed us (watch_of us d foot new)))
    no_more)))))))))

-- a condition on the binder that a target names, and its footprint
pub record ForTarget (files : FileSet) (us : List UnitTree) (target : Target) (c : Place → Foot → Refusal → Type 0) (r : Refusal) : Type 0 where
  pub binder : Place
  pub foot : Foot
  pub aims : Aims files us target binder
  pub is_foot : IsTheFoot us binder foot
  pub holds : c binder foot r

-- the refusals of a renaming, in their order
abbrev pub refusals_of_renaming : FileSet → List UnitTree → Target → Name → Refusal → Type 0
refusals_of_renaming files us target new =
    before (HasNoTarget files us target)
    (ForTarget files us target (λ d foot. refusals_of_binder files.entries us d foot new))
