-- The fault that the looks give is the first fault of the renamed project.
use Rattle.std.proofs.Common.{◌≡◌, Bool, true, false, refl, ap, sym, ◌∙◌, subst, inl, inr, List, Option, Some, None, if◌then◌else◌}
use Rattle.rotor_base.specs.declared.place.Place.{Place}
use Rattle.rotor_base.specs.declared.place.Goal.TheVariants.{Decl}
use Rattle.rotor_base.specs.declared.place.Facts.{Facts}
use Rattle.rotor_base.specs.declared.looks.Watch.{Watch}
use Rattle.value_sites.specs.Sound.{IsSound}
use Rattle.ml_trees.specs.Tree.{UnitTree}
use Rattle.shape_core.specs.Shape.{Name, or_value, some_if}
use Rattle.shape_core.specs.Looks.{is_member}
use Rattle.binding_model.specs.Facts.{facts}
use Rattle.binding_model.specs.Looks.{looks}
use Rattle.binding_model.specs.Renaming.{IsBinder}
use Rattle.binding_model.specs.Renaming.{name_of, respell, Changes, IsFree}
use Rattle.binding_model.specs.Local.{would_facts, IsWatched}
use Rattle.binding_model.specs.Renaming.{renaming}
use Rattle.binding_model.proofs.Standing.{member_in, given}
use Rattle.binding_model.proofs.Leasts.{binder_name}
use Rattle.binding_model.proofs.Telltale.{looks_tell_facts}
use Rattle.capture_check.specs.declared.fault.Fault.{Fault}
use Rattle.capture_check.specs.declared.fault.Fault.TheVariants.{Clash, Capture, Mislink}
use Rattle.capture_check.specs.Fault.{Names, IsClash, faults, IsFirstFault}
use Rattle.capture_check.specs.Local.{would_name, LooksDetermineFaults}
use Rattle.capture_check.proofs.Binders.{group_binds}
use Rattle.capture_check.proofs.Faults.{Agree, first_as}

clash_as : (f g : Names) (groups : List (List Place)) → Agree f g groups → (x : Fault) → IsClash f groups x → IsClash g groups x
clash_as f g groups a (Clash first again) h = first_as f g groups a (Some (record { first = first; again = again })) h
clash_as f g groups a (Capture at was would) h = h
clash_as f g groups a (Mislink item was would) h = h

agree_back : (f g : Names) (groups : List (List Place)) → Agree f g groups → Agree g f groups
agree_back f g groups a x d i j = sym (a x d i j)

faults_as : (f g : Names) (old new : Facts) → Agree f g new.groups → (x : Fault) → faults f old new x → faults g old new x
faults_as f g old new a x (inl h) = inl (clash_as f g new.groups a x h)
faults_as f g old new a x (inr h) = inr (λ met. h.0 (met.0, clash_as g f new.groups (agree_back f g new.groups a) met.0 met.1), h.1)

fault_as : (f g : Names) (old new : Facts) → Agree f g new.groups → (o : Option Fault) → IsFirstFault f old new o → IsFirstFault g old new o
fault_as f g old new a None h = λ met. h (met.0, faults_as g f old new (agree_back f g new.groups a) met.0 met.1)
fault_as f g old new a (Some x) h = faults_as f g old new a x h

module _ (us : List UnitTree) (w : Watch) (s : IsSound us) (k : IsWatched us w) where
  named_if : (b : Bool) (x : Name) → or_value (some_if b w.new) x ≡ (if b then w.new else x)
  named_if true x = refl
  named_if false x = refl

  member_of : (d : Place) (y : Name) (b : Bool) → is_member w (Decl d) ≡ b → some_if b w.new ≡ Some y → is_member w (Decl d) ≡ true
  member_of d y true e h = e
  member_of d y false e h = absurd cc

  free : (d : Place) (y : Name) → Changes us (renaming w) d y → IsFree us d
  free d y c = k.free d (member_in d w.foot.decls (member_of d y (is_member w (Decl d)) refl (sym (given w.new w.foot.decls d) ∙ c.0)))

  new_name : (d : Place) → IsBinder us d → name_of (respell us (renaming w)) d ≡ would_name w us d
  new_name d b = binder_name us (renaming w) s free d b
      ∙ (ap (λ (o : Option Name). or_value o (name_of us d)) (given w.new w.foot.decls d) ∙ named_if (is_member w (Decl d)) (name_of us d))

  agree : Agree (would_name w us) (name_of (respell us (renaming w))) (facts us).groups
  agree g d i j = sym (new_name d (group_binds us s g d i j))

pub looks_determine_faults : LooksDetermineFaults
looks_determine_faults us w o s k h =
    let P : Facts → Type 0 = λ fs. IsFirstFault (name_of (respell us (renaming w))) (facts us) fs o in
    subst P (sym (looks_tell_facts us w s k))
    (fault_as (would_name w us) (name_of (respell us (renaming w))) (facts us) (would_facts w (looks w us) (facts us)) (agree us w s k) o h)
