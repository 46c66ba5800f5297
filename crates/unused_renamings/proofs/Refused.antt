-- A renaming to a name that nothing has is refused for its target, or for an item that was hidden.
use Rattle.std.proofs.Common.{◌≡◌, ◌⊎◌, inl, inr, Bool, true, false, List, Option, Some, None, Contains, Err, refl, sym, subst}
use Rattle.rotor_base.specs.Files.{FileSet, IsProject}
use Rattle.rotor_base.specs.Name.{is_value_name}
use Rattle.rotor_base.specs.declared.place.Foot.{Foot}
use Rattle.rotor_base.specs.declared.place.Goal.TheVariants.{Decl, Outside, Missing, Hidden, Blur}
use Rattle.rotor_base.specs.declared.place.Link.{Link}
use Rattle.rotor_base.specs.declared.place.Place.{Place}
use Rattle.rotor_base.specs.declared.refusal.Refusal.{Refusal}
use Rattle.rotor_base.specs.declared.refusal.Refusal.TheVariants as refusal
use Rattle.rotor_base.specs.declared.target.Target.{Target}
use Rattle.value_sites.specs.Sound.{IsSound}
use Rattle.ml_trees.specs.Tree.{UnitTree}
use Rattle.shape_core.specs.Shape.{Name}
use Rattle.binding_model.specs.Facts.{facts, IsGood}
use Rattle.binding_model.specs.Renaming.{IsBinder}
use Rattle.binding_model.specs.Local.{IsWatched}
use Rattle.capture_check.specs.Fault.{IsMet, of_link}
use Rattle.group_laws.proofs.Apartness.{unrefused_is_good}
use Rattle.project_reading.proofs.OneReading.{one_project, read_or_refused}
use Rattle.project_reading.proofs.Soundness.{read_is_sound}
use Rattle.rename_model.specs.Foot.{IsHit, IsTheFoot}
use Rattle.rename_model.specs.Project.{refusals_of_project}
use Rattle.rename_model.specs.Renaming.{IsOperator, IsBadName, IsSameName, IsOutside, IsPun, IsPunAt, IsBlurred, IsBlurredAt, IsGrown, IsClash}
use Rattle.rename_model.specs.Renaming.{IsCapture, IsMislink, HasNoTarget, watch_of, renamed, refusals_of_binder, refusals_of_renaming}
use Rattle.rename_parts.specs.Findings.{IsFree}
use Rattle.rename_parts.proofs.Bridge.{watched}
use Rattle.rename_files.specs.Answer.{Accepts, Rejects, Renames}
use Rattle.rename_laws.proofs.Free.{none_repeats, none_unmatched}
use Rattle.rename_laws.proofs.Leasts.{no_least_is_none}
use Rattle.unused_names.specs.Laws.{IsUnused, HidesNothing}
use Rattle.unused_names.proofs.Trees.{got_in, no_capture, no_clash, not_the_name, was_hidden}
use Rattle.unused_renamings.specs.Laws.{IsOfTheTarget, WasHidden, UnusedIsRefusedSo, NothingIsHidden}

-- the refusal is a Mislink, and a link of the project has the source Hidden
pub record IsOfHidden (us : List UnitTree) (why : Refusal) : Type 0 where
  pub was : WasHidden why
  pub link : Link
  pub among : Contains (facts us).links link
  pub source : link.source ≡ Hidden

-- ---- a project that `check` accepts

module _ (files : FileSet) (us : List UnitTree) (new : Name) (p : IsProject files) (accepts : Accepts files us) (unused : IsUnused us new) where
  sound : IsSound us
  sound = read_is_sound files us p accepts.reads

  good : IsGood us
  good = unrefused_is_good us sound (none_repeats us accepts.none) (none_unmatched us accepts.none)

  pub not_rejected : (why : Refusal) → Rejects files why → ⊥
  not_rejected why (inl h) = read_or_refused files us why accepts.reads h
  not_rejected why (inr h) =
      accepts.none (why, subst (λ vs. refusals_of_project vs why) (one_project files h.0 us h.1 accepts.reads) h.2)

  -- a binder, and its footprint
  module _ (d : Place) (foot : Foot) (binder : IsBinder us d) (is : IsTheFoot us d foot) where
    abbrev vs : List UnitTree
    vs = renamed us (watch_of us d foot new)

    -- nothing but the name of the target is renamed
    module _ (free : IsFree us d foot new) where
      is_watched : IsWatched us (watch_of us d foot new)
      is_watched = (watched us d foot new sound is free binder).0

      pub clash_never : (why : Refusal) → IsClash us vs why → ⊥
      clash_never (refusal.Clash first again) h = no_clash us sound (watch_of us d foot new) is_watched unused good first again h
      clash_never _ h = h

      pub capture_never : (why : Refusal) → IsCapture us vs why → ⊥
      capture_never (refusal.Capture at was would) h = no_capture us sound (watch_of us d foot new) is_watched unused at was would h
      capture_never _ h = h

      pub mislink_hidden : (why : Refusal) → IsMislink us vs why → IsOfHidden us why
      mislink_hidden (refusal.Mislink (Decl item) was would) h =
          let e = was_hidden us sound (watch_of us d foot new) is_watched unused d is item was would h in
          record { was = e; link = of_link item was; among = got_in (facts us).links h.number (of_link item was) h.differs.old_one; source = e }
      mislink_hidden (refusal.Mislink Outside was would) h = absurd h
      mislink_hidden (refusal.Mislink Missing was would) h = absurd h
      mislink_hidden (refusal.Mislink Hidden was would) h = absurd h
      mislink_hidden (refusal.Mislink (Blur by n o) was would) h = absurd h
      mislink_hidden _ h = absurd h

    -- ---- the ladder

    of_operator : (why : Refusal) → IsOperator us foot why → IsOfTheTarget why
    of_operator refusal.Operator h = tt
    of_operator _ h = absurd h

    of_bad_name : (why : Refusal) → IsBadName new why → IsOfTheTarget why
    of_bad_name refusal.BadName h = tt
    of_bad_name _ h = absurd h

    of_same_name : (why : Refusal) → IsSameName us d new why → ⊥
    of_same_name refusal.SameName h = not_the_name us new unused d binder (sym h)
    of_same_name _ h = h

    of_outside : (why : Refusal) → IsOutside foot why → IsOfTheTarget why
    of_outside (refusal.Outside at) h = tt
    of_outside _ h = absurd h

    of_pun : (why : Refusal) → IsPun us foot why → IsOfTheTarget why
    of_pun (refusal.Pun at) h = tt
    of_pun _ h = absurd h

    of_blurred : (why : Refusal) → IsBlurred us foot why → IsOfTheTarget why
    of_blurred (refusal.Blurred at) h = tt
    of_blurred _ h = absurd h

    of_grown : (why : Refusal) → IsGrown files.entries us (watch_of us d foot new) why → IsOfTheTarget why
    of_grown (refusal.Grown file) h = tt
    of_grown _ h = absurd h

    valid : (IsMet (IsBadName new) → ⊥) → (b : Bool) → is_value_name new ≡ b → is_value_name new ≡ true
    valid n true e = e
    valid n false e = absurd (n (refusal.BadName, e))

    inside : (IsMet (IsOutside foot) → ⊥) → (o : Option Place) → foot.outside ≡ o → foot.outside ≡ None
    inside n None e = e
    inside n (Some at) e = absurd (n (refusal.Outside at, e))

    free_of : (IsMet (IsOperator us foot) → ⊥) → (IsMet (IsBadName new) → ⊥) → (IsMet (IsSameName us d new) → ⊥) → (IsMet (IsOutside foot) → ⊥)
        → (IsMet (IsPun us foot) → ⊥) → (IsMet (IsBlurred us foot) → ⊥) → IsFree us d foot new
    free_of a b c e g i = record {
      words = λ q h x. a (refusal.Operator, (q, h, x));
      valid = valid b (is_value_name new) refl;
      other = λ h. c (refusal.SameName, h);
      inside = inside e foot.outside refl;
      plain = λ q h x. no_least_is_none (λ r. IsHit us foot r × IsPunAt us r) (λ at m. g (refusal.Pun at, m)) q (h, x);
      clear = λ q x. no_least_is_none (IsBlurredAt (facts us) foot) (λ at m. i (refusal.Blurred at, m)) q x;
    }

    pub refused_so : (why : Refusal) → refusals_of_binder files.entries us d foot new why → IsOfTheTarget why ⊎ IsOfHidden us why
    refused_so why (inl h) = inl (of_operator why h)
    refused_so why (inr (a, inl h)) = inl (of_bad_name why h)
    refused_so why (inr (a, inr (b, inl h))) = absurd (of_same_name why h)
    refused_so why (inr (a, inr (b, inr (c, inl h)))) = inl (of_outside why h)
    refused_so why (inr (a, inr (b, inr (c, inr (e, inl h))))) = inl (of_pun why h)
    refused_so why (inr (a, inr (b, inr (c, inr (e, inr (g, inl h)))))) = inl (of_blurred why h)
    refused_so why (inr (a, inr (b, inr (c, inr (e, inr (g, inr (i, inl h))))))) = inl (of_grown why h)
    refused_so why (inr (a, inr (b, inr (c, inr (e, inr (g, inr (i, inr (j, inl h)))))))) = absurd (clash_never (free_of a b c e g i) why h)
    refused_so why (inr (a, inr (b, inr (c, inr (e, inr (g, inr (i, inr (j, inr (l, inl h))))))))) =
        absurd (capture_never (free_of a b c e g i) why h)
    refused_so why (inr (a, inr (b, inr (c, inr (e, inr (g, inr (i, inr (j, inr (l, inr (m, inl h)))))))))) =
        inr (mislink_hidden (free_of a b c e g i) why h)
    refused_so why (inr (a, inr (b, inr (c, inr (e, inr (g, inr (i, inr (j, inr (l, inr (m, inr (n, h))))))))))) = absurd h

  no_target : (target : Target) (why : Refusal) → HasNoTarget files us target why → IsOfTheTarget why
  no_target target refusal.NoTarget h = tt
  no_target target _ h = absurd h

  abbrev ForProject : Target → List UnitTree → Refusal → Type 0
  ForProject target zs why = refusals_of_renaming files zs target new why

  of_project : (target : Target) (why : Refusal) → ForProject target us why → IsOfTheTarget why ⊎ IsOfHidden us why
  of_project target why (inl h) = inl (no_target target why h)
  of_project target why (inr (n, t)) = refused_so t.binder t.foot t.aims.1 t.is_foot why t.holds

  pub of_renaming : (target : Target) (why : Refusal) → Renames files target new (Err why) → IsOfTheTarget why ⊎ IsOfHidden us why
  of_renaming target why (inl h) = absurd (not_rejected why h)
  of_renaming target why (inr (zs, others, h)) =
      of_project target why (subst (λ (ws : List UnitTree). ForProject target ws why) (one_project files zs us others.reads accepts.reads) h)

-- ---- the laws

told_hidden : (us : List UnitTree) (why : Refusal) → IsOfTheTarget why ⊎ IsOfHidden us why → IsOfTheTarget why ⊎ WasHidden why
told_hidden us why (inl h) = inl h
told_hidden us why (inr h) = inr h.was

none_hidden : (us : List UnitTree) (why : Refusal) → HidesNothing us → IsOfTheTarget why ⊎ IsOfHidden us why → IsOfTheTarget why
none_hidden us why n (inl h) = h
none_hidden us why n (inr h) = absurd (n h.link h.among h.source)

pub unused_is_refused_so : UnusedIsRefusedSo
unused_is_refused_so files us target new why p accepts unused h = told_hidden us why (of_renaming files us new p accepts unused target why h)

pub nothing_is_hidden : NothingIsHidden
nothing_is_hidden files us target new why p accepts unused shown h =
    none_hidden us why shown (of_renaming files us new p accepts unused target why h)
