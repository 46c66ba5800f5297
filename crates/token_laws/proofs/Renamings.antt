-- `rename` answers the same.
use Rattle.std.proofs.Common.{◌≡◌, ◌⊎◌, ℕ, suc, inl, inr, List, [], ◌∷◌, cond, Result, Ok, Err, refl, ap, sym, subst, ◌∙◌}
use Rattle.std.specs.Prelude.{◌==◌}
use Rattle.std.specs.List.{list_any}
use Rattle.rotor_base.specs.Files.{FileSet, IsProject}
use Rattle.rotor_base.specs.declared.place.Foot.{Foot}
use Rattle.rotor_base.specs.declared.place.Place.{Place}
use Rattle.rotor_base.specs.declared.refusal.Refusal.{Refusal}
use Rattle.rotor_base.specs.declared.refusal.Refusal.TheVariants as refusal
use Rattle.rotor_base.specs.declared.report.Counts.{Counts}
use Rattle.rotor_base.specs.declared.report.Renamed.{Renamed}
use Rattle.rotor_base.specs.declared.source.SourceFile.{SourceFile}
use Rattle.rotor_base.specs.declared.target.Target.{Target}
use Rattle.ml_trees.specs.Tree.{UnitTree}
use Rattle.shape_core.specs.Shape.{Name}
use Rattle.dependency_kernel.proofs.Only.{is_the_only}
use Rattle.binding_model.specs.Facts.{facts}
use Rattle.binding_model.specs.Renaming.{renaming}
use Rattle.project_reading.proofs.OneReading.{one_project, read_or_refused}
use Rattle.rename_model.specs.Foot.{IsTheFoot, hits}
use Rattle.rename_model.specs.Project.{refusals_of_project}
use Rattle.rename_model.specs.Renaming.{HasNoTarget, refusals_of_binder, watch_of}
use Rattle.rename_model.specs.Report.{IsRenaming, hit_files}
use Rattle.rename_model.specs.Target.{Aims}
use Rattle.rename_model.proofs.One.{one_binder, targets_have_one_goal}
use Rattle.rename_files.specs.Answer.{Accepted, Accepts, Rejects, Renames}
use Rattle.rename_files.proofs.One.{one_check}
use Rattle.rename_laws.proofs.Accepted.{renamable}
use Rattle.rename_laws.proofs.Kept.{gives}
use Rattle.token_laws.specs.Tokens.{AllHaveSameTokens, DifferInBlanks, DoTheSame, NameTheSame}
use Rattle.token_laws.specs.Laws.{IsGrownAnswer, RenamingsAreTheSame}
use Rattle.token_laws.proofs.Files.{accepts_the_same, aims_the_same, differ_turned, no_target_the_same, readings_are_the_same, rejects_the_same}
use Rattle.token_laws.proofs.Files.{target_turned}
use Rattle.token_laws.proofs.Ladders.{IsOfGrowth, none_without, without}
use Rattle.token_laws.proofs.Respelled.{renamed_again}

-- ---- one files' refusals

not_both : (files : FileSet) (us : List UnitTree) (why : Refusal) → Accepts files us → Rejects files why → ⊥
not_both files us why a (inl h) = read_or_refused files us why a.reads h
not_both files us why a (inr h) = a.none (why, subst (λ vs. refusals_of_project vs why) (one_project files h.0 us h.1 a.reads) h.2)

err_is : (a b : Refusal) → ◌≡◌ {A = Result Counts Refusal} (Err a) (Err b) → a ≡ b
err_is a b e = cc

aimed : (files : FileSet) (us : List UnitTree) (target : Target) (d : Place) (why : Refusal) → Aims files us target d
    → HasNoTarget files us target why → ⊥
aimed files us target d refusal.NoTarget a h = h d a
aimed files us target d _ a h = h

one_no_target : (files : FileSet) (us : List UnitTree) (target : Target) (a b : Refusal) → HasNoTarget files us target a
    → HasNoTarget files us target b → a ≡ b
one_no_target files us target refusal.NoTarget refusal.NoTarget h k = refl
one_no_target files us target refusal.NoTarget _ h k = absurd k
one_no_target files us target _ _ h k = absurd h

-- ---- refusals without Grown

module _ (files : FileSet) (target : Target) (new : Name) where
  -- of a binder and its footprint
  pub record IsBare (us : List UnitTree) (why : Refusal) : Type 0 where
    pub binder : Place
    pub foot : Foot
    pub aims : Aims files us target binder
    pub is_foot : IsTheFoot us binder foot
    pub holds : refusals_of_binder [] us binder foot new why

  -- of a renaming
  abbrev pub IsBareRefusal : Refusal → Type 0
  IsBareRefusal why = Rejects files why ⊎ ((us : List UnitTree) × Accepts files us × (HasNoTarget files us target why ⊎ IsBare us why))

  pub bare : (why : Refusal) → (IsOfGrowth why → ⊥) → Renames files target new (Err why) → IsBareRefusal why
  bare why n (inl h) = inl h
  bare why n (inr (us, accepts, inl h)) = inr (us, accepts, inl h)
  bare why n (inr (us, accepts, inr (k, t))) = inr (
    us,
    accepts,
    inr (record {
      binder = t.binder;
      foot = t.foot;
      aims = t.aims;
      is_foot = t.is_foot;
      holds = without files.entries us t.binder t.foot new why n t.holds;
    }),
  )

  -- the binder and the footprint of the target are one
  module _ (us vs : List UnitTree) (d e : Place) (f g : Foot) (same : vs ≡ us) (ad : Aims files us target d) (ae : Aims files vs target e)
      (fd : IsTheFoot us d f) (ge : IsTheFoot vs e g) where
    binders : e ≡ d
    binders = targets_have_one_goal files us target e d (subst (λ ws. Aims files ws target e) same ae) ad

    feet : g ≡ f
    feet = is_the_only (facts us).links d g f (subst (λ p. IsTheFoot us p g) binders (subst (λ ws. IsTheFoot ws e g) same ge)) fd

    pub moved : (P : List UnitTree → Place → Foot → Type 0) → P vs e g → P us d f
    moved P h = subst (P us d) feet (subst (λ p. P us p g) binders (subst (λ ws. P ws e g) same h))

  bare_here : (us vs : List UnitTree) (why : Refusal) (same : vs ≡ us) (d : Place) (foot : Foot) → Aims files us target d → IsTheFoot us d foot
      → IsBare vs why → refusals_of_binder [] us d foot new why
  bare_here us vs why same d foot aims is b =
      moved us vs d b.binder foot b.foot same aims b.aims is b.is_foot (λ ws p x. refusals_of_binder [] ws p x new why) b.holds

  one_of_project : (us : List UnitTree) (a b : Refusal) → HasNoTarget files us target a ⊎ IsBare us a → HasNoTarget files us target b ⊎ IsBare us b
      → a ≡ b
  one_of_project us a b (inl h) (inl k) = one_no_target files us target a b h k
  one_of_project us a b (inl h) (inr k) = absurd (aimed files us target k.binder a k.aims h)
  one_of_project us a b (inr h) (inl k) = absurd (aimed files us target h.binder b h.aims k)
  one_of_project us a b (inr h) (inr k) =
      one_binder [] us h.binder h.foot new a b h.holds (bare_here us us b refl h.binder h.foot h.aims h.is_foot k)

  pub one_bare : (a b : Refusal) → IsBareRefusal a → IsBareRefusal b → a ≡ b
  one_bare a b (inl h) (inl k) = err_is a b (one_check files (Err a) (Err b) h k)
  one_bare a b (inl h) (inr k) = absurd (not_both files k.0 a k.1 h)
  one_bare a b (inr h) (inl k) = absurd (not_both files h.0 b h.1 k)
  one_bare a b (inr h) (inr k) =
      let same : k.0 ≡ h.0 = one_project files k.0 h.0 k.1.reads h.1.reads in
      one_of_project h.0 a b h.2 (subst (λ us. HasNoTarget files us target b ⊎ IsBare us b) same k.2)

  -- what is accepted has none
  pub none_bare : (done : Renamed) (why : Refusal) → Accepted files target new done → IsBareRefusal why → ⊥
  none_bare done why a (inl h) = not_both files a.project why a.accepts h
  none_bare done why a (inr (us, accepts, inl h)) =
      let same : us ≡ a.project = one_project files us a.project accepts.reads a.accepts.reads in
      aimed files a.project target a.binder why a.aims (subst (λ ws. HasNoTarget files ws target why) same h)
  none_bare done why a (inr (us, accepts, inr h)) =
      let same : us ≡ a.project = one_project files us a.project accepts.reads a.accepts.reads in
      none_without files.entries a.project a.binder a.foot new a.none why (bare_here a.project us why same a.binder a.foot a.aims a.is_foot h)

-- ---- the same in the other files

module _ (one other : FileSet) (t u : Target) (new : Name) (d : DifferInBlanks one other) (n : NameTheSame one other t u) where
  bare_there : (why : Refusal) → IsBareRefusal one t new why → IsBareRefusal other u new why
  bare_there why (inl h) = inl (rejects_the_same one other why d h)
  bare_there why (inr (us, accepts, inl h)) =
      inr (us, accepts_the_same one other us d accepts, inl (no_target_the_same one other us t u why d n h))
  bare_there why (inr (us, accepts, inr h)) = inr (
    us,
    accepts_the_same one other us d accepts,
    inr (record {
      binder = h.binder;
      foot = h.foot;
      aims = aims_the_same one other us t u h.binder d n h.aims;
      is_foot = h.is_foot;
      holds = h.holds;
    }),
  )

  same_hits : (ps : List Place) (k : ℕ) (ones others : List SourceFile) → AllHaveSameTokens ones others → hit_files ps k ones ≡ hit_files ps k others
  same_hits ps k [] [] h = refl
  same_hits ps k [] (b ∷ others) h = absurd h
  same_hits ps k (a ∷ ones) [] h = absurd h
  same_hits ps k (a ∷ ones) (b ∷ others) h =
      ap (λ rest. cond (list_any (λ p. p.file == k) ps) (k ∷ rest) rest) (same_hits ps (suc k) ones others h.1)

  pub both_done : (a b : Renamed) → IsProject one → IsProject other → Accepted one t new a → Accepted other u new b → DoTheSame a b
  both_done a b p q h k =
      let us = h.project in
      let reread = readings_are_the_same one other us d h.accepts.reads in
      let same : k.project ≡ us = one_project other k.project us k.accepts.reads reread in
      let r : IsRenaming other us h.binder h.foot new b =
      moved other u new us k.project h.binder k.binder h.foot k.foot same (aims_the_same one other us t u h.binder d n h.aims) k.aims h.is_foot
      k.is_foot (λ ws x f. IsRenaming other ws x f new b) k.renaming in
      let w = renaming (watch_of us h.binder h.foot new) in
      let give = gives one us h.binder h.foot new (renamable one t new a p h) in
      record {
        files = renamed_again one other a.files b.files us w p q d h.accepts.reads reread give
            (record { sources = h.renaming.sources; manifest = h.renaming.manifest }) (record { sources = r.sources; manifest = r.manifest });
        changed = h.renaming.changed
            ∙ (same_hits (hits (facts us).refs h.foot) 0 one.entries other.entries d.sources ∙ sym r.changed);
        old = h.renaming.old_name ∙ sym r.old_name;
        new = h.renaming.new_name ∙ sym r.new_name;
        foot = h.renaming.footprint ∙ sym r.footprint;
        refs = h.renaming.references ∙ sym r.references;
        undo_at = h.renaming.target ∙ sym r.target;
      }

not_growth : (why : Refusal) → (IsGrownAnswer (Err why) → ⊥) → IsOfGrowth why → ⊥
not_growth why g h = g (h.0, ap (λ (x : Refusal). Err x) h.1)

pub renamings_are_the_same : RenamingsAreTheSame
renamings_are_the_same one other t u new (Ok a) (Ok b) p q d n h k g e = both_done one other t u new d n a b p q h k
renamings_are_the_same one other t u new (Ok a) (Err b) p q d n h k g e =
    none_bare one t new a b h
    (bare_there other one u t new (differ_turned one other d) (target_turned one other t u n) b (bare other u new b (not_growth b e) k))
renamings_are_the_same one other t u new (Err a) (Ok b) p q d n h k g e =
    none_bare other u new b a k (bare_there one other t u new d n a (bare one t new a (not_growth a g) h))
renamings_are_the_same one other t u new (Err a) (Err b) p q d n h k g e =
    one_bare other u new a b (bare_there one other t u new d n a (bare one t new a (not_growth a g) h)) (bare other u new b (not_growth b e) k)
