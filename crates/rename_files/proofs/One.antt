-- A call has at most one answer for the same files and arguments.
use Rattle.std.proofs.Common.{◌≡◌, inl, inr, List, Ok, Err, refl, ap, sym, subst, ◌∙◌}
use Rattle.rotor_base.specs.declared.place.Place.{Place}
use Rattle.rotor_base.specs.declared.place.Foot.{Foot}
use Rattle.rotor_base.specs.declared.refusal.Refusal.{Refusal}
use Rattle.rotor_base.specs.declared.refusal.Refusal.TheVariants as refusal
use Rattle.rotor_base.specs.declared.report.Renamed.{Renamed}
use Rattle.rotor_base.specs.declared.target.Target.{Target}
use Rattle.rotor_base.specs.Files.{FileSet}
use Rattle.dependency_kernel.specs.Foot.{IsFoot}
use Rattle.dependency_kernel.proofs.Only.{is_the_only}
use Rattle.ml_trees.specs.Tree.{UnitTree}
use Rattle.shape_core.specs.Shape.{Name}
use Rattle.binding_model.specs.Facts.{facts}
use Rattle.project_reading.specs.Reads.{Reads}
use Rattle.project_reading.proofs.OneReading.{one_project, one_refusal, read_or_refused}
use Rattle.rename_model.specs.Target.{Aims}
use Rattle.rename_model.specs.Project.{refusals_of_project, counts_of}
use Rattle.rename_model.specs.Renaming.{HasNoTarget, refusals_of_binder, refusals_of_renaming, renamed_words, watch_of}
use Rattle.rename_model.specs.Report.{shown_of, IsRenaming}
use Rattle.rename_model.proofs.One.{projects_are_refused_once, targets_have_one_goal, renamings_are_refused_once, one_sources}
use Rattle.rename_files.specs.Answer.{Accepts, Rejects, Accepted}
use Rattle.rename_files.specs.Laws.{OneCheck, OneFootprint, OneRenaming}

same_project : (files : FileSet) (us vs : List UnitTree) → Reads files us → Reads files vs → us ≡ vs
same_project files us vs h k = one_project files us vs h k

rejects_one : (files : FileSet) (a b : Refusal) → Rejects files a → Rejects files b → a ≡ b
rejects_one files a b (inl h) (inl k) = one_refusal files a b h k
rejects_one files a b (inl h) (inr k) = absurd (read_or_refused files k.0 a k.1 h)
rejects_one files a b (inr h) (inl k) = absurd (read_or_refused files h.0 b h.1 k)
rejects_one files a b (inr h) (inr k) =
    projects_are_refused_once k.0 a b (subst (λ us. refusals_of_project us a) (same_project files h.0 k.0 h.1 k.1) h.2) k.2

not_both : (files : FileSet) (us : List UnitTree) (why : Refusal) → Accepts files us → Rejects files why → ⊥
not_both files us why a (inl h) = read_or_refused files us why a.reads h
not_both files us why a (inr h) = a.none (why, subst (λ vs. refusals_of_project vs why) (same_project files h.0 us h.1 a.reads) h.2)

pub one_check : OneCheck
one_check files (Ok a) (Ok b) h k = ap Ok (h.2 ∙ (ap (counts_of files.entries) (same_project files h.0 k.0 h.1.reads k.1.reads) ∙ sym k.2))
one_check files (Ok a) (Err b) h k = absurd (not_both files h.0 b h.1 k)
one_check files (Err a) (Ok b) h k = absurd (not_both files k.0 a k.1 h)
one_check files (Err a) (Err b) h k = ap Err (rejects_one files a b h k)

no_target : (files : FileSet) (us : List UnitTree) (target : Target) (a b : Refusal) → HasNoTarget files us target a → HasNoTarget files us target b
    → a ≡ b
no_target files us target refusal.NoTarget refusal.NoTarget h k = refl
no_target files us target refusal.NoTarget _ h k = absurd k
no_target files us target _ _ h k = absurd h

aimed : (files : FileSet) (us : List UnitTree) (target : Target) (d : Place) (why : Refusal) → Aims files us target d
    → HasNoTarget files us target why → ⊥
aimed files us target d refusal.NoTarget a h = h d a
aimed files us target d _ a h = h

-- the binder and the footprint of two answers are one
module _ (files : FileSet) (target : Target) (us vs : List UnitTree) (d e : Place) (f g : Foot) (same : us ≡ vs) (ad : Aims files us target d)
    (ae : Aims files vs target e) (fd : IsFoot (facts us).links d f) (ge : IsFoot (facts vs).links e g) where
  binders : d ≡ e
  binders = targets_have_one_goal files vs target d e (subst (λ ws. Aims files ws target d) same ad) ae

  foots : f ≡ g
  foots = is_the_only (facts vs).links e f g (subst (λ p. IsFoot (facts vs).links p f) binders (subst (λ ws. IsFoot (facts ws).links d f) same fd)) ge

shown_one : (us vs : List UnitTree) (d e : Place) (f g : Foot) → us ≡ vs → d ≡ e → f ≡ g → shown_of us d f ≡ shown_of vs e g
shown_one us vs d e f g i j k = ap (λ ws. shown_of ws d f) i ∙ (ap (λ p. shown_of vs p f) j ∙ ap (shown_of vs e) k)

pub one_footprint : OneFootprint
one_footprint files target (Ok a) (Ok b) h k =
    let i = same_project files h.project k.project h.accepts.reads k.accepts.reads in
    let j = binders files target h.project k.project h.binder k.binder h.foot k.foot i h.aims k.aims h.is_foot k.is_foot in
    let l = foots files target h.project k.project h.binder k.binder h.foot k.foot i h.aims k.aims h.is_foot k.is_foot in
    ap Ok (h.report ∙ (shown_one h.project k.project h.binder k.binder h.foot k.foot i j l ∙ sym k.report))
one_footprint files target (Ok a) (Err b) h (inl k) = absurd (not_both files h.project b h.accepts k)
one_footprint files target (Ok a) (Err b) h (inr k) =
    absurd (aimed files k.0 target h.binder b
    (subst (λ ws. Aims files ws target h.binder) (same_project files h.project k.0 h.accepts.reads k.1.reads) h.aims) k.2)
one_footprint files target (Err a) (Ok b) (inl h) k = absurd (not_both files k.project a k.accepts h)
one_footprint files target (Err a) (Ok b) (inr h) k =
    absurd (aimed files h.0 target k.binder a
    (subst (λ ws. Aims files ws target k.binder) (same_project files k.project h.0 k.accepts.reads h.1.reads) k.aims) h.2)
one_footprint files target (Err a) (Err b) (inl h) (inl k) = ap Err (rejects_one files a b h k)
one_footprint files target (Err a) (Err b) (inl h) (inr k) = absurd (not_both files k.0 a k.1 h)
one_footprint files target (Err a) (Err b) (inr h) (inl k) = absurd (not_both files h.0 b h.1 k)
one_footprint files target (Err a) (Err b) (inr h) (inr k) =
    ap Err (no_target files k.0 target a b (subst (λ ws. HasNoTarget files ws target a) (same_project files h.0 k.0 h.1.reads k.1.reads) h.2) k.2)

-- two reports of one renaming
done_one : (files : FileSet) (us : List UnitTree) (d : Place) (foot : Foot) (new : Name) (a b : Renamed) → IsRenaming files us d foot new a
    → IsRenaming files us d foot new b → a ≡ b
done_one files us d foot new a b h k =
    let entries : a.files.entries ≡ b.files.entries =
    one_sources (renamed_words us (watch_of us d foot new)) 0 files.entries a.files.entries b.files.entries h.sources k.sources in
    let manifest : a.files.manifest ≡ b.files.manifest = h.manifest ∙ sym k.manifest in
    let changed : a.changed ≡ b.changed = h.changed ∙ sym k.changed in
    let old : a.old ≡ b.old = h.old_name ∙ sym k.old_name in
    let name : a.new ≡ b.new = h.new_name ∙ sym k.new_name in
    let feet : a.foot ≡ b.foot = h.footprint ∙ sym k.footprint in
    let refs : a.refs ≡ b.refs = h.references ∙ sym k.references in
    let at : a.undo_at ≡ b.undo_at = h.target ∙ sym k.target in
    let all : a.files ≡ b.files = ap (λ es. record { entries = es; manifest = a.files.manifest }) entries
    ∙ ap (λ m. record { entries = b.files.entries; manifest = m }) manifest in
    ap (λ x. record a { files = x }) all
    ∙ (ap (λ x. record a { files = b.files; changed = x }) changed
    ∙ (ap (λ x. record a { files = b.files; changed = b.changed; old = x }) old
    ∙ (ap (λ x. record a { files = b.files; changed = b.changed; old = b.old; new = x }) name
    ∙ (ap (λ x. record a { files = b.files; changed = b.changed; old = b.old; new = b.new; foot = x }) feet
    ∙ (ap (λ x. record a { files = b.files; changed = b.changed; old = b.old; new = b.new; foot = b.foot; refs = x }) refs
    ∙ ap (λ x. record b { undo_at = x }) at)))))

not_renamed : (files : FileSet) (target : Target) (new : Name) (done : Renamed) (vs : List UnitTree) (why : Refusal) → Accepted files target new done
    → Accepts files vs → refusals_of_renaming files vs target new why → ⊥
not_renamed files target new done vs why h a (inl n) =
    aimed files vs target h.binder why (subst (λ ws. Aims files ws target h.binder) (same_project files h.project vs h.accepts.reads a.reads) h.aims)
    n
not_renamed files target new done vs why h a (inr n) =
    let t = n.1 in
    let i = same_project files vs h.project a.reads h.accepts.reads in
    let j = binders files target vs h.project t.binder h.binder t.foot h.foot i t.aims h.aims t.is_foot h.is_foot in
    let l = foots files target vs h.project t.binder h.binder t.foot h.foot i t.aims h.aims t.is_foot h.is_foot in
    h.none (
      why,
      subst (λ f. refusals_of_binder files.entries h.project h.binder f new why) l
          (subst (λ p. refusals_of_binder files.entries h.project p t.foot new why) j
          (subst (λ ws. refusals_of_binder files.entries ws t.binder t.foot new why) i t.holds)),
    )

pub one_renaming : OneRenaming
one_renaming files target new (Ok a) (Ok b) h k =
    let i = same_project files h.project k.project h.accepts.reads k.accepts.reads in
    let j = binders files target h.project k.project h.binder k.binder h.foot k.foot i h.aims k.aims h.is_foot k.is_foot in
    let l = foots files target h.project k.project h.binder k.binder h.foot k.foot i h.aims k.aims h.is_foot k.is_foot in
    ap Ok (done_one files k.project k.binder k.foot new a b
    (subst (λ f. IsRenaming files k.project k.binder f new a) l
    (subst (λ p. IsRenaming files k.project p h.foot new a) j (subst (λ ws. IsRenaming files ws h.binder h.foot new a) i h.renaming))) k.renaming)
one_renaming files target new (Ok a) (Err b) h (inl k) = absurd (not_both files h.project b h.accepts k)
one_renaming files target new (Ok a) (Err b) h (inr k) = absurd (not_renamed files target new a k.0 b h k.1 k.2)
one_renaming files target new (Err a) (Ok b) (inl h) k = absurd (not_both files k.project a k.accepts h)
one_renaming files target new (Err a) (Ok b) (inr h) k = absurd (not_renamed files target new b h.0 a k h.1 h.2)
one_renaming files target new (Err a) (Err b) (inl h) (inl k) = ap Err (rejects_one files a b h k)
one_renaming files target new (Err a) (Err b) (inl h) (inr k) = absurd (not_both files k.0 a k.1 h)
one_renaming files target new (Err a) (Err b) (inr h) (inl k) = absurd (not_both files h.0 b h.1 k)
one_renaming files target new (Err a) (Err b) (inr h) (inr k) =
    ap Err (renamings_are_refused_once files k.0 target new a b
    (subst (λ ws. refusals_of_renaming files ws target new a) (same_project files h.0 k.0 h.1.reads k.1.reads) h.2) k.2)
