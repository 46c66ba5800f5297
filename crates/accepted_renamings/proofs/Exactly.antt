-- A renaming is accepted exactly if its map is valid and the limits hold.
use Rattle.std.proofs.Common.{◌≡◌, List, length, refl, sym, subst, ◌∙◌, Contains}
use Rattle.rotor_base.specs.declared.place.Place.{Place}
use Rattle.rotor_base.specs.declared.place.Foot.{Foot}
use Rattle.rotor_base.specs.declared.report.Renamed.{Renamed}
use Rattle.rotor_base.specs.declared.target.Target.{Target}
use Rattle.rotor_base.specs.Files.{FileSet, IsProject}
use Rattle.ml_trees.specs.Tree.{UnitTree}
use Rattle.shape_core.specs.Shape.{Name}
use Rattle.dependency_kernel.specs.Foot.{IsFoot}
use Rattle.dependency_kernel.proofs.Only.{is_the_only}
use Rattle.binding_model.specs.Facts.{facts}
use Rattle.binding_model.specs.Renaming.{name_of}
use Rattle.project_reading.specs.Reads.{Reads}
use Rattle.project_reading.proofs.OneReading.{one_project}
use Rattle.rename_model.specs.Foot.{IsTheFoot, refs_to, hits}
use Rattle.rename_model.specs.Report.{IsRenaming, hit_files}
use Rattle.rename_model.specs.Target.{Aims}
use Rattle.rename_model.proofs.One.{targets_have_one_goal}
use Rattle.rename_files.specs.Answer.{Accepts, Accepted}
use Rattle.rename_laws.proofs.Accepted.{renamable}
use Rattle.rename_laws.proofs.Kept as kept
use Rattle.accepted_renamings.specs.Laws.{CanTakeName, AcceptedExactly, MembersRenameTheSame}
use Rattle.accepted_renamings.proofs.Allowed.{binder_free, made, one_name}
use Rattle.facts_laws.proofs.Feet.{of_member}

-- ---- what is accepted can take the name

pub can_take : (files : FileSet) (target : Target) (new : Name) (done : Renamed) → IsProject files → (a : Accepted files target new done)
    → CanTakeName files a.project a.binder a.foot new
can_take files target new done p a =
    let h = renamable files target new done p a in
    record {
      other = (kept.free files a.project a.binder a.foot new h).other;
      valid = kept.valid files a.project a.binder a.foot new h done.files a.renaming.sources a.renaming.manifest;
      small = (kept.last files a.project a.binder a.foot new h).grown;
    }

-- the project, the binder and the footprint are those that are given
pub taken_there : (files : FileSet) (us : List UnitTree) (target : Target) (d : Place) (foot : Foot) (new : Name) (done : Renamed) → IsProject files
    → Reads files us
    → Aims files us target d → IsTheFoot us d foot → Accepted files target new done → CanTakeName files us d foot new
taken_there files us target d foot new done p reads aims is a =
    let project : a.project ≡ us = one_project files a.project us a.accepts.reads reads in
    let binder : a.binder ≡ d = targets_have_one_goal files us target a.binder d (subst (λ ws. Aims files ws target a.binder) project a.aims) aims in
    let its : IsFoot (facts us).links d a.foot =
    subst (λ q. IsFoot (facts us).links q a.foot) binder (subst (λ ws. IsFoot (facts ws).links a.binder a.foot) project a.is_foot) in
    let feet : a.foot ≡ foot = is_the_only (facts us).links d a.foot foot its is in
    subst (λ f. CanTakeName files us d f new) feet
    (subst (λ q. CanTakeName files us q a.foot new) binder
    (subst (λ ws. CanTakeName files ws a.binder a.foot new) project (can_take files target new done p a)))

-- ---- what can take the name is accepted

pub accepted_so : (files : FileSet) (us : List UnitTree) (target : Target) (d : Place) (foot : Foot) (new : Name) (done : Renamed) → IsProject files
    → Accepts files us
    → Aims files us target d → IsTheFoot us d foot → CanTakeName files us d foot new → IsRenaming files us d foot new done
    → Accepted files target new done
accepted_so files us target d foot new done p accepts aims is can renaming = record {
  project = us;
  binder = d;
  foot = foot;
  accepts = accepts;
  aims = aims;
  is_foot = is;
  none = binder_free files us d foot new p accepts aims.1 is can;
  renaming = renaming;
}

pub accepted_exactly : AcceptedExactly
accepted_exactly files us target d foot new p accepts aims is = (
  λ a. taken_there files us target d foot new a.0 p accepts.reads aims is a.1,
  λ can.
      let news = made files us d foot new p accepts aims.1 is can in
      let done : Renamed = record {
        files = record { entries = news.0; manifest = files.manifest };
        changed = hit_files (hits (facts us).refs foot) 0 files.entries;
        old = name_of us d;
        new = new;
        foot = foot;
        refs = length (refs_to foot (facts us).refs);
        undo_at = d;
      } in
      let is_done : IsRenaming files us d foot new done = record {
        sources = news.1;
        manifest = refl;
        changed = refl;
        old_name = refl;
        new_name = refl;
        footprint = refl;
        references = refl;
        target = refl;
      } in
      (done, accepted_so files us target d foot new done p accepts aims is can is_done),
)

-- ---- another member as target

pub members_rename_the_same : MembersRenameTheSame
members_rename_the_same files us target other new done member p a reads aims c =
    let vs = a.project in
    let d = a.binder in
    let links = (facts vs).links in
    let project : us ≡ vs = one_project files us vs reads a.accepts.reads in
    let there : Aims files vs other member = subst (λ ws. Aims files ws other member) project aims in
    let inside : Contains a.foot.decls member = subst (λ (f : Foot). Contains f.decls member) a.renaming.footprint c in
    let its : IsFoot links member a.foot = of_member links d member a.foot a.is_foot inside in
    let can : CanTakeName files vs d a.foot new = can_take files target new done p a in
    let name : name_of vs member ≡ name_of vs d = one_name files vs d a.foot new p a.accepts a.aims.1 a.is_foot can member inside in
    let too : CanTakeName files vs member a.foot new = record { other = λ e. can.other (e ∙ name); valid = can.valid; small = can.small } in
    let r = a.renaming in
    accepted_so files vs other member a.foot new (record done { undo_at = member }) p a.accepts there its too
    (record {
      sources = r.sources;
      manifest = r.manifest;
      changed = r.changed;
      old_name = r.old_name ∙ sym name;
      new_name = r.new_name;
      footprint = r.footprint;
      references = r.references;
      target = refl;
    })
