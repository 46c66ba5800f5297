-- The renaming of the sample is undone.
use Rattle.std.proofs.Common.{◌≡◌, ◌∙◌, ap, sym, subst, ℕ, List, Option, Some, None, option_map, Result, Ok, Err, IfOk, IfErr, slice_get}
use Rattle.std.proofs.lemmas.Option.{slice_get-map}
use Rattle.rotor_base.specs.Files.{FileSet, IsProject, names_of}
use Rattle.rotor_base.specs.declared.refusal.Refusal.{Refusal}
use Rattle.rotor_base.specs.declared.report.Renamed.{Renamed}
use Rattle.rotor_base.specs.declared.source.SourceFile.{SourceFile}
use Rattle.rotor_base.specs.declared.target.Target.{Target}
use Rattle.rotor_base.specs.declared.target.Target.TheVariants.{At}
use Rattle.rename_files.specs.Answer.{Renames}
use Rattle.rename_project.specs.Steps.{IsRefusedFor}
use Rattle.rename_files.specs.Laws.{OneRenaming}
use Rattle.rename_laws.specs.Laws.{RenamingsAreUndone, UndosHavePlaces}
use Rattle.sample_project.specs.Sample.{name_of, undo_target, IsUndone}
use Rattle.sample_project.specs.Sources.{sample_files}
use Rattle.sample_project.proofs.Taken.{are_sources, taken}

pub is_project : (n : ℕ) → IsProject (sample_files n)
is_project n = record { sources = are_sources n; taken = taken n }

named_at : (entries : List SourceFile) (k : ℕ) (source : List ℕ) → slice_get (names_of entries) k ≡ Some source
    → name_of (slice_get entries k) ≡ source
named_at entries k source e = by (slice_get entries k) (sym (slice_get-map (λ (file : SourceFile). file.name) entries k) ∙ e) where
  by : (o : Option SourceFile) → option_map (λ (file : SourceFile). file.name) o ≡ Some source → name_of o ≡ source
  by (Some file) h = cc
  by None h = cc

pub is_undone : RenamingsAreUndone → UndosHavePlaces → (files : FileSet) (target : Target) (new : List ℕ) (done : Renamed) → IsProject files
    → Renames files target new (Ok done) → IsUndone files done
is_undone undone places files target new done p r =
    let place = places files target new done p r in
    let back = undone files target new done p r place.source place.number in
    let name : name_of (slice_get files.entries done.undo_at.file) ≡ place.source =
    named_at files.entries done.undo_at.file place.source place.source_at in
    (back.0, subst (λ (source : List ℕ). Renames done.files (At source done.undo_at.token) done.old (Ok back.0)) (sym name) back.1, back.2)

pub given_back : OneRenaming → (files : FileSet) (done back : Renamed) → IsUndone files done
    → Renames done.files (undo_target files.entries done) done.old (Ok back) → back.files ≡ files
given_back one files done back u r = ap files_of (one done.files (undo_target files.entries done) done.old (Ok back) (Ok u.0) r u.1) ∙ u.2 where
  files_of : Result Renamed Refusal → FileSet
  files_of (Ok d) = d.files
  files_of (Err why) = files

-- ---- what is said of equal files, targets and names

pub same_done : (files others : FileSet) (t u : Target) (new : List ℕ) (r : Result Renamed Refusal) → files ≡ others → t ≡ u
    → IfOk r (λ done. Renames files t new (Ok done)) → IfOk r (λ done. Renames others u new (Ok done))
same_done files others t u new r f e h =
    subst (λ (w : Target). IfOk r (λ done. Renames others w new (Ok done))) e
    (subst (λ (fs : FileSet). IfOk r (λ done. Renames fs t new (Ok done))) f h)

pub same_refused : (files others : FileSet) (t u : Target) (new : List ℕ) (r : Result Renamed Refusal) → files ≡ others → t ≡ u
    → IfErr r (IsRefusedFor (λ why. Renames files t new (Err why))) → IfErr r (IsRefusedFor (λ why. Renames others u new (Err why)))
same_refused files others t u new r f e h =
    subst (λ (w : Target). IfErr r (IsRefusedFor (λ why. Renames others w new (Err why)))) e
    (subst (λ (fs : FileSet). IfErr r (IsRefusedFor (λ why. Renames fs t new (Err why)))) f h)

pub done_is_undone : RenamingsAreUndone → UndosHavePlaces → (n : ℕ) (files : FileSet) (target : Target) (new : List ℕ) (r : Result Renamed Refusal)
    → files ≡ sample_files n
    → IfOk r (λ done. Renames files target new (Ok done)) → IfOk r (IsUndone files)
done_is_undone undone places n files target new (Ok done) same h =
    is_undone undone places files target new done (subst IsProject (sym same) (is_project n)) h
done_is_undone undone places n files target new (Err why) same h = tt

pub sample_is_undone : RenamingsAreUndone → UndosHavePlaces → (n : ℕ) (files : FileSet) (target : Target) (new : List ℕ) (r : Result Renamed Refusal)
    → files ≡ sample_files n
    → IfOk r (λ done. Renames files target new (Ok done)) → IfOk r (IsUndone (sample_files n))
sample_is_undone undone places n files target new r same h =
    subst (λ (fs : FileSet). IfOk r (IsUndone fs)) same (done_is_undone undone places n files target new r same h)

pub given_back_by : OneRenaming → (files : FileSet) (done back : Renamed) (undo : Target) (old : List ℕ) (entries : List SourceFile)
    → undo ≡ undo_target entries done → entries ≡ files.entries → old ≡ done.old → IsUndone files done → Renames done.files undo old (Ok back)
    → back.files ≡ files
given_back_by one files done back undo old entries e same name u r =
    let at = e ∙ ap (λ (es : List SourceFile). undo_target es done) same in
    given_back one files done back u
    (subst (λ (w : Target). Renames done.files w done.old (Ok back)) at (subst (λ (o : List ℕ). Renames done.files undo o (Ok back)) name r))
