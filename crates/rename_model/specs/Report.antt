-- What `footprint` shows, and what `rename` has done (own).
use Rattle.std.specs.Prelude.{◌≡◌, ℕ, suc, List, [], ◌∷◌, length, ◌==◌, if◌then◌else◌}
use Rattle.std.specs.List.{list_any}
use Rattle.rotor_base.specs.declared.place.Place.{Place}
use Rattle.rotor_base.specs.declared.place.Foot.{Foot}
use Rattle.rotor_base.specs.declared.report.FootReport.{FootReport}
use Rattle.rotor_base.specs.declared.report.Renamed.{Renamed}
use Rattle.rotor_base.specs.declared.source.SourceFile.{SourceFile}
use Rattle.rotor_base.specs.Files.{FileSet}
use Rattle.ml_syntax.specs.RespelledSource.{AreRespelled}
use Rattle.ml_trees.specs.Tree.{UnitTree}
use Rattle.shape_core.specs.Shape.{Name}
use Rattle.binding_model.specs.Facts.{facts}
use Rattle.binding_model.specs.Renaming.{name_of, in_file}
use Rattle.rename_model.specs.Foot.{refs_to, hits}
use Rattle.rename_model.specs.Renaming.{watch_of, renamed_words}

-- the name of a binder, its footprint, and the number of references to it
abbrev pub shown_of : List UnitTree → Place → Foot → FootReport
shown_of us d foot = record { old = name_of us d; foot = foot; refs = length (refs_to foot (facts us).refs) }

-- the numbers of the sources that have one of some places, from a number on
abbrev pub hit_files : List Place → ℕ → List SourceFile → List ℕ
hit_files ps n [] = []
hit_files ps n (file ∷ files) = if list_any (λ p. p.file == n) ps then n ∷ hit_files ps (suc n) files else hit_files ps (suc n) files

-- what `rename` has done, if it is accepted
pub record IsRenaming (files : FileSet) (us : List UnitTree) (d : Place) (foot : Foot) (new : Name) (done : Renamed) : Type 0 where
  pub sources : AreRespelled (in_file (renamed_words us (watch_of us d foot new))) 0 files.entries done.files.entries
  pub manifest : done.files.manifest ≡ files.manifest
  pub changed : done.changed ≡ hit_files (hits (facts us).refs foot) 0 files.entries
  pub old_name : done.old ≡ name_of us d
  pub new_name : done.new ≡ new
  pub footprint : done.foot ≡ foot
  pub references : done.refs ≡ length (refs_to foot (facts us).refs)
  pub target : done.undo_at ≡ d
