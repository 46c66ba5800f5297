-- Runs that are kept twice are kept.
use Rattle.std.proofs.Common.{◌≡◌, ◌∙◌, List, ap}
use Rattle.ml_trees.specs.Tree.{UnitTree}
use Rattle.module_meaning.specs.Run.{run}
use Rattle.project_reading.proofs.OneReading.{one_project}
use Rattle.rename_laws.specs.Laws.{KeptRunsGoOn}

pub kept_runs_go_on : KeptRunsGoOn
kept_runs_go_on first middle last a b =
    let same : b.project ≡ a.renamed = one_project middle b.project a.renamed b.reads a.still in
    record {
      project = a.project;
      renamed = b.renamed;
      reads = a.reads;
      still = b.still;
      same = λ n. b.same n ∙ (ap (λ (us : List UnitTree). run n us) same ∙ a.same n);
    }
