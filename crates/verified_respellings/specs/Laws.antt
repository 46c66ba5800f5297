-- What `verify` says of files that are validly renamed, and of what a batch leaves (own).
use Rattle.std.specs.Prelude.{◌≢◌, List, [], Result, Ok}
use Rattle.std.specs.Global.{Vec}
use Rattle.rotor_base.specs.declared.refusal.Refusal.{Refusal}
use Rattle.rotor_base.specs.Files.{FileSet, IsProject}
use Rattle.ml_trees.specs.Tree.{UnitTree}
use Rattle.accepted_renamings.specs.Laws.{AreValidlyRenamed}
use Rattle.rename_batch.specs.declared.step.Batched.{Batched}
use Rattle.rename_batch.specs.declared.step.Step.{Step}
use Rattle.rename_batch.specs.Batch.{Batches}
use Rattle.rename_files.specs.Answer.{Accepts}
use Rattle.rename_verify.specs.declared.verdict.Verdict.{Verdict}
use Rattle.rename_verify.specs.declared.verdict.Verdict.TheVariants.{Yes}
use Rattle.rename_verify.specs.Changed.{Changed}
use Rattle.rename_verify.specs.Laws.{IsValidRespelling, IsYesAnswer}
use Rattle.rename_verify.specs.Verdict.{Verdicts}

-- Law: files that are validly renamed are a valid respelling of the old ones, if `check` accepts these
abbrev pub ValidlyRenamedAreVerified : Type 0
ValidlyRenamedAreVerified =
    (old new : FileSet) (us : List UnitTree) → IsProject old → Accepts old us → AreValidlyRenamed old new → IsValidRespelling old new

-- Law: files to which the verdict is yes are validly renamed
abbrev pub VerifiedAreValidlyRenamed : Type 0
VerifiedAreValidlyRenamed =
    (old new : FileSet) (list : Vec Changed) → IsProject old → IsProject new → Verdicts old new (Ok (Yes list)) → AreValidlyRenamed old new

-- Law: each verdict on what a batch leaves is yes
abbrev pub BatchesSayYes : Type 0
BatchesSayYes =
    (files : FileSet) (steps : List Step) (done : Batched) (answer : Result Verdict Refusal) → IsProject files → steps ≢ []
    → Batches files steps (Ok done) → Verdicts files done.files answer → IsYesAnswer answer

-- Law: if the verdict is yes from the first files to the next, and from these to the last, each verdict from the first to
-- the last is yes
abbrev pub YesGoesOn : Type 0
YesGoesOn =
    (first next last : FileSet) (one other : Vec Changed) (answer : Result Verdict Refusal) → IsProject first → IsProject next → IsProject last
    → Verdicts first next (Ok (Yes one)) → Verdicts next last (Ok (Yes other)) → Verdicts first last answer → IsYesAnswer answer

-- Law: the verdict from files that `check` accepts to themselves is yes
abbrev pub SaysYesOfItself : Type 0
SaysYesOfItself =
    (files : FileSet) (us : List UnitTree) (answer : Result Verdict Refusal) → IsProject files → Accepts files us → Verdicts files files answer
    → IsYesAnswer answer

-- Law: if the verdict is yes from old files to new ones, each verdict from the new ones to the old ones is yes
abbrev pub YesGoesBack : Type 0
YesGoesBack =
    (old new : FileSet) (list : Vec Changed) (answer : Result Verdict Refusal) → IsProject old → IsProject new
    → Verdicts old new (Ok (Yes list)) → Verdicts new old answer → IsYesAnswer answer
