-- What the program says (own).
use Rattle.std.specs.Prelude.{◌≡◌, ◌⊎◌, ℕ, List, Bool, Option, None, Some, Ok, Err, IfSome, String}
use Rattle.std.specs.declared.alloc.Global.{Global}
use Rattle.rotor_base.specs.Files.{FileSet}
use Rattle.rotor_base.specs.declared.refusal.LoadError.{LoadError}
use Rattle.tree_io.specs.Outside.{FileMap, Takes}
use Rattle.project_load.specs.Load.{loaded}
use Rattle.folder_messages.specs.Folder.{message_of}
use Rattle.report.specs.Pieces.{Word}
use Rattle.explain.specs.declared.ending.Ending.TheVariants.{Project}
use Rattle.explain.specs.declared.explanation.Explanation.{Explanation}
use Rattle.explain.specs.Says.{SaysCheck, SaysFootprint, SaysRename}
use Rattle.explain.specs.Explanation.{explanation_of_message, explanation_text}
use Rattle.explain_at.specs.At.{SaysAt}
use Rattle.explain_batch.specs.File.{SaysBatch, batch_in}
use Rattle.explain_recover.specs.Recovery.{SaysRecovery}
use Rattle.explain_verify.specs.Verified.{SaysVerify}
use Rattle.explain_main.specs.declared.code.ExitStatus.{ExitStatus}
use Rattle.explain_main.specs.declared.code.ExitStatus.TheVariants as status
use Rattle.explain_main.specs.declared.words.Asked.{Asked}
use Rattle.explain_main.specs.declared.words.Question.{Question}
use Rattle.explain_main.specs.declared.words.Question.TheVariants as question
use Rattle.explain_main.specs.declared.words.FilesQuestion.{FilesQuestion}
use Rattle.explain_main.specs.declared.words.FilesQuestion.TheVariants as over
use Rattle.explain_main.specs.Code.{status_of}
use Rattle.explain_main.specs.Words.{asked_in}

-- what is said of a question over the files of a project, for people or for tools
abbrev pub SaysOver : FilesQuestion → Bool → FileSet → Explanation → Type 0
SaysOver over.Check for_tools files explanation = SaysCheck files explanation
SaysOver (over.Footprint target) for_tools files explanation = SaysFootprint files target explanation
SaysOver (over.Rename target name) for_tools files explanation = SaysRename files target name for_tools explanation
SaysOver (over.At word) for_tools files explanation = SaysAt files word explanation

-- what is said of the batch in a file of a folder, over the files of a project
abbrev pub SaysBatchIn : Option FileMap → Word → FileSet → Explanation → Type 0
SaysBatchIn content file files explanation = IfSome content (λ held. SaysBatch file (batch_in held file) files explanation)

-- what is said of a folder that does not load: the message of the reason, with what the folder has
abbrev pub IsUnloaded : Option FileMap → LoadError → Explanation → Type 0
IsUnloaded content why explanation = IfSome content (λ held. explanation ≡ explanation_of_message Project (message_of why held))

-- what is said over a folder: of the files that it loads as; or of the folder, if it does not load
abbrev pub SaysFiles : Option FileMap → (FileSet → Explanation → Type 0) → Explanation → Type 0
SaysFiles content says explanation =
    ((files : FileSet) × IfSome content (λ held. loaded held ≡ Ok files) × says files explanation)
    ⊎ ((why : LoadError) × IfSome content (λ held. loaded held ≡ Err why) × IsUnloaded content why explanation)

-- what is said of a question: `verify` and `recover` load no folder
abbrev pub SaysTo : Option FileMap → Question → Bool → Explanation → Type 0
SaysTo content (question.Files asked) for_tools explanation = SaysFiles content (SaysOver asked for_tools) explanation
SaysTo content (question.Verify old new) for_tools explanation = IfSome content (λ held. SaysVerify old new held explanation)
SaysTo content (question.Batch file) for_tools explanation = SaysFiles content (SaysBatchIn content file) explanation
SaysTo content question.Recover for_tools explanation = IfSome content (λ held. SaysRecovery held explanation)

abbrev pub SaysOf : Option FileMap → Asked → Explanation → Type 0
SaysOf content asked explanation = SaysTo content asked.question asked.as_json explanation

-- the output has taken what is said, and the program ends so
pub record IsPrinted (as_json : Bool) (explanation : Explanation) (before now : Option (List ℕ)) (ended : ExitStatus) : Type 0 where
  pub status : ended ≡ status_of explanation.ending
  pub text : Takes (explanation_text as_json explanation) before now

-- the folder or the output failed, or there was no memory
abbrev pub IsStopped : ExitStatus → Type 0
IsStopped ended = (ended ≡ status.TreeFault) ⊎ ((ended ≡ status.SinkFault) ⊎ (ended ≡ status.Memory))

-- what is asked is answered: what is said of it is printed; or the program stopped
abbrev pub IsAnswered : Option FileMap → Asked → Option (List ℕ) → Option (List ℕ) → ExitStatus → Type 0
IsAnswered content asked before now ended =
    ((explanation : Explanation) × SaysOf content asked explanation × IsPrinted asked.as_json explanation before now ended) ⊎ IsStopped ended

-- the words are answered; or they have none of the forms
abbrev pub IsSaid : List (String Global) → Option FileMap → Option (List ℕ) → Option (List ℕ) → ExitStatus → Type 0
IsSaid words content before now ended =
    ((asked : Asked) × (asked_in words ≡ Some asked) × IsAnswered content asked before now ended)
    ⊎ (((asked_in words ≡ None) × (ended ≡ status.Usage)) ⊎ IsStopped ended)
