-- The failures, by what they are explained from.
use Rattle.std.proofs.Common.{◌≡◌, ◌∙◌, List, Option, Result, IfOk, ap, subst}
use Rattle.std.proofs.lemmas.Result.{IfOk-weaker}
use Rattle.serde_json.specs.Data.{Data}
use Rattle.rotor_base.specs.Files.{FileSet, names_of}
use Rattle.rotor_base.specs.declared.refusal.Refusal.{Refusal}
use Rattle.rotor_base.specs.declared.report.Outcome.TheVariants as outcome
use Rattle.rotor_base.specs.declared.source.SourceFile.{SourceFile}
use Rattle.rotor_base.specs.declared.target.Target.{Target}
use Rattle.report.specs.Json.{data_of}
use Rattle.report.specs.Pieces.{Word}
use Rattle.messages.specs.declared.parts.Message.{Message}
use Rattle.refusal_words.specs.Cut.{AreCuts, Cut}
use Rattle.refusal_places.specs.Placed.{SaysPlaced}
use Rattle.explain.specs.Says.{SaysRename}
use Rattle.explain.specs.declared.explanation.Explanation.{Explanation}
use Rattle.lsp_answers.specs.declared.answer.ErrorCode.{ErrorCode}
use Rattle.lsp_answers.specs.declared.answer.Failure.{Failure}
use Rattle.std.specs.Prelude.{false}
use Rattle.query_failures.specs.Failure.{IsNoted, IsSaid}
use Rattle.query_failures.specs.Folder.{IsProjectFailure, folder_sentence}
use Rattle.query_failures.specs.Renaming.{IsRenamingFailure, first_sentence}

-- a sentence that is the same as another is said as that one
pub said_as : {E : Type 0} (code : ErrorCode) (given text : Word) (result : Result Failure E) → given ≡ text → IfOk result (IsSaid code given)
    → IfOk result (IsSaid code text)
said_as code given text result is h = subst (λ (w : Word). IfOk result (IsSaid code w)) is h

-- the same of a refusal, and of what a program reads
pub noted_as : {E : Type 0} (given text : Word) (object note : Data) (result : Result Failure E) → given ≡ text → object ≡ note
    → IfOk result (IsNoted given object) → IfOk result (IsNoted text note)
noted_as given text object note result is same h =
    subst (λ (w : Word). IfOk result (IsNoted w note)) is (subst (λ (d : Data). IfOk result (IsNoted given d)) same h)

-- ---- files that are refused

pub project_fails : {E : Type 0} (files : FileSet) (why : Refusal) (sources : List SourceFile) (cuts : List Cut) (message : Option Message)
    (text : Word) (names : List Word) (object : Data) (result : Result Failure E) → sources ≡ files.entries → AreCuts sources cuts
    → SaysPlaced cuts why message → text ≡ folder_sentence message → names ≡ names_of files.entries
    → object ≡ data_of names (outcome.Refused why) → IfOk result (IsNoted text object) → IfOk result (IsProjectFailure files why)
project_fails files why sources cuts message text names object result same cut says worded named noted h =
    IfOk-weaker result (IsNoted text object) (IsProjectFailure files why) (λ failure known. record {
      cuts = cuts;
      message = message;
      cut = subst (λ (s : List SourceFile). AreCuts s cuts) same cut;
      says = says;
      noted = subst (λ (d : Data). IsNoted (folder_sentence message) d failure)
          (noted ∙ ap (λ (n : List Word). data_of n (outcome.Refused why)) named)
          (subst (λ (w : Word). IsNoted w object failure) worded known);
    }) h

-- ---- renamings

pub renaming_fails : {E : Type 0} (files : FileSet) (target : Target) (new : Word) (why : Refusal) (explanation : Explanation) (text : Word)
    (names : List Word) (object : Data) (result : Result Failure E) → SaysRename files target new false explanation
    → text ≡ first_sentence explanation.messages
    → names ≡ names_of files.entries → object ≡ data_of names (outcome.Refused why) → IfOk result (IsNoted text object)
    → IfOk result (IsRenamingFailure files target new why)
renaming_fails files target new why explanation text names object result says is named noted h =
    IfOk-weaker result (IsNoted text object) (IsRenamingFailure files target new why) (λ failure known. record {
      explanation = explanation;
      says = says;
      noted = subst (λ (d : Data). IsNoted (first_sentence explanation.messages) d failure)
          (noted ∙ ap (λ (n : List Word). data_of n (outcome.Refused why)) named)
          (subst (λ (w : Word). IsNoted w object failure) is known);
    }) h
