-- The failures of renamings that are refused (own).
use Rattle.std.specs.Prelude.{List, [], ◌∷◌, Option, None, Some, codes, option_map, false}
use Rattle.rotor_base.specs.Files.{FileSet, names_of}
use Rattle.rotor_base.specs.declared.place.Place.{Place}
use Rattle.rotor_base.specs.declared.refusal.Refusal.{Refusal}
use Rattle.rotor_base.specs.declared.refusal.Refusal.TheVariants as refusal
use Rattle.rotor_base.specs.declared.report.Outcome.TheVariants as outcome
use Rattle.rotor_base.specs.declared.target.Target.{Target}
use Rattle.report.specs.Json.{data_of}
use Rattle.report.specs.Pieces.{Word}
use Rattle.messages.specs.declared.kinds.Kind.TheVariants as kind
use Rattle.messages.specs.declared.parts.Message.{Message}
use Rattle.messages.specs.declared.parts.Severity.TheVariants.{Error}
use Rattle.refusal_words.specs.Cut.{Cut}
use Rattle.refusal_words.specs.Stretches.{place_spot, word_at}
use Rattle.explain.specs.Says.{SaysRename}
use Rattle.explain.specs.Valueless.{valueless_text}
use Rattle.explain.specs.declared.explanation.Explanation.{Explanation}
use Rattle.value_at.specs.declared.value.ValueAt.{ValueAt}
use Rattle.lsp_answers.specs.declared.answer.Failure.{Failure}
use Rattle.query_failures.specs.Failure.{IsNoted}
use Rattle.query_failures.specs.Sentence.{message_sentence}

-- the sentence of the first message, if there is one
abbrev pub first_sentence : List Message → Word
first_sentence [] = codes "this renaming is refused"
first_sentence (message ∷ messages) = message_sentence message

-- a renaming is refused: what `rotor-explain` says of it, and the object that the report of the refusal has in JSON
pub record IsRenamingFailure (files : FileSet) (target : Target) (new : Word) (why : Refusal) (failure : Failure) : Type 0 where
  pub explanation : Explanation
  pub says : SaysRename files target new false explanation
  pub noted : IsNoted (first_sentence explanation.messages) (data_of (names_of files.entries) (outcome.Refused why)) failure

-- ---- no value

-- the word of a token, if there is one
abbrev pub word_there : List Cut → Option Place → Word
word_there cuts None = []
word_there cuts (Some p) = word_at cuts p

-- the message of a token that declares and uses no value of the folder, or of a byte outside of all tokens
abbrev pub valueless : List Cut → Option Place → ValueAt → Message
valueless cuts p found = record {
  severity = Error;
  kind = kind.NoTarget;
  text = valueless_text (word_there cuts p) found;
  at = option_map (place_spot cuts) p;
  notes = [];
  help = None;
}

-- a renaming at a token that declares and uses no value of the folder
abbrev pub IsValuelessFailure : List Cut → Option Place → ValueAt → Failure → Type 0
IsValuelessFailure cuts p found failure = IsNoted (message_sentence (valueless cuts p found)) (data_of [] (outcome.Refused refusal.NoTarget)) failure
