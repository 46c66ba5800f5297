-- What is said of a project and of the new version of it (own).
use Rattle.std.specs.Prelude.{◌≡◌, List, [], ◌∷◌, ◌++◌, Option, Some, Result, Ok, Err, bytes_eq, codes, flat_map, length, if◌then◌else◌}
use Rattle.rotor_base.specs.Files.{FileSet}
use Rattle.rotor_base.specs.declared.place.Place.{Place}
use Rattle.rotor_base.specs.declared.place.Goal.{Goal}
use Rattle.rotor_base.specs.declared.place.Goal.TheVariants as goal
use Rattle.rotor_base.specs.declared.refusal.Refusal.{Refusal}
use Rattle.report.specs.Pieces.{Word, join}
use Rattle.messages.specs.declared.parts.Message.{Message}
use Rattle.messages.specs.Printed.{spot_text}
use Rattle.messages.specs.Words.{counted}
use Rattle.capture_check.specs.declared.fault.Fault.{Fault}
use Rattle.capture_check.specs.declared.fault.Fault.TheVariants as fault
use Rattle.rename_parts.specs.Faults.{refusal_of_fault}
use Rattle.rename_verify.specs.declared.verdict.Verdict.{Verdict}
use Rattle.rename_verify.specs.declared.verdict.Verdict.TheVariants.{Yes, No}
use Rattle.rename_verify.specs.declared.verdict.Why.{Why}
use Rattle.rename_verify.specs.declared.verdict.Why.TheVariants as why
use Rattle.rename_verify.specs.Changed.{Changed}
use Rattle.rename_verify.specs.Verdict.{Verdicts}
use Rattle.refusal_words.specs.Commands.{fixed, other_bytes, other_sources}
use Rattle.refusal_words.specs.Cut.{AreCuts, Cut}
use Rattle.refusal_places.specs.Placed.{SaysPlaced}
use Rattle.refusal_words.specs.Refused.{renaming_message}
use Rattle.refusal_words.specs.Stretches.{place_spot, word_at}
use Rattle.explain.specs.declared.ending.Ending.TheVariants.{Done, Project, Refused}
use Rattle.explain.specs.declared.explanation.Explanation.{Explanation}
use Rattle.explain.specs.Explanation.{explanation_of_message, explanation_of_text}

-- a declaration that has another name: its place, the old name and the new one
abbrev pub change_line : List Cut → Changed → Word
change_line olds c = join (spot_text (place_spot olds c.0) ∷ codes ": `" ∷ c.1 ∷ codes "` became `" ∷ c.2 ∷ codes "`\n" ∷ [])

-- how many there are, and each
abbrev pub changes_text : List Cut → List Changed → Word
changes_text olds changes =
    join (codes "a valid renaming: " ∷ counted (length changes) (codes "change") ∷ codes "\n" ∷ []) ++ flat_map (change_line olds) changes

-- the declaration of a goal, if its word in the new sources is another
abbrev pub changed_place : List Cut → List Cut → Goal → List Place
changed_place olds news (goal.Decl p) = if bytes_eq (word_at olds p) (word_at news p) then [] else p ∷ []
changed_place olds news goal.Outside = []
changed_place olds news goal.Missing = []
changed_place olds news goal.Hidden = []
changed_place olds news (goal.Blur by passed behind) = []

-- the declarations of a fault that have another word in the new sources
abbrev pub changed_places : List Cut → List Cut → Fault → List Place
changed_places olds news (fault.Clash first again) = []
changed_places olds news (fault.Capture at was would) = changed_place olds news was ++ changed_place olds news would
changed_places olds news (fault.Mislink item was would) = changed_place olds news was ++ changed_place olds news would

-- the name that is bound twice in the new sources
abbrev pub new_name : List Cut → Fault → Word
new_name news (fault.Clash first again) = word_at news again
new_name news (fault.Capture at was would) = []
new_name news (fault.Mislink item was would) = []

-- of a fault: that of a renaming of those declarations to that name
abbrev pub fault_message : List Cut → List Cut → Fault → Option Message
fault_message olds news f = renaming_message olds (changed_places olds news f) (new_name news f) (refusal_of_fault f)

-- of the reason for which a project is no valid renaming of another
abbrev pub why_message : List Cut → List Cut → Why → Option Message
why_message olds news (why.Sources name) = Some (other_sources name)
why_message olds news (why.Bytes file offset) = Some (other_bytes news file offset)
why_message olds news (why.Fixed at) = Some (fixed olds at)
why_message olds news (why.Broken f) = fault_message olds news f

-- what is said of an old project that is refused
abbrev pub SaysRefused : List Cut → Refusal → Explanation → Type 0
SaysRefused olds why explanation = (said : Option Message) × SaysPlaced olds why said × (explanation ≡ explanation_of_message Project said)

-- what is said of an answer of `verify`
abbrev pub SaysAnswer : List Cut → List Cut → Result Verdict Refusal → Explanation → Type 0
SaysAnswer olds news (Ok (Yes changes)) explanation = explanation ≡ explanation_of_text Done (changes_text olds changes.items)
SaysAnswer olds news (Ok (No reason)) explanation = explanation ≡ explanation_of_message Refused (why_message olds news reason)
SaysAnswer olds news (Err why) explanation = SaysRefused olds why explanation

-- what is said of a project and of the new version of it, whose sources have these lexemes
pub record IsJudged (old new : FileSet) (explanation : Explanation) : Type 0 where
  pub olds : List Cut
  pub news : List Cut
  pub old_cut : AreCuts old.entries olds
  pub new_cut : AreCuts new.entries news
  pub answer : Result Verdict Refusal
  pub verdict : Verdicts old new answer
  pub says : SaysAnswer olds news answer explanation
