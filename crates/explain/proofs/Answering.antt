-- What is said of an answer.
use Rattle.std.proofs.Common.{◌≡◌, inl, inr, List, [], Bool, true, false, Ok, Err, Option, ap, subst, sym, ◌∙◌}
use Rattle.rotor_base.specs.Files.{FileSet}
use Rattle.rotor_base.specs.declared.place.Facts.{Facts}
use Rattle.rotor_base.specs.declared.place.Foot.{Foot}
use Rattle.rotor_base.specs.declared.refusal.Refusal.{Refusal}
use Rattle.rotor_base.specs.declared.refusal.Refusal.TheVariants as refusal
use Rattle.rotor_base.specs.declared.report.FootReport.{FootReport}
use Rattle.rotor_base.specs.declared.target.Target.{Target}
use Rattle.report.specs.Pieces.{Word}
use Rattle.messages.specs.declared.parts.Message.{Message}
use Rattle.refusal_words.specs.Cut.{AreCuts, Cut}
use Rattle.refusal_places.specs.Placed.{SaysPlaced}
use Rattle.rename_files.specs.Answer.{Checks, Renames, Shows}
use Rattle.rename_project.specs.Steps.{IsRefusedFor}
use Rattle.value_at.specs.Places.{places_of}
use Rattle.explain.specs.declared.around.Around.{Around}
use Rattle.explain.specs.declared.ending.Ending.TheVariants.{Refused}
use Rattle.explain.specs.declared.explanation.Explanation.{Explanation}
use Rattle.explain.specs.Around.{IsAround}
use Rattle.explain.specs.Ending.{ending_of, is_refused}
use Rattle.explain.specs.Refused.{SaysProject, SaysRefusal, is_memory, is_unread, project, refused_message, renaming, unread, whole}
use Rattle.explain.specs.Sources.{SaysSources}
use Rattle.explain.specs.Explanation.{explanation_of_message, explanation_of_messages}
use Rattle.explain.specs.Says.{AreToolPlaces, SaysCheck, SaysFootprint, SaysRename, SaysShown, asked, not_asked}
use Rattle.explain.specs.Shown.{place_messages}

no_memory : (why : Refusal) → why ≡ refusal.Memory → is_memory why ≡ false → ⊥
no_memory why e m = let wrong : true ≡ false = ap is_memory (sym e) ∙ m in cc

pub footprint_refused : (files : FileSet) (target : Target) (why : Refusal) (explanation : Explanation)
    → IsRefusedFor (λ w. Shows files target (Err w)) why
    → is_memory why ≡ false → SaysRefusal files target [] why explanation
    → SaysFootprint files target explanation
footprint_refused files target why explanation (inl h) m says = inr (why, h, says)
footprint_refused files target why explanation (inr e) m says = absurd (no_memory why e m)

pub footprint_shown : (files : FileSet) (target : Target) (shown : FootReport) (explanation : Explanation) → Shows files target (Ok shown)
    → SaysShown files shown explanation
    → SaysFootprint files target explanation
footprint_shown files target shown explanation h says = inl (shown, h, says)

pub renaming_refused : (files : FileSet) (target : Target) (name : Word) (why : Refusal) (explanation : Explanation)
    → IsRefusedFor (λ w. Renames files target name (Err w)) why → is_memory why ≡ false → SaysRefusal files target name why explanation
    → (for_tools : Bool) → SaysRename files target name for_tools explanation
renaming_refused files target name why explanation (inl h) m says for_tools = inr (why, h, says)
renaming_refused files target name why explanation (inr e) m says for_tools = absurd (no_memory why e m)

pub tools_asked : (known : Facts) (cuts : List Cut) (foot : Foot) (for_tools : Bool) (messages : List Message) → for_tools ≡ true
    → messages ≡ place_messages cuts (places_of known.refs foot)
    → AreToolPlaces known cuts foot for_tools messages
tools_asked known cuts foot for_tools messages t e =
    subst (λ b. AreToolPlaces known cuts foot b messages) (sym t) (subst (AreToolPlaces known cuts foot true) (sym e) asked)

pub tools_not_asked : (known : Facts) (cuts : List Cut) (foot : Foot) (for_tools : Bool) (messages : List Message) → for_tools ≡ false
    → messages ≡ []
    → AreToolPlaces known cuts foot for_tools messages
tools_not_asked known cuts foot for_tools messages t e =
    subst (λ b. AreToolPlaces known cuts foot b messages) (sym t) (subst (AreToolPlaces known cuts foot false) (sym e) not_asked)

pub project_unread : (files : FileSet) (why : Refusal) (messages : List Message) (explanation : Explanation) → is_unread why ≡ true
    → SaysSources files.entries messages → explanation ≡ explanation_of_messages (ending_of why) messages
    → SaysProject files why explanation
project_unread files why messages explanation u says e = unread messages u says e

pub project_whole : (files : FileSet) (why : Refusal) (cuts : List Cut) (said : Option Message) (explanation : Explanation) → is_unread why ≡ false
    → AreCuts files.entries cuts → SaysPlaced cuts why said → explanation ≡ explanation_of_message (ending_of why) said
    → SaysProject files why explanation
project_whole files why cuts said explanation u cut says e = whole cuts said u cut says e

pub check_refused : (files : FileSet) (why : Refusal) (explanation : Explanation) → IsRefusedFor (λ w. Checks files (Err w)) why
    → is_memory why ≡ false
    → SaysProject files why explanation
    → SaysCheck files explanation
check_refused files why explanation (inl h) m says = inr (why, h, says)
check_refused files why explanation (inr e) m says = absurd (no_memory why e m)

pub refusal_of_project : (files : FileSet) (target : Target) (name : Word) (why : Refusal) (explanation : Explanation)
    → is_refused (ending_of why) ≡ false
    → SaysProject files why explanation
    → SaysRefusal files target name why explanation
refusal_of_project files target name why explanation n says = project n says

pub refusal_of_renaming : (files : FileSet) (target : Target) (name : Word) (why : Refusal) (cuts : List Cut) (around : Around)
    (explanation : Explanation)
    → is_refused (ending_of why) ≡ true → AreCuts files.entries cuts → IsAround files target around
    → explanation ≡ explanation_of_message Refused (refused_message cuts around target name why)
    → SaysRefusal files target name why explanation
refusal_of_renaming files target name why cuts around explanation r cut a e = renaming cuts around r cut a e
