-- The sentences of renamings that would change what a name means (own).
use Rattle.std.specs.Prelude.{List, [], ◌∷◌, ◌++◌, Bool, false, Option, None, Some, codes, cond, if◌then◌else◌}
use Rattle.std.specs.List.{list_any}
use Rattle.report.specs.Pieces.{Word, join}
use Rattle.rotor_base.specs.Place.{same_place}
use Rattle.rotor_base.specs.declared.place.Place.{Place}
use Rattle.rotor_base.specs.declared.place.Goal.{Goal}
use Rattle.rotor_base.specs.declared.place.Goal.TheVariants.{Decl, Outside, Missing, Hidden, Blur}
use Rattle.messages.specs.declared.kinds.Kind.TheVariants as kind
use Rattle.messages.specs.declared.parts.Note.{Note}
use Rattle.messages.specs.declared.parts.Message.{Message}
use Rattle.messages.specs.Printed.{spot_text}
use Rattle.refusal_words.specs.Cut.{Cut}
use Rattle.refusal_words.specs.Parts.{around, note_at, placed}
use Rattle.refusal_words.specs.Stretches.{place_spot, word_at}
use Rattle.refusal_words.specs.Target.{the_value}

-- the place of a token between two texts
abbrev pub of_place : List Cut → Word → Place → Word → Word
of_place cuts before p behind = join (before ∷ spot_text (place_spot cuts p) ∷ behind ∷ [])

-- what a use means
abbrev pub meaning_text : List Cut → Goal → Word
meaning_text cuts (Decl p) = the_value cuts (codes "means the ") p
meaning_text cuts Outside = codes "means a value outside the folder"
meaning_text cuts Missing = codes "means no value of its module"
meaning_text cuts Hidden = codes "means a hidden value"
meaning_text cuts (Blur by passed behind) = of_place cuts (codes "may mean a value of the module opened at ") by []

-- what a use would mean after the renaming
abbrev pub then_text : List Cut → Goal → Word
then_text cuts (Decl p) = the_value cuts (codes "it would mean the renamed ") p
then_text cuts Outside = codes "it might mean another value"
then_text cuts Missing = codes "it might mean another value"
then_text cuts Hidden = codes "it might mean another value"
then_text cuts (Blur by passed (Some p)) = the_value cuts (codes "it might mean the renamed ") p
then_text cuts (Blur by passed None) = codes "it might mean another value"

-- the declaration that a use would mean, or might mean, after the renaming
abbrev pub found_place : Goal → Option Place
found_place (Decl p) = Some p
found_place Outside = None
found_place Missing = None
found_place Hidden = None
found_place (Blur by passed behind) = behind

-- what an item is matched with; a declaration is put behind the first text
abbrev pub link_text : List Cut → Word → Goal → Word
link_text cuts the (Decl p) = the_value cuts the p
link_text cuts the Outside = codes "fixed from outside the folder"
link_text cuts the Missing = codes "matched with nothing"
link_text cuts the Hidden = codes "hidden by a later item of its name"
link_text cuts the (Blur by passed behind) = of_place cuts (codes "matched with what the module opened or included at ") by (codes " brings")

-- what is said of a place, if there is one
abbrev pub place_notes : List Cut → Option Place → Word → List Note
place_notes cuts (Some p) words = note_at cuts p words ∷ []
place_notes cuts None words = []

-- what is said of the place of a goal
abbrev pub goal_notes : List Cut → Goal → Word → List Note
goal_notes cuts (Decl p) words = place_notes cuts (Some p) words
goal_notes cuts Outside words = []
goal_notes cuts Missing words = []
goal_notes cuts Hidden words = []
goal_notes cuts (Blur by passed behind) words = place_notes cuts (Some by) (codes "opened or included here, from outside the folder")

-- a place is one of some places
abbrev pub is_among : List Place → Place → Bool
is_among places p = list_any (λ other. same_place other p) places

-- the help to choose another name or to rename the other value of this name
abbrev pub choose_other : Word → Word
choose_other name = around (codes "choose another name, or rename the other `") name (codes "` first")

-- of a use of the renamed value
abbrev pub captured_use : List Cut → Place → Place → Place → Message
captured_use cuts at was would =
    placed kind.Capture
    (join (codes "called `" ∷ word_at cuts would ∷ codes "`, " ∷ the_value cuts (codes "this use of the ") was
    ∷ the_value cuts (codes " would mean the ") would ∷ []))
    (place_spot cuts at) (note_at cuts was (codes "it means this now") ∷ note_at cuts would (codes "it would mean this") ∷ [])
    (Some (choose_other (word_at cuts would)))

abbrev pub capture_help : Goal → Word → Option Word
capture_help (Decl p) name = Some (choose_other name)
capture_help Outside name = Some (codes "choose another name")
capture_help Missing name = Some (codes "choose another name")
capture_help Hidden name = Some (codes "choose another name")
capture_help (Blur by passed behind) name = Some (codes "choose another name")

-- of another use
abbrev pub captured : List Cut → Place → Goal → Goal → Message
captured cuts at was would =
    placed kind.Capture
    (join (codes "this `" ∷ word_at cuts at ∷ codes "` " ∷ meaning_text cuts was ∷ codes "; " ∷ then_text cuts would ∷ [])) (place_spot cuts at)
    (goal_notes cuts was (codes "it means this now") ++ place_notes cuts (found_place would) (codes "it would mean this"))
    (capture_help was (word_at cuts at))

-- a declaration, if it is renamed, and the other one that its use would mean
abbrev pub other_use : List Place → Place → Goal → Option (Place × Place)
other_use decls old (Decl new) = if is_among decls old then Some (old, new) else None
other_use decls old Outside = None
other_use decls old Missing = None
other_use decls old Hidden = None
other_use decls old (Blur by passed behind) = None

abbrev pub own_use : List Place → Goal → Goal → Option (Place × Place)
own_use decls (Decl old) would = other_use decls old would
own_use decls Outside would = None
own_use decls Missing would = None
own_use decls Hidden would = None
own_use decls (Blur by passed behind) would = None

abbrev pub captured_by : List Cut → Place → Goal → Goal → Option (Place × Place) → Message
captured_by cuts at was would (Some own) = captured_use cuts at own.0 own.1
captured_by cuts at was would None = captured cuts at was would

-- in a renaming of these declarations
abbrev pub capture : List Cut → List Place → Place → Goal → Goal → Message
capture cuts decls at was would = captured_by cuts at was would (own_use decls was would)

-- a goal is one of some declarations
abbrev pub is_declared : List Place → Goal → Bool
is_declared decls (Decl p) = is_among decls p
is_declared decls Outside = false
is_declared decls Missing = false
is_declared decls Hidden = false
is_declared decls (Blur by passed behind) = false

-- what precedes a declaration that an item would be matched with
abbrev pub article : Bool → Word
article is_renamed = cond is_renamed (codes "matched with the renamed ") (codes "matched with the ")

abbrev pub mislink : List Cut → List Place → Place → Goal → Goal → Message
mislink cuts decls item was would =
    placed kind.Mislink
    (join (codes "this `" ∷ word_at cuts item ∷ codes "` is " ∷ link_text cuts (codes "matched with the ") was
    ∷ codes "; after the renaming it would be " ∷ link_text cuts (article (is_declared decls would)) would ∷ []))
    (place_spot cuts item)
    (goal_notes cuts was (codes "matched with this now") ++ goal_notes cuts would (codes "would be matched with this"))
    (Some (codes "choose another name, or rename the other value first"))
