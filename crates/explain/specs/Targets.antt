-- The messages of targets that declare no value (own).
use Rattle.std.specs.Prelude.{ℕ, zero, suc, ◌+◌, List, [], ◌∷◌, ◌++◌, ◌==◌, Option, Some, None, codes, length, filter, take, nat_lt, if◌then◌else◌}
use Rattle.std.specs.Str.{bytes_eq}
use Rattle.report.specs.Pieces.{Word, join}
use Rattle.rotor_base.specs.declared.place.Goal.{Goal}
use Rattle.rotor_base.specs.declared.place.Goal.TheVariants as goal
use Rattle.rotor_base.specs.declared.place.Place.{Place}
use Rattle.rotor_base.specs.declared.place.Ref.{Ref}
use Rattle.rotor_base.specs.declared.target.Target.{Target}
use Rattle.rotor_base.specs.declared.target.Target.TheVariants.{At, Spot, Dotted}
use Rattle.binding_model.specs.Renaming.{goal_at}
use Rattle.messages.specs.Shown.{shown_word_of}
use Rattle.messages.specs.declared.parts.Message.{Message}
use Rattle.refusal_words.specs.Cut.{Cut}
use Rattle.refusal_words.specs.Target.{a_use, foreign_value, nameless, no_value}
use Rattle.refusal_words.specs.Unnamed.{no_line, no_member, no_path, no_source, no_token, no_token_at}
use Rattle.rename_model.specs.Target.{token_over}
use Rattle.explain.specs.declared.path_stop.PathStop.{PathStop}
use Rattle.explain.specs.declared.path_stop.PathStop.TheVariants as stop

-- of a token that declares no value: a use of a value of the folder, of another value, or none
abbrev pub use_message : List Cut → Place → Option Goal → Message
use_message cuts at None = no_value cuts at
use_message cuts at (Some (goal.Decl d)) = a_use cuts at d
use_message cuts at (Some (goal.Blur by n behind)) = foreign_value cuts at
use_message cuts at (Some goal.Outside) = foreign_value cuts at
use_message cuts at (Some goal.Missing) = foreign_value cuts at
use_message cuts at (Some goal.Hidden) = foreign_value cuts at

abbrev pub place_message : List Cut → List Ref → Place → Message
place_message cuts refs at = use_message cuts at (goal_at refs at)

-- of a token of a source by its number, which the source may lack
abbrev pub token_message : List Cut → List Ref → ℕ → Cut → ℕ → Message
token_message cuts refs file cut token =
    if nat_lt (length cut.lexemes) token then nameless (no_token cut.name token (length cut.lexemes))
    else place_message cuts refs (record { file = file; token = token })

-- of a token by its line and column, which the source may lack
abbrev pub held_message : List Cut → List Ref → ℕ → Cut → ℕ → ℕ → Option ℕ → Message
held_message cuts refs file cut line column None = nameless (no_token_at cut.name line column)
held_message cuts refs file cut line column (Some token) = place_message cuts refs (record { file = file; token = token })

abbrev pub count_feeds : List ℕ → ℕ
count_feeds bytes = length (filter (λ b. b == 10) bytes)

abbrev pub spot_message : List Cut → List Ref → ℕ → Cut → ℕ → ℕ → Message
spot_message cuts refs file cut line column =
    if nat_lt (suc (count_feeds cut.bytes)) line then nameless (no_line cut.name line)
    else held_message cuts refs file cut line column (token_over (line, column) cut.bytes cut.lexemes)

-- the first source of a name, with its number, if the first one has this number
abbrev pub cut_from : ℕ → List Cut → Word → Option (ℕ × Cut)
cut_from n [] name = None
cut_from n (cut ∷ cuts) name = if bytes_eq cut.name name then Some (n, cut) else cut_from (suc n) cuts name

-- the same, numbered from 0
abbrev pub cut_of : List Cut → Word → Option (ℕ × Cut)
cut_of cuts name = cut_from 0 cuts name

abbrev pub at_message : List Cut → List Ref → Word → ℕ → Option (ℕ × Cut) → Message
at_message cuts refs file token None = nameless (no_source file)
at_message cuts refs file token (Some c) = token_message cuts refs c.0 c.1 token

abbrev pub seen_message : List Cut → List Ref → Word → ℕ → ℕ → Option (ℕ × Cut) → Message
seen_message cuts refs file line column None = nameless (no_source file)
seen_message cuts refs file line column (Some c) = spot_message cuts refs c.0 c.1 line column

-- names with dots between them
abbrev pub dotted_behind : List Word → Word
dotted_behind [] = []
dotted_behind (name ∷ names) = (46 ∷ name) ++ dotted_behind names

abbrev pub dotted_words : List Word → Word
dotted_words [] = []
dotted_words (name ∷ names) = name ++ dotted_behind names

-- the step of a path of this number, from 0, behind a dot if it is not the first one
abbrev pub dotted_step : ℕ → Word → Word
dotted_step at name = if at == 0 then name else 46 ∷ name

-- of a path of modules that are there: of one name, or of the module before its last name
abbrev pub member_message : List Word → Word → Message
member_message front last = if length front == 0 then nameless (no_path last) else nameless (no_member (dotted_words front) last)

-- the names of a path before its last one, and that one
abbrev pub add_front : Word → Option (List Word × Word) → Option (List Word × Word)
add_front name None = Some ([], name)
add_front name (Some split) = Some (name ∷ split.0, split.1)

abbrev pub split_path : List Word → Option (List Word × Word)
split_path [] = None
split_path (name ∷ names) = add_front name (split_path names)

abbrev pub split_message : Option (List Word × Word) → Message
split_message None = nameless (no_path [])
split_message (Some split) = member_message split.0 split.1

-- what is missing: the first step of a path is a unit, and each later one a module
abbrev pub lacking : ℕ → Word
lacking zero = codes "there is no unit `"
lacking (suc k) = codes "there is no module `"

-- the names of a path up to a step
abbrev pub path_up_to : ℕ → List Word → Word
path_up_to k path = shown_word_of (dotted_words (take (k + 1) path))

-- of a path that names no value, by where it stops
abbrev pub path_message : PathStop → List Word → Message
path_message (stop.Lacks k) path = nameless (join (lacking k ∷ path_up_to k path ∷ codes "`" ∷ []))
path_message (stop.NoStructure k) path = nameless (join (codes "`" ∷ path_up_to k path ∷ codes "` is no structure or signature" ∷ []))
path_message stop.AtValue path = split_message (split_path path)

-- the message of a target that declares no value, over the references of the folder
abbrev pub target_message : List Cut → List Ref → PathStop → Target → Message
target_message cuts refs end (At file token) = at_message cuts refs file token (cut_of cuts file)
target_message cuts refs end (Spot file line column) = seen_message cuts refs file line column (cut_of cuts file)
target_message cuts refs end (Dotted path) = path_message end path
