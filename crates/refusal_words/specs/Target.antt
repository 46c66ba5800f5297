-- The sentences of targets that declare no value that can be renamed (own).
use Rattle.std.specs.Prelude.{List, [], ◌∷◌, None, Some, codes}
use Rattle.std.specs.Fmt.{decimal}
use Rattle.report.specs.Pieces.{Word, join}
use Rattle.rotor_base.specs.declared.place.Place.{Place}
use Rattle.messages.specs.declared.kinds.Kind.TheVariants as kind
use Rattle.messages.specs.declared.parts.Message.{Message}
use Rattle.messages.specs.Printed.{spot_text}
use Rattle.refusal_words.specs.Cut.{Cut}
use Rattle.refusal_words.specs.Parts.{around, bare, note_at, placed}
use Rattle.refusal_words.specs.Stretches.{place_spot, word_at}

-- what a target is
abbrev pub a_target : Word
a_target = codes "a target is a place that declares a value: FILE:LINE:COLUMN, FILE#N or Unit.name"

-- a declaration by its name and its place, behind a text
abbrev pub the_value : List Cut → Word → Place → Word
the_value cuts before p = join (before ∷ codes "`" ∷ word_at cuts p ∷ codes "` of " ∷ spot_text (place_spot cuts p) ∷ [])

abbrev pub target_help : List Cut → Place → Word
target_help cuts p = join (codes "give the target " ∷ (place_spot cuts p).file ∷ codes "#" ∷ decimal p.token ∷ [])

abbrev pub a_use : List Cut → Place → Place → Message
a_use cuts at declared =
    placed kind.NoTarget (around [] (the_value cuts (codes "this is a use of the ") declared) (codes "; the target is its declaration"))
    (place_spot cuts at) (note_at cuts declared (codes "declared here") ∷ []) (Some (target_help cuts declared))

abbrev pub no_value : List Cut → Place → Message
no_value cuts at = placed kind.NoTarget (codes "no value is declared here") (place_spot cuts at) [] (Some a_target)

abbrev pub foreign_value : List Cut → Place → Message
foreign_value cuts at =
    placed kind.NoTarget (around (codes "this `") (word_at cuts at) (codes "` is no value that this folder declares")) (place_spot cuts at) []
    (Some a_target)

-- of a target that names no token
abbrev pub nameless : Word → Message
nameless sentence = bare kind.NoTarget sentence (Some a_target)

abbrev pub operator : List Cut → Place → Message
operator cuts at = placed kind.Operator (codes "operators are not renamed") (place_spot cuts at) [] None
