-- The message of units that need each other in a circle (own).
use Rattle.std.specs.Prelude.{◌≡◌, ℕ, List, [], ◌∷◌, ◌++◌, ◌&&◌, Option, Some, None, codes, flat_map, if◌then◌else◌, map}
use Rattle.std.specs.Str.{bytes_eq}
use Rattle.report.specs.Pieces.{Word, join}
use Rattle.messages.specs.declared.kinds.Kind.TheVariants as kind
use Rattle.messages.specs.declared.parts.Message.{Message}
use Rattle.messages.specs.declared.parts.Note.{Note}
use Rattle.messages.specs.declared.parts.Spot.{Spot}
use Rattle.need_chains.specs.Chains.{HasNoCircle, IsCircle}
use Rattle.need_chains.specs.declared.unit_heads.UnitHeads.{UnitHeads}
use Rattle.project_reading.specs.Source.{kind_of_source}
use Rattle.refusal_words.specs.Cut.{Cut}
use Rattle.refusal_words.specs.Parts.{placed}
use Rattle.refusal_words.specs.Source.{on_cycle}
use Rattle.refusal_words.specs.Stretches.{no_spot}
use Rattle.unit_heads.specs.Heads.{is_among}
use Rattle.refusal_places.specs.Blanks.{HasNoHead, IsFirstHead}
use Rattle.refusal_places.specs.Heads.{cut_heads}
use Rattle.refusal_places.specs.Unread.{lexeme_spot, whole_spot}

-- the first source of a unit that has this head, of sources and their heads
abbrev pub user_of : List UnitHeads → List Cut → Word → Word → Option Cut
user_of [] cuts unit name = None
user_of (s ∷ sources) [] unit name = None
user_of (s ∷ sources) (cut ∷ cuts) unit name =
    if bytes_eq s.unit unit && is_among s.heads name then Some cut else user_of sources cuts unit name

-- the stretch of the first head of a name in a source, or of the end of the source
pub data IsHeadSpot (cut : Cut) (name : Word) (spot : Spot) : Type 0 where
  found : (at : ℕ) → IsFirstHead (kind_of_source cut.name) name cut.lexemes at → spot ≡ lexeme_spot cut at → IsHeadSpot cut name spot
  none : HasNoHead (kind_of_source cut.name) name cut.lexemes → spot ≡ whole_spot cut None → IsHeadSpot cut name spot

abbrev pub IsUserSpot : Option Cut → Word → Spot → Type 0
IsUserSpot None name spot = spot ≡ no_spot
IsUserSpot (Some cut) name spot = IsHeadSpot cut name spot

abbrev pub need_text : Word → Word → Word
need_text unit name = join (codes "`" ∷ unit ∷ codes "` needs `" ∷ name ∷ codes "` here" ∷ [])

-- the stretch of the place where a unit needs another: of the first head of this name in the first source that has one
abbrev pub IsNeedSpot : List Cut → Word → Word → Spot → Type 0
IsNeedSpot cuts unit name spot = IsUserSpot (user_of (map cut_heads cuts) cuts unit name) name spot

-- a note on this place
pub record IsNeedNote (cuts : List Cut) (unit name : Word) (note : Note) : Type 0 where
  pub text : note.text ≡ need_text unit name
  pub at : IsNeedSpot cuts unit name note.at

-- a note on each need of a chain that begins at a unit
abbrev pub AreNeedNotes : List Cut → Word → List Word → List Note → Type 0
AreNeedNotes cuts unit [] notes = notes ≡ []
AreNeedNotes cuts unit (name ∷ names) [] = ⊥
AreNeedNotes cuts unit (name ∷ names) (note ∷ notes) = IsNeedNote cuts unit name note × AreNeedNotes cuts name names notes

abbrev pub arrow : Word → Word
arrow name = codes " -> " ++ name

abbrev pub circle_text : Word → List Word → Word
circle_text unit names = (codes "the units need each other in a circle: " ++ unit) ++ flat_map arrow names

-- of a chain from a unit back to it: the place is that of the first need
abbrev pub circle_message : Word → List Word → Spot → List Note → Message
circle_message unit names at notes =
    placed kind.Cycle (circle_text unit names) at notes (Some (codes "write the link order into rotor.units, one unit a line"))

-- what is said of a unit that needs itself through others: the shortest chain back to it, with a note on each need but
-- the first; if there is none, that alone
pub data SaysCircle (cuts : List Cut) (unit : Word) (message : Message) : Type 0 where
  circle : (name : Word) (names : List Word) (at : Spot) (notes : List Note) → IsCircle (map cut_heads cuts) unit (name ∷ names)
      → IsNeedSpot cuts unit name at → AreNeedNotes cuts name names notes → message ≡ circle_message unit (name ∷ names) at notes
      → SaysCircle cuts unit message
  alone : HasNoCircle (map cut_heads cuts) unit → message ≡ on_cycle unit → SaysCircle cuts unit message
