-- The sentences of renamings that are refused (own).
use Rattle.std.specs.Prelude.{ℕ, ◌-◌, ◌&&◌, not, List, [], ◌∷◌, Bool, Option, None, Some, codes, length, slice_get, take, if◌then◌else◌}
use Rattle.std.specs.List.{list_any}
use Rattle.std.specs.Str.{bytes_eq}
use Rattle.report.specs.Pieces.{Word, join}
use Rattle.rotor_base.specs.Stem.{is_face_name}
use Rattle.rotor_base.specs.declared.place.Place.{Place}
use Rattle.messages.specs.declared.kinds.Kind.TheVariants as kind
use Rattle.messages.specs.declared.parts.Message.{Message}
use Rattle.messages.specs.Printed.{spot_text}
use Rattle.refusal_words.specs.Cut.{Cut}
use Rattle.refusal_words.specs.Parts.{around, bare, note_at, placed}
use Rattle.refusal_words.specs.Stretches.{place_spot, word_at}

abbrev pub name_among : Option Cut → Word
name_among (Some cut) = cut.name
name_among None = []

-- the name of the source of this number
abbrev pub source_name : List Cut → ℕ → Word
source_name cuts file = name_among (slice_get cuts file)

-- a source has this name
abbrev pub is_source_here : List Cut → Word → Bool
is_source_here cuts name = list_any (λ cut. bytes_eq cut.name name) cuts

-- the body that an interface lacks: its name without the last letter
abbrev pub body_of : Word → Word
body_of file = take (length file - 1) file

-- the name is that of an interface whose body is no source here
abbrev pub is_face_alone : List Cut → Word → Bool
is_face_alone cuts name = is_face_name name && not (is_source_here cuts (body_of name))

abbrev pub face_alone : List Cut → Place → Message
face_alone cuts at =
    placed kind.Outside
    (join (codes "`" ∷ word_at cuts at ∷ codes "` is declared by " ∷ source_name cuts at.file
    ∷ codes " alone; its body is outside the folder, so its name stays" ∷ []))
    (place_spot cuts at) [] (Some (around (codes "add ") (body_of (source_name cuts at.file)) (codes " to the folder, or keep the name")))

abbrev pub matched_outside : List Cut → Place → Message
matched_outside cuts at =
    placed kind.Outside
    (around (codes "`") (word_at cuts at) (codes "` is matched with a module or functor outside the folder, so its name stays")) (place_spot cuts at)
    []
    (Some (around (codes "keep the name, or give what is outside a module of its own: `struct let ") (word_at cuts at) (codes " = new_name end`")))

-- of a declaration that is fixed from outside
abbrev pub outside : List Cut → Place → Message
outside cuts at = if is_face_alone cuts (source_name cuts at.file) then face_alone cuts at else matched_outside cuts at

abbrev pub blurred_use : List Cut → Place → Place → Message
blurred_use cuts at opened =
    placed kind.Blurred
    (join (codes "this `" ∷ word_at cuts at ∷ codes "` is the folder's, or one of the module opened at " ∷ spot_text (place_spot cuts opened)
    ∷ codes ", which is outside the folder" ∷ []))
    (place_spot cuts at) (note_at cuts opened (codes "opened here") ∷ [])
    (Some (codes "write the path of the module that is meant, or leave the opening out"))

abbrev pub blurred_link : List Cut → Place → Place → Message
blurred_link cuts at opened =
    placed kind.Blurred
    (join (codes "`" ∷ word_at cuts at ∷ codes "` may be supplied by the module included or opened at " ∷ spot_text (place_spot cuts opened)
    ∷ codes ", which is outside the folder" ∷ []))
    (place_spot cuts at) (note_at cuts opened (codes "included or opened here") ∷ []) None

abbrev pub grown : List Cut → ℕ → Message
grown cuts file =
    bare kind.Grown
    (around (codes "with the new name ") (source_name cuts file) (codes ", or all sources up to it, would have more bytes than rotor reads")) None

abbrev pub clash : List Cut → Place → Place → Word → Message
clash cuts first again name =
    placed kind.Clash (around (codes "`") name (codes "` would be bound twice in one pattern or `let`")) (place_spot cuts again)
    (note_at cuts first (codes "bound here too") ∷ []) (Some (codes "choose another name"))
