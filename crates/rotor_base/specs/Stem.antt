-- The names of sources (own limits; the OCaml manual, "Compilation units").
use Rattle.std.specs.Prelude.{ℕ, List, [], ◌∷◌, Bool, false, ◌==◌, ◌&&◌, ◌||◌, ◌-◌, length, take, drop, nat_le, codes}
use Rattle.std.specs.Char.{is_ascii_alphabetic, is_ascii_alphanumeric}
use Rattle.std.specs.List.{list_all}
use Rattle.std.specs.Str.{bytes_eq}
use Rattle.rotor_base.specs.Limits.{max_name_bytes}

-- letters, digits and `_`
abbrev pub is_stem_byte : ℕ → Bool
is_stem_byte b = is_ascii_alphanumeric b || b == 95

-- a letter, then letters, digits and `_`, at most 255 bytes in all
abbrev pub is_stem_word : List ℕ → Bool
is_stem_word [] = false
is_stem_word (b ∷ bs) = is_ascii_alphabetic b && nat_le (length (b ∷ bs)) max_name_bytes && list_all is_stem_byte (b ∷ bs)

-- a stem and then the ending
unfoldable pub ends_stem : List ℕ → List ℕ → Bool
ends_stem ending name = bytes_eq (drop (length name - length ending) name) ending && is_stem_word (take (length name - length ending) name)

-- the body of a unit, and its interface
abbrev pub is_body_name : List ℕ → Bool
is_body_name name = ends_stem (codes ".ml") name

abbrev pub is_face_name : List ℕ → Bool
is_face_name name = ends_stem (codes ".mli") name

-- a source
abbrev pub is_source_name : List ℕ → Bool
is_source_name name = is_body_name name || is_face_name name
