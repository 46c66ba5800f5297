-- Where the first head of a name is (own). The names that are bound where a path begins are bound before it. So a
-- source without the name in its first lexemes needs a unit without a name, exactly if one of these lexemes is such a
-- head.
use Rattle.std.specs.Prelude.{◌≡◌, ℕ, ◌+◌, List, [], ◌++◌, Bool, true, false, ◌&&◌, if◌then◌else◌, drop, length, map, take}
use Rattle.std.specs.Str.{bytes_eq}
use Rattle.rotor_base.specs.declared.token.Class.{Class}
use Rattle.rotor_base.specs.declared.token.Class.TheVariants as class
use Rattle.ml_lexer.specs.Lexed.{Lexeme}
use Rattle.parse_module.specs.declared.files.FileKind.{FileKind}
use Rattle.unit_heads.specs.Heads.{is_among}
use Rattle.refusal_places.specs.Heads.{heads_of}

abbrev pub is_upper : Class → Bool
is_upper class.Upper = true
is_upper _ = false

-- a lexeme, without its bytes if it is this name of a module
abbrev pub blank : List ℕ → Lexeme → Lexeme
blank name x = if is_upper x.class && bytes_eq x.bytes name then record { class = x.class; start = x.start; end = x.end; bytes = [] } else x

-- lexemes, without the name in the first ones
abbrev pub blanked : List ℕ → ℕ → List Lexeme → List Lexeme
blanked name count xs = map (blank name) (take count xs) ++ drop count xs

-- one of the first lexemes is the head of a path, of this name, that is not bound there
abbrev pub has_head : FileKind → List ℕ → ℕ → List Lexeme → Bool
has_head k name count xs = is_among (heads_of k (blanked name count xs)) []

-- the first such head is the lexeme at this place, from 0
pub record IsFirstHead (k : FileKind) (name : List ℕ) (xs : List Lexeme) (at : ℕ) : Type 0 where
  pub before : has_head k name at xs ≡ false
  pub here : has_head k name (at + 1) xs ≡ true

-- there is none, or no lexeme has bytes at all
pub data HasNoHead (k : FileKind) (name : List ℕ) (xs : List Lexeme) : Type 0 where
  absent : has_head k name (length xs) xs ≡ false → HasNoHead k name xs
  nameless : has_head k name 0 xs ≡ true → HasNoHead k name xs
