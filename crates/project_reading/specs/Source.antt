-- What one source is read as, and why it is not (the OCaml manual, "Lexical conventions" and "Compilation units").
use Rattle.std.specs.Prelude.{◌≡◌, ◌⊎◌, ℕ, List, Option, Some, None, if◌then◌else◌, map}
use Rattle.rotor_base.specs.Stem.{is_body_name}
use Rattle.rotor_base.specs.declared.place.Place.{Place}
use Rattle.rotor_base.specs.declared.refusal.Refusal.{Refusal}
use Rattle.rotor_base.specs.declared.refusal.Refusal.TheVariants as refusal
use Rattle.rotor_base.specs.declared.source.SourceFile.{SourceFile}
use Rattle.rotor_base.specs.declared.token.FormKind.{FormKind}
use Rattle.rotor_base.specs.declared.token.Token.{Token}
use Rattle.ml_lexer.specs.Lexed.{Lexeme, Lexed, LexFault, Bad, LongName}
use Rattle.ml_trees.specs.Tree.{FileTree}
use Rattle.ml_syntax.specs.RespelledFile.{lexeme_toks}
use Rattle.parse_base.specs.Forms.{first_form}
use Rattle.parse_base.specs.Nesting.{DeepIs}
use Rattle.parse_module.specs.declared.files.FileKind.{FileKind}
use Rattle.parse_module.specs.declared.files.FileKind.TheVariants as kind
use Rattle.parse_module.specs.Whole.{IsTreeOf, HasNoTree}

-- a body or an interface, by the ending of the name
abbrev pub kind_of_source : List ℕ → FileKind
kind_of_source name = if is_body_name name then kind.Body else kind.Face

-- A lexeme as a token of the program. The rules of forms and of nesting are defined on tokens.
abbrev pub token_of : Lexeme → Token
token_of x = record { class = x.class; start = x.start; end = x.end; bytes = record { ref_ptr = (0, 0); now = x.bytes } }

-- these lexemes as tokens
abbrev pub tokens_of : List Lexeme → List Token
tokens_of = map token_of

-- the first refused form among these lexemes
abbrev pub form_among : List Lexeme → Option (ℕ × FormKind)
form_among xs = first_form 1 (tokens_of xs)

-- the first of these lexemes after which the nesting is over the limit, or there is none
abbrev pub IsDeepAt : List Lexeme → Option ℕ → Type 0
IsDeepAt xs deep = DeepIs (tokens_of xs) deep

-- the bytes are cut into these lexemes, which have no refused form, and their nesting is never over the limit
pub record IsPlain (bytes : List ℕ) (xs : List Lexeme) : Type 0 where
  pub cut : Lexed bytes xs
  pub no_form : form_among xs ≡ None
  pub shallow : IsDeepAt xs None

-- the source with this number is read as this tree: the tree of its kind that has its words
pub record ReadsAs (number : ℕ) (source : SourceFile) (tree : FileTree) : Type 0 where
  pub lexemes : List Lexeme
  pub plain : IsPlain source.bytes lexemes
  pub parsed : IsTreeOf (kind_of_source source.name) number (lexeme_toks 1 lexemes) tree

-- the token with this number in the file with this number
abbrev pub place : ℕ → ℕ → Place
place file token = record { file = file; token = token }

-- the source with this number is not read, and this says why
pub data IsUnread (number : ℕ) (source : SourceFile) : Refusal → Type 0 where
  -- at the offset no lexeme begins
  bad : (offset : ℕ) → LexFault source.bytes (Bad offset) → IsUnread number source (refusal.Lex number offset)
  -- at the offset a word is too long
  long_name : (offset : ℕ) → LexFault source.bytes (LongName offset) → IsUnread number source (refusal.LongName number offset)
  -- the first refused form begins at this token
  form : (xs : List Lexeme) (token : ℕ) (kind : FormKind) → Lexed source.bytes xs → form_among xs ≡ Some (token, kind)
      → IsUnread number source (refusal.Form (place number token) kind)
  -- there is none, and this is the first token after which the nesting is over the limit
  deep : (xs : List Lexeme) (token : ℕ) → Lexed source.bytes xs → form_among xs ≡ None → IsDeepAt xs (Some token)
      → IsUnread number source (refusal.Deep (place number token))
  -- there is none of either, and no tree of its kind has its words
  syntax : (xs : List Lexeme) → IsPlain source.bytes xs → HasNoTree (kind_of_source source.name) number (lexeme_toks 1 xs)
      → IsUnread number source (refusal.Syntax number)

-- a source is refused so: rightly, or for want of memory
abbrev pub IsSourceRefused : ℕ → SourceFile → Refusal → Type 0
IsSourceRefused number source why = IsUnread number source why ⊎ (why ≡ refusal.Memory)
