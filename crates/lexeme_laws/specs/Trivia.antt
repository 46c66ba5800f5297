-- The table of trivia: which trivia begins at the front of some bytes, and the bytes behind it (the OCaml manual,
-- "Blanks", "Comments" and "Attributes").
use Rattle.std.specs.Prelude.{ℕ, ◌≤◌, List, ◌∷◌, ◌++◌, IsTrue, IsFalse, Bool, ◌&&◌, codes, length, drop}
use Rattle.ml_lexer.specs.Bytes.{among, is_at}
use Rattle.ml_lexer.specs.Quotes.{opens_quoted}
use Rattle.ml_lexer.specs.Trivia.{opens_comment}
use Rattle.lexeme_laws.specs.Table.{IsChar, IsTextLexeme, IsQuoted}
use Rattle.lexeme_laws.specs.Begins.{NoCharBegins}

-- what comments and attributes skip whole
pub data IsSkipped : List ℕ → Type 0 where
  text : (front : List ℕ) → IsTextLexeme front → IsSkipped front
  quoted : (front : List ℕ) → IsQuoted front → IsSkipped front
  char : (front : List ℕ) → IsChar front → IsSkipped front

-- no Text, no Quoted and no Char begins here
pub record IsPlain (bytes : List ℕ) : Type 0 where
  pub no_text : IsFalse (is_at "\"" 0 bytes)
  pub no_quoted : IsFalse (opens_quoted bytes)
  pub no_char : NoCharBegins bytes

abbrev pub closes_comment : List ℕ → Bool
closes_comment bytes = is_at "*" 0 bytes && is_at ")" 1 bytes

-- The bytes inside a comment, up to its `*)`, and the bytes behind it. Comments nest.
pub data CommentEnds : List ℕ → List ℕ → Type 0 where
  closed : (behind : List ℕ) → CommentEnds (codes "*)" ++ behind) behind
  nested :
      (inside middle behind : List ℕ) → CommentEnds inside middle → CommentEnds middle behind
      → CommentEnds (codes "(*" ++ inside) behind
  skipped : (front rest behind : List ℕ) → IsSkipped front → CommentEnds rest behind → CommentEnds (front ++ rest) behind
  plain :
      (c : ℕ) (rest behind : List ℕ) → IsFalse (opens_comment (c ∷ rest)) → IsFalse (closes_comment (c ∷ rest))
      → IsPlain (c ∷ rest) → CommentEnds rest behind → CommentEnds (c ∷ rest) behind

-- The bytes inside an attribute, up to its `]`, and the bytes behind it. A `[` opens one more level, and comments are
-- skipped whole.
pub data AttributeEnds : List ℕ → List ℕ → Type 0 where
  closed : (behind : List ℕ) → AttributeEnds (codes "]" ++ behind) behind
  nested :
      (inside middle behind : List ℕ) → AttributeEnds inside middle → AttributeEnds middle behind
      → AttributeEnds (codes "[" ++ inside) behind
  comment :
      (inside middle behind : List ℕ) → CommentEnds inside middle → AttributeEnds middle behind
      → AttributeEnds (codes "(*" ++ inside) behind
  skipped : (front rest behind : List ℕ) → IsSkipped front → AttributeEnds rest behind → AttributeEnds (front ++ rest) behind
  plain :
      (c : ℕ) (rest behind : List ℕ) → IsFalse (opens_comment (c ∷ rest)) → IsFalse (among "[]" c) → IsPlain (c ∷ rest)
      → AttributeEnds rest behind → AttributeEnds (c ∷ rest) behind

-- The bytes of a trivia, and the bytes behind it: a space, tab, LF, CR or form feed; a comment, from its `(*`; or an
-- attribute, from its `[@`, which more `@` may follow.
pub data TriviaEnds : List ℕ → List ℕ → Type 0 where
  blank : (c : ℕ) (behind : List ℕ) → IsTrue (among " \t\n\r\u{c}" c) → TriviaEnds (c ∷ behind) behind
  comment : (inside behind : List ℕ) → CommentEnds inside behind → TriviaEnds (codes "(*" ++ inside) behind
  attribute : (inside behind : List ℕ) → AttributeEnds inside behind → TriviaEnds (codes "[@" ++ inside) behind

-- the first `n` bytes are a trivia
abbrev pub TriviaBegins : ℕ → List ℕ → Type 0
TriviaBegins n bytes = (n ≤ length bytes) × TriviaEnds bytes (drop n bytes)
