-- What a function that reads ensures: it gives what the reading on lists gives, unless memory runs
-- out (own).
use Rattle.std.specs.Prelude.{◌≡◌, ℕ, ◌+◌, ◌<◌, ◌≤◌, Bool, false, length, List, [], ◌∷◌, drop, Option, Some, None, Result, Ok, Err}
use Rattle.rotor_base.specs.declared.token.Class.{Class}
use Rattle.rotor_base.specs.declared.token.Class.TheVariants as class
use Rattle.rotor_base.specs.declared.token.Token.{Token}
use Rattle.ml_trees.specs.declared.fixed.Fixed.{Fixed}
use Rattle.ml_trees.specs.Tok.{Name, Tok, fixed, placed, word, same, fixed_of, fixed_at}
use Rattle.token_reading.specs.declared.tokens.Kind.{Kind}
use Rattle.token_reading.specs.declared.tokens.Kind.TheVariants as kind
use Rattle.token_reading.specs.declared.error.ReadError.{ReadError}
use Rattle.token_reading.specs.declared.error.ReadError.TheVariants as unread
use Rattle.std.specs.declared.alloc.Global.{Global}
use Rattle.rotor_base.specs.Limits.{max_file_bytes}
use denote.Ref.{Bor}
use Rattle.ml_trees.specs.declared.pattern.Pat.{Pat as Source}
use Rattle.ml_trees.specs.View.{view_pat}
use Rattle.token_reading.specs.PatReading.{read_pat}
use Rattle.token_reading.specs.Tokens.{from}

-- ---- the tokens of the code

abbrev pub head_text : List Token → List ℕ
head_text [] = []
head_text (t ∷ ts) = t.bytes.now

-- the text of the token at a place
unfoldable pub text_at : List Token → ℕ → List ℕ
text_at ts at = head_text (drop at ts)

abbrev pub name_at : List Token → ℕ → Name
name_at ts at = record { at = at + 1; text = text_at ts at }

-- ---- what is at a place

abbrev pub kind_or : Class → Option Fixed → Kind
kind_or c None = kind.Word c
kind_or c (Some x) = kind.Fixed x

-- what a token of this class and text is to the grammar
abbrev pub kind_of : Class → List ℕ → Kind
kind_of class.Keyword text = kind_or class.Keyword (fixed_of text)
kind_of class.Mark text = kind_or class.Mark (fixed_of text)
kind_of c text = kind.Word c

-- the token at a place is of this kind
abbrev pub Sees : Kind → ℕ → List ℕ → List Tok → List Tok → Type 0
Sees (kind.Fixed x) at text here next = here ≡ fixed_at at x ∷ next
Sees (kind.Word c) at text here next = here ≡ word c (record { at = at; text = text }) ∷ next
Sees kind.End at text here next = here ≡ []

abbrev pub IsThere : Kind → ℕ → ℕ → Type 0
IsThere kind.End at n = n ≤ at
IsThere _ at n = at < n

-- this fixed word begins the tokens
abbrev pub starts : Fixed → List Tok → Bool
starts k (fixed j ∷ ts) = same j k
starts k (placed j at ∷ ts) = same j k
starts k _ = false

-- ---- what is given

abbrev pub Fails : {A : Type 0} → ReadError → Option A → Type 0
Fails unread.Syntax read = read ≡ None
Fails unread.Memory read = Unit {0}

abbrev pub Gives : {A X : Type 0} → (X → A) → Result X ReadError → Option A → Type 0
Gives view (Ok x) read = read ≡ Some (view x)
Gives view (Err e) read = Fails e read

-- the same of what is read by a view, and the tokens after it
abbrev pub GivesAt : {A X : Type 0} → (X → A) → List Token → Result (X × ℕ) ReadError → Option (A × List Tok) → Type 0
GivesAt view ts r read = Gives (λ x. (view x.0, from ts x.1)) r read

-- What a function value that reads patterns does, to a depth.
pub record Nests (depth : ℕ) (pre : Global → Bor (List Token) → ℕ → ℕ → ℕ → Type 0)
    (post : Global → Bor (List Token) → ℕ → ℕ → ℕ → Result (Source × ℕ) ReadError → Type 0) : Type 0 where
  pub callable : (alloc : Global) (ts : Bor (List Token)) (levels at : ℕ) → length ts.now ≤ max_file_bytes → pre alloc ts depth levels at
  pub reads : (alloc : Global) (ts : Bor (List Token)) (levels at : ℕ) (r : Result (Source × ℕ) ReadError) → post alloc ts depth levels at r
      → Gives (λ x. (view_pat x.0, from ts.now x.1)) r (read_pat depth (from ts.now at))
