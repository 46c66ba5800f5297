-- Cutting by computing: the lexemes of bytes.
use Rattle.std.proofs.Common.{◌≡◌, ◌∙◌, refl, sym, ap, subst, ℕ, zero, suc, ◌+◌, Bool, true, false, cond, List, [], ◌∷◌, ◌++◌}
use Rattle.std.proofs.Common.{length, take, drop, Option}
use Rattle.std.proofs.Common.{Some, None, option_map, nat_eq, arith}
use Rattle.std.proofs.lemmas.List.{take-append-drop}
use Rattle.rotor_base.specs.declared.token.Class.{Class}
use Rattle.ml_lexer.specs.declared.piece.Piece.{Piece}
use Rattle.ml_lexer.specs.declared.piece.Piece.TheVariants as piece
use Rattle.ml_lexer.specs.Lexed.{Lexeme, LexedFrom}
use Rattle.ml_lexer.specs.Pieces.{piece_at}

abbrev pub a_lexeme : Class → ℕ → List ℕ → Lexeme
a_lexeme kind at front = record { class = kind; start = at; end = at + length front; bytes = front }

-- the lexemes behind a piece, with that of the piece, if it is one
abbrev pub behind : (ℕ → List ℕ → Option (List Lexeme)) → ℕ → List ℕ → Piece → Option (List Lexeme)
behind more at bytes (piece.Trivia n) = cond (nat_eq (length (take n bytes)) n) (more (at + length (take n bytes)) (drop n bytes)) None
behind more at bytes (piece.Lexeme kind n) = cond (nat_eq (length (take n bytes)) n)
    (option_map (λ (xs : List Lexeme). a_lexeme kind at (take n bytes) ∷ xs) (more (at + length (take n bytes)) (drop n bytes))) None
behind more at bytes piece.Bad = None
behind more at bytes piece.LongName = None

-- the lexemes of bytes that begin at this offset, if they have at most so many pieces
abbrev pub cut : ℕ → ℕ → List ℕ → Option (List Lexeme)
cut fuel at [] = Some []
cut zero at (b ∷ bs) = None
cut (suc fuel) at (b ∷ bs) = behind (cut fuel) at (b ∷ bs) (piece_at (b ∷ bs))

less : {X : Type 0} (x y : X) → Some x ≡ Some y → x ≡ y
less x y e = cc

module _ (fuel : ℕ) (more : (at : ℕ) (bytes : List ℕ) (xs : List Lexeme) → cut fuel at bytes ≡ Some xs → LexedFrom at bytes xs)
    (at : ℕ) (bytes : List ℕ) (xs : List Lexeme) where
  abbrev front : ℕ → List ℕ
  front n = take n bytes

  abbrev rest : ℕ → Option (List Lexeme)
  rest n = cut fuel (at + length (front n)) (drop n bytes)

  whole : (n : ℕ) → bytes ≡ front n ++ drop n bytes
  whole n = sym (take-append-drop n bytes)

  long : (n : ℕ) → nat_eq (length (front n)) n ≡ true → n ≡ length (front n)
  long n t = grind (arith, t)

  abbrev all : Class → ℕ → List Lexeme → List Lexeme
  all kind n ys = a_lexeme kind at (front n) ∷ ys

  behind_lexed : (p : Piece) → piece_at bytes ≡ p → behind (cut fuel) at bytes p ≡ Some xs → LexedFrom at bytes xs
  behind_lexed (piece.Trivia n) is e = by (nat_eq (length (front n)) n) refl e where
    by : (t : Bool) → nat_eq (length (front n)) n ≡ t → cond t (rest n) None ≡ Some xs → LexedFrom at bytes xs
    by false t e = let bad : None ≡ Some xs = e in cc
    by true t e =
        LexedFrom.trivia (front n) (drop n bytes) (whole n) (is ∙ ap (λ (k : ℕ). piece.Trivia k) (long n t))
        (more (at + length (front n)) (drop n bytes) xs e)
  behind_lexed (piece.Lexeme kind n) is e = by (nat_eq (length (front n)) n) refl e where
    some : (o : Option (List Lexeme)) → rest n ≡ o → nat_eq (length (front n)) n ≡ true → option_map (all kind n) o ≡ Some xs → LexedFrom at bytes xs
    some None eq t e = let bad : None ≡ Some xs = e in cc
    some (Some ys) eq t e =
        subst (LexedFrom at bytes) (less (all kind n ys) xs e)
        (LexedFrom.lexeme kind (front n) (drop n bytes) (whole n) (is ∙ ap (λ (k : ℕ). piece.Lexeme kind k) (long n t))
        (more (at + length (front n)) (drop n bytes) ys eq))

    by : (t : Bool) → nat_eq (length (front n)) n ≡ t → cond t (option_map (all kind n) (rest n)) None ≡ Some xs → LexedFrom at bytes xs
    by false t e = let bad : None ≡ Some xs = e in cc
    by true t e = some (rest n) refl t e
  behind_lexed piece.Bad is e = let bad : None ≡ Some xs = e in cc
  behind_lexed piece.LongName is e = let bad : None ≡ Some xs = e in cc

-- what is cut so are the lexemes of the bytes
pub cut_lexed : (fuel at : ℕ) (bytes : List ℕ) (xs : List Lexeme) → cut fuel at bytes ≡ Some xs → LexedFrom at bytes xs
cut_lexed fuel at [] xs e = subst (LexedFrom at []) (less [] xs e) LexedFrom.nothing
cut_lexed zero at (b ∷ bs) xs e = let bad : None ≡ Some xs = e in cc
cut_lexed (suc fuel) at (b ∷ bs) xs e = behind_lexed fuel (cut_lexed fuel) at (b ∷ bs) xs (piece_at (b ∷ bs)) refl e
