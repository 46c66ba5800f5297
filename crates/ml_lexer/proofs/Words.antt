-- A word, a number or a mark that ends with the front is the same whatever follows, if the first byte behind is alike.
use Rattle.std.proofs.Common.{◌≡◌, ℕ, suc, ◌+◌, inl, inr, List, [], ◌∷◌, ◌++◌, Bool, true, false, cond, length, take, refl, ap, sym, ◌∙◌, arith}
use Rattle.std.specs.List.{prefix_len}
use Rattle.std.proofs.lemmas.Bool.Decides.{nat_tests}
use Rattle.rotor_base.specs.Name.{is_identifier_byte}
use Rattle.rotor_base.specs.declared.token.Class.{Class}
use Rattle.ml_lexer.specs.declared.piece.Piece.TheVariants as piece
use Rattle.ml_lexer.specs.Bytes.{is_quoted_word_byte, word_length}
use Rattle.ml_lexer.specs.Pieces.{is_long, word_class, word_at}
use Rattle.ml_lexer.proofs.Local.{Alike, both_end, same_byte, both_words, which, word_range, run_stops, run_exact}

-- a run that stops before what follows stops before what is alike
pub alike_stops : (p : ℕ → Bool) (v : Bool) → ((c : ℕ) → is_quoted_word_byte c ≡ true → p c ≡ v) → {r r' : List ℕ} → Alike r r' → prefix_len p r ≡ 0
    → prefix_len p r' ≡ 0
alike_stops p v f both_end e = refl
alike_stops p v f (same_byte {c = c} {r = r} {r' = r'}) e = elim (which (p c)) [
  | inl y ↦ let more : 1 + prefix_len p r ≡ 0 = rw y at e in absurd (omega arith)
  | inr y ↦ rw y refl
]
alike_stops p v f (both_words {c = c} {c' = c'} {r = r} {r' = r'} h h') e = elim (which v) [
  | inl y ↦ let yes = f c h ∙ y in let more : 1 + prefix_len p r ≡ 0 = rw yes at e in absurd (omega arith)
  | inr y ↦ let no = f c' h' ∙ y in rw no refl
]

pub word_byte_is_identifier : (c : ℕ) → is_quoted_word_byte c ≡ true → is_identifier_byte c ≡ true
word_byte_is_identifier c e = elim (which (is_identifier_byte c)) [
  | inl y ↦ y
  | inr n ↦ let r = word_range c e in absurd (grind (arith, nat_tests, n, r))
]

pub take_front : (front rest : List ℕ) → take (length front) (front ++ rest) ≡ front
take_front [] rest = refl
take_front (c ∷ front) rest = ap (λ cs. c ∷ cs) (take_front front rest)

pub word_at_length : (b : List ℕ) (n : ℕ) → word_length b ≡ n → word_at b ≡ cond (is_long n) piece.LongName (piece.Lexeme (word_class (take n b)) n)
unfolding word_at
word_at_length b n e = rw e refl

pub lexeme_of_cond : (t : Bool) (kind k : Class) (n m : ℕ) → cond t piece.LongName (piece.Lexeme kind n) ≡ piece.Lexeme k m → n ≡ m
lexeme_of_cond true kind k n m e = cc
lexeme_of_cond false kind k n m e = cc

pub word_same : (kind : Class) (front rest rest' : List ℕ) → Alike rest rest' → word_at (front ++ rest) ≡ piece.Lexeme kind (length front)
    → word_at (front ++ rest') ≡ piece.Lexeme kind (length front)
word_same kind [] rest rest' alike e = let n = lexeme_of_cond _ _ _ _ _ (sym (word_at_length rest _ refl) ∙ e) in absurd (omega (arith, n))
word_same kind (x ∷ f) rest rest' alike e =
    let n : word_length ((x ∷ f) ++ rest) ≡ suc (length f) = lexeme_of_cond _ _ _ _ _ (sym (word_at_length ((x ∷ f) ++ rest) _ refl) ∙ e) in
    let run : prefix_len is_identifier_byte (f ++ rest) ≡ length f = omega (arith, n) in
    let stops = alike_stops is_identifier_byte true word_byte_is_identifier alike (run_stops is_identifier_byte f rest run) in
    let run' = run_exact is_identifier_byte f rest rest' run stops in
    let n' : word_length ((x ∷ f) ++ rest') ≡ suc (length f) = omega (arith, run') in
    word_at_length ((x ∷ f) ++ rest') (suc (length f)) n'
    ∙ ap (λ w. cond (is_long (suc (length f))) piece.LongName (piece.Lexeme (word_class w) (suc (length f))))
    (take_front (x ∷ f) rest' ∙ sym (take_front (x ∷ f) rest))
    ∙ sym (word_at_length ((x ∷ f) ++ rest) (suc (length f)) n)
    ∙ e

-- a word that ends with the front is one also if nothing follows
pub word_alone : (kind : Class) (front rest : List ℕ) → word_at (front ++ rest) ≡ piece.Lexeme kind (length front)
    → word_at (front ++ []) ≡ piece.Lexeme kind (length front)
word_alone kind [] rest e = let n = lexeme_of_cond _ _ _ _ _ (sym (word_at_length rest _ refl) ∙ e) in absurd (omega (arith, n))
word_alone kind (x ∷ f) rest e =
    let n : word_length ((x ∷ f) ++ rest) ≡ suc (length f) = lexeme_of_cond _ _ _ _ _ (sym (word_at_length ((x ∷ f) ++ rest) _ refl) ∙ e) in
    let run : prefix_len is_identifier_byte (f ++ rest) ≡ length f = omega (arith, n) in
    let run' = run_exact is_identifier_byte f rest [] run refl in
    let n' : word_length ((x ∷ f) ++ []) ≡ suc (length f) = omega (arith, run') in
    word_at_length ((x ∷ f) ++ []) (suc (length f)) n'
    ∙ ap (λ w. cond (is_long (suc (length f))) piece.LongName (piece.Lexeme (word_class w) (suc (length f))))
    (take_front (x ∷ f) [] ∙ sym (take_front (x ∷ f) rest))
    ∙ sym (word_at_length ((x ∷ f) ++ rest) (suc (length f)) n)
    ∙ e

pub word_some : (kind : Class) (b : List ℕ) → word_at b ≡ piece.Lexeme kind 0 → ⊥
word_some kind b e = let n = lexeme_of_cond _ _ _ _ _ (sym (word_at_length b _ refl) ∙ e) in omega (arith, n)
