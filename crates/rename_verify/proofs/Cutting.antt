-- The lexemes of the new sources, source by source.
use Rattle.std.proofs.Common.{◌≡◌, ℕ, suc, ◌+◌, ◌<◌, inl, inr, List, [], ◌∷◌, ◌++◌, Some, map, take, length, get_or, slice_get, unwrap_or, refl, ap}
use Rattle.std.proofs.Common.{sym, subst, ◌∙◌}
use Rattle.std.proofs.lemmas.List.{map-append, take_more}
use Rattle.std.proofs.lemmas.Option.{slice_get-map}
use Rattle.std.specs.Option.{option_map}
use Rattle.rotor_base.specs.declared.place.Place.{Place}
use Rattle.rotor_base.specs.declared.source.SourceFile.{SourceFile}
use Rattle.ml_lexer.specs.Lexed.{Fault, Lexeme, LexFault}
use Rattle.ml_lexer.proofs.OneCutting.{not_both, one_lexed}
use Rattle.rename_verify.specs.Candidate.{AreLexemes, AreLexemesOf, lexeme_at, lower_word, word_at}

-- bytes with a fault are not cut
pub fault_is_uncut : (bytes : List ℕ) (fault : Fault) → LexFault bytes fault → AreLexemes bytes []
fault_is_uncut bytes fault h = inr ((λ ys k. not_both k h), refl)

-- one more source
lexemes_push : (front : List SourceFile) (outs : List (List Lexeme)) (x : SourceFile) (out : List Lexeme) → AreLexemesOf front outs
    → AreLexemes x.bytes out → AreLexemesOf (front ++ x ∷ []) (outs ++ out ∷ [])
lexemes_push [] [] x out h i = (i, tt)
lexemes_push [] (o ∷ outs) x out h i = absurd h
lexemes_push (a ∷ front) [] x out h i = absurd h
lexemes_push (a ∷ front) (o ∷ outs) x out h i = (h.0, lexemes_push front outs x out h.1 i)

pub lexemes_more : {A : Type 0} (view : A → List Lexeme) (xs : List SourceFile) (n : ℕ) (d : SourceFile) (outs all : List A) (out : A)
    → n < length xs → AreLexemesOf (take n xs) (map view outs)
    → AreLexemes (get_or xs n d).bytes (view out) → all ≡ outs ++ out ∷ [] → AreLexemesOf (take (n + 1) xs) (map view all)
lexemes_more view xs n d outs all out less h i a =
    let x = get_or xs n d in
    let mapped : map view all ≡ map view outs ++ view out ∷ [] = ap (map view) a ∙ map-append view outs (out ∷ []) in
    subst (λ l. AreLexemesOf l (map view all)) (sym (take_more xs n d less))
    (subst (AreLexemesOf (take n xs ++ x ∷ [])) (sym mapped) (lexemes_push (take n xs) (map view outs) x (view out) h i))

-- ---- the word at a place

pub word_found : {A : Type 0} (view : A → List Lexeme) (lists : List A) (p : Place) (tokens : A) (before : ℕ) (x : Lexeme)
    → slice_get lists p.file ≡ Some tokens → p.token ≡ suc before
    → slice_get (view tokens) before ≡ Some x → word_at (map view lists) p ≡ lower_word (Some x)
word_found view lists p tokens before x h i k =
    ap (λ o. lower_word (lexeme_at (unwrap_or o []) p.token)) (slice_get-map view lists p.file ∙ ap (option_map view) h)
    ∙ (ap (λ n. lower_word (lexeme_at (view tokens) n)) i ∙ ap lower_word k)

-- ---- the lexemes of sources are one

one_lexemes_of : (bytes : List ℕ) (a b : List Lexeme) → AreLexemes bytes a → AreLexemes bytes b → a ≡ b
one_lexemes_of bytes a b (inl h) (inl k) = one_lexed h k
one_lexemes_of bytes a b (inl h) (inr k) = absurd (k.0 a h)
one_lexemes_of bytes a b (inr h) (inl k) = absurd (h.0 b k)
one_lexemes_of bytes a b (inr h) (inr k) = h.1 ∙ sym k.1

pub one_lexemes : (ss : List SourceFile) (a b : List (List Lexeme)) → AreLexemesOf ss a → AreLexemesOf ss b → a ≡ b
one_lexemes [] [] [] h k = refl
one_lexemes [] [] (y ∷ b) h k = absurd k
one_lexemes [] (x ∷ a) b h k = absurd h
one_lexemes (s ∷ ss) [] b h k = absurd h
one_lexemes (s ∷ ss) (x ∷ a) [] h k = absurd k
one_lexemes (s ∷ ss) (x ∷ a) (y ∷ b) h k = ap (λ z. z ∷ a) (one_lexemes_of s.bytes x y h.0 k.0) ∙ ap (λ l. y ∷ l) (one_lexemes ss a b h.1 k.1)
