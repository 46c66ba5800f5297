-- The lexemes of the sources, source by source; and the token at a line and a column.
use Rattle.std.proofs.Common.{◌≡◌, ℕ, zero, suc, ◌<◌, ◌≤◌, List, [], ◌∷◌, Option, Some, None, map, length, get_or, slice_get, All, refl, ap, sym, ◌∙◌}
use Rattle.std.proofs.Common.{subst, arith}
use Rattle.std.proofs.lemmas.List.Elements.{All-get_or}
use Rattle.std.proofs.lemmas.Option.{slice_get-get_or}
use Rattle.rotor_base.specs.declared.place.Place.{Place}
use Rattle.rotor_base.specs.declared.source.SourceFile.{SourceFile}
use Rattle.rotor_base.proofs.Rising.{some_is}
use Rattle.ml_lexer.specs.Lexed.{Lexeme, Lexed}
use Rattle.ml_lexer.proofs.OneCutting.{one_lexed}
use Rattle.ml_lexer.proofs.Order.{lexemes_are_few}
use Rattle.shape_core.specs.Shape.{Name}
use Rattle.project_reading.specs.Sources.{AreCut}
use Rattle.rename_model.specs.Target.{number_of, TextSpot, token_over, IsSpot}

pub cut_length : (ss : List SourceFile) (ls : List (List Lexeme)) → AreCut ss ls → length ss ≡ length ls
cut_length [] [] h = refl
cut_length [] (l ∷ ls) h = absurd h
cut_length (s ∷ ss) [] h = absurd h
cut_length (s ∷ ss) (l ∷ ls) h = let k : length ss ≡ length ls = cut_length ss ls h.1 in omega (arith, k)

pub cut_at : (ss : List SourceFile) (ls : List (List Lexeme)) (n : ℕ) (d : SourceFile) (e : List Lexeme) → AreCut ss ls → n < length ss
    → Lexed (get_or ss n d).bytes (get_or ls n e)
cut_at [] ls n d e h w = absurd (omega arith)
cut_at (s ∷ ss) [] n d e h w = absurd h
cut_at (s ∷ ss) (l ∷ ls) zero d e h w = h.0
cut_at (s ∷ ss) (l ∷ ls) (suc n) d e h w = cut_at ss ls n d e h.1 (omega arith)

pub map_at : {A B : Type 0} (f : A → B) (xs : List A) (n : ℕ) (d : A) (e : B) → n < length xs → get_or (map f xs) n e ≡ f (get_or xs n d)
map_at f [] n d e w = absurd (omega arith)
map_at f (x ∷ xs) zero d e w = refl
map_at f (x ∷ xs) (suc n) d e w = map_at f xs n d e (omega arith)

pub length_map : {A B : Type 0} (f : A → B) (xs : List A) → length (map f xs) ≡ length xs
length_map f [] = refl
length_map f (x ∷ xs) = let k : length (map f xs) ≡ length xs = length_map f xs in omega (arith, k)

-- of lists that a view makes lexemes of
module _ {A : Type 0} (view : A → List Lexeme) (ss : List SourceFile) (ts : List A) (cut : AreCut ss (map view ts)) where
  pub within : (n : ℕ) → n < length ss → n < length ts
  within n w = let k : length ss ≡ length (map view ts) = cut_length ss (map view ts) cut in let l : length (map view ts) ≡ length ts =
      length_map view ts in omega (arith, w, k, l)

  pub lexed_at : (n : ℕ) (d : SourceFile) (e : A) → n < length ss → Lexed (get_or ss n d).bytes (view (get_or ts n e))
  lexed_at n d e w = subst (Lexed (get_or ss n d).bytes) (map_at view ts n e (view e) (within n w)) (cut_at ss (map view ts) n d (view e) cut w)

pub few_lexemes : (bytes : List ℕ) (xs : List Lexeme) → Lexed bytes xs → length bytes ≤ 1048576 → length xs ≤ 1048576
few_lexemes bytes xs h w = let k : length xs ≤ length bytes = lexemes_are_few bytes xs h in omega (arith, k, w)

-- ---- the token at a line and a column

abbrev pub IsTold : List SourceFile → Name → TextSpot → ℕ → Option ℕ → Type 0
IsTold files name spot n None = (p : Place) → IsSpot files name spot p → ⊥
IsTold files name spot n (Some t) = IsSpot files name spot (record { file = n; token = t })

pub spot_told : (files : List SourceFile) (name : Name) (spot : TextSpot) (n : ℕ) (d : SourceFile) (xs : List Lexeme) (o : Option ℕ)
    → number_of files name ≡ Some n → n < length files
    → Lexed (get_or files n d).bytes xs → o ≡ token_over spot (get_or files n d).bytes xs → IsTold files name spot n o
spot_told files name spot n d xs (Some t) e w cut h =
    record { source = get_or files n d; lexemes = xs; number = e; here = slice_get-get_or files n d w; cut = cut; token = sym h }
spot_told files name spot n d xs None e w cut h = λ p k.
    let f : n ≡ p.file = some_is n p.file (sym e ∙ k.number) in
    let s : get_or files n d ≡ k.source =
    some_is (get_or files n d) k.source (sym (slice_get-get_or files n d w) ∙ (ap (slice_get files) f ∙ k.here)) in
    let x : xs ≡ k.lexemes = one_lexed cut (subst (λ (z : SourceFile). Lexed z.bytes k.lexemes) (sym s) k.cut) in
    let t : token_over spot k.source.bytes k.lexemes ≡ None = ap (λ (z : SourceFile). token_over spot z.bytes k.lexemes) (sym s)
    ∙ (ap (token_over spot (get_or files n d).bytes) (sym x) ∙ sym h) in
    let wrong : None ≡ Some p.token = sym t ∙ k.token in
    absurd cc

pub no_source : (files : List SourceFile) (name : Name) (spot : TextSpot) → number_of files name ≡ None → (p : Place) → IsSpot files name spot p → ⊥
no_source files name spot e p k = let wrong : None ≡ Some p.file = sym e ∙ k.number in absurd cc

-- what is found in a source that was cut, and how many its tokens are
module _ {A : Type 0} (view : A → List Lexeme) (ss : List SourceFile) (ts : List A) (cut : AreCut ss (map view ts)) (n : ℕ) (s : SourceFile) (t : A)
    (w : n < length ss) (ss_at : s ≡ get_or ss n s) (ts_at : t ≡ get_or ts n t) (xs : List Lexeme) (xs_of : xs ≡ view t) where
  pub spot_at : (name : Name) (spot : TextSpot) (bytes : List ℕ) (o : Option ℕ) → number_of ss name ≡ Some n → bytes ≡ s.bytes
      → o ≡ token_over spot bytes xs → IsTold ss name spot n o
  spot_at name spot bytes o e b h =
      spot_told ss name spot n s (view (get_or ts n t)) o e w (lexed_at view ss ts cut n s t w)
      (h ∙ (ap (λ z. token_over spot z xs) (b ∙ ap (λ (z : SourceFile). z.bytes) ss_at)
      ∙ ap (token_over spot (get_or ss n s).bytes) (xs_of ∙ ap view ts_at)))

  pub few_at : All (λ file. length file.bytes ≤ 1048576) ss → length xs ≤ 1048576
  few_at small =
      let k : length (view (get_or ts n t)) ≤ 1048576 = few_lexemes (get_or ss n s).bytes (view (get_or ts n t)) (lexed_at view ss ts cut n s t w)
      (All-get_or (λ file. length file.bytes ≤ 1048576) ss n s w small) in
      subst (λ l. length l ≤ 1048576) (sym (xs_of ∙ ap view ts_at)) k
