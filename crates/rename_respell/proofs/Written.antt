-- The bytes of a source, token by token.
use Rattle.std.proofs.Common.{◌≡◌, ℕ, suc, ◌+◌, ◌-◌, ◌<◌, ◌≤◌, List, ◌∷◌, ◌++◌, length, drop, get_or, ap, sym, subst, ◌∙◌, arith, append_assoc}
use Rattle.std.proofs.Common.{drop-drop, Option}
use Rattle.std.proofs.lemmas.List.{drop_more, drop_all}
use Rattle.std.specs.Borrow.{Bor}
use Rattle.std.specs.BTreeMap.{BTreeMap}
use Rattle.std.specs.Prelude.{slice_range}
use Rattle.rotor_base.specs.declared.place.Goal.{Goal}
use Rattle.rotor_base.specs.declared.place.Place.{Place}
use Rattle.rotor_base.specs.declared.token.Token.{Token}
use Rattle.ml_lexer.specs.Laws.{AreInOrder}
use Rattle.ml_lexer.specs.Lexed.{Lexeme, view_token, view_tokens}
use Rattle.ml_lexer.specs.Respelled.{respelled, respelled_from}
use Rattle.value_sites.specs.Respelled.{Spelling}
use Rattle.shape_core.specs.Shape.{Name}
use Rattle.binding_model.specs.Renaming.{in_file}
use Rattle.rename_respell.specs.Respelled.{new_text, new_texts}
use Rattle.rename_respell.specs.Tables.{text_of, word_in, words_in}
use Rattle.rename_respell.proofs.Labels.{text_is}

later : (src : List ℕ) (from end : ℕ) → from ≤ end → drop (end - from) (drop from src) ≡ drop end src
later src from end le = let sum : from + (end - from) ≡ end = omega (arith, le) in drop-drop (end - from) from src ∙ ap (λ n. drop n src) sum

-- one more token
one_more : (src : List ℕ) (from : ℕ) (x : Lexeme) (xs : List Lexeme) (word : List ℕ) (words : List (List ℕ)) (done : List ℕ) → from ≤ x.end
    → ((done ++ slice_range src from x.start) ++ word) ++ respelled_from x.end (drop x.end src) xs words ≡ done ++ respelled_from from (drop from src)
    (x ∷ xs) (word ∷ words)
one_more src from x xs word words done le =
    let gap = slice_range src from x.start in
    let rest = respelled_from x.end (drop x.end src) xs words in
    append_assoc (done ++ gap) word rest
    ∙ append_assoc done gap (word ++ rest)
    ∙ ap (λ l. done ++ l) (sym (append_assoc gap word rest))
    ∙ ap (λ b. done ++ ((gap ++ word) ++ respelled_from x.end b xs words)) (sym (later src from x.end le))

module _ (names : BTreeMap Place (Bor (List ℕ))) (goals : BTreeMap Place Goal) (file : ℕ) (src : List ℕ) (ts : List Token) where
  abbrev v : Spelling
  v = in_file (words_in names goals) file

  -- the tokens that are left, in the order of their bytes
  abbrev pub IsAt : ℕ → ℕ → Type 0
  IsAt i from = AreInOrder src from (view_tokens (drop i ts))

  -- what is written, with what is left, is the whole
  abbrev pub Continues : ℕ → ℕ → List ℕ → Type 0
  Continues i from done =
      done ++ respelled_from from (drop from src) (view_tokens (drop i ts)) (new_texts v (i + 1) (view_tokens (drop i ts))) ≡ respelled src
      (view_tokens ts) (new_texts v 1 (view_tokens ts))

  -- the token at a position
  module _ (i from : ℕ) (d : Token) (w : i < length ts) (h : IsAt i from) where
    abbrev pub t : Token
    t = get_or ts i d

    here : drop i ts ≡ t ∷ drop (i + 1) ts
    here = drop_more ts i d w

    order_here : AreInOrder src from (view_tokens (t ∷ drop (i + 1) ts))
    order_here = subst (λ l. AreInOrder src from (view_tokens l)) here h

    pub begins : from ≤ t.start
    begins = order_here.0

    pub within : t.start ≤ length src
    within = let a = order_here.1 in let b = order_here.2 in omega (arith, a, b)

    pub goes_on : IsAt (i + 1) t.end
    goes_on = order_here.4

    pub written : (n : ℕ) (o : Option Name) (done mid all : List ℕ) → n ≡ i + 1 → o ≡ word_in names goals (record { file = file; token = n })
        → mid ≡ done ++ slice_range src from t.start
        → all ≡ mid ++ text_of o t.class t.bytes.now → Continues i from done → Continues (i + 1) t.end all
    written n o done mid all count is m a k =
        let rest = drop (i + 1) ts in
        let gap = slice_range src from t.start in
        let new = new_text (v (i + 1)) t.class t.bytes.now in
        let start = order_here.0 in
        let span = order_here.1 in
        let le : from ≤ t.end = omega (arith, start, span) in
        let next : i + 1 + 1 ≡ suc (i + 1) = omega arith in
        let text : text_of o t.class t.bytes.now ≡ new =
        ap (λ z. text_of z t.class t.bytes.now) is ∙ text_is (word_in names goals (record { file = file; token = n })) t.class t.bytes.now
        ∙ ap (λ z. new_text (v z) t.class t.bytes.now) count in
        ap (λ b. b ++ respelled_from t.end (drop t.end src) (view_tokens rest) (new_texts v (i + 1 + 1) (view_tokens rest)))
        (a ∙ ap (λ b. b ++ text_of o t.class t.bytes.now) m ∙ ap (λ b. (done ++ gap) ++ b) text)
        ∙ ap (λ z. ((done ++ gap) ++ new) ++ respelled_from t.end (drop t.end src) (view_tokens rest) (new_texts v z (view_tokens rest))) next
        ∙ one_more src from (view_token t) (view_tokens rest) new (new_texts v (suc (i + 1)) (view_tokens rest)) done le
        ∙ ap (λ l. done ++ respelled_from from (drop from src) (view_tokens l) (new_texts v (i + 1) (view_tokens l))) (sym here)
        ∙ k

  pub ends : (i from : ℕ) (done all : List ℕ) → length ts ≤ i → all ≡ done ++ drop from src → Continues i from done
      → all ≡ respelled src (view_tokens ts) (new_texts v 1 (view_tokens ts))
  ends i from done all ge a k =
      a ∙ ap (λ l. done ++ respelled_from from (drop from src) (view_tokens l) (new_texts v (i + 1) (view_tokens l))) (sym (drop_all i ts ge)) ∙ k
