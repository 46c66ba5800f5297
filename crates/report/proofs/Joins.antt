-- Words joined one after another.
use Rattle.std.proofs.Common.{◌≡◌, ◌∙◌, ℕ, ◌+◌, ◌<◌, ◌≤◌, List, [], ◌∷◌, ◌++◌, append_assoc, length, take, get_or, map, Bor, refl, sym, ap}
use Rattle.std.specs.List.{concat}
use Rattle.std.proofs.lemmas.List.{append-nil, map-append, take_all, take_more}
use Rattle.std.proofs.lemmas.List.Folds.{concat-append}
use Rattle.report.specs.Pieces.{Word, join}
use Rattle.report.specs.Text.{ended}

concat-join : (ws : List Word) → concat ws ≡ join ws
concat-join [] = refl
concat-join (x ∷ []) = append-nil x
concat-join (x ∷ y ∷ ys) = ap (λ zs. x ++ zs) (concat-join (y ∷ ys))

abbrev lent : List (Bor Word) → List Word
lent = map (λ w. w.now)

-- one more word
pub join_more : (words : List (Bor Word)) (i : ℕ) (d : Bor Word) (old new : List ℕ) → i < length words → new ≡ old ++ (get_or words i d).now
    → old ≡ concat (lent (take i words))
    → new ≡ concat (lent (take (i + 1) words))
join_more words i d old new h n o =
    let w = (get_or words i d).now in
    let more : concat (lent (take (i + 1) words)) ≡ concat (lent (take i words)) ++ w =
    ap (λ ws. concat (lent ws)) (take_more words i d h) ∙ ap concat (map-append (λ w. w.now) (take i words) (get_or words i d ∷ []))
    ∙ concat-append (lent (take i words)) (w ∷ []) ∙ ap (λ zs. concat (lent (take i words)) ++ zs) (append-nil w) in
    n ∙ ap (λ zs. zs ++ w) o ∙ sym more

-- all words
pub join_all : (words : List (Bor Word)) (i : ℕ) (bytes : List ℕ) → length words ≤ i → bytes ≡ concat (lent (take i words))
    → bytes ≡ join (lent words)
join_all words i bytes h e = e ∙ ap (λ ws. concat (lent ws)) (take_all i words h) ∙ concat-join (lent words)

-- one more word of a line that is added to a text
pub words_more : (words : List (Bor Word)) (i : ℕ) (d : Bor Word) (start old new : List ℕ) → i < length words → new ≡ old ++ (get_or words i d).now
    → old ≡ start ++ concat (lent (take i words)) → new ≡ start ++ concat (lent (take (i + 1) words))
words_more words i d start old new h n o =
    let w = (get_or words i d).now in
    let front = concat (lent (take i words)) in
    n ∙ ap (λ zs. zs ++ w) o ∙ append_assoc start front w ∙ ap (λ zs. start ++ zs) (join_more words i d front (front ++ w) h refl refl)

-- all words, and the end of the line
pub words_end : (words : List (Bor Word)) (i : ℕ) (start old new : List ℕ) → length words ≤ i → new ≡ old ++ 10 ∷ []
    → old ≡ start ++ concat (lent (take i words)) → new ≡ start ++ ended (join (lent words))
words_end words i start old new h n o =
    let front = concat (lent (take i words)) in
    n ∙ ap (λ zs. zs ++ 10 ∷ []) (o ∙ ap (λ zs. start ++ zs) (join_all words i front h refl)) ∙ append_assoc start (join (lent words)) (10 ∷ [])

-- one more line, of the next item
pub lines_more : {X : Type 0} (f : X → Word) (xs : List X) (i : ℕ) (d : X) (start before after : List Word) (line : Word) → i < length xs
    → after ≡ before ++ line ∷ [] → line ≡ f (get_or xs i d)
    → before ≡ start ++ map f (take i xs) → after ≡ start ++ map f (take (i + 1) xs)
lines_more f xs i d start before after line h a l b =
    let more : map f (take (i + 1) xs) ≡ map f (take i xs) ++ f (get_or xs i d) ∷ [] =
    ap (map f) (take_more xs i d h) ∙ map-append f (take i xs) (get_or xs i d ∷ []) in
    a ∙ ap (λ w. before ++ w ∷ []) l ∙ ap (λ ls. ls ++ f (get_or xs i d) ∷ []) b ∙ append_assoc start (map f (take i xs)) (f (get_or xs i d) ∷ [])
    ∙ ap (λ ls. start ++ ls) (sym more)
