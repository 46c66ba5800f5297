-- Sources that are read one after another.
use Rattle.std.proofs.Common.{◌≡◌, ℕ, zero, suc, ◌+◌, ◌<◌, inl, inr, List, [], ◌∷◌, ◌++◌, map, length, get_or, take, refl, ap, sym, subst, arith, Vec}
use Rattle.std.specs.Global.{Global}
use Rattle.std.proofs.lemmas.List.{map-append}
use Rattle.rotor_base.specs.declared.refusal.Refusal.{Refusal}
use Rattle.rotor_base.specs.declared.source.SourceFile.{SourceFile}
use Rattle.rotor_base.specs.declared.token.Token.{Token}
use Rattle.ml_lexer.specs.Lexed.{Lexeme, Lexed, view_tokens}
use Rattle.ml_trees.specs.declared.module.FileTree.{FileTree as Source}
use Rattle.ml_trees.specs.Tree.{FileTree}
use Rattle.ml_trees.specs.View.{view_file}
use Rattle.project_reading.specs.Source.{ReadsAs, IsUnread, IsSourceRefused}
use Rattle.project_reading.specs.Sources.{ReadAll, FirstUnread, AreCut, AreSourcesRefused}

-- as many trees as sources
pub as_many_trees : (number : ℕ) (ss : List SourceFile) (ts : List FileTree) → ReadAll number ss ts → length ts ≡ length ss
as_many_trees number [] [] h = refl
as_many_trees number [] (t ∷ ts) h = absurd h
as_many_trees number (s ∷ ss) [] h = absurd h
as_many_trees number (s ∷ ss) (t ∷ ts) h = ap suc (as_many_trees (suc number) ss ts h.1)

next : (number k : ℕ) → number + suc k ≡ suc number + k
next number k = omega arith

after : (k : ℕ) → suc k ≡ k + 1
after k = omega arith

alone : (number : ℕ) → number + 0 ≡ number
alone number = omega arith

-- one more source is read
pub one_more_read : (number k : ℕ) (ss : List SourceFile) (s : SourceFile) (ts : List FileTree) (t : FileTree) → k < length ss → s ≡ get_or ss k s
    → ReadAll number (take k ss) ts → ReadsAs (number + k) s t → ReadAll number (take (suc k) ss) (ts ++ t ∷ [])
one_more_read number k [] s ts t lt is h r = absurd (omega (arith, lt))
one_more_read number zero (x ∷ ss) s [] t lt is h r = (subst (λ n. ReadsAs n x t) (alone number) (subst (λ y. ReadsAs (number + 0) y t) is r), tt)
one_more_read number zero (x ∷ ss) s (u ∷ ts) t lt is h r = absurd h
one_more_read number (suc k) (x ∷ ss) s [] t lt is h r = absurd h
one_more_read number (suc k) (x ∷ ss) s (u ∷ ts) t lt is h r =
    (h.0, one_more_read (suc number) k ss s ts t (omega (arith, lt)) is h.1 (subst (λ n. ReadsAs n s t) (next number k) r))

-- those before a source are read, and it is not
pub first_unread : (number k : ℕ) (ss : List SourceFile) (s : SourceFile) (ts : List FileTree) (why : Refusal) → k < length ss → s ≡ get_or ss k s
    → ReadAll number (take k ss) ts → IsUnread (number + k) s why → FirstUnread number ss why
first_unread number k [] s ts why lt is h r = absurd (omega (arith, lt))
first_unread number zero (x ∷ ss) s ts why lt is h r = inl
    (subst (λ n. IsUnread n x why) (alone number) (subst (λ y. IsUnread (number + 0) y why) is r))
first_unread number (suc k) (x ∷ ss) s [] why lt is h r = absurd h
first_unread number (suc k) (x ∷ ss) s (u ∷ ts) why lt is h r =
    inr (u, h.0, first_unread (suc number) k ss s ts why (omega (arith, lt)) is h.1 (subst (λ n. IsUnread n s why) (next number k) r))

-- one more source is cut
pub one_more_cut : (k : ℕ) (ss : List SourceFile) (s : SourceFile) (lists : List (List Lexeme)) (xs : List Lexeme) → k < length ss
    → s ≡ get_or ss k s → AreCut (take k ss) lists → Lexed s.bytes xs → AreCut (take (suc k) ss) (lists ++ xs ∷ [])
one_more_cut k [] s lists xs lt is h cut = absurd (omega (arith, lt))
one_more_cut zero (x ∷ ss) s [] xs lt is h cut = (subst (λ y. Lexed y.bytes xs) is cut, tt)
one_more_cut zero (x ∷ ss) s (ys ∷ lists) xs lt is h cut = absurd h
one_more_cut (suc k) (x ∷ ss) s [] xs lt is h cut = absurd h
one_more_cut (suc k) (x ∷ ss) s (ys ∷ lists) xs lt is h cut = (h.0, one_more_cut k ss s lists xs (omega (arith, lt)) is h.1 cut)

counted : (k : ℕ) → k ≡ 0 + k
counted k = omega arith

pub sources_refused : (k : ℕ) (ss : List SourceFile) (s : SourceFile) (ts : List FileTree) (why : Refusal) → k < length ss → s ≡ get_or ss k s
    → ReadAll 0 (take k ss) ts → IsSourceRefused k s why → AreSourcesRefused ss why
sources_refused k ss s ts why lt is h r = elim r [
  | inl unread ↦ inl (first_unread 0 k ss s ts why lt is h (subst (λ n. IsUnread n s why) (counted k) unread))
  | inr memory ↦ inr memory
]

-- what holds after a turn, from what held before it
pub trees_more : (k : ℕ) (ss : List SourceFile) (s : SourceFile) (ts : List Source) (t : Source) → k < length ss → s ≡ get_or ss k s
    → ReadAll 0 (take k ss) (map view_file ts) → ReadsAs k s (view_file t) → ReadAll 0 (take (k + 1) ss) (map view_file (ts ++ t ∷ []))
trees_more k ss s ts t lt is h r =
    subst (λ us. ReadAll 0 (take (k + 1) ss) us) (sym (map-append view_file ts (t ∷ [])))
    (subst (λ n. ReadAll 0 (take n ss) (map view_file ts ++ view_file t ∷ [])) (after k)
    (one_more_read 0 k ss s (map view_file ts) (view_file t) lt is h (subst (λ n. ReadsAs n s (view_file t)) (counted k) r)))

pub lists_more : (k : ℕ) (ss : List SourceFile) (s : SourceFile) (lists : List (Vec Token Global)) (list : Vec Token Global) → k < length ss
    → s ≡ get_or ss k s → AreCut (take k ss) (map (λ l. view_tokens l.items) lists) → Lexed s.bytes (view_tokens list.items)
    → AreCut (take (k + 1) ss) (map (λ l. view_tokens l.items) (lists ++ list ∷ []))
lists_more k ss s lists list lt is h cut =
    subst (λ us. AreCut (take (k + 1) ss) us) (sym (map-append (λ (l : Vec Token Global). view_tokens l.items) lists (list ∷ [])))
    (subst (λ n. AreCut (take n ss) (map (λ (l : Vec Token Global). view_tokens l.items) lists ++ view_tokens list.items ∷ [])) (after k)
    (one_more_cut k ss s (map (λ (l : Vec Token Global). view_tokens l.items) lists) (view_tokens list.items) lt is h cut))
