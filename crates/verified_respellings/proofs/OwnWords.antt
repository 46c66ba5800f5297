-- Two spellings that give the name of each place the same word respell the lexemes of a file alike.
use Rattle.std.proofs.Common.{◌≡◌, ◌⊎◌, inl, inr, ℕ, suc, List, [], ◌∷◌, ◌++◌, true, false, Contains, length, refl, ap, sym, subst, ◌∙◌, arith}
use Rattle.std.proofs.Common.{append_assoc, length-append}
use Rattle.rotor_base.specs.declared.token.Class.{Class}
use Rattle.rotor_base.specs.declared.token.Class.TheVariants as class
use Rattle.ml_lexer.specs.Lexed.{Lexeme, Lexed}
use Rattle.value_sites.specs.Places.{Site, sites}
use Rattle.value_sites.specs.Respelled.{Spelling, spelled}
use Rattle.ml_syntax.specs.RespelledFile.{lexeme_toks, new_words}
use Rattle.value_sites.specs.Sound.{AreNumbered}
use Rattle.ml_syntax.specs.Standing.{AreNumberedBy, IsWordOf, a_name, a_sign}
use Rattle.ml_trees.specs.Tok.{Name, Tok, tok, word}
use Rattle.ml_trees.specs.Tree.{FileTree}
use Rattle.ml_trees.specs.WellFormed.{WfFile}
use Rattle.ml_trees.specs.Words.{words}
use Rattle.ml_syntax.proofs.Numbers.{sites_are_numbered}
use Rattle.ml_syntax.proofs.RespelledNames.{lexemes_are_numbered}
use Rattle.rename_verify.proofs.Texts.{stands_at}

-- a word becomes the same by both; or it is at a place that is no operator, and becomes the same if it is the place's name
abbrev pub AreAlike : Spelling → Spelling → List Site → Type 0
AreAlike v w ss = (n : ℕ) (text : List ℕ)
    → (v n text ≡ w n text) ⊎ ((s : Site) × Contains ss s × (s.at ≡ n) × (s.operator ≡ false) × (s.name ≡ text → v n text ≡ w n text))

-- the lower-case word of a place is its name
lower_name : (s : Site) (x : Name) → IsWordOf s (word class.Lower x) → s.operator ≡ false → s.name ≡ x.text
lower_name s x (a_name y n) o = n.1
lower_name s x (a_sign c y a n q) o = let wrong : true ≡ false = sym q ∙ o in cc

module _ (v w : Spelling) (ts : List Tok) (ss : List Site) (numbers : AreNumberedBy ts 0 ss) (alike : AreAlike v w ss) where
  one_word : (past : List Tok) (c : Class) (text : List ℕ) (rest : List Tok) (at : ℕ) → ts ≡ past ++ tok c at text ∷ rest → suc (length past) ≡ at
      → (spelled v c (record { at = at; text = text })).text ≡ (spelled w c (record { at = at; text = text })).text
  one_word past class.Lower text rest at whole size = elim (alike at text) [
    | inl e ↦ e
    | inr n ↦
        n.4 (lower_name n.0 (record { at = at; text = text })
        (stands_at ts ss numbers n.0 n.1 past (tok class.Lower at text) rest at whole size n.2) n.3)
  ]
  one_word past _ text rest at whole size = refl

  all_words : (past : List Tok) (xs : List Lexeme) (at : ℕ) → ts ≡ past ++ lexeme_toks at xs → suc (length past) ≡ at
      → new_words v at xs ≡ new_words w at xs
  all_words past [] at whole size = refl
  all_words past (x ∷ xs) at whole size =
      let t = tok x.class at x.bytes in
      let longer : suc (length (past ++ t ∷ [])) ≡ suc at = rw length-append (omega (arith, size)) in
      let more : ts ≡ (past ++ t ∷ []) ++ lexeme_toks (suc at) xs = whole ∙ sym (append_assoc past (t ∷ []) (lexeme_toks (suc at) xs)) in
      ap (λ y. y ∷ new_words v (suc at) xs) (one_word past x.class x.bytes (lexeme_toks (suc at) xs) at whole size)
      ∙ ap (λ l. (spelled w x.class (record { at = at; text = x.bytes })).text ∷ l) (all_words (past ++ t ∷ []) xs (suc at) more longer)

pub tree_words : (v w : Spelling) (t : FileTree) (bytes : List ℕ) (xs : List Lexeme) → WfFile t → Lexed bytes xs → lexeme_toks 1 xs ≡ words t
    → AreAlike v w (sites t)
    → new_words v 1 xs ≡ new_words w 1 xs
tree_words v w t bytes xs wf cut same alike =
    let numbered = sites_are_numbered t wf (subst (AreNumbered 1) same (lexemes_are_numbered bytes xs cut)) in
    all_words v w (words t) (sites t) numbered alike [] xs 1 (sym same) refl
