-- The new texts of tokens and the new words of lower-case ones are the same, if operators and puns keep theirs.
use Rattle.std.proofs.Common.{◌≡◌, ◌||◌, ℕ, suc, inl, inr, List, [], ◌∷◌, ◌++◌, Bool, true, false, Option, Some, None, length, refl, ap, sym, subst}
use Rattle.std.proofs.Common.{◌∙◌, arith, append_assoc, length-append}
use Rattle.std.specs.Prelude.{Contains, IsTrue, if◌then◌else◌}
use Rattle.rotor_base.specs.declared.token.Class.{Class}
use Rattle.rotor_base.specs.declared.token.Class.TheVariants as class
use Rattle.ml_lexer.specs.Lexed.{Lexeme, Lexed}
use Rattle.ml_trees.specs.declared.fixed.Fixed.{Fixed}
use Rattle.value_sites.specs.Each.{Each}
use Rattle.value_sites.specs.Places.{Site, label_name, sites}
use Rattle.value_sites.specs.Respelled.{Spelling, spelled}
use Rattle.ml_syntax.specs.RespelledFile.{lexeme_toks, new_words, ChangesNames}
use Rattle.value_sites.specs.Sound.{AreNumbered}
use Rattle.ml_syntax.specs.Standing.{AreNumberedBy, IsWordOf, a_name, a_label, an_equals, a_sign, a_minus}
use Rattle.ml_trees.specs.Tok.{Name, Tok, fixed, is_placed, placed, word, fixed_of, tok, tok_or}
use Rattle.ml_trees.specs.Tree.{FileTree}
use Rattle.ml_trees.specs.WellFormed.{WfFile}
use Rattle.ml_trees.specs.Words.{words}
use Rattle.ml_syntax.proofs.Numbers.{sites_are_numbered}
use Rattle.ml_syntax.proofs.RespelledNames.{find, lexemes_are_numbered}
use Rattle.binding_model.proofs.Naming.{each_in}
use Rattle.rename_respell.specs.Respelled.{label_with, new_text, new_texts}
use Rattle.rename_respell.proofs.Labels.{label_kept}

-- a place that is an operator or a pun keeps its word
abbrev pub KeepsOwn : Spelling → Site → Type 0
KeepsOwn w s = IsTrue (s.pun || s.operator) → w s.at s.name ≡ s.name

-- ---- the token of a place

-- a token that a place with a name can have
abbrev is_named : Tok → Bool
is_named (word class.Lower x) = true
is_named (word class.Label x) = true
is_named _ = false

tail_same : (a b : Tok) (u v : List Tok) → a ∷ u ≡ b ∷ v → u ≡ v
tail_same a b u v e = cc

head_same : (a b : Tok) (u v : List Tok) → a ∷ u ≡ b ∷ v → a ≡ b
head_same a b u v e = cc

middle_same : (a b : List Tok) (x y : Tok) (u v : List Tok) → length a ≡ length b → a ++ x ∷ u ≡ b ++ y ∷ v → x ≡ y
middle_same [] [] x y u v size e = head_same x y u v e
middle_same [] (p ∷ b) x y u v size e = absurd (omega (arith, size))
middle_same (p ∷ a) [] x y u v size e = absurd (omega (arith, size))
middle_same (p ∷ a) (q ∷ b) x y u v size e = middle_same a b x y u v (omega (arith, size)) (tail_same p q (a ++ x ∷ u) (b ++ y ∷ v) e)

named_word : (s : Site) (t : Tok) → IsWordOf s t → s.operator ≡ false → is_named t ≡ true
named_word s (word class.Lower x) (a_name y n) o = refl
named_word s (word class.Label x) (a_label y a n p q) o = refl
named_word s t (an_equals at a n q) o = let wrong : true ≡ false = sym q ∙ o in cc
named_word s t (a_sign c x a n q) o = let wrong : true ≡ false = sym q ∙ o in cc
named_word s t (a_minus x a n q) o = let wrong : true ≡ false = sym q ∙ o in cc

-- the place with the number of a token is at that token
pub stands_at : (ts : List Tok) (ss : List Site) → AreNumberedBy ts 0 ss → (s : Site) → Contains ss s
    → (past : List Tok) (here : Tok) (rest : List Tok) (at : ℕ) → ts ≡ past ++ here ∷ rest → suc (length past) ≡ at → s.at ≡ at
    → IsWordOf s here
stands_at ts ss numbers s c past here rest at whole size is_at =
    let f = find ts 0 ss s numbers c.0 c.1 c.2 in
    let st = f.stands in
    let number : s.at ≡ suc f.count = f.numbered in
    let place : length st.before ≡ f.count = st.place in
    let long : length past ≡ length st.before = omega (arith, size, is_at, number, place) in
    subst (IsWordOf s) (sym (middle_same past st.before here st.here rest st.behind long (sym whole ∙ st.split))) st.same

label_text : (s : Site) (x : Name) → IsWordOf s (word class.Label x) → s.operator ≡ false → (s.pun ≡ true) × (s.name ≡ label_name x.text)
label_text s x (a_label y a n p q) o = (p, n)
label_text s x (a_sign c y a n q) o = let wrong : true ≡ false = sym q ∙ o in cc

fixed_is_not : (b : Bool) (f : Fixed) (at : ℕ) → is_named (if b then placed f at else fixed f) ≡ false
fixed_is_not true f at = refl
fixed_is_not false f at = refl

keyword_is_not : (o : Option Fixed) (at : ℕ) (x : Name) → is_named (tok_or (word class.Keyword x) at o) ≡ false
keyword_is_not None at x = refl
keyword_is_not (Some f) at x = fixed_is_not (is_placed f) f at

mark_is_not : (o : Option Fixed) (at : ℕ) (x : Name) → is_named (tok_or (word class.Mark x) at o) ≡ false
mark_is_not None at x = refl
mark_is_not (Some f) at x = fixed_is_not (is_placed f) f at

-- ---- the texts

module _ (w : Spelling) (ts : List Tok) (ss : List Site) (numbers : AreNumberedBy ts 0 ss) (changes : ChangesNames w ss)
    (keeps : Each (KeepsOwn w) ss) where
  kept_word : (past : List Tok) (c : Class) (text : List ℕ) (rest : List Tok) (at : ℕ) → ts ≡ past ++ tok c at text ∷ rest → suc (length past) ≡ at
      → is_named (tok c at text) ≡ false → w at text ≡ text
  kept_word past c text rest at whole size other = elim (changes at text) [
    | inl e ↦ e
    | inr n ↦
        let named : is_named (tok c at text) ≡ true = named_word n.1 (tok c at text)
        (stands_at ts ss numbers n.1 n.2 past (tok c at text) rest at whole size n.3) n.4 in
        let wrong : true ≡ false = sym named ∙ other in
        cc
  ]

  kept_label : (past : List Tok) (text : List ℕ) (rest : List Tok) (at : ℕ) → ts ≡ past ++ tok class.Label at text ∷ rest → suc (length past) ≡ at
      → w at (label_name text) ≡ label_name text
  kept_label past text rest at whole size = elim (changes at (label_name text)) [
    | inl e ↦ e
    | inr n ↦
        let l = label_text n.1 (record { at = at; text = text })
        (stands_at ts ss numbers n.1 n.2 past (tok class.Label at text) rest at whole size n.3) n.4 in
        let own : w n.1.at n.1.name ≡ n.1.name = each_in (KeepsOwn w) ss n.1 keeps n.2 (ap (λ b. b || n.1.operator) l.0) in
        subst (λ x. w at x ≡ x) l.1 (subst (λ k. w k n.1.name ≡ n.1.name) n.3 own)
  ]

  one_text : (past : List Tok) (c : Class) (text : List ℕ) (rest : List Tok) (at : ℕ) → ts ≡ past ++ tok c at text ∷ rest → suc (length past) ≡ at
      → new_text (w at) c text ≡ (spelled w c (record { at = at; text = text })).text
  one_text past class.Lower text rest at whole size = refl
  one_text past class.Label text rest at whole size = ap (label_with text) (kept_label past text rest at whole size) ∙ label_kept text
  one_text past class.Keyword text rest at whole size = kept_word past class.Keyword text rest at whole size
      (keyword_is_not (fixed_of text) at (record { at = at; text = text }))
  one_text past class.Mark text rest at whole size = kept_word past class.Mark text rest at whole size
      (mark_is_not (fixed_of text) at (record { at = at; text = text }))
  one_text past c text rest at whole size = kept_word past c text rest at whole size refl

  all_texts : (past : List Tok) (xs : List Lexeme) (at : ℕ) → ts ≡ past ++ lexeme_toks at xs → suc (length past) ≡ at
      → new_texts w at xs ≡ new_words w at xs
  all_texts past [] at whole size = refl
  all_texts past (x ∷ xs) at whole size =
      let t = tok x.class at x.bytes in
      let longer : suc (length (past ++ t ∷ [])) ≡ suc at = rw length-append (omega (arith, size)) in
      let more : ts ≡ (past ++ t ∷ []) ++ lexeme_toks (suc at) xs = whole ∙ sym (append_assoc past (t ∷ []) (lexeme_toks (suc at) xs)) in
      ap (λ y. y ∷ new_texts w (suc at) xs) (one_text past x.class x.bytes (lexeme_toks (suc at) xs) at whole size)
      ∙ ap (λ l. (spelled w x.class (record { at = at; text = x.bytes })).text ∷ l) (all_texts (past ++ t ∷ []) xs (suc at) more longer)

pub tree_texts : (w : Spelling) (t : FileTree) (bytes : List ℕ) (xs : List Lexeme) → WfFile t → Lexed bytes xs → lexeme_toks 1 xs ≡ words t
    → ChangesNames w (sites t) → Each (KeepsOwn w) (sites t)
    → new_texts w 1 xs ≡ new_words w 1 xs
tree_texts w t bytes xs wf cut same changes keeps =
    let numbered = sites_are_numbered t wf (subst (AreNumbered 1) same (lexemes_are_numbered bytes xs cut)) in
    all_texts w (words t) (sites t) numbered changes keeps [] xs 1 (sym same) refl
