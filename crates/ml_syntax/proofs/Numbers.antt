-- The numbers of the places are those of their words, and rise.
use Rattle.std.proofs.Common.{◌≡◌, ℕ, suc, ◌+◌, ◌≤◌, List, [], ◌∷◌, ◌++◌, Bool, true, false, length, Option, Some, None, ap, sym, subst, ◌∙◌, arith}
use Rattle.std.proofs.Common.{if◌then◌else◌}
use Rattle.rotor_base.specs.declared.token.Class.{Class}
use Rattle.rotor_base.specs.declared.token.Class.TheVariants as class
use Rattle.ml_trees.specs.declared.fixed.Fixed.{Fixed}
use Rattle.ml_trees.specs.Tok.{Tok, fixed, placed, word, is_placed, fixed_of, tok_or, tok, toks_from}
use Rattle.ml_trees.specs.Words.{words}
use Rattle.value_sites.specs.Sound.{AreNumbered}
use Rattle.value_sites.specs.Places.{Site, sites}
use Rattle.ml_syntax.specs.Standing.{IsWordOf, a_name, a_label, an_equals, a_sign, a_minus, StandsAt, StandFrom, AreNumberedBy, SitesAreNumbered}
use Rattle.ml_syntax.specs.Standing.{RiseFrom, SitesAreOrdered}
use Rattle.ml_syntax.proofs.Standing.{sites_have_their_words}

abbrev number : Tok → Option ℕ
number (fixed x) = None
number (placed x at) = Some at
number (word c x) = Some x.at

word_number : (s : Site) (t : Tok) → IsWordOf s t → number t ≡ Some s.at
word_number s _ (a_name x n) = ap Some (sym n.0)
word_number s _ (a_label x e f g h) = ap Some (sym e)
word_number s _ (an_equals at e f g) = ap Some (sym e)
word_number s _ (a_sign c x e f g) = ap Some (sym e)
word_number s _ (a_minus x e f g) = ap Some (sym e)

some_same : (a b : ℕ) → ◌≡◌ {A = Option ℕ} (Some a) (Some b) → a ≡ b
some_same a b e = cc

choice_number : (p : Bool) (x : Fixed) (at n : ℕ) → number (if p then placed x at else fixed x) ≡ Some n → at ≡ n
choice_number true x at n e = some_same at n e
choice_number false x at n e = cc

or_number : (c : Class) (at : ℕ) (text : List ℕ) (o : Option Fixed) (n : ℕ) → number (tok_or (word c (record { at = at; text = text })) at o) ≡ Some n
    → at ≡ n
or_number c at text None n e = some_same at n e
or_number c at text (Some x) n e = choice_number (is_placed x) x at n e

tok_number : (c : Class) (at : ℕ) (text : List ℕ) (n : ℕ) → number (tok c at text) ≡ Some n → at ≡ n
tok_number class.Keyword at text n e = or_number class.Keyword at text (fixed_of text) n e
tok_number class.Mark at text n e = or_number class.Mark at text (fixed_of text) n e
tok_number _ at text n e = some_same at n e

head_same : (a b : Tok) (u v : List Tok) → a ∷ u ≡ b ∷ v → a ≡ b
head_same a b u v e = cc

tail_same : (a b : Tok) (u v : List Tok) → a ∷ u ≡ b ∷ v → u ≡ v
tail_same a b u v e = cc

split_number : (at : ℕ) (xs : List (Class × List ℕ)) (before : List Tok) (t : Tok) (behind : List Tok) (n : ℕ)
    → toks_from at xs ≡ before ++ t ∷ behind → number t ≡ Some n → n ≡ at + length before
split_number at [] [] t behind n e f = cc
split_number at [] (b ∷ before) t behind n e f = cc
split_number at (x ∷ xs) [] t behind n e f =
    let same = head_same (tok x.0 at x.1) t (toks_from (suc at) xs) behind e in
    let here = tok_number x.0 at x.1 n (ap number same ∙ f) in
    omega (arith, here)
split_number at (x ∷ xs) (b ∷ before) t behind n e f =
    let there = split_number (suc at) xs before t behind n (tail_same (tok x.0 at x.1) b (toks_from (suc at) xs) (before ++ t ∷ behind) e) f in
    omega (arith, there)

numbered : (ts : List Tok) (low : ℕ) (ss : List Site) → AreNumbered 1 ts → StandFrom ts low ss → AreNumberedBy ts low ss
numbered ts low [] ns h = tt
numbered ts low (s ∷ ss) ns h =
    let st : StandsAt ts h.0 s = h.2 in
    let found = split_number 1 ns.0 st.before st.here st.behind s.at (sym ns.1 ∙ st.split) (word_number s st.here st.same) in
    let place : length st.before ≡ h.0 = st.place in
    (h.0, h.1, omega (arith, found, place), h.2, numbered ts (suc h.0) ss ns h.3)

pub sites_are_numbered : SitesAreNumbered
sites_are_numbered t wf ns = numbered (words t) 0 (sites t) ns (sites_have_their_words t wf)

rise : (ts : List Tok) (low : ℕ) (ss : List Site) → AreNumberedBy ts low ss → RiseFrom low ss
rise ts low [] h = tt
rise ts low (s ∷ ss) h =
    let at : s.at ≡ suc h.0 = h.2 in
    let more : low ≤ h.0 = h.1 in
    (omega (arith, at, more), subst (λ n. RiseFrom n ss) (sym at) (rise ts (suc h.0) ss h.4))

pub sites_are_ordered : SitesAreOrdered
sites_are_ordered t wf ns = rise (words t) 0 (sites t) (sites_are_numbered t wf ns)
