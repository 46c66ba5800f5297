-- A place is a word of the file, and does not open a Quoted.
use Rattle.std.proofs.Common.{◌≡◌, suc, List, [], ◌∷◌, ◌++◌, Bool, true, false, not, Contains, length, slice_index_or, refl, ap, sym, subst, ◌∙◌}
use Rattle.std.proofs.Common.{arith, length-append}
use Rattle.rotor_base.specs.declared.token.Class.TheVariants as class
use Rattle.ml_trees.specs.declared.fixed.Fixed.TheVariants as key
use Rattle.ml_trees.specs.Tok.{Name, Tok, placed, word}
use Rattle.ml_trees.specs.Words.{words}
use Rattle.value_sites.specs.Places.{Site, sites}
use Rattle.ml_syntax.specs.Standing.{begins_bar, is_safe, IsWordOf, a_name, a_label, an_equals, a_sign, a_minus, StandsAt, SitesAreWords}
use Rattle.ml_syntax.specs.Standing.{NoSiteOpensAQuoted}
use Rattle.ml_syntax.proofs.Numbers.{sites_are_numbered}
use Rattle.ml_syntax.proofs.RespelledNames.{find, front_same, back_same}

name_word : (s : Site) (t : Tok) → IsWordOf s t → s.pun ≡ false → s.operator ≡ false → t ≡ word class.Lower (record { at = s.at; text = s.name })
name_word s _ (a_name x n) p o =
    ap (λ (v : Name). word class.Lower v) (ap (λ a. record { at = a; text = x.text }) (sym n.0) ∙ ap (λ b. record { at = s.at; text = b }) (sym n.1))
name_word s _ (a_label x e f g h) p o = let wrong : true ≡ false = sym g ∙ p in cc
name_word s _ (an_equals at e f g) p o = let wrong : true ≡ false = sym g ∙ o in cc
name_word s _ (a_sign c x e f g) p o = let wrong : true ≡ false = sym g ∙ o in cc
name_word s _ (a_minus x e f g) p o = let wrong : true ≡ false = sym g ∙ o in cc

at_split : (before : List Tok) (here : Tok) (behind : List Tok) → slice_index_or (before ++ here ∷ behind) (length before) here ≡ here
at_split [] here behind = refl
at_split (t ∷ before) here behind = at_split before here behind

contains_split : (before : List Tok) (here : Tok) (behind : List Tok) → Contains (before ++ here ∷ behind) here
contains_split before here behind = (length before, rw length-append (omega arith), at_split before here behind)

pub sites_are_words : SitesAreWords
sites_are_words t wf ns s has p o =
    let f = find (words t) 0 (sites t) s (sites_are_numbered t wf ns) has.0 has.1 has.2 in
    let st : StandsAt (words t) f.count s = f.stands in
    subst (Contains (words t)) (name_word s st.here st.same p o)
    (subst (λ ts. Contains ts st.here) (sym st.split) (contains_split st.before st.here st.behind))

not_true : (b : Bool) → not b ≡ true → b ≡ false
not_true true e = cc
not_true false e = refl

pub no_site_opens_a_quoted : NoSiteOpensAQuoted
no_site_opens_a_quoted t wf ns s has o front brace here next behind whole at =
    let f = find (words t) 0 (sites t) s (sites_are_numbered t wf ns) has.0 has.1 has.2 in
    let st : StandsAt (words t) f.count s = f.stands in
    let number : s.at ≡ suc f.count = f.numbered in
    let place : length st.before ≡ f.count = st.place in
    let past = front ++ placed key.LeftBrace brace ∷ [] in
    let split : past ++ here ∷ next ∷ behind ≡ st.before ++ st.here ∷ st.behind = sym whole ∙ st.split in
    let long : length past ≡ length st.before = rw length-append (omega (arith, at, number, place)) in
    let same = front_same past st.before here st.here (next ∷ behind) st.behind long split in
    let back = back_same past st.before here st.here (next ∷ behind) st.behind long split in
    not_true (begins_bar next) (ap is_safe back ∙ st.apart o (front, brace, sym same))
