-- A place that is no operator and no pun has a value name.
use Rattle.std.proofs.Common.{◌≡◌, ℕ, zero, suc, ◌<◌, ◌⊎◌, inl, inr, List, [], ◌∷◌, ◌++◌, Bool, true, false, cond, Option, Some, None, take, length}
use Rattle.std.proofs.Common.{get_or, Contains, refl, ap, sym, subst, ◌∙◌, arith}
use Rattle.std.specs.Char.{is_ascii_uppercase}
use Rattle.rotor_base.specs.Name.{is_value_name}
use Rattle.rotor_base.specs.declared.place.Place.{Place}
use Rattle.rotor_base.specs.declared.token.Class.{Class}
use Rattle.rotor_base.specs.declared.token.Class.TheVariants as class
use Rattle.ml_lexer.specs.declared.piece.Piece.TheVariants as piece
use Rattle.ml_lexer.specs.Bytes.{word_length}
use Rattle.ml_lexer.specs.Lexed.{Lexeme}
use Rattle.ml_lexer.specs.Pieces.{piece_at, word_class}
use Rattle.ml_lexer.proofs.Apart.{lower_is_word}
use Rattle.ml_lexer.proofs.Fronts.{lexeme_of_piece}
use Rattle.ml_lexer.proofs.Order.{EachWhole, each_whole}
use Rattle.ml_lexer.proofs.Words.{lexeme_of_cond, word_at_length}
use Rattle.ml_trees.specs.declared.fixed.Fixed.{Fixed}
use Rattle.value_sites.specs.Places.{Site, sites}
use Rattle.ml_syntax.specs.RespelledFile.{lexeme_toks}
use Rattle.value_sites.specs.Sound.{AreNumbered}
use Rattle.ml_trees.specs.Tok.{Name, Tok, word, placed, fixed, is_placed, fixed_of, tok, tok_or}
use Rattle.ml_trees.specs.Tree.{FileTree, Body, Face, UnitTree}
use Rattle.ml_trees.specs.Words.{words}
use Rattle.ml_syntax.proofs.RespelledNames.{lexemes_are_numbered}
use Rattle.ml_syntax.proofs.SiteWords.{sites_are_words}
use Rattle.value_sites.specs.Each.{Each}
use Rattle.binding_model.specs.Renaming.{placed_sites, file_places, places}
use Rattle.binding_model.proofs.Leasts.{place_in}
use Rattle.binding_model.proofs.Sounds.{each_joined}
use Rattle.project_reading.proofs.Twins.{parts_are_trees}
use Rattle.renamed_sources.specs.Laws.{NamesAreValueNames}

-- ---- a lower-case word is a value name

class_tests : (w : List ℕ)
    → word_class w ≡ cond (is_ascii_uppercase (get_or w 0 0)) class.Upper (cond (is_value_name w) class.Lower class.Keyword)
unfolding word_class
class_tests w = refl

class_of_cond : (t : Bool) (kind k : Class) (n m : ℕ) → cond t piece.LongName (piece.Lexeme kind n) ≡ piece.Lexeme k m → kind ≡ k
class_of_cond true kind k n m e = cc
class_of_cond false kind k n m e = cc

lower_of_cond : (u v : Bool) → cond u class.Upper (cond v class.Lower class.Keyword) ≡ class.Lower → v ≡ true
lower_of_cond true v e = cc
lower_of_cond false true e = refl
lower_of_cond false false e = cc

take_all : (b : List ℕ) → take (length b) b ≡ b
take_all [] = refl
take_all (x ∷ b) = ap (λ l. x ∷ l) (take_all b)

pub lower_is_name : (b : List ℕ) → piece_at b ≡ piece.Lexeme class.Lower (length b) → is_value_name b ≡ true
lower_is_name b e =
    let at = lower_is_word b (length b) (lexeme_of_piece b class.Lower (length b) e) in
    let n : word_length b ≡ length b = lexeme_of_cond _ _ _ _ _ (sym (word_at_length b _ refl) ∙ at) in
    let kind : word_class (take (length b) b) ≡ class.Lower = class_of_cond _ _ _ _ _ (sym (word_at_length b (length b) n) ∙ at) in
    let own : word_class b ≡ class.Lower = ap word_class (sym (take_all b)) ∙ kind in
    lower_of_cond (is_ascii_uppercase (get_or b 0 0)) (is_value_name b) (sym (class_tests b) ∙ own)

-- ---- among the words of a file

no_fixed : (b : Bool) (f : Fixed) (at : ℕ) (y : Name) → cond b (placed f at) (fixed f) ≡ word class.Lower y → ⊥
no_fixed true f at y e = cc
no_fixed false f at y e = cc

pub no_keyword : (o : Option Fixed) (at : ℕ) (x y : Name) → tok_or (word class.Keyword x) at o ≡ word class.Lower y → ⊥
no_keyword None at x y e = cc
no_keyword (Some f) at x y e = no_fixed (is_placed f) f at y e

pub no_mark : (o : Option Fixed) (at : ℕ) (x y : Name) → tok_or (word class.Mark x) at o ≡ word class.Lower y → ⊥
no_mark None at x y e = cc
no_mark (Some f) at x y e = no_fixed (is_placed f) f at y e

same_class : (c k : Class) (x y : Name) → word c x ≡ word k y → c ≡ k
same_class c k x y e = cc

pub same_word : (c k : Class) (x y : Name) → word c x ≡ word k y → x ≡ y
same_word c k x y e = cc

lower_tok : (c : Class) (at : ℕ) (text : List ℕ) (y : Name) → tok c at text ≡ word class.Lower y → (c ≡ class.Lower) × (text ≡ y.text)
lower_tok class.Keyword at text y e = absurd (no_keyword (fixed_of text) at (record { at = at; text = text }) y e)
lower_tok class.Mark at text y e = absurd (no_mark (fixed_of text) at (record { at = at; text = text }) y e)
lower_tok c at text y e =
    let x : Name = record { at = at; text = text } in
    (same_class c class.Lower x y e, ap (λ (z : Name). z.text) (same_word c class.Lower x y e))

word_is_name : (at : ℕ) (xs : List Lexeme) (y : Name) → EachWhole xs → (k : ℕ) → k < length (lexeme_toks at xs)
    → get_or (lexeme_toks at xs) k (word class.Lower y) ≡ word class.Lower y → is_value_name y.text ≡ true
word_is_name at [] y whole k lt e = absurd (omega (arith, lt))
word_is_name at (x ∷ xs) y whole zero lt e =
    let is = lower_tok x.class at x.bytes y e in
    ap is_value_name (sym is.1) ∙ lower_is_name x.bytes (whole.0 ∙ ap (λ c. piece.Lexeme c (length x.bytes)) is.0)
word_is_name at (x ∷ xs) y whole (suc k) lt e = word_is_name (suc at) xs y whole.1 k (omega (arith, lt)) e

-- ---- the tree of a place

module _ (us : List UnitTree) where
  -- a tree is a part of a unit of the project
  abbrev IsIn : FileTree → Type 0
  IsIn t = (u : UnitTree) × Contains us u × ((u.body ≡ Some t) ⊎ (u.face ≡ Some t))

  abbrev HasTree : Place × Site → Type 0
  HasTree e = (t : FileTree) × IsIn t × Contains (sites t) e.1

  of_tree : (t : FileTree) → IsIn t → (f : ℕ) (xs : List Site) → ((x : Site) → Contains xs x → Contains (sites t) x)
      → Each HasTree (placed_sites f xs)
  of_tree t is f [] inc = tt
  of_tree t is f (x ∷ xs) inc = ((t, is, inc x (0, omega arith, refl)), of_tree t is f xs (λ y c. inc y (suc c.0, omega (arith, c.1), c.2)))

  of_part : (o : Option FileTree) → ((t : FileTree) → o ≡ Some t → IsIn t) → Each HasTree (file_places o)
  of_part None h = tt
  of_part (Some (Body f js)) h = of_tree (Body f js) (h (Body f js) refl) f (sites (Body f js)) (λ x c. c)
  of_part (Some (Face f js)) h = of_tree (Face f js) (h (Face f js) refl) f (sites (Face f js)) (λ x c. c)

  of_units : (vs : List UnitTree) → ((v : UnitTree) → Contains vs v → Contains us v) → Each HasTree (places vs)
  of_units [] inc = tt
  of_units (v ∷ vs) inc =
      let here = inc v (0, omega arith, refl) in
      each_joined HasTree (file_places v.body) (file_places v.face ++ places vs) (of_part v.body (λ t e. (v, here, inl e)))
      (each_joined HasTree (file_places v.face) (places vs) (of_part v.face (λ t e. (v, here, inr e)))
      (of_units vs (λ u c. inc u (suc c.0, omega (arith, c.1), c.2))))

pub names_are_value_names : NamesAreValueNames
names_are_value_names files us d x project reads at operator pun =
    let has = place_in (HasTree us) (places us) d x (of_units us us (λ v c. c)) at in
    let from = parts_are_trees files us project reads has.1.0 has.0 has.1.1 has.1.2 in
    let r = from.3 in
    let t = has.0 in
    let same : lexeme_toks 1 r.lexemes ≡ words t = r.parsed.reads in
    let numbered = subst (AreNumbered 1) same (lexemes_are_numbered from.1.bytes r.lexemes r.plain.cut) in
    let own = sites_are_words t r.parsed.wf numbered x has.2 pun operator in
    let y : Name = record { at = x.at; text = x.name } in
    let c = subst (λ (ts : List Tok). Contains ts (word class.Lower y)) (sym same) own in
    word_is_name 1 r.lexemes y (each_whole r.plain.cut) c.0 c.1 c.2
