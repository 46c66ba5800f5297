-- The places of a tree among its words (own).
use Rattle.std.specs.Prelude.{◌≡◌, ℕ, suc, ◌<◌, ◌≤◌, List, [], ◌∷◌, ◌++◌, Bool, true, false, not, ◌==◌, Contains, length, slice_index, codes}
use Rattle.std.specs.Str.{byte}
use Rattle.rotor_base.specs.declared.token.Class.{Class}
use Rattle.rotor_base.specs.declared.token.Class.TheVariants as class
use Rattle.ml_trees.specs.declared.fixed.Fixed.TheVariants as key
use Rattle.ml_trees.specs.Tok.{Name, Tok, fixed, placed, word}
use Rattle.ml_trees.specs.Tree.{FileTree}
use Rattle.ml_trees.specs.Words.{words}
use Rattle.ml_trees.specs.WellFormed.{WfFile}
use Rattle.value_sites.specs.Sound.{AreNumbered}
use Rattle.value_sites.specs.Places.{Site, label_name, sites}

-- a word that begins with `|`
abbrev pub begins_bar : Tok → Bool
begins_bar (fixed key.Bar) = true
begins_bar (fixed key.RightArray) = true
begins_bar (word c x) = slice_index x.text 0 == byte "|"
begins_bar _ = false

-- these words do not begin so
abbrev pub is_safe : List Tok → Bool
is_safe [] = true
is_safe (t ∷ ts) = not (begins_bar t)

-- these words end with a `{`
abbrev pub EndsInBrace : List Tok → Type 0
EndsInBrace ts = (front : List Tok) × (at : ℕ) × (ts ≡ front ++ placed key.LeftBrace at ∷ [])

-- the place has the number and the text of this name, and is no operator
abbrev pub IsNamed : Site → Name → Type 0
IsNamed s x = (s.at ≡ x.at) × (s.name ≡ x.text) × (s.operator ≡ false)

-- the word of a place: a lower-case word with its text, a label of its text, which is a pun, or an operator
pub data IsWordOf (s : Site) : Tok → Type 0 where
  a_name : (x : Name) → IsNamed s x → IsWordOf s (word class.Lower x)
  a_label : (x : Name) → s.at ≡ x.at → s.name ≡ label_name x.text → s.pun ≡ true → s.operator ≡ false → IsWordOf s (word class.Label x)
  an_equals : (at : ℕ) → s.at ≡ at → s.name ≡ codes "=" → s.operator ≡ true → IsWordOf s (placed key.Equals at)
  a_sign : (c : Class) (x : Name) → s.at ≡ x.at → s.name ≡ x.text → s.operator ≡ true → IsWordOf s (word c x)
  a_minus : (x : Name) → s.at ≡ x.at → s.name ≡ 126 ∷ x.text → s.operator ≡ true → IsWordOf s (word class.Infix x)

-- the place is among these words, with so many before it; if it is no operator and is directly behind a `{`, no word
-- that begins with `|` is directly behind it
pub record StandsAt (ts : List Tok) (count : ℕ) (s : Site) : Type 0 where
  pub before : List Tok
  pub here : Tok
  pub behind : List Tok
  pub split : ts ≡ before ++ here ∷ behind
  pub place : length before ≡ count
  pub same : IsWordOf s here
  pub apart : s.operator ≡ false → EndsInBrace before → is_safe behind ≡ true

-- these places are among the words, each behind the one before it, the first behind at least so many words
abbrev pub StandFrom : List Tok → ℕ → List Site → Type 0
StandFrom ts low [] = Unit {0}
StandFrom ts low (s ∷ ss) = (count : ℕ) × (low ≤ count) × StandsAt ts count s × StandFrom ts (suc count) ss

-- the places of a file are words of it, in their order
abbrev pub SitesHaveTheirWords : Type 0
SitesHaveTheirWords = (t : FileTree) → WfFile t → StandFrom (words t) 0 (sites t)

-- their numbers are those of the words, from 1
abbrev pub AreNumberedBy : List Tok → ℕ → List Site → Type 0
AreNumberedBy ts low [] = Unit {0}
AreNumberedBy ts low (s ∷ ss) = (count : ℕ) × (low ≤ count) × (s.at ≡ suc count) × StandsAt ts count s × AreNumberedBy ts (suc count) ss

abbrev pub SitesAreNumbered : Type 0
SitesAreNumbered = (t : FileTree) → WfFile t → AreNumbered 1 (words t) → AreNumberedBy (words t) 0 (sites t)

-- each number is more than this one and than those before it
abbrev pub RiseFrom : ℕ → List Site → Type 0
RiseFrom low [] = Unit {0}
RiseFrom low (s ∷ ss) = (low < s.at) × RiseFrom s.at ss

-- the numbers of the places of a file rise strictly
abbrev pub SitesAreOrdered : Type 0
SitesAreOrdered = (t : FileTree) → WfFile t → AreNumbered 1 (words t) → RiseFrom 0 (sites t)

-- a place that is no pun and no operator is a lower-case word of the file, with this number and this text
abbrev pub SitesAreWords : Type 0
SitesAreWords =
    (t : FileTree) → WfFile t → AreNumbered 1 (words t) → (s : Site) → Contains (sites t) s → s.pun ≡ false → s.operator ≡ false
    → Contains (words t) (word class.Lower (record { at = s.at; text = s.name }))

-- a place that is no operator is not directly between a `{` and a word that begins with `|`
abbrev pub NoSiteOpensAQuoted : Type 0
NoSiteOpensAQuoted =
    (t : FileTree) → WfFile t → AreNumbered 1 (words t) → (s : Site) → Contains (sites t) s → s.operator ≡ false
    → (front : List Tok) (brace : ℕ) (here next : Tok) (behind : List Tok)
    → words t ≡ (front ++ placed key.LeftBrace brace ∷ []) ++ here ∷ next ∷ behind → s.at ≡ suc (suc (length front)) → begins_bar next ≡ false
