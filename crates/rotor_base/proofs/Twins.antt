-- The least unit that two sources of one kind give, from the last source to the first.
use Rattle.std.proofs.Common.{◌≡◌, ℕ, List, [], ◌∷◌, Bool, true, false, ◌||◌, ◌&&◌, cond, not, Option, Some, None}
use Rattle.std.proofs.Common.{Ordering, refl, ap, sym, ◌∙◌}
use Rattle.std.specs.List.{fold, list_any}
use Rattle.std.specs.Bool.{beq}
use Rattle.std.specs.Ordering.{nat_cmp, is_lt, is_eq, ordering_reverse}
use Rattle.std.specs.declared.cmp.Ordering.TheVariants.{Less, Equal, Greater}
use Rattle.std.specs.Cmp.Lexicographic.{slice_cmp}
use Rattle.std.specs.Str.{bytes_eq}
use Rattle.std.specs.Borrow.{Bor}
use Rattle.std.specs.BTreeMap.{is_at}
use Rattle.std.specs.BTreeSet.{BTreeSet, contains}
use Rattle.std.proofs.lemmas.Cmp.{nat_list_cmp_total}
use Rattle.std.proofs.lemmas.Map.Lookups.{exact_bytes}
use Rattle.std.proofs.lemmas.Map.Text.{is_eq-slice_cmp}
use Rattle.rotor_base.specs.Files.{least_word, lesser, doubled_units, are_twins}
use Rattle.rotor_base.specs.declared.unit.SourceUnit.{SourceUnit}

abbrev word_cmp : List ℕ → List ℕ → Ordering
word_cmp a b = slice_cmp nat_cmp a b

turned : (x v : List ℕ) (r : Ordering) → word_cmp x v ≡ r → word_cmp v x ≡ ordering_reverse r
turned x v r e = nat_list_cmp_total.antisymm v x ∙ ap ordering_reverse e

-- the lesser of two words does not depend on their order
either_way : (x v : List ℕ) → lesser (Some v) x ≡ lesser (Some x) v
either_way x v = by (word_cmp x v) refl where
  by : (r : Ordering) → word_cmp x v ≡ r → lesser (Some v) x ≡ lesser (Some x) v
  by Less e = let t = turned x v Less e in cc
  by Equal e = let t = turned x v Equal e in let same = exact_bytes x v e in cc
  by Greater e = let t = turned x v Greater e in cc

-- the least of some words and a pair is that of the words, the first and the second
pair_last : (least : Option (List ℕ)) (x v : List ℕ)
    → cond (is_lt (word_cmp x v)) (lesser least x) (lesser least v) ≡ lesser (lesser least x) v
pair_last None x v = either_way x v
pair_last (Some u) x v = by (word_cmp x v) (word_cmp x u) (word_cmp v u) refl refl refl where
  by : (r s t : Ordering) → word_cmp x v ≡ r → word_cmp x u ≡ s → word_cmp v u ≡ t
      → cond (is_lt (word_cmp x v)) (lesser (Some u) x) (lesser (Some u) v) ≡ lesser (lesser (Some u) x) v
  by Less Less t e f g = let h = turned x v Less e in cc
  by Less Equal Less e f g = let h = nat_list_cmp_total.trans x v u e g in cc
  by Less Equal Equal e f g = cc
  by Less Equal Greater e f g = cc
  by Less Greater Less e f g = let h = nat_list_cmp_total.trans x v u e g in cc
  by Less Greater Equal e f g = cc
  by Less Greater Greater e f g = cc
  by Equal Less t e f g = let same = exact_bytes x v e in let h = turned x v Equal e in cc
  by Equal Equal t e f g = cc
  by Equal Greater t e f g = cc
  by Greater Less t e f g = let h = turned x v Greater e in let k = nat_list_cmp_total.trans v x u h f in cc
  by Greater Equal t e f g = cc
  by Greater Greater t e f g = cc

-- a word before some others is taken last
taken_last : (words : List (List ℕ)) (v : List ℕ) → fold lesser (Some v) words ≡ lesser (least_word words) v
taken_last [] v = refl
taken_last (x ∷ words) v =
    by (is_lt (word_cmp x v)) (taken_last words x) (taken_last words v) ∙ (pair_last (least_word words) x v ∙ ap (λ least. lesser least v) (sym (taken_last words x)))
  where
    by : (t : Bool) → fold lesser (Some x) words ≡ lesser (least_word words) x → fold lesser (Some v) words ≡ lesser (least_word words) v
        → fold lesser (cond t (Some x) (Some v)) words ≡ cond t (lesser (least_word words) x) (lesser (least_word words) v)
    by true e f = e
    by false e f = f

pub least_behind : (v : List ℕ) (words : List (List ℕ)) → least_word (v ∷ words) ≡ lesser (least_word words) v
least_behind v words = taken_last words v

-- ---- the sources of one kind

-- a word that a set holds
abbrev Held : Type 0
Held = Bor (List ℕ)

abbrev pub held_cmp : Held → Held → Ordering
held_cmp a b = word_cmp a.now b.now

reversed : (r : Ordering) → is_eq (ordering_reverse r) ≡ is_eq r
reversed Less = refl
reversed Equal = refl
reversed Greater = refl

-- a set has the units of the sources of this kind
abbrev pub Has : BTreeSet Held → Bool → List SourceUnit → Type 0
Has set kind units = (q : Held) → contains held_cmp set q ≡ list_any (are_twins (record { name = q.now; is_body = kind })) units

pub has_none : (set : BTreeSet Held) (kind : Bool) → set.keys ≡ [] → Has set kind []
has_none set kind e q = ap (list_any (is_at (held_cmp q))) e

pub has_more : (old new : BTreeSet Held) (kind : Bool) (key : Held) (u : SourceUnit) (units : List SourceUnit) → u.is_body ≡ kind → key.now ≡ u.name
    → ((q : Held) → contains held_cmp new q ≡ cond (is_at (held_cmp key) q) true (contains held_cmp old q)) → Has old kind units
    → Has new kind (u ∷ units)
has_more old new kind key u units same named put has q =
    put q ∙ by u.is_body kind same
  where
    other : Bool
    other = list_any (are_twins (record { name = q.now; is_body = kind })) units

    test : is_at (held_cmp key) q ≡ bytes_eq q.now u.name
    test = ap is_eq (nat_list_cmp_total.antisymm key.now q.now)
        ∙ (reversed (word_cmp q.now key.now) ∙ (is_eq-slice_cmp q.now key.now ∙ ap (bytes_eq q.now) named))

    joined : (t : Bool) → cond t true (contains held_cmp old q) ≡ (t || other)
    joined true = refl
    joined false = has q

    by : (a k : Bool) → a ≡ k → cond (is_at (held_cmp key) q) true (contains held_cmp old q) ≡ (beq k a && bytes_eq q.now u.name || other)
    by true true e = joined (is_at (held_cmp key) q) ∙ ap (λ t. t || other) test
    by false false e = joined (is_at (held_cmp key) q) ∙ ap (λ t. t || other) test
    by true false e = cc
    by false true e = cc

pub has_other : (set : BTreeSet Held) (kind : Bool) (u : SourceUnit) (units : List SourceUnit) → u.is_body ≡ not kind → Has set kind units
    → Has set kind (u ∷ units)
has_other set kind u units other has q = has q ∙ by u.is_body kind other
  where
    rest : Bool
    rest = list_any (are_twins (record { name = q.now; is_body = kind })) units

    by : (a k : Bool) → a ≡ not k → rest ≡ (beq k a && bytes_eq q.now u.name || rest)
    by true false e = refl
    by false true e = refl
    by true true e = cc
    by false false e = cc

-- ---- the step to the source before

-- the source before has no twin behind it exactly if its unit was not in the set of its kind
pub met : (set : BTreeSet Held) (kind : Bool) (key : Held) (u : SourceUnit) (units : List SourceUnit) (is_new : Bool) → u.is_body ≡ kind
    → key.now ≡ u.name → is_new ≡ not (contains held_cmp set key) → Has set kind units → is_new ≡ not (list_any (are_twins u) units)
met set kind key u units is_new same named e has =
    e ∙ ap not (has key ∙ λ i. list_any (are_twins (record { name = named i; is_body = sym same i })) units)

pub least_twin : (u : SourceUnit) (units : List SourceUnit) (is_new : Bool) → is_new ≡ not (list_any (are_twins u) units) → is_new ≡ false
    → (least found : Option (List ℕ)) (name : List ℕ) → name ≡ u.name → lesser least name ≡ found → least ≡ least_word (doubled_units units)
    → found ≡ least_word (doubled_units (u ∷ units))
least_twin u units is_new e new least found name named h g = by (list_any (are_twins u) units) (sym e ∙ new) where
  by : (t : Bool) → not t ≡ false → found ≡ least_word (cond t (u.name ∷ doubled_units units) (doubled_units units))
  by true e = sym h ∙ (ap (lesser least) named ∙ (ap (λ o. lesser o u.name) g ∙ sym (least_behind u.name (doubled_units units))))
  by false e = cc

pub least_alone : (u : SourceUnit) (units : List SourceUnit) (is_new : Bool) → is_new ≡ not (list_any (are_twins u) units) → is_new ≡ true
    → (least : Option (List ℕ)) → least ≡ least_word (doubled_units units) → least ≡ least_word (doubled_units (u ∷ units))
least_alone u units is_new e new least g = by (list_any (are_twins u) units) (sym e ∙ new) where
  by : (t : Bool) → not t ≡ true → least ≡ least_word (cond t (u.name ∷ doubled_units units) (doubled_units units))
  by false e = g
  by true e = cc

-- both sets have the units from this source on, and its unit was new exactly if it has no twin behind it
abbrev pub Stepped : BTreeSet Held → BTreeSet Held → SourceUnit → List SourceUnit → Bool → Type 0
Stepped bodies faces u units is_new = Has bodies true (u ∷ units) × Has faces false (u ∷ units) × (is_new ≡ not (list_any (are_twins u) units))

pub body_step : (old new faces : BTreeSet Held) (key : Held) (u : SourceUnit) (units : List SourceUnit) (is_new : Bool) → u.is_body ≡ true
    → key.now ≡ u.name → ((q : Held) → contains held_cmp new q ≡ cond (is_at (held_cmp key) q) true (contains held_cmp old q))
    → is_new ≡ not (contains held_cmp old key) → Has old true units → Has faces false units → Stepped new faces u units is_new
body_step old new faces key u units is_new same named put e has others = (
  has_more old new true key u units same named put has,
  has_other faces false u units same others,
  met old true key u units is_new same named e has,
)

pub face_step : (old new bodies : BTreeSet Held) (key : Held) (u : SourceUnit) (units : List SourceUnit) (is_new : Bool) → u.is_body ≡ false
    → key.now ≡ u.name → ((q : Held) → contains held_cmp new q ≡ cond (is_at (held_cmp key) q) true (contains held_cmp old q))
    → is_new ≡ not (contains held_cmp old key) → Has old false units → Has bodies true units → Stepped bodies new u units is_new
face_step old new bodies key u units is_new same named put e has others = (
  has_other bodies true u units same others,
  has_more old new false key u units same named put has,
  met old false key u units is_new same named e has,
)
