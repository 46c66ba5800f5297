-- The first repeat of some groups, place by place.
use Rattle.std.proofs.Common.{◌≡◌, ℕ, ◌⊎◌, ◌||◌, ◌&&◌, Bool, true, false, refl, ap, sym, ◌∙◌, subst, inl, inr, arith, List, Option, Some, None}
use Rattle.std.proofs.Common.{if◌then◌else◌, bytes_eq, true≢false}
use Rattle.std.proofs.lemmas.Slice.Eq.{bytes_eq-Decides}
use Rattle.rotor_base.specs.declared.place.Place.{Place}
use Rattle.rotor_base.specs.Place.{same_place, IsBefore}
use Rattle.binding_model.specs.Facts.{is_before}
use Rattle.binding_model.proofs.LastEntries.{same_is}
use Rattle.capture_check.specs.declared.fault.Repeat.{Repeat}
use Rattle.capture_check.specs.Fault.{Names}
use Rattle.capture_check.specs.Firsts.{is_lesser, earlier_repeat, repeat_of, lesser}
use Rattle.capture_check.proofs.Before.{not_before, not_both, before_trans, Upto, upto_before, before_upto, tested, untested}

-- the order of repeats: by the later place, then the first
abbrev pub Lex : Repeat → Place → Place → Type 0
Lex r f a = IsBefore r.again a ⊎ ((r.again ≡ a) × Upto r.first f)

upto_trans : (p q r : Place) → Upto p q → Upto q r → Upto p r
upto_trans p q r (inl e) h = let P : Place → Type 0 = λ x. Upto x r in subst P (sym e) h
upto_trans p q r (inr h) k = inr (before_upto p q r h k)

lex_trans : (r s : Repeat) (f a : Place) → Lex r s.first s.again → Lex s f a → Lex r f a
lex_trans r s f a (inl h) (inl k) = inl (before_trans r.again s.again a h k)
lex_trans r s f a (inl h) (inr k) = inl (subst (IsBefore r.again) k.0 h)
lex_trans r s f a (inr h) (inl k) = let P : Place → Type 0 = λ x. IsBefore x a in inl (subst P (sym h.0) k)
lex_trans r s f a (inr h) (inr k) = inr (h.0 ∙ k.0, upto_trans r.first s.first f h.1 k.1)

-- the test decides that order
later_lex : (a b : Repeat) (s t : Bool) → same_place b.again a.again ≡ s → is_before b.first a.first ≡ t → (s && t) ≡ true → Lex b a.first a.again
later_lex a b true true e f h = inr (same_is b.again a.again e, inr (tested b.first a.first f))
later_lex a b true false e f h = absurd cc
later_lex a b false t e f h = absurd cc

tested_lex : (a b : Repeat) (s : Bool) → is_before b.again a.again ≡ s → (s || (same_place b.again a.again && is_before b.first a.first)) ≡ true
    → Lex b a.first a.again
tested_lex a b true e h = inl (tested b.again a.again e)
tested_lex a b false e h = later_lex a b (same_place b.again a.again) (is_before b.first a.first) refl refl h

pub same_self : (p : Place) → same_place p p ≡ true
same_self p = grind arith

pub same_back : (p q : Place) → p ≡ q → same_place q p ≡ true
same_back p q e = let P : Place → Type 0 = λ x. same_place x p ≡ true in subst P e (same_self p)

both_true : (s t : Bool) → s ≡ true → (s && t) ≡ false → t ≡ false
both_true s true e h = absurd cc
both_true s false e h = refl

untested_lex : (a b : Repeat) (s : Bool) → is_before b.again a.again ≡ s → (s || (same_place b.again a.again && is_before b.first a.first)) ≡ false
    → Lex a b.first b.again
untested_lex a b true e h = absurd cc
untested_lex a b false e h = elim (untested b.again a.again e) [
  | inr less ↦ inl less
  | inl same ↦ inr (
    same,
    untested b.first a.first
        (both_true (same_place b.again a.again) (is_before b.first a.first) (same_back a.again b.again same) h),
  )
]

-- the least of some pairs, or none
pub record IsLeastPair (P : Place → Place → Type 0) (r : Repeat) : Type 0 where
  pub there : P r.first r.again
  pub least : (f a : Place) → P f a → Lex r f a

abbrev pub IsBestPair : (Place → Place → Type 0) → Option Repeat → Type 0
IsBestPair P None = (f a : Place) → P f a → ⊥
IsBestPair P (Some r) = IsLeastPair P r

abbrev pub Within : (Place → Place → Type 0) → (Place → Place → Type 0) → Type 0
Within P R = (f a : Place) → P f a → R f a

module _ (P R : Place → Place → Type 0) (up : Within P R) where
  -- with no more pairs
  pub kept : (best : Option Repeat) → Within R P → IsBestPair P best → IsBestPair R best
  kept None down h = λ f a k. h f a (down f a k)
  kept (Some r) down h = record { there = up r.first r.again h.there; least = λ f a k. h.least f a (down f a k) }

  pub kept_none : (best : Option Repeat) → Within R P → IsBestPair P best → IsBestPair R (earlier_repeat best None)
  kept_none None down h = kept None down h
  kept_none (Some r) down h = kept (Some r) down h

  -- with more pairs, of which this is the least
  module _ (r : Repeat) (here : R r.first r.again) (more : (f a : Place) → R f a → P f a ⊎ Lex r f a) where
    first : IsBestPair P None → IsLeastPair R r
    first h = record { there = here; least = λ f a k. elim (more f a k) [ inl p ↦ absurd (h f a p) | inr l ↦ l ] }

    newer : (b : Repeat) → Lex r b.first b.again → IsLeastPair P b → IsLeastPair R r
    newer b l h = record { there = here; least = λ f a k. elim (more f a k) [ inl p ↦ lex_trans r b f a l (h.least f a p) | inr l ↦ l ] }

    older : (b : Repeat) → Lex b r.first r.again → IsLeastPair P b → IsLeastPair R b
    older b l h = record {
      there = up b.first b.again h.there;
      least = λ f a k. elim (more f a k) [ inl p ↦ h.least f a p | inr m ↦ lex_trans b r f a l m ];
    }

    or_newer : (b : Repeat) (t : Bool) → is_lesser r b ≡ t → IsLeastPair P b → IsLeastPair R (if t then r else b)
    or_newer b true e h = newer b (tested_lex b r (is_before r.again b.again) refl e) h
    or_newer b false e h = older b (untested_lex b r (is_before r.again b.again) refl e) h

    pub added : (best : Option Repeat) → IsBestPair P best → IsBestPair R (earlier_repeat best (Some r))
    added None h = first h
    added (Some b) h = or_newer b (is_lesser r b) refl h

-- ---- one group

-- two places of one name, both among some places, the first before the second
abbrev pub Pairs : Names → (Place → Type 0) → Place → Place → Type 0
Pairs names In f a = In f × In a × IsBefore f a × (names f ≡ names a)

-- the least of the places of a name, or none
abbrev pub IsLeastOf : Names → (Place → Type 0) → List ℕ → Option Place → Type 0
IsLeastOf names In x None = (q : Place) → In q → names q ≡ x → ⊥
IsLeastOf names In x (Some m) = In m × (names m ≡ x) × ((q : Place) → In q → names q ≡ x → Upto m q)

module _ (names : Names) (In More : Place → Type 0) (p : Place) (up : (q : Place) → In q → More q) (last : More p)
    (split : (q : Place) → More q → In q ⊎ (q ≡ p)) where
  abbrev P : Place → Place → Type 0
  P = Pairs names In

  abbrev R : Place → Place → Type 0
  R = Pairs names More

  P_up : Within P R
  P_up f a h = (up f h.0, up a h.1, h.2, h.3)

  -- a pair is an older one, or has the new place after or before an older one
  data Case (f a : Place) : Type 0 where
    old : P f a → Case f a
    behind : a ≡ p → In f → IsBefore f p → names f ≡ names p → Case f a
    ahead : f ≡ p → In a → IsBefore p a → names a ≡ names p → Case f a

  case_of : (f a : Place) → R f a → Case f a
  case_of f a h = by (split f h.0) (split a h.1) where
    by : In f ⊎ (f ≡ p) → In a ⊎ (a ≡ p) → Case f a
    by (inl i) (inl j) = old (i, j, h.2, h.3)
    by (inl i) (inr e) = behind e i (subst (IsBefore f) e h.2) (h.3 ∙ ap names e)
    by (inr e) (inl j) = let B : Place → Type 0 = λ x. IsBefore x a in ahead e j (subst B e h.2) (sym h.3 ∙ ap names e)
    by (inr e) (inr g) = let B : Place → Type 0 = λ x. IsBefore x a in absurd (not_before p (subst (IsBefore p) g (subst B e h.2)))

  none_new : IsLeastOf names In (names p) None → Within R P
  none_new l f a h = elim (case_of f a h) [
    | old k ↦ k
    | behind e i b n ↦ absurd (l f i n)
    | ahead e i b n ↦ absurd (l a i n)
  ]

  module _ (m : Place) (l : IsLeastOf names In (names p) (Some m)) where
    -- the new place is after the least
    pub after : IsBefore m p → (f a : Place) → R f a → P f a ⊎ Lex (record { first = m; again = p }) f a
    after b f a h = elim (case_of f a h) [
      | old k ↦ inl k
      | behind e i c n ↦ inr (inr (sym e, l.2 f i n))
      | ahead e i c n ↦ inr (inl c)
    ]

    after_here : IsBefore m p → R m p
    after_here b = (up m l.0, last, b, l.1)

    pub ahead_all : IsBefore p m → (f a : Place) → R f a → P f a ⊎ Lex (record { first = p; again = m }) f a
    ahead_all b f a h = elim (case_of f a h) [
      | old k ↦ inl k
      | behind e i c n ↦ absurd (not_both f p c (before_upto p m f b (l.2 f i n)))
      | ahead e i c n ↦ inr (lex (l.2 a i n))
    ] where
      lex : Upto m a → Lex (record { first = p; again = m }) f a
      lex (inl e) = inr (e, first_upto) where
        first_upto : Upto p f
        first_upto = elim (case_of f a h) [
          | old k ↦ inr (before_upto p m f b (l.2 f k.0 (h.3 ∙ (ap names (sym e) ∙ l.1))))
          | behind g i c n ↦ inr (before_upto p m f b (l.2 f i n))
          | ahead g i c n ↦ inl (sym g)
        ]
      lex (inr c) = inl c

    ahead_here : IsBefore p m → R p m
    ahead_here b = (last, up m l.0, b, sym l.1)

    -- the new place is the least, which is among the places already
    again : m ≡ p → Within R P
    again e f a h = elim (case_of f a h) [
      | old k ↦ k
      | behind g i c n ↦ absurd (not_before p (let B : Place → Type 0 = λ x. IsBefore x p in subst B e (let q : Upto m f = l.2 f i n in inr_of q c)))
      | ahead g i c n ↦ (subst In (e ∙ sym g) l.0, i, h.2, h.3)
    ] where
      inr_of : Upto m f → IsBefore f p → IsBefore m p
      inr_of q c = upto_before m f p q c

    step_of : (best : Option Repeat) (s t : Bool) → is_before m p ≡ s → is_before p m ≡ t → IsBestPair P best
        → IsBestPair R (earlier_repeat best
        (if s then Some (record { first = m; again = p }) else (if t then Some (record { first = p; again = m }) else None)))
    step_of best true t e f h = added P R P_up (record { first = m; again = p }) (after_here (tested m p e)) (after (tested m p e)) best h
    step_of best false true e f h = added P R P_up (record { first = p; again = m }) (ahead_here (tested p m f)) (ahead_all (tested p m f)) best h
    step_of best false false e f h = kept_none P R P_up best (again (same_of (untested m p e) (untested p m f))) h where
      same_of : Upto p m → Upto m p → m ≡ p
      same_of (inl e) k = sym e
      same_of (inr a) (inl e) = e
      same_of (inr a) (inr b) = absurd (not_both p m a b)

  pub step : (o : Option Place) (best : Option Repeat) → IsLeastOf names In (names p) o → IsBestPair P best
      → IsBestPair R (earlier_repeat best (repeat_of o p))
  step None best l h = kept_none P R P_up best (none_new l) h
  step (Some m) best l h = step_of m l best (is_before m p) (is_before p m) refl refl h

  -- the table of least places goes on
  least_of : (o : Option Place) → IsLeastOf names In (names p) o → IsLeastOf names More (names p) (Some (lesser o p))
  least_of None l = (last, refl, λ q i n. elim (split q i) [ inl j ↦ absurd (l q j n) | inr e ↦ inl (sym e) ])
  least_of (Some m) l = by (is_before m p) refl where
    by : (b : Bool) → is_before m p ≡ b → IsLeastOf names More (names p) (Some (if b then m else p))
    by true e = (up m l.0, l.1, λ q i n. elim (split q i) [ inl j ↦ l.2 q j n | inr f ↦ inr (subst (IsBefore m) (sym f) (tested m p e)) ])
    by false e = (last, refl, λ q i n. elim (split q i) [ inl j ↦ upto_trans p m q (untested m p e) (l.2 q j n) | inr f ↦ inl (sym f) ])

  least_other : (x : List ℕ) (o : Option Place) → (names p ≡ x → ⊥) → IsLeastOf names In x o → IsLeastOf names More x o
  least_other x None a l = λ q i n. elim (split q i) [ inl j ↦ l q j n | inr e ↦ a (sym (ap names e) ∙ n) ]
  least_other x (Some m) a l = (up m l.0, l.1, λ q i n. elim (split q i) [ inl j ↦ l.2 q j n | inr e ↦ absurd (a (sym (ap names e) ∙ n)) ])

  pub leasts : (o o' : List ℕ → Option Place)
      → ((x : List ℕ) → o' x ≡ (if bytes_eq (names p) x then Some (lesser (o (names p)) p) else o x))
      → ((x : List ℕ) → IsLeastOf names In x (o x)) → (x : List ℕ) → IsLeastOf names More x (o' x)
  leasts o o' put l x = by (bytes_eq (names p) x) refl where
    by : (b : Bool) → bytes_eq (names p) x ≡ b → IsLeastOf names More x (o' x)
    by true e =
        let same : names p ≡ x = (bytes_eq-Decides (names p) x).0 e in
        let is = put x ∙ ap (λ (t : Bool). if t then Some (lesser (o (names p)) p) else o x) e in
        subst (IsLeastOf names More x) (sym is)
        (let Q : List ℕ → Type 0 = λ y. IsLeastOf names More y (Some (lesser (o (names p)) p)) in
        subst Q same (least_of (o (names p)) (l (names p))))
    by false e =
        let is = put x ∙ ap (λ (t : Bool). if t then Some (lesser (o (names p)) p) else o x) e in
        subst (IsLeastOf names More x) (sym is) (least_other x (o x) (λ s. true≢false (sym ((bytes_eq-Decides (names p) x).1 s) ∙ e)) (l x))
