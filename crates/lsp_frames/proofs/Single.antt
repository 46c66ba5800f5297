-- Bytes have one reading.
use Rattle.std.proofs.Common.{◌≡◌, ℕ, zero, suc, ◌<◌, ◌≤◌, nat_lt, false, cond, List, [], ◌∷◌, ◌++◌, length, take, drop, Some, None, sym, ap, refl}
use Rattle.std.proofs.Common.{◌∙◌, subst, arith, inl, inr}
use Rattle.std.specs.Prelude.{Option, ◌⊎◌}
use Rattle.std.proofs.lemmas.List.{length-append, take_at, drop_at, take-append-le}
use Rattle.std.proofs.lemmas.Bool.{both_ways, cases_lt, cond-true, cond-false, lt-ltb, le-ltb}
use Rattle.lsp_frames.specs.Frames.{max_header, max_message, ends_header, Begins, says, Reads, Outcome, at_end, message, broken, too_long, ended}

-- what a header and the bytes behind it make
outcome_by : Option ℕ → List ℕ → Outcome
outcome_by None behind = broken
outcome_by (Some count) behind =
    cond (nat_lt max_message count) too_long (cond (nat_lt (length behind) count) ended (message (take count behind) (drop count behind)))

-- what bytes make that begin with no header
by_length : List ℕ → Outcome
by_length [] = at_end
by_length (b ∷ bs) = cond (nat_lt (length (b ∷ bs)) max_header) ended too_long

abbrev NoHeader : List ℕ → Type 0
NoHeader bytes = (n : ℕ) → n ≤ max_header → n ≤ length bytes → ends_header (take n bytes) ≡ false

record Framed (bytes : List ℕ) (outcome : Outcome) : Type 0 where
  header : List ℕ
  behind : List ℕ
  begins : Begins bytes header behind
  is : outcome ≡ outcome_by (says header) behind

record Unframed (bytes : List ℕ) (outcome : Outcome) : Type 0 where
  none : NoHeader bytes
  is : outcome ≡ by_length bytes

none_in_nothing : NoHeader []
none_in_nothing zero most within = refl
none_in_nothing (suc n) most within = absurd (omega (arith, within))

is_long : (bytes : List ℕ) → max_header ≤ length bytes → too_long ≡ by_length bytes
unfolding by_length
is_long [] l = absurd (omega (arith, l))
is_long (b ∷ bs) l = sym (cond-false _ _ _ (le-ltb _ _ l))

is_short : (bytes : List ℕ) → 0 < length bytes → length bytes < max_header → ended ≡ by_length bytes
unfolding by_length
is_short [] some l = absurd (omega (arith, some))
is_short (b ∷ bs) some l = sym (cond-true _ _ _ (lt-ltb _ _ l))

is_message : (body rest : List ℕ) → length body ≤ max_message → message body rest ≡ outcome_by (Some (length body)) (body ++ rest)
unfolding outcome_by
is_message body rest fits =
    sym (cond-false _ _ _ (le-ltb _ _ fits)
    ∙ cond-false _ _ _ (le-ltb (length (body ++ rest)) (length body) (omega (arith, length-append body rest)))
    ∙ ap (λ l. message l (drop (length body) (body ++ rest))) (take_at body rest _ refl)
    ∙ ap (message body) (drop_at body rest _ refl))

is_too_much : (count : ℕ) (behind : List ℕ) → max_message < count → too_long ≡ outcome_by (Some count) behind
unfolding outcome_by
is_too_much count behind l = sym (cond-true _ _ _ (lt-ltb _ _ l))

is_cut : (count : ℕ) (behind : List ℕ) → count ≤ max_message → length behind < count → ended ≡ outcome_by (Some count) behind
unfolding outcome_by
is_cut count behind fits l = sym (cond-false _ _ _ (le-ltb _ _ fits) ∙ cond-true _ _ _ (lt-ltb _ _ l))

kind_of : (bytes : List ℕ) (o : Outcome) → Reads bytes o → Framed bytes o ⊎ Unframed bytes o
unfolding by_length outcome_by
kind_of bytes at_end e = inr (record { none = subst NoHeader (sym e) none_in_nothing; is = ap by_length (sym e) })
kind_of bytes (message body rest) (header, begins, told, fits) =
    inl (record {
      header = header;
      behind = body ++ rest;
      begins = begins;
      is = is_message body rest fits ∙ ap (λ s. outcome_by s (body ++ rest)) (sym told);
    })
kind_of bytes broken (header, behind, begins, told) =
    inl (record { header = header; behind = behind; begins = begins; is = ap (λ s. outcome_by s behind) (sym told) })
kind_of bytes too_long (inl r) = inr (record { none = λ n most within. r.none n most; is = is_long bytes r.long })
kind_of bytes too_long (inr r) =
    inl (record {
      header = r.header;
      behind = r.behind;
      begins = r.begins;
      is = is_too_much r.count r.behind r.long ∙ ap (λ s. outcome_by s r.behind) (sym r.says_count);
    })
kind_of bytes ended (inl r) = inr (record { none = λ n most within. r.none n within; is = is_short bytes r.some r.short })
kind_of bytes ended (inr r) =
    inl (record {
      header = r.header;
      behind = r.behind;
      begins = r.begins;
      is = is_cut r.count r.behind r.fits r.short ∙ ap (λ s. outcome_by s r.behind) (sym r.says_count);
    })

front_of : (bytes h r : List ℕ) → bytes ≡ h ++ r → take (length h) bytes ≡ h
front_of bytes h r p = ap (take (length h)) p ∙ take_at h r _ refl

-- a header is no front of another
not_shorter : (bytes h r k s : List ℕ) → Begins bytes h r → Begins bytes k s → length h < length k → ⊥
not_shorter bytes h r k s x y l =
    let front : take (length h) k ≡ h = sym (take-append-le (length h) k s (omega (arith, l)))
    ∙ sym (ap (take (length h)) y.whole) ∙ front_of bytes h r x.whole in
    both_ways _ (sym (ap ends_header front) ∙ y.first (length h) l) x.ends

one_header : (bytes h r k s : List ℕ) → Begins bytes h r → Begins bytes k s → h ≡ k
one_header bytes h r k s x y = elim (cases_lt (length h) (length k)) [
  | inl l ↦ absurd (not_shorter bytes h r k s x y l)
  | inr g ↦ elim (cases_lt (length k) (length h)) [
    | inl l ↦ absurd (not_shorter bytes k s h r y x l)
    | inr m ↦
        let same : length h ≡ length k = omega (arith, g, m) in
        sym (front_of bytes h r x.whole) ∙ ap (λ n. take n bytes) same ∙ front_of bytes k s y.whole
  ]
]

one_rest : (bytes h r s : List ℕ) → bytes ≡ h ++ r → bytes ≡ h ++ s → r ≡ s
one_rest bytes h r s p q = sym (drop_at h r _ refl) ∙ ap (drop (length h)) (sym p ∙ q) ∙ drop_at h s _ refl

not_both : (bytes : List ℕ) (a b : Outcome) → Framed bytes a → Unframed bytes b → ⊥
not_both bytes a b x y =
    let within : length x.header ≤ length bytes = omega (arith, ap length x.begins.whole, length-append x.header x.behind) in
    let front = front_of bytes x.header x.behind x.begins.whole in
    both_ways _ (sym (ap ends_header front) ∙ y.none (length x.header) x.begins.short within) x.begins.ends

both_framed : (bytes : List ℕ) (a b : Outcome) → Framed bytes a → Framed bytes b → a ≡ b
both_framed bytes a b x y =
    let same = one_header bytes x.header x.behind y.header y.behind x.begins y.begins in
    let rest = one_rest bytes x.header x.behind y.behind x.begins.whole (y.begins.whole ∙ ap (λ l. l ++ y.behind) (sym same)) in
    x.is ∙ ap (λ h. outcome_by (says h) x.behind) same ∙ ap (outcome_by (says y.header)) rest ∙ sym y.is

pub one_reading : (bytes : List ℕ) (a b : Outcome) → Reads bytes a → Reads bytes b → a ≡ b
one_reading bytes a b x y = elim (kind_of bytes a x) [
  | inl f ↦ elim (kind_of bytes b y) [
    | inl g ↦ both_framed bytes a b f g
    | inr g ↦ absurd (not_both bytes a b f g)
  ]
  | inr f ↦ elim (kind_of bytes b y) [
    | inl g ↦ absurd (not_both bytes b a g f)
    | inr g ↦ f.is ∙ sym g.is
  ]
]
