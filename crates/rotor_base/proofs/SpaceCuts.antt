-- Bytes are cut at their first space in one way.
use Rattle.std.proofs.Common.{◌≡◌, ◌∙◌, ℕ, zero, suc, ◌+◌, ◌<◌, ◌==◌, ◌||◌, Bool, true, false, cond, Option, Some, None, List, [], ◌∷◌, ◌++◌}
use Rattle.std.proofs.Common.{length, take, drop, get_or, nat_lt, IfNone, refl, sym, ap, arith}
use Rattle.std.specs.List.{list_any, position, position_or_len}
use Rattle.std.proofs.lemmas.Bool.Decides.{nat_tests}
use Rattle.std.proofs.lemmas.List.Quantifiers.{position-Some}
use Rattle.std.proofs.lemmas.List.Sums.{fails_before_first}
use Rattle.rotor_base.specs.Spaces.{IsCut, IsWhole}

pub is_space : (b : ℕ) → (b == 32) ≡ true → b ≡ 32
is_space b e = grind (arith, nat_tests)

itself : (32 == 32) ≡ true
itself = grind (arith, nat_tests)

pub both_free : (a b : Bool) → (a || b) ≡ false → (a ≡ false) × (b ≡ false)
both_free true b e = cc
both_free false b e = (refl, e)

pub free : (a b : Bool) → a ≡ false → b ≡ false → (a || b) ≡ false
free true b e f = cc
free false b e f = f

none_met : (bs : List ℕ) → ((k : ℕ) → k < length bs → (get_or bs k 0 == 32) ≡ false) → IsWhole bs
none_met [] h = refl
none_met (b ∷ bs) h = free (b == 32) (list_any (λ b. b == 32) bs) (h 0 (omega arith)) (none_met bs (λ k l. h (suc k) (omega arith)))

-- no space is found
pub is_whole : (bs : List ℕ) → position (λ b. b == 32) bs ≡ None → IsWhole bs
is_whole bs e = none_met bs (λ k l. fails_before_first (λ b. b == 32) bs k 0
    (below k l (nat_lt (position_or_len (λ b. b == 32) bs) (length bs)) refl e)) where
      below : (k : ℕ) → k < length bs → (t : Bool) → nat_lt (position_or_len (λ b. b == 32) bs) (length bs) ≡ t
          → cond t (Some (position_or_len (λ b. b == 32) bs)) None ≡ None → k < position_or_len (λ b. b == 32) bs
      below k l true f g = cc
      below k l false f g = grind arith

at_here : (bs : List ℕ) (i : ℕ) → i < length bs → (get_or bs i 0 == 32) ≡ true → ((k : ℕ) → k < i → (get_or bs k 0 == 32) ≡ false)
    → IsCut bs (take i bs) (drop (i + 1) bs)
at_here [] i l h none = absurd (omega arith)
at_here (b ∷ bs) zero l h none = record { split = ap (λ (v : ℕ). v ∷ bs) (is_space b h); whole = refl }
at_here (b ∷ bs) (suc i) l h none =
    let rest = at_here bs i (omega arith) h (λ k m. none (suc k) (omega arith)) in
    record {
      split = ap (λ (v : List ℕ). b ∷ v) rest.split ∙ ap (λ (k : ℕ). b ∷ (take i bs ++ 32 ∷ drop k (b ∷ bs))) next;
      whole = free (b == 32) (list_any (λ b. b == 32) (take i bs)) (none 0 (omega arith)) rest.whole;
    }
  where
    next : suc (i + 1) ≡ suc i + 1
    next = omega arith

-- a space is found, and the bytes are cut there
pub is_cut : (bs front behind : List ℕ) (i : ℕ) → Some i ≡ position (λ b. b == 32) bs → front ≡ take i bs → behind ≡ drop (i + 1) bs
    → IsCut bs front behind
is_cut bs front behind i e f b =
    let found = position-Some (λ b. b == 32) bs i 0 (sym e) in
    rw (f, b) (at_here bs i found.0 found.1 found.2)

-- bytes are cut in one way
pub one_cut : (bs front behind f b : List ℕ) → IsCut bs front behind → bs ≡ f ++ 32 ∷ b → IsWhole f → (front ≡ f) × (behind ≡ b)
one_cut bs front behind f b h e w = cut front behind f b h.whole w (sym h.split ∙ e) where
  heads : (x y : ℕ) (xs ys : List ℕ) → x ∷ xs ≡ y ∷ ys → (x ≡ y) × (xs ≡ ys)
  heads x y xs ys e = (cc, cc)

  cut : (front behind f b : List ℕ) → IsWhole front → IsWhole f → front ++ 32 ∷ behind ≡ f ++ 32 ∷ b → (front ≡ f) × (behind ≡ b)
  cut [] behind [] b h w e = (refl, (heads 32 32 behind b e).1)
  cut [] behind (y ∷ f) b h w e =
      let same = (heads 32 y behind (f ++ 32 ∷ b) e).0 in
      let bad : true ≡ false = sym itself ∙ ap (λ (v : ℕ). v == 32) same ∙ (both_free (y == 32) (list_any (λ b. b == 32) f) w).0 in
      cc
  cut (x ∷ front) behind [] b h w e =
      let same = (heads x 32 (front ++ 32 ∷ behind) b e).0 in
      let bad : true ≡ false = sym itself ∙ ap (λ (v : ℕ). v == 32) (sym same) ∙ (both_free (x == 32) (list_any (λ b. b == 32) front) h).0 in
      cc
  cut (x ∷ front) behind (y ∷ f) b h w e =
      let both = heads x y (front ++ 32 ∷ behind) (f ++ 32 ∷ b) e in
      let rest = cut front behind f b (both_free (x == 32) (list_any (λ b. b == 32) front) h).1 (both_free (y == 32) (list_any (λ b. b == 32) f) w).1
      both.1 in
      (ap (λ (v : ℕ). v ∷ front) both.0 ∙ ap (λ (vs : List ℕ). y ∷ vs) rest.0, rest.1)

-- an answer of none says this
pub if_none : {A : Type 0} (r : Option A) (P : Type 0) → P → IfNone r P
if_none None P p = p
if_none (Some x) P p = tt
