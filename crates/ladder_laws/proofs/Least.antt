-- Whether something has a property, and what is the least that has it.
use Rattle.std.proofs.Common.{◌≡◌, ◌⊎◌, inl, inr, List, [], ◌∷◌, refl, sym, subst}

-- one of three: the first is before, they are the same, or the second is before
pub data Ranked (A B C : Type 0) : Type 0 where
  before : A → Ranked A B C
  same : B → Ranked A B C
  behind : C → Ranked A B C

module _ {A : Type 0} (R : A → A → Type 0) where
  -- the least with a property
  pub record Least (P : A → Type 0) : Type 0 where
    pub it : A
    pub has : P it
    pub least : (y : A) → P y → (it ≡ y) ⊎ R it y

  -- something has the property, and there is a least; or nothing has it
  abbrev pub Decides : (A → Type 0) → Type 0
  Decides P = Least P ⊎ ((y : A) → P y → ⊥)

  -- by one of a list
  abbrev pub Some_of : {B : Type 0} → (B → A → Type 0) → List B → A → Type 0
  Some_of P [] x = ⊥
  Some_of P (b ∷ bs) x = P b x ⊎ Some_of P bs x

  -- the same of a property that holds of the same things
  pub decides_as : (P Q : A → Type 0) → ((x : A) → P x → Q x) → ((x : A) → Q x → P x) → Decides P → Decides Q
  decides_as P Q f g (inl l) = inl (record { it = l.it; has = f l.it l.has; least = λ y q. l.least y (g y q) })
  decides_as P Q f g (inr n) = inr (λ y q. n y (g y q))

  -- one thing, if something holds
  pub decides_one : (a : A) (D : Type 0) → D ⊎ (D → ⊥) → Decides (λ x. (x ≡ a) × D)
  decides_one a D (inl d) = inl (record { it = a; has = (refl, d); least = λ y k. inl (sym k.0) })
  decides_one a D (inr n) = inr (λ y k. n k.1)

  module _ (rank : (x y : A) → Ranked (R x y) (x ≡ y) (R y x)) (on : (x y z : A) → R x y → R y z → R x z) where
    lower : (x y z : A) → R x y → (y ≡ z) ⊎ R y z → R x z
    lower x y z r (inl e) = subst (R x) e r
    lower x y z r (inr s) = on x y z r s

    pub decides_either : (P Q : A → Type 0) → Decides P → Decides Q → Decides (λ x. P x ⊎ Q x)
    decides_either P Q (inr n) (inr m) = inr (λ y k. elim k [ inl p ↦ n y p | inr q ↦ m y q ])
    decides_either P Q (inl l) (inr m) =
        inl (record { it = l.it; has = inl l.has; least = λ y k. elim k [ inl p ↦ l.least y p | inr q ↦ absurd (m y q) ] })
    decides_either P Q (inr n) (inl k) =
        inl (record { it = k.it; has = inr k.has; least = λ y h. elim h [ inl p ↦ absurd (n y p) | inr q ↦ k.least y q ] })
    decides_either P Q (inl l) (inl k) = by (rank l.it k.it) where
      by : Ranked (R l.it k.it) (l.it ≡ k.it) (R k.it l.it) → Decides (λ x. P x ⊎ Q x)
      by (before r) =
          inl (record { it = l.it; has = inl l.has; least = λ y h. elim h [ inl p ↦ l.least y p | inr q ↦ inr (lower l.it k.it y r (k.least y q)) ] })
      by (same e) =
          inl (record {
            it = l.it;
            has = inl l.has;
            least = λ y h. elim h [ inl p ↦ l.least y p | inr q ↦ subst (λ z. (z ≡ y) ⊎ R z y) (sym e) (k.least y q) ];
          })
      by (behind r) =
          inl (record { it = k.it; has = inr k.has; least = λ y h. elim h [ inl p ↦ inr (lower k.it l.it y r (l.least y p)) | inr q ↦ k.least y q ] })

    pub decides_some : {B : Type 0} (P : B → A → Type 0) → ((b : B) → Decides (P b)) → (bs : List B) → Decides (Some_of P bs)
    decides_some P d [] = inr (λ y k. k)
    decides_some P d (b ∷ bs) = decides_either (P b) (Some_of P bs) (d b) (decides_some P d bs)
