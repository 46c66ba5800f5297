-- Whether bytes have two parts, with one byte between, that are so.
use Rattle.std.proofs.Common.{◌≡◌, ◌⊎◌, inl, inr, ℕ, List, [], ◌∷◌, ◌++◌, sym, ap, subst}
use Rattle.std.proofs.lemmas.Bool.{cases_eq}
use Rattle.decided_lists.proofs.Known.{Known}

-- two parts that are so
pub record Split (bytes : List ℕ) (between : ℕ) (P : List ℕ → List ℕ → Type 0) : Type 0 where
  pub front : List ℕ
  pub behind : List ℕ
  pub split : bytes ≡ front ++ between ∷ behind
  pub parts : P front behind

head_is : (b c : ℕ) (bs cs : List ℕ) → ◌≡◌ {A = List ℕ} (b ∷ bs) (c ∷ cs) → b ≡ c
head_is b c bs cs e = cc

tail_is : (b c : ℕ) (bs cs : List ℕ) → ◌≡◌ {A = List ℕ} (b ∷ bs) (c ∷ cs) → bs ≡ cs
tail_is b c bs cs e = cc

no_split : (between : ℕ) (P : List ℕ → List ℕ → Type 0) (front behind : List ℕ) → [] ≡ front ++ between ∷ behind → P front behind → ⊥
no_split between P [] behind e p = cc
no_split between P (c ∷ front) behind e p = cc

pub split_known : (bytes : List ℕ) (between : ℕ) (P : List ℕ → List ℕ → Type 0)
    → ((front behind : List ℕ) → bytes ≡ front ++ between ∷ behind → Known (P front behind)) → Known (Split bytes between P)
split_known [] between P decide = inr (λ s. no_split between P s.front s.behind s.split s.parts)
split_known (b ∷ bytes) between P decide =
    by (here (cases_eq b between))
    (split_known bytes between (λ front behind. P (b ∷ front) behind) (λ front behind e. decide (b ∷ front) behind (ap (λ l. b ∷ l) e)))
  where
    here : (b ≡ between) ⊎ (b ≡ between → ⊥) → Known ((b ≡ between) × P [] bytes)
    here (inr n) = inr (λ k. n k.0)
    here (inl e) = elim (decide [] bytes (ap (λ c. c ∷ bytes) e)) [ inl p ↦ inl (e, p) | inr n ↦ inr (λ k. n k.1) ]

    none : ((b ≡ between) × P [] bytes → ⊥) → (Split bytes between (λ front behind. P (b ∷ front) behind) → ⊥) → (front behind : List ℕ)
        → b ∷ bytes ≡ front ++ between ∷ behind → P front behind → ⊥
    none n rest [] behind e p = n (head_is b between bytes behind e, subst (P []) (sym (tail_is b between bytes behind e)) p)
    none n rest (c ∷ front) behind e p =
        rest (record {
          front = front;
          behind = behind;
          split = tail_is b c bytes (front ++ between ∷ behind) e;
          parts = subst (λ a. P (a ∷ front) behind) (sym (head_is b c bytes (front ++ between ∷ behind) e)) p;
        })

    by : Known ((b ≡ between) × P [] bytes) → Known (Split bytes between (λ front behind. P (b ∷ front) behind)) → Known (Split (b ∷ bytes) between P)
    by (inl h) rest = inl (record { front = []; behind = bytes; split = ap (λ c. c ∷ bytes) h.0; parts = h.1 })
    by (inr n) (inl s) = inl (record { front = b ∷ s.front; behind = s.behind; split = ap (λ l. b ∷ l) s.split; parts = s.parts })
    by (inr n) (inr rest) = inr (λ s. none n rest s.front s.behind s.split s.parts)
