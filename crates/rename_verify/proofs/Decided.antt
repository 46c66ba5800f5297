-- Two lists part somewhere, or are the same.
use Rattle.std.proofs.Common.{◌≡◌, ◌⊎◌, inl, inr, ℕ, suc, List, [], ◌∷◌, Some, None, length, take, refl, ap, ◌∙◌, arith}
use Rattle.std.proofs.lemmas.Bool.{cases_eq}
use Rattle.rename_verify.specs.Differ.{PartAt, FilesPartAt}

-- behind a byte that is the same
behind : (x y : ℕ) (xs ys : List ℕ) → x ≡ y → (xs ≡ ys) ⊎ ((o : ℕ) × PartAt xs ys o) → (x ∷ xs ≡ y ∷ ys) ⊎ ((o : ℕ) × PartAt (x ∷ xs) (y ∷ ys) o)
behind x y xs ys e (inl s) = inl (ap (λ z. z ∷ xs) e ∙ ap (λ l. y ∷ l) s)
behind x y xs ys e (inr p) = inr (suc p.0, record { same = ap (λ z. z ∷ take p.0 xs) e ∙ ap (λ l. y ∷ l) p.1.same; other = p.1.other })

pub part_or_same : (xs ys : List ℕ) → (xs ≡ ys) ⊎ ((o : ℕ) × PartAt xs ys o)
part_or_same [] [] = inl refl
part_or_same [] (y ∷ ys) = inr (0, record { same = refl; other = λ e. let wrong : None ≡ Some y = e in cc })
part_or_same (x ∷ xs) [] = inr (0, record { same = refl; other = λ e. let wrong : Some x ≡ None = e in cc })
part_or_same (x ∷ xs) (y ∷ ys) = by (cases_eq x y) (part_or_same xs ys) where
  by : (x ≡ y) ⊎ (x ≡ y → ⊥) → (xs ≡ ys) ⊎ ((o : ℕ) × PartAt xs ys o) → (x ∷ xs ≡ y ∷ ys) ⊎ ((o : ℕ) × PartAt (x ∷ xs) (y ∷ ys) o)
  by (inl e) rest = behind x y xs ys e rest
  by (inr n) rest = inr (0, record { same = refl; other = λ e. n (let wrong : Some x ≡ Some y = e in cc) })

-- some file parts
abbrev pub SomePart : List (List ℕ) → List (List ℕ) → Type 0
SomePart xs ys = (f : ℕ) × (o : ℕ) × FilesPartAt xs ys f o

behind_file : (x y : List ℕ) (xs ys : List (List ℕ)) → x ≡ y → (xs ≡ ys) ⊎ SomePart xs ys → (x ∷ xs ≡ y ∷ ys) ⊎ SomePart (x ∷ xs) (y ∷ ys)
behind_file x y xs ys e (inl s) = inl (ap (λ z. z ∷ xs) e ∙ ap (λ l. y ∷ l) s)
behind_file x y xs ys e (inr p) =
    let h = p.2 in
    inr (
      suc p.0,
      p.1,
      record {
        old = h.old;
        new = h.new;
        same = ap (λ z. z ∷ take p.0 xs) e
            ∙ ap (λ l. y ∷ l) h.same;
        here = h.here;
        there = h.there;
        part = h.part;
      },
    )

pub files_part_or_same : (xs ys : List (List ℕ)) → length xs ≡ length ys → (xs ≡ ys) ⊎ SomePart xs ys
files_part_or_same [] [] e = inl refl
files_part_or_same [] (y ∷ ys) e = absurd (omega (arith, e))
files_part_or_same (x ∷ xs) [] e = absurd (omega (arith, e))
files_part_or_same (x ∷ xs) (y ∷ ys) e = by (part_or_same x y) (files_part_or_same xs ys (omega (arith, e))) where
  by : (x ≡ y) ⊎ ((o : ℕ) × PartAt x y o) → (xs ≡ ys) ⊎ SomePart xs ys → (x ∷ xs ≡ y ∷ ys) ⊎ SomePart (x ∷ xs) (y ∷ ys)
  by (inl s) rest = behind_file x y xs ys s rest
  by (inr p) rest = inr (0, p.0, record { old = x; new = y; same = refl; here = refl; there = refl; part = p.1 })
