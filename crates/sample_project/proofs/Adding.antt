-- The sources of numbers, added one after another.
use Rattle.std.proofs.Common.{◌≡◌, ◌≤◌, ◌∙◌, refl, ap, sym, ℕ, List, [], ◌∷◌, ◌++◌, map, filter, flat_map, drop, nat_lt}
use Rattle.std.proofs.lemmas.List.{map-append, append_assoc, drop_all}
use Rattle.std.proofs.lemmas.List.Elements.{filter-append}
use Rattle.rotor_base.specs.declared.source.SourceFile.{SourceFile}
use Rattle.sample_project.specs.Sources.{nonzero_digits, with_digits, numbers, source_of, sources_below}

below_append : (n : ℕ) (xs ys : List ℕ) → sources_below n (xs ++ ys) ≡ sources_below n xs ++ sources_below n ys
below_append n xs ys =
    ap (map source_of) (filter-append (λ k. nat_lt k n) xs ys) ∙ map-append source_of (filter (λ k. nat_lt k n) xs) (filter (λ k. nat_lt k n) ys)

-- the sources of some numbers, and then those of more
pub added : (n : ℕ) (old new : List SourceFile) (xs ys : List ℕ) → new ≡ old ++ sources_below n xs
    → new ++ sources_below n ys ≡ old ++ sources_below n (xs ++ ys)
added n old new xs ys e =
    ap (λ (s : List SourceFile). s ++ sources_below n ys) e
    ∙ append_assoc old (sources_below n xs) (sources_below n ys)
    ∙ ap (λ (s : List SourceFile). old ++ s) (sym (below_append n xs ys))

-- after the last digit, they are the sources of all numbers
pub all_added : (n i : ℕ) (found : List SourceFile) → 9 ≤ i
    → found ++ sources_below n (flat_map with_digits (drop i nonzero_digits)) ≡ sources_below n numbers → found ≡ sources_below n numbers
all_added n i found last e =
    sym (no_more found)
    ∙ ap (λ (ds : List ℕ). found ++ sources_below n (flat_map with_digits ds)) (sym (drop_all i nonzero_digits last))
    ∙ e
  where
    no_more : (xs : List SourceFile) → xs ++ [] ≡ xs
    no_more [] = refl
    no_more (x ∷ xs) = ap (λ (ys : List SourceFile). x ∷ ys) (no_more xs)
