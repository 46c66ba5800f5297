-- Sources that are taken are not over the limits on bytes, and new ones with their names that are not over them are
-- taken.
use Rattle.std.proofs.Common.{◌≡◌, ℕ, suc, List, [], ◌∷◌, Bool, true, false, cond, Option, Some, None, option_map, refl, ap, sym, ◌∙◌}
use Rattle.std.specs.Option.{option_or}
use Rattle.rotor_base.specs.declared.source.SourceFile.{SourceFile}
use Rattle.rotor_base.specs.declared.refusal.LoadError.TheVariants.{TooLarge}
use Rattle.rotor_base.specs.Files.{first_with, are_over, too_many, too_large}
use Rattle.rename_model.specs.Bytes.{position_with}
use Rattle.rename_parts.proofs.Numbers.{still_taken}
use Rattle.renamed_sources.specs.Laws.{NothingIsOver, SmallIsTaken}

none_left : {A : Type 0} (a b : Option A) → option_or a b ≡ None → a ≡ None
none_left None b e = refl
none_left (Some x) b e = let wrong : Some x ≡ None = e in absurd cc

none_right : {A : Type 0} (a b : Option A) → option_or a b ≡ None → b ≡ None
none_right None b e = e
none_right (Some x) b e = let wrong : Some x ≡ None = e in absurd cc

unmapped : {A B : Type 0} (f : A → B) (o : Option A) → option_map f o ≡ None → o ≡ None
unmapped f None e = refl
unmapped f (Some x) e = let wrong : Some (f x) ≡ None = e in absurd cc

-- ---- the first item and its position

no_position : {X : Type 0} (test : List X → Bool) (xs : List X) → first_with test xs ≡ None → position_with test xs ≡ None
no_position test [] e = refl
no_position test (x ∷ xs) e = by (test (x ∷ [])) e (no_position (λ front. test (x ∷ front)) xs)
  where
    by : (b : Bool) → cond b (Some x) (first_with (λ front. test (x ∷ front)) xs) ≡ None
        → (first_with (λ front. test (x ∷ front)) xs ≡ None → position_with (λ front. test (x ∷ front)) xs ≡ None)
        → cond b (Some 0) (option_map suc (position_with (λ front. test (x ∷ front)) xs)) ≡ None
    by true e f = let wrong : Some x ≡ None = e in absurd cc
    by false e f = ap (option_map suc) (f e)

no_first : {X : Type 0} (test : List X → Bool) (xs : List X) → position_with test xs ≡ None → first_with test xs ≡ None
no_first test [] e = refl
no_first test (x ∷ xs) e = by (test (x ∷ [])) e (no_first (λ front. test (x ∷ front)) xs)
  where
    by : (b : Bool) → cond b (Some 0) (option_map suc (position_with (λ front. test (x ∷ front)) xs)) ≡ None
        → (position_with (λ front. test (x ∷ front)) xs ≡ None → first_with (λ front. test (x ∷ front)) xs ≡ None)
        → cond b (Some x) (first_with (λ front. test (x ∷ front)) xs) ≡ None
    by true e f = let wrong : ◌≡◌ {A = Option ℕ} (Some 0) None = e in absurd cc
    by false e f = f (unmapped suc (position_with (λ front. test (x ∷ front)) xs) e)

-- ---- the limits on bytes

large_by : (files : List SourceFile) → too_large files ≡ option_map (λ file. TooLarge file.name) (first_with are_over files)
unfolding too_large
large_by files = refl

pub nothing_is_over : NothingIsOver
nothing_is_over olds m h =
    let small : too_large olds ≡ None = none_left (too_large olds) _ (none_right (too_many olds) _ h) in
    no_position are_over olds (unmapped (λ (file : SourceFile). TooLarge file.name) (first_with are_over olds) (sym (large_by olds) ∙ small))

pub small_is_taken : SmallIsTaken
small_is_taken olds news m names small h =
    let large : too_large news ≡ None =
    large_by news ∙ ap (option_map (λ file. TooLarge file.name)) (no_first are_over news small) in
    still_taken olds news m names large h
