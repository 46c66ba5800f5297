-- The numbers of changed sources, and what new sources are refused for.
use Rattle.std.proofs.Common.{◌≡◌, ℕ, suc, ◌+◌, ◌<◌, ◌==◌, List, [], ◌∷◌, ◌++◌, Bool, true, false, cond, Option, Some, None, map}
use Rattle.std.proofs.Common.{drop, length, refl, ap, sym, ◌∙◌, append_assoc, arith, nat_lt}
use Rattle.std.specs.List.{list_any}
use Rattle.std.specs.Option.{option_or}
use Rattle.std.proofs.lemmas.List.{drop_more}
use Rattle.rotor_base.specs.declared.place.Place.{Place}
use Rattle.rotor_base.specs.declared.source.SourceFile.{SourceFile}
use Rattle.rotor_base.specs.declared.refusal.LoadError.TheVariants.{TooMany}
use Rattle.rotor_base.specs.Stem.{is_body_name}
use Rattle.rotor_base.specs.Unit.{unit_of}
use Rattle.rotor_base.specs.Files.{names_of, units_of, too_many, too_large, long_manifest, double_unit, bad_manifest, load_refusal}
use Rattle.rename_model.specs.Report.{hit_files}

-- ---- the numbers of the sources

pub hit_step : (ps : List Place) (xs : List SourceFile) (i : ℕ) (d : SourceFile) (b : Bool) (old new all : List ℕ) → i < length xs
    → b ≡ list_any (λ p. p.file == i) ps
    → new ≡ cond b (old ++ i ∷ []) old → old ++ hit_files ps i (drop i xs) ≡ all → new ++ hit_files ps (i + 1) (drop (i + 1) xs) ≡ all
hit_step ps xs i d b old new all w e n h =
    let rest = hit_files ps (suc i) (drop (i + 1) xs) in
    let next : i + 1 ≡ suc i = omega arith in
    let at : hit_files ps i (drop i xs) ≡ cond b (i ∷ rest) rest =
    ap (hit_files ps i) (drop_more xs i d w) ∙ ap (λ t. cond t (i ∷ rest) rest) (sym e) in
    ap (λ m. new ++ hit_files ps m (drop (i + 1) xs)) next ∙ (ap (λ l. l ++ rest) n ∙ (by b ∙ (ap (λ l. old ++ l) (sym at) ∙ h)))
  where
    by : (t : Bool) → cond t (old ++ i ∷ []) old ++ hit_files ps (suc i) (drop (i + 1) xs) ≡ old ++ cond t
        (i ∷ hit_files ps (suc i) (drop (i + 1) xs)) (hit_files ps (suc i) (drop (i + 1) xs))
    by true = append_assoc old (i ∷ []) (hit_files ps (suc i) (drop (i + 1) xs))
    by false = refl

-- ---- what new sources are refused for

none_left : {A : Type 0} (a b : Option A) → option_or a b ≡ None → a ≡ None
none_left None b e = refl
none_left (Some x) b e = let wrong : Some x ≡ None = e in absurd cc

none_right : {A : Type 0} (a b : Option A) → option_or a b ≡ None → b ≡ None
none_right None b e = e
none_right (Some x) b e = let wrong : Some x ≡ None = e in absurd cc

both_none : {A : Type 0} (a b : Option A) → a ≡ None → b ≡ None → option_or a b ≡ None
both_none a b e f = ap (λ z. option_or z b) e ∙ f

length_map : {A B : Type 0} (f : A → B) (xs : List A) → length (map f xs) ≡ length xs
length_map f [] = refl
length_map f (x ∷ xs) = let k : length (map f xs) ≡ length xs = length_map f xs in omega (arith, k)

many_by : (xs : List SourceFile) → too_many xs ≡ cond (nat_lt 2000 (length xs)) (Some (TooMany (length xs))) None
unfolding too_many
many_by xs = refl

units_by : (xs : List SourceFile) → units_of xs ≡ map (λ n. record { name = unit_of n; is_body = is_body_name n }) (names_of xs)
units_by [] = refl
units_by (x ∷ xs) = ap (λ l. record { name = unit_of x.name; is_body = is_body_name x.name } ∷ l) (units_by xs)

pub still_taken : (olds news : List SourceFile) (m : Option (List ℕ)) → names_of news ≡ names_of olds → too_large news ≡ None
    → load_refusal olds m ≡ None → load_refusal news m ≡ None
still_taken olds news m e small h =
    let len : length news ≡ length olds = sym (length_map (λ (f : SourceFile). f.name) news)
    ∙ (ap (λ (l : List (List ℕ)). length l) e ∙ length_map (λ (f : SourceFile). f.name) olds) in
    let units : units_of news ≡ units_of olds = units_by news
    ∙ (ap (map (λ n. record { name = unit_of n; is_body = is_body_name n })) e ∙ sym (units_by olds)) in
    let many : too_many news ≡ too_many olds = many_by news ∙ (ap (λ n. cond (nat_lt 2000 n) (Some (TooMany n)) None) len ∙ sym (many_by olds)) in
    let r1 = none_right (too_many olds) _ h in
    let r2 = none_right (too_large olds) _ r1 in
    let r3 = none_right (long_manifest m) _ r2 in
    both_none (too_many news) _ (many ∙ none_left (too_many olds) _ h)
    (both_none (too_large news) _ small
    (both_none (long_manifest m) _ (none_left (long_manifest m) _ r2)
    (both_none (double_unit (units_of news)) _ (ap double_unit units ∙ none_left (double_unit (units_of olds)) _ r3)
    (ap (λ us. bad_manifest us m) units ∙ none_right (double_unit (units_of olds)) _ r3))))
