-- A project that the files of a folder are read as has few binders.
use Rattle.std.proofs.Common.{◌≡◌, ◌≢◌, ◌⊎◌, inl, inr, ℕ, suc, ◌+◌, ◌*◌, ◌<◌, ◌≤◌, List, [], ◌∷◌, ◌++◌, All, Bool, true, false, ◌||◌, if◌then◌else◌}
use Rattle.std.proofs.Common.{not, Option, Some, None}
use Rattle.std.proofs.Common.{Contains, filter, map, length, refl, sym, ap, subst, ◌∙◌, length-append, arith}
use Rattle.std.proofs.Math.Dec.{eqb}
use Rattle.std.proofs.lemmas.Bool.{eqb-true, false_from_ne_true}
use Rattle.std.proofs.lemmas.List.{length-map}
use Rattle.std.proofs.lemmas.List.Elements.{All-head, All-tail}
use Rattle.std.proofs.lemmas.List.Sums.{count_by-le-length, length-filter}
use Rattle.std.proofs.lemmas.Map.Steps.{length-le_from_distinct_below}
use Rattle.std.proofs.lemmas.Option.{slice_get_within}
use Rattle.std.specs.List.{AllByRecursion, IsDistinct, list_any}
use Rattle.rotor_base.specs.declared.place.Place.{Place}
use Rattle.rotor_base.specs.Files.{FileSet, IsProject}
use Rattle.rotor_base.proofs.Kept.{few_files}
use Rattle.ml_lexer.specs.Lexed.{Lexeme}
use Rattle.value_sites.specs.Places.{Site, sites}
use Rattle.value_sites.specs.Sound.{AreDistinct, IsBodyPart, IsFacePart, IsSoundFile, IsSoundUnit, part_files, unit_files}
use Rattle.ml_syntax.specs.Standing.{StandFrom, StandsAt}
use Rattle.ml_trees.specs.Tok.{Tok}
use Rattle.ml_trees.specs.Tree.{Body, Face, FileTree, UnitTree}
use Rattle.ml_trees.specs.Words.{words}
use Rattle.ml_syntax.proofs.Standing.{sites_have_their_words}
use Rattle.binding_model.specs.Facts.{in_order, is_before, put}
use Rattle.binding_model.specs.Renaming.{file_places, placed_sites, places}
use Rattle.parse_module.specs.declared.files.FileKind.{FileKind}
use Rattle.parse_module.specs.declared.files.FileKind.TheVariants as kind
use Rattle.parse_module.specs.Whole.{IsOfFile}
use Rattle.project_reading.specs.Reads.{Reads}
use Rattle.project_reading.specs.Source.{kind_of_source}
use Rattle.project_reading.proofs.Soundness.{read_is_sound}
use Rattle.project_reading.proofs.Twins.{parts_are_trees}
use Rattle.value_places.specs.Binders.{binding}
use Rattle.rename_survey.specs.declared.answer.Binder.{Binder}
use Rattle.rename_survey.specs.Survey.{binder_of, binders_of}
use Rattle.rename_verify.specs.Candidate.{changes, given_name}
use Rattle.rename_verify.specs.Changed.{Changed}
use Rattle.std.specs.Str.{bytes_eq}
use Rattle.rename_verify.proofs.Alone.{first_in, more_in}

-- ---- lists

fewer : {A : Type 0} (p : A → Bool) (xs : List A) → length (filter p xs) ≤ length xs
fewer p xs = omega (arith, length-filter p xs, count_by-le-length p xs)

one_put : {A : Type 0} (at : A → Place) (x : A) (ys : List A) → length (put at x ys) ≡ suc (length ys)
one_put at x [] = refl
one_put {A} at x (y ∷ ys) = by (is_before (at y) (at x)) (one_put at x ys) where
  by : (b : Bool) → length (put at x ys) ≡ suc (length ys)
      → length (if b then y ∷ put at x ys else x ∷ (y ∷ ys)) ≡ suc (suc (length ys))
  by true e = ap suc e
  by false e = refl

as_many_ordered : {A : Type 0} (at : A → Place) (xs : List A) → length (in_order at xs) ≡ length xs
as_many_ordered at [] = refl
as_many_ordered at (x ∷ xs) = one_put at x (in_order at xs) ∙ ap suc (as_many_ordered at xs)

others : (x : ℕ) (xs : List ℕ) → All (λ y. x ≢ y) xs → AllByRecursion (λ y. eqb x y ≡ false) xs
others x [] h = tt
others x (y ∷ ys) h =
    (false_from_ne_true (eqb x y) (λ e. All-head (λ z. x ≢ z) y ys h (eqb-true x y e)), others x ys (All-tail (λ z. x ≢ z) y ys h))

distinct_is : (xs : List ℕ) → AreDistinct xs → IsDistinct eqb xs
unfolding IsDistinct
distinct_is [] h = tt
distinct_is (x ∷ xs) h = (others x xs h.0, distinct_is xs h.1)

among_below : (n : ℕ) (xs : List ℕ) → AllByRecursion (λ y. y < n) xs → (q : ℕ) → list_any (eqb q) xs ≡ true → q < n
among_below n [] h q e = cc
among_below n (x ∷ xs) h q e = by (eqb q x) refl e (among_below n xs h.1 q) where
  by : (b : Bool) → eqb q x ≡ b → (b || list_any (eqb q) xs) ≡ true → (list_any (eqb q) xs ≡ true → q < n) → q < n
  by true same k rest = subst (λ z. z < n) (sym (eqb-true q x same)) h.0
  by false other k rest = rest k

all_join : (P : ℕ → Type 0) (xs ys : List ℕ) → AllByRecursion P xs → AllByRecursion P ys → AllByRecursion P (xs ++ ys)
all_join P [] ys h k = k
all_join P (x ∷ xs) ys h k = (h.0, all_join P xs ys h.1 k)

-- ---- the places of a file

within : (ts : List Tok) (count : ℕ) (s : Site) → StandsAt ts count s → count < length ts
within ts count s h = omega (arith, h.place, ap (λ (l : List Tok). length l) h.split, length-append h.before (h.here ∷ h.behind))

few_from : (ts : List Tok) (low : ℕ) (ss : List Site) → low ≤ length ts → StandFrom ts low ss → low + length ss ≤ length ts
few_from ts low [] le h = omega (arith, le)
few_from ts low (s ∷ ss) le h =
    let inside = within ts h.0 s h.2 in
    let rest = few_from ts (suc h.0) ss (omega (arith, inside)) h.3 in
    omega (arith, rest, h.1)

as_many_placed : (file : ℕ) (ss : List Site) → length (placed_sites file ss) ≡ length ss
as_many_placed file [] = refl
as_many_placed file (s ∷ ss) = ap suc (as_many_placed file ss)

few_sites : (t : FileTree) → IsSoundFile t → length (sites t) ≤ 1048576
few_sites t h =
    let stand = few_from (words t) 0 (sites t) (omega arith) (sites_have_their_words t h.0) in
    omega (arith, stand, h.2)

few_in_body : (part : Option FileTree) → IsBodyPart part → length (file_places part) ≤ length (part_files part) * 1048576
few_in_body None h = omega arith
few_in_body (Some (Body file is)) h = omega (arith, as_many_placed file (sites (Body file is)), few_sites (Body file is) h)
few_in_body (Some (Face file is)) h = absurd h

few_in_face : (part : Option FileTree) → IsFacePart part → length (file_places part) ≤ length (part_files part) * 1048576
few_in_face None h = omega arith
few_in_face (Some (Face file is)) h = omega (arith, as_many_placed file (sites (Face file is)), few_sites (Face file is) h)
few_in_face (Some (Body file is)) h = absurd h

few_places : (us : List UnitTree) → All IsSoundUnit us → length (places us) ≤ length (unit_files us) * 1048576
few_places [] h = omega arith
few_places (u ∷ us) h =
    let sound = All-head IsSoundUnit u us h in
    omega (
      arith,
      few_in_body u.body sound.0,
      few_in_face u.face sound.1,
      few_places us (All-tail IsSoundUnit u us h),
      length-append (file_places u.body) (file_places u.face ++ places us),
      length-append (file_places u.face) (places us),
      length-append (part_files u.body) (part_files u.face ++ unit_files us),
      length-append (part_files u.face) (unit_files us),
    )

-- ---- the files of a project

file_is : (k : FileKind) (n file : ℕ) (t : FileTree) → IsOfFile k n t → part_files (Some t) ≡ n ∷ []
file_is kind.Body n file (Body a is) h = ap (λ x. x ∷ []) h
file_is kind.Face n file (Face a is) h = ap (λ x. x ∷ []) h
file_is kind.Body n file (Face a is) h = absurd h
file_is kind.Face n file (Body a is) h = absurd h

module _ (files : FileSet) (us : List UnitTree) (project : IsProject files) (reads : Reads files us) where
  IsBelow : List ℕ → Type 0
  IsBelow xs = AllByRecursion (λ n. n < length files.entries) xs

  part_below : (u : UnitTree) (part : Option FileTree) → Contains us u → ((t : FileTree) → part ≡ Some t → (u.body ≡ Some t) ⊎ (u.face ≡ Some t))
      → IsBelow (part_files part)
  unfolding IsBelow
  part_below u None among h = tt
  part_below u (Some t) among h =
      let p = parts_are_trees files us project reads u t among (h t refl) in
      let one = file_is (kind_of_source p.1.name) p.0 p.0 t p.3.parsed.of_file in
      subst (AllByRecursion (λ n. n < length files.entries)) (sym one) (slice_get_within files.entries p.0 p.1 p.2, tt)

  all_below : (vs : List UnitTree) → ((u : UnitTree) → Contains vs u → Contains us u) → IsBelow (unit_files vs)
  unfolding IsBelow
  all_below [] among = tt
  all_below (v ∷ vs) among =
      let here = among v (first_in v vs) in
      all_join (λ n. n < length files.entries) (part_files v.body) (part_files v.face ++ unit_files vs)
      (part_below v v.body here (λ t e. inl e))
      (all_join (λ n. n < length files.entries) (part_files v.face) (unit_files vs) (part_below v v.face here (λ t e. inr e))
      (all_below vs (λ u c. among u (more_in v vs u c))))

  few_parts : length (unit_files us) ≤ length files.entries
  unfolding IsBelow
  few_parts =
      let sound = read_is_sound files us project reads in
      length-le_from_distinct_below (unit_files us) (length files.entries) (distinct_is (unit_files us) sound.1)
      (among_below (length files.entries) (unit_files us) (all_below us (λ u c. c)))

  -- 2,000 files of 1,048,576 words at most
  pub few_changes : (lists : List (List Lexeme)) → length (changes lists (binders_of us)) ≤ 2097152000
  few_changes lists =
      let bs = binders_of us in
      let change : Binder → Changed = λ b. (b.at, b.name, given_name lists b) in
      let sound = read_is_sound files us project reads in
      omega (
        arith,
        fewer (λ (c : Changed). not (bytes_eq c.1 c.2)) (map change bs),
        length-map bs change,
        as_many_ordered (λ (b : Binder). b.at) (map binder_of (binding (places us))),
        length-map (binding (places us)) binder_of,
        fewer (λ e. e.1.binds) (places us),
        few_places us sound.0,
        few_parts,
        few_files files project,
      )
