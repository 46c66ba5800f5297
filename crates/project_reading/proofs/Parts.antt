-- The units of a list of sources, source by source.
use Rattle.std.proofs.Common.{◌≡◌, ℕ, List, [], ◌∷◌, Bool, true, false, ◌||◌, ◌&&◌, cond, map, Option, Some, None, refl, sym, ap, subst, ◌∙◌}
use Rattle.std.specs.Bool.{beq}
use Rattle.std.specs.List.Sorted.{IsStrictlySortedBy}
use Rattle.std.specs.BTreeSet.{insert_key}
use Rattle.std.specs.declared.cmp.Ordering.{Ordering}
use Rattle.std.specs.declared.cmp.Ordering.TheVariants.{Less, Equal, Greater}
use Rattle.std.specs.Ordering.{nat_cmp, match_ordering}
use Rattle.std.specs.Cmp.Lexicographic.{slice_cmp}
use Rattle.std.specs.Str.{bytes_eq}
use Rattle.std.proofs.lemmas.Slice.Eq.{bytes_eq-Decides}
use Rattle.rotor_base.specs.declared.source.SourceFile.{SourceFile}
use Rattle.rotor_base.specs.Stem.{is_body_name}
use Rattle.rotor_base.specs.Unit.{unit_of}
use Rattle.ml_trees.specs.Tree.{FileTree, UnitTree}
use Rattle.unit_heads.specs.Heads.{is_among}
use Rattle.project_reading.specs.Units.{unit_names, part_of, unit_from, units_of}
use Rattle.project_reading.specs.Gathered.{with_part, empty_unit, put_part}
use Rattle.project_reading.proofs.Names.{IsBelow, same_name, below_too, apart_before, apart_behind, other_behind, not_among, among_insert}
use Rattle.project_reading.proofs.Names.{sorted_names}

pub none_left : (a b : Bool) → (a || b) ≡ false → a ≡ false
none_left false b h = refl
none_left true b h = h

pub none_right : (a b : Bool) → (a || b) ≡ false → b ≡ false
none_right false b h = h
none_right true b h = cc

pub itself : (n : List ℕ) → bytes_eq n n ≡ true
itself n = (bytes_eq-Decides n n).1 refl

-- ---- a further source

other_part : (b c e : Bool) (x y : Option FileTree) → e ≡ false → cond (beq b c && e) x y ≡ y
other_part true true e x y h = ap (λ v. cond v x y) h
other_part true false e x y h = refl
other_part false true e x y h = refl
other_part false false e x y h = ap (λ v. cond v x y) h

-- a unit of another name stays
pub other_unit : (s : SourceFile) (ss : List SourceFile) (t : FileTree) (ts : List FileTree) (n : List ℕ) → bytes_eq (unit_of s.name) n ≡ false
    → unit_from (s ∷ ss) (t ∷ ts) n ≡ unit_from ss ts n
other_unit s ss t ts n h =
    ap (λ p. record { name = n; body = p; face = part_of false n (s ∷ ss) (t ∷ ts) })
    (other_part (is_body_name s.name) true (bytes_eq (unit_of s.name) n) (Some t) (part_of true n ss ts) h)
    ∙ ap (λ p. record { name = n; body = part_of true n ss ts; face = p })
    (other_part (is_body_name s.name) false (bytes_eq (unit_of s.name) n) (Some t) (part_of false n ss ts) h)

-- the unit of the source has its tree
pub own_unit : (s : SourceFile) (ss : List SourceFile) (t : FileTree) (ts : List FileTree)
    → unit_from (s ∷ ss) (t ∷ ts) (unit_of s.name) ≡ with_part (is_body_name s.name) t (unit_from ss ts (unit_of s.name))
own_unit s ss t ts = by (is_body_name s.name) (bytes_eq (unit_of s.name) (unit_of s.name)) (itself (unit_of s.name))
  where
    by : (b e : Bool) → e ≡ true
        → record {
          name = unit_of s.name;
          body = cond (beq b true && e) (Some t) (part_of true (unit_of s.name) ss ts);
          face = cond
              (beq b false && e) (Some t) (part_of false (unit_of s.name) ss ts);
        }
        ≡ with_part b t (unit_from ss ts (unit_of s.name))
    by true true h = refl
    by false true h = refl
    by b false h = cc

-- a unit that no source gives has no tree
pub no_part : (body : Bool) (ss : List SourceFile) (ts : List FileTree) (n : List ℕ) → is_among (unit_names ss) n ≡ false
    → part_of body n ss ts ≡ None
no_part body [] ts n h = refl
no_part body (s ∷ ss) [] n h = refl
no_part body (s ∷ ss) (t ∷ ts) n h =
    let none : (bytes_eq (unit_of s.name) n || is_among (unit_names ss) n) ≡ false = sym (among_insert (unit_names ss) (unit_of s.name) n) ∙ h in
    other_part (is_body_name s.name) body (bytes_eq (unit_of s.name) n) (Some t) (part_of body n ss ts)
    (none_left (bytes_eq (unit_of s.name) n) (is_among (unit_names ss) n) none)
    ∙ no_part body ss ts n (none_right (bytes_eq (unit_of s.name) n) (is_among (unit_names ss) n) none)

pub empty_one : (ss : List SourceFile) (ts : List FileTree) (n : List ℕ) → is_among (unit_names ss) n ≡ false → unit_from ss ts n ≡ empty_unit n
empty_one ss ts n h =
    ap (λ p. record { name = n; body = p; face = part_of false n ss ts }) (no_part true ss ts n h)
    ∙ ap (λ p. record { name = n; body = None; face = p }) (no_part false ss ts n h)

-- ---- a further source puts its tree to the units

module _ (f g : List ℕ → UnitTree) (body : Bool) (n : List ℕ) (t : FileTree)
    (names : (x : List ℕ) → (f x).name ≡ x)
    (other : (x : List ℕ) → bytes_eq n x ≡ false → g x ≡ f x)
    (own : g n ≡ with_part body t (f n)) where
  others_behind : (xs : List (List ℕ)) → IsBelow n xs → map g xs ≡ map f xs
  others_behind [] h = refl
  others_behind (x ∷ xs) h = ap (λ u. u ∷ map g xs) (other x (apart_before n x h.0)) ∙ ap (λ us. f x ∷ us) (others_behind xs h.1)

  pub put_among : (xs : List (List ℕ)) → IsStrictlySortedBy (slice_cmp nat_cmp) xs → (is_among xs n ≡ false → f n ≡ empty_unit n)
      → map g (insert_key (slice_cmp nat_cmp) xs n) ≡ put_part body n t (map f xs)
  unfolding IsStrictlySortedBy
  put_among [] h new = ap (λ u. u ∷ []) (own ∙ ap (with_part body t) (new refl))
  put_among (x ∷ xs) h new = by (slice_cmp nat_cmp n x) refl (put_among xs h.1)
      ∙ ap (λ y. match_ordering (slice_cmp nat_cmp n y) (with_part body t (empty_unit n) ∷ f x ∷ map f xs) (with_part body t (f x) ∷ map f xs)
      (f x ∷ put_part body n t (map f xs))) (sym (names x))
    where
      by : (r : Ordering) → slice_cmp nat_cmp n x ≡ r
          → ((is_among xs n ≡ false → f n ≡ empty_unit n) → map g (insert_key (slice_cmp nat_cmp) xs n) ≡ put_part body n t (map f xs))
          → map g (match_ordering r (n ∷ x ∷ xs) (x ∷ xs) (x ∷ insert_key (slice_cmp nat_cmp) xs n))
          ≡ match_ordering r (with_part body t (empty_unit n) ∷ f x ∷ map f xs) (with_part body t (f x) ∷ map f xs)
          (f x ∷ put_part body n t (map f xs))
      by Less p rest =
          let below : IsBelow n (x ∷ xs) = (p, below_too n x xs p h.0) in
          ap (λ u. u ∷ map g (x ∷ xs)) (own ∙ ap (with_part body t) (new (not_among n (x ∷ xs) below)))
          ∙ ap (λ us. with_part body t (empty_unit n) ∷ us) (others_behind (x ∷ xs) below)
      by Equal p rest =
          let same : n ≡ x = same_name n x p in
          let below : IsBelow n xs = subst (λ y. IsBelow y xs) (sym same) h.0 in
          ap (λ u. u ∷ map g xs) (ap g (sym same) ∙ own ∙ ap (λ y. with_part body t (f y)) same)
          ∙ ap (λ us. with_part body t (f x) ∷ us) (others_behind xs below)
      by Greater p rest =
          let apart : bytes_eq n x ≡ false = other_behind n x p in
          ap (λ u. u ∷ map g (insert_key (slice_cmp nat_cmp) xs n)) (other x apart)
          ∙ ap (λ us. f x ∷ us) (rest (λ none. new (ap (λ b. b || is_among xs n) (apart_behind n x p) ∙ none)))

-- the units of a further source and of those behind it
pub units_more : (s : SourceFile) (ss : List SourceFile) (t : FileTree) (ts : List FileTree)
    → units_of (s ∷ ss) (t ∷ ts) ≡ put_part (is_body_name s.name) (unit_of s.name) t (units_of ss ts)
units_more s ss t ts =
    put_among (unit_from ss ts) (unit_from (s ∷ ss) (t ∷ ts)) (is_body_name s.name) (unit_of s.name) t (λ x. refl) (other_unit s ss t ts)
    (own_unit s ss t ts) (unit_names ss) (sorted_names ss) (empty_one ss ts (unit_of s.name))
