-- A renaming that is valid is valid if the files get other numbers in the same order.
use Rattle.std.proofs.Common.{◌≡◌, ◌≢◌, ℕ, suc, ◌+◌, ◌<◌, ◌≤◌, Bool, true, false, ◌==◌, ◌&&◌, ◌||◌, if◌then◌else◌, List, [], ◌∷◌, ◌++◌, map}
use Rattle.std.proofs.Common.{Option, Some, None, Contains, inl, inr, refl, sym, ap, subst, ◌∙◌, arith}
use Rattle.std.specs.Prelude.{nat_lt, ◌⊎◌}
use Rattle.std.proofs.lemmas.Bool.{eqb-true, eq-eqb}
use Rattle.std.proofs.lemmas.Bool.Decides.{leb_tells}
use Rattle.rotor_base.specs.Place.{same_place}
use Rattle.rotor_base.specs.declared.place.Facts.{Facts}
use Rattle.rotor_base.specs.declared.place.Place.{Place}
use Rattle.rotor_base.specs.declared.place.Ref.{Ref}
use Rattle.rotor_base.specs.declared.place.Link.{Link}
use Rattle.rotor_base.specs.declared.place.Goal.{Goal}
use Rattle.rotor_base.specs.declared.place.Goal.TheVariants.{Decl, Outside, Missing, Hidden, Blur}
use Rattle.value_sites.specs.Each.{Each}
use Rattle.value_sites.specs.Places.{Site}
use Rattle.value_sites.specs.Respelled.{spell_file}
use Rattle.ml_trees.specs.Tree.{FileTree, Body, Face, UnitTree}
use Rattle.shape_core.specs.Shape.{Name, Entries, vals, or_else, or_value, some_if, last_of}
use Rattle.shape_core.specs.Links.{link}
use Rattle.shape_core.specs.Respell.{Words, over}
use Rattle.shape_core.proofs.Founds.{each, last_of-each}
use Rattle.binding_model.specs.Facts.{is_before, put, in_order, decl_list, decls_of, decls, facts, AreNamedApart, IsGood}
use Rattle.binding_model.specs.Renaming.{Renaming, IsBinder, placed_sites, file_places, places, at_place, site_name, in_file, spell_tree}
use Rattle.binding_model.specs.Renaming.{spell_unit, goal_at, new_word, words_of, respell, Changes, IsFixedSite, HasBehind, IsBlur, IsFree, IsValid}
use Rattle.binding_model.specs.Scopes.{here}
use Rattle.binding_model.specs.Steps.{refs_of, trace, groups_of}
use Rattle.binding_model.specs.Walk.{steps}
use Rattle.binding_model.proofs.Naming.{each_in}
use Rattle.binding_model.proofs.Telltale.{each_contained}
use Rattle.open_world.specs.Laws.{KeepsOrder, moved, renumbered, unit_renumbered, moved_renaming, NumbersStay}
use Rattle.open_world.proofs.Before.{each_front_map}
use Rattle.open_world.proofs.Joined.{at_contains}
use Rattle.open_world.proofs.Renumbered.{move_goal, move_entries, move_vals, move_ref, move_link, all_alike, refs_moved, groups_moved, links_moved}

extend : {A B : Type 0} (f g : A → B) → ((x : A) → f x ≡ g x) → f ≡ g
extend f g h = λ i x. h x i

module _ (φ : ℕ → ℕ) (keeps : KeepsOrder φ) where
  -- ---- numbers

  is_less : (a b : ℕ) → nat_lt a b ≡ true → a < b
  is_less a b e = grind (arith, leb_tells (suc a) b, e)

  not_less : (a b : ℕ) → nat_lt a b ≡ false → b ≤ a
  not_less a b e = grind (arith, leb_tells (suc a) b, e)

  less_is : (a b : ℕ) → a < b → nat_lt a b ≡ true
  less_is a b h = grind (arith, leb_tells (suc a) b, h)

  less_not : (a b : ℕ) → b ≤ a → nat_lt a b ≡ false
  less_not a b h = grind (arith, leb_tells (suc a) b, h)

  more : (a b : ℕ) → (a < b) ⊎ (b ≤ a)
  more a b = by (nat_lt a b) refl
    where
      by : (t : Bool) → nat_lt a b ≡ t → (a < b) ⊎ (b ≤ a)
      by true e = inl (is_less a b e)
      by false e = inr (not_less a b e)

  at_most : (a b : ℕ) → b ≤ a → φ b ≤ φ a
  at_most a b h = elim (more b a) [
    | inl l ↦ (let k = keeps b a l in omega (arith, k))
    | inr g ↦ (let same : b ≡ a = omega (arith, g, h) in subst (λ n. φ b ≤ φ n) same (omega arith))
  ]

  less_true : (a b : ℕ) → a < b → nat_lt (φ a) (φ b) ≡ nat_lt a b
  less_true a b h = less_is (φ a) (φ b) (keeps a b h) ∙ sym (less_is a b h)

  less_false : (a b : ℕ) → b ≤ a → nat_lt (φ a) (φ b) ≡ nat_lt a b
  less_false a b h = less_not (φ a) (φ b) (at_most a b h) ∙ sym (less_not a b h)

  less_same : (a b : ℕ) → nat_lt (φ a) (φ b) ≡ nat_lt a b
  less_same a b = elim (more a b) [ inl h ↦ less_true a b h | inr h ↦ less_false a b h ]

  same_number : (a b : ℕ) → φ a ≡ φ b → a ≡ b
  same_number a b e =
      let p : nat_lt a b ≡ false = sym (less_same a b) ∙ (ap (λ n. nat_lt n (φ b)) e ∙ less_not (φ b) (φ b) (omega arith)) in
      let q : nat_lt b a ≡ false = sym (less_same b a) ∙ (ap (λ n. nat_lt (φ b) n) e ∙ less_not (φ b) (φ b) (omega arith)) in
      let x = not_less a b p in let y = not_less b a q in omega (arith, x, y)

  eq_same : (a b : ℕ) → (φ a == φ b) ≡ (a == b)
  eq_same a b = by (a == b) refl
    where
      no : (t : Bool) → (φ a == φ b) ≡ t → (a == b) ≡ false → t ≡ false
      no true e n = let same = same_number a b (eqb-true (φ a) (φ b) e) in let wrong : true ≡ false = sym (eq-eqb a b same) ∙ n in absurd cc
      no false e n = refl

      by : (t : Bool) → (a == b) ≡ t → (φ a == φ b) ≡ t
      by true e = eq-eqb (φ a) (φ b) (ap φ (eqb-true a b e))
      by false e = no (φ a == φ b) refl e

  -- ---- places

  pub place_same : (p q : Place) → same_place (moved φ p) (moved φ q) ≡ same_place p q
  place_same p q = ap (λ b. b && (p.token == q.token)) (eq_same p.file q.file)

  before_same : (p q : Place) → is_before (moved φ p) (moved φ q) ≡ is_before p q
  before_same p q =
      ap (λ b. b || ((φ p.file == φ q.file) && nat_lt p.token q.token)) (less_same p.file q.file)
      ∙ ap (λ b. nat_lt p.file q.file || (b && nat_lt p.token q.token)) (eq_same p.file q.file)

  pub moved_one : (p q : Place) → moved φ p ≡ moved φ q → p ≡ q
  moved_one p q e =
      let f : p.file ≡ q.file = same_number p.file q.file (ap (λ (z : Place). z.file) e) in
      let t : p.token ≡ q.token = ap (λ (z : Place). z.token) e in
      ap (λ n. record { file = n; token = p.token }) f ∙ ap (λ n. record { file = q.file; token = n }) t

  abbrev pair : {A : Type 0} → Place × A → Place × A
  pair e = (moved φ e.0, e.1)

  pub at_moved : {A : Type 0} (L : List (Place × A)) (p : Place) → at_place (map pair L) (moved φ p) ≡ at_place L p
  at_moved [] p = refl
  at_moved (e ∷ L) p =
      ap (λ b. or_else (some_if b e.1) (at_place (map pair L) (moved φ p))) (place_same e.0 p)
      ∙ ap (or_else (some_if (same_place e.0 p) e.1)) (at_moved L p)

  map_both : {A B : Type 0} (f : A → B) (xs ys : List A) → map f (xs ++ ys) ≡ map f xs ++ map f ys
  map_both f [] ys = refl
  map_both f (x ∷ xs) ys = ap (λ l. f x ∷ l) (map_both f xs ys)

  sites_moved : (f : ℕ) (xs : List Site) → placed_sites (φ f) xs ≡ map pair (placed_sites f xs)
  sites_moved f [] = refl
  sites_moved f (x ∷ xs) = ap (λ l. (here (φ f) x.at, x) ∷ l) (sites_moved f xs)

  file_moved : (o : Option FileTree) → file_places (over (renumbered φ) o) ≡ map pair (file_places o)
  file_moved None = refl
  file_moved (Some (Body f is)) = sites_moved f _
  file_moved (Some (Face f is)) = sites_moved f _

  pub places_moved : (us : List UnitTree) → places (map (unit_renumbered φ) us) ≡ map pair (places us)
  places_moved [] = refl
  places_moved (u ∷ us) =
      ap (λ l. l ++ (file_places (over (renumbered φ) u.face) ++ places (map (unit_renumbered φ) us))) (file_moved u.body)
      ∙ ap (λ l. map pair (file_places u.body) ++ (l ++ places (map (unit_renumbered φ) us))) (file_moved u.face)
      ∙ ap (λ l. map pair (file_places u.body) ++ (map pair (file_places u.face) ++ l)) (places_moved us)
      ∙ ap (λ l. map pair (file_places u.body) ++ l) (sym (map_both pair (file_places u.face) (places us)))
      ∙ sym (map_both pair (file_places u.body) (file_places u.face ++ places us))

  pub there_moved : (us : List UnitTree) (p : Place) → at_place (places (map (unit_renumbered φ) us)) (moved φ p) ≡ at_place (places us) p
  there_moved us p = ap (λ L. at_place L (moved φ p)) (places_moved us) ∙ at_moved (places us) p

  -- ---- facts

  put_moved : (x : Ref) (xs : List Ref) → put (λ r. r.at) (move_ref φ x) (map (move_ref φ) xs) ≡ map (move_ref φ) (put (λ r. r.at) x xs)
  put_moved x [] = refl
  put_moved x (y ∷ ys) =
      ap (λ b. if b then move_ref φ y ∷ put (λ r. r.at) (move_ref φ x) (map (move_ref φ) ys) else move_ref φ x ∷ (move_ref φ y ∷ map (move_ref φ) ys))
      (before_same y.at x.at)
      ∙ by (is_before y.at x.at) (put_moved x ys)
    where
      by : (b : Bool) → put (λ r. r.at) (move_ref φ x) (map (move_ref φ) ys) ≡ map (move_ref φ) (put (λ r. r.at) x ys)
          → (if b then move_ref φ y ∷ put (λ r. r.at) (move_ref φ x) (map (move_ref φ) ys) else move_ref φ x ∷ (move_ref φ y ∷ map (move_ref φ) ys))
          ≡ map (move_ref φ) (if b then y ∷ put (λ r. r.at) x ys else x ∷ (y ∷ ys))
      by true h = ap (λ l. move_ref φ y ∷ l) h
      by false h = refl

  order_moved : (xs : List Ref) → in_order (λ r. r.at) (map (move_ref φ) xs) ≡ map (move_ref φ) (in_order (λ r. r.at) xs)
  order_moved [] = refl
  order_moved (x ∷ xs) = ap (put (λ r. r.at) (move_ref φ x)) (order_moved xs) ∙ put_moved x (in_order (λ r. r.at) xs)

  decl_moved : (g : Goal) → decl_list (move_goal φ g) ≡ map (moved φ) (decl_list g)
  decl_moved (Decl d) = refl
  decl_moved Outside = refl
  decl_moved Missing = refl
  decl_moved Hidden = refl
  decl_moved (Blur by n b) = refl

  decls_moved : (es : List (Name × Goal)) → decls_of (each (move_goal φ) es) ≡ map (moved φ) (decls_of es)
  decls_moved [] = refl
  decls_moved (e ∷ es) =
      ap (λ l. l ++ decls_of (each (move_goal φ) es)) (decl_moved e.1) ∙ ap (λ l. map (moved φ) (decl_list e.1) ++ l) (decls_moved es)
      ∙ sym (map_both (moved φ) (decl_list e.1) (decls_of es))

  groups_listed : (gs : List Entries) → map decls (map (move_entries φ) gs) ≡ map (map (moved φ)) (map decls gs)
  groups_listed [] = refl
  groups_listed (g ∷ gs) =
      ap (λ l. l ∷ map decls (map (move_entries φ) gs)) (ap decls_of (move_vals φ g) ∙ decls_moved (vals g))
      ∙ ap (λ l. map (moved φ) (decls g) ∷ l) (groups_listed gs)

  abbrev made : List Ref → List Link → List (List Place) → Facts
  made a b c = record { refs = a; links = b; groups = c }

  abbrev pub move_facts : Facts → Facts
  move_facts f = made (map (move_ref φ) f.refs) (map (move_link φ) f.links) (map (map (moved φ)) f.groups)

  pub facts_moved : (us : List UnitTree) → facts (map (unit_renumbered φ) us) ≡ move_facts (facts us)
  facts_moved us =
      let vs = map (unit_renumbered φ) us in
      ap (λ l. made (in_order (λ r. r.at) l) (trace link (steps vs)).told (map decls (groups_of (steps vs))))
      (refs_moved φ (steps us) (steps vs) (all_alike φ us))
      ∙ ap (λ l. made l (trace link (steps vs)).told (map decls (groups_of (steps vs)))) (order_moved (refs_of (steps us)))
      ∙ ap (λ l. made (map (move_ref φ) (facts us).refs) l (map decls (groups_of (steps vs)))) (links_moved φ us)
      ∙ ap (λ l. made (map (move_ref φ) (facts us).refs) (map (move_link φ) (facts us).links) (map decls l))
      (groups_moved φ (steps us) (steps vs) (all_alike φ us))
      ∙ ap (made (map (move_ref φ) (facts us).refs) (map (move_link φ) (facts us).links)) (groups_listed (groups_of (steps us)))

  -- ---- words

  goal_moved : (rs : List Ref) (p : Place) → goal_at (map (move_ref φ) rs) (moved φ p) ≡ over (move_goal φ) (goal_at rs p)
  goal_moved [] p = refl
  goal_moved (r ∷ rs) p =
      ap (λ b. or_else (some_if b (move_goal φ r.goal)) (goal_at (map (move_ref φ) rs) (moved φ p))) (place_same r.at p)
      ∙ by (same_place r.at p) (goal_moved rs p)
    where
      by : (b : Bool) → goal_at (map (move_ref φ) rs) (moved φ p) ≡ over (move_goal φ) (goal_at rs p)
          → or_else (some_if b (move_goal φ r.goal)) (goal_at (map (move_ref φ) rs) (moved φ p)) ≡ over (move_goal φ)
          (or_else (some_if b r.goal) (goal_at rs p))
      by true h = refl
      by false h = h

  word_moved : (r : Renaming) (o : Option Goal) (p : Place) (x : Name)
      → new_word (moved_renaming φ r) (over (move_goal φ) o) (moved φ p) x ≡ new_word r o p x
  word_moved r None p x = ap (λ y. or_value y x) (at_moved r p)
  word_moved r (Some (Decl d)) p x = ap (λ y. or_value y x) (at_moved r d)
  word_moved r (Some Outside) p x = refl
  word_moved r (Some Missing) p x = refl
  word_moved r (Some Hidden) p x = refl
  word_moved r (Some (Blur by n b)) p x = refl

  words_moved : (r : Renaming) (rs : List Ref) (p : Place) (x : Name)
      → words_of (moved_renaming φ r) (map (move_ref φ) rs) (moved φ p) x ≡ words_of r rs p x
  words_moved r rs p x = ap (λ o. new_word (moved_renaming φ r) o (moved φ p) x) (goal_moved rs p) ∙ word_moved r (goal_at rs p) p x

  module _ (w w' : Words) (same : (p : Place) (x : Name) → w' (moved φ p) x ≡ w p x) where
    file_same : (f : ℕ) → in_file w' (φ f) ≡ in_file w f
    file_same f = extend (in_file w' (φ f)) (in_file w f) (λ at. extend (in_file w' (φ f) at) (in_file w f at) (λ x. same (here f at) x))

    tree_same : (o : Option FileTree) → over (spell_tree w') (over (renumbered φ) o) ≡ over (renumbered φ) (over (spell_tree w) o)
    tree_same None = refl
    tree_same (Some (Body f is)) = ap (λ v. Some (spell_file v (Body (φ f) is))) (file_same f)
    tree_same (Some (Face f is)) = ap (λ v. Some (spell_file v (Face (φ f) is))) (file_same f)

    units_same : (us : List UnitTree) → map (spell_unit w') (map (unit_renumbered φ) us) ≡ map (unit_renumbered φ) (map (spell_unit w) us)
    units_same [] = refl
    units_same (u ∷ us) =
        ap (λ b. record { name = u.name; body = b; face = over (spell_tree w') (over (renumbered φ) u.face) } ∷ map (spell_unit w')
        (map (unit_renumbered φ) us))
        (tree_same u.body)
        ∙ ap (λ d. record { name = u.name; body = over (renumbered φ) (over (spell_tree w) u.body); face = d }
        ∷ map (spell_unit w') (map (unit_renumbered φ) us)) (tree_same u.face)
        ∙ ap (λ l. unit_renumbered φ (spell_unit w u) ∷ l) (units_same us)

  pub respell_moved : (us : List UnitTree) (r : Renaming)
      → respell (map (unit_renumbered φ) us) (moved_renaming φ r) ≡ map (unit_renumbered φ) (respell us r)
  respell_moved us r =
      ap (λ (f : Facts). map (spell_unit (words_of (moved_renaming φ r) f.refs)) (map (unit_renumbered φ) us)) (facts_moved us)
      ∙ units_same (words_of r (facts us).refs) (words_of (moved_renaming φ r) (map (move_ref φ) (facts us).refs)) (words_moved r (facts us).refs) us

  -- ---- goals

  goal_decl : (g : Goal) (d : Place) → move_goal φ g ≡ Decl (moved φ d) → g ≡ Decl d
  goal_decl (Decl e) d h = let s : moved φ e ≡ moved φ d = cc in ap Decl (moved_one e d s)
  goal_decl Outside d h = absurd cc
  goal_decl Missing d h = absurd cc
  goal_decl Hidden d h = absurd cc
  goal_decl (Blur by n b) d h = absurd cc

  goal_outside : (g : Goal) → move_goal φ g ≡ Outside → g ≡ Outside
  goal_outside (Decl e) h = absurd cc
  goal_outside Outside h = refl
  goal_outside Missing h = absurd cc
  goal_outside Hidden h = absurd cc
  goal_outside (Blur by n b) h = absurd cc

  goal_missing : (g : Goal) → move_goal φ g ≡ Missing → g ≡ Missing
  goal_missing (Decl e) h = absurd cc
  goal_missing Outside h = absurd cc
  goal_missing Missing h = refl
  goal_missing Hidden h = absurd cc
  goal_missing (Blur by n b) h = absurd cc

  goal_blur : (g : Goal) → IsBlur (move_goal φ g) → IsBlur g
  goal_blur (Decl e) h = h
  goal_blur Outside h = h
  goal_blur Missing h = h
  goal_blur Hidden h = h
  goal_blur (Blur by n b) h = tt

  goal_behind : (d : Place) (g : Goal) → HasBehind (moved φ d) (move_goal φ g) → HasBehind d g
  goal_behind d (Decl e) h = h
  goal_behind d Outside h = h
  goal_behind d Missing h = h
  goal_behind d Hidden h = h
  goal_behind d (Blur by n None) h = h
  goal_behind d (Blur by n (Some e)) h = moved_one e d h

  -- ---- valid

  module _ (us : List UnitTree) (r : Renaming) (valid : IsValid us r) where
    abbrev vs : List UnitTree
    vs = map (unit_renumbered φ) us

    refs_of_all : (P : Ref → Type 0) → ((u : Ref) → Contains (facts us).refs u → P (move_ref φ u)) → (u : Ref) → Contains (facts vs).refs u → P u
    refs_of_all P f u c =
        each_in P (map (move_ref φ) (facts us).refs) u
        (each_front_map P (move_ref φ) (facts us).refs (each_contained (λ x. P (move_ref φ x)) (facts us).refs f))
        (subst (λ (z : Facts). Contains z.refs u) (facts_moved us) c)

    links_of_all : (P : Link → Type 0) → ((l : Link) → Contains (facts us).links l → P (move_link φ l)) → (l : Link) → Contains (facts vs).links l
        → P l
    links_of_all P f l c =
        each_in P (map (move_link φ) (facts us).links) l
        (each_front_map P (move_link φ) (facts us).links (each_contained (λ x. P (move_link φ x)) (facts us).links f))
        (subst (λ (z : Facts). Contains z.links l) (facts_moved us) c)

    free_moved : (d : Place) → IsFree us d → IsFree vs (moved φ d)
    free_moved d f = record {
      word = λ h. f.word (subst IsFixedSite (there_moved us d) h);
      uses = λ u c. refs_of_all (λ x. x.goal ≡ Decl (moved φ d) → IsFixedSite (at_place (places vs) x.at) → ⊥)
          (λ x k e h. f.uses x k (goal_decl x.goal d e) (subst IsFixedSite (there_moved us x.at) h)) u c;
      inside = λ l c. links_of_all
          (λ x. ((x.item ≡ Decl (moved φ d)) × (x.source ≡ Outside)) ⊎ ((x.item ≡ Outside) × (x.source ≡ Decl (moved φ d))) → ⊥)
          (λ x k h. f.inside x k (elim h [
            | inl a ↦ inl (goal_decl x.item d a.0, goal_outside x.source a.1)
            | inr a ↦ inr (goal_outside x.item a.0, goal_decl x.source d a.1)
          ])) l c;
      refs_seen = λ u c. refs_of_all (λ x. HasBehind (moved φ d) x.goal → ⊥) (λ x k h. f.refs_seen x k (goal_behind d x.goal h)) u c;
      links_seen = λ l c. links_of_all (λ x. HasBehind (moved φ d) x.source ⊎ ((x.item ≡ Decl (moved φ d)) × IsBlur x.source) → ⊥)
          (λ x k h. f.links_seen x k (elim h [
            | inl a ↦ inl (goal_behind d x.source a)
            | inr a ↦ inr (goal_decl x.item d a.0, goal_blur x.source a.1)
          ])) l c;
    }

    entries_of_all : (P : Place × Name → Type 0) → ((e : Place × Name) → Contains r e → P (pair e)) → (e : Place × Name)
        → Contains (moved_renaming φ r) e → P e
    entries_of_all P f e c = each_in P (map pair r) e (each_front_map P pair r (each_contained (λ x. P (pair x)) r f)) c

    binder_moved : (d : Place) → IsBinder us d → IsBinder vs (moved φ d)
    binder_moved d b = (b.0, there_moved us d ∙ b.1, b.2)

    change_moved : (d : Place) (y : Name) → Changes vs (moved_renaming φ r) (moved φ d) y → Changes us r d y
    change_moved d y c = (sym (at_moved r d) ∙ c.0, λ s. c.1 (s ∙ sym (ap site_name (there_moved us d))))

    -- each entry is at a place that moved
    is_moved : (d : Place) (y : Name) → Contains (moved_renaming φ r) (d, y) → (e : Place) × (d ≡ moved φ e)
    is_moved d y c = entries_of_all (λ x. (e : Place) × (x.0 ≡ moved φ e)) (λ x k. (x.0, refl)) (d, y) c

    same_facts : facts (respell vs (moved_renaming φ r)) ≡ facts vs
    same_facts = ap facts (respell_moved us r) ∙ facts_moved (respell us r) ∙ ap move_facts valid.same ∙ sym (facts_moved us)

    -- ---- good

    none_moved : (o : Option Goal) → o ≡ None → over (move_goal φ) o ≡ None
    none_moved None e = refl
    none_moved (Some g) e = absurd cc

    apart_each : (es : List (Name × Goal)) → AreNamedApart es → AreNamedApart (each (move_goal φ) es)
    apart_each [] h = tt
    apart_each (e ∷ es) h = (last_of-each (move_goal φ) es e.0 ∙ none_moved (last_of es e.0) h.0, apart_each es h.1)

    apart_moved : (es : Entries) → AreNamedApart (vals es) → AreNamedApart (vals (move_entries φ es))
    apart_moved es h = subst AreNamedApart (sym (move_vals φ es)) (apart_each (vals es) h)

    abbrev IsApart : Entries → Type 0
    IsApart es = AreNamedApart (vals es)

    all_apart : (gs : List Entries) → Each IsApart gs → Each IsApart (map (move_entries φ) gs)
    all_apart [] h = tt
    all_apart (g ∷ gs) h = (apart_moved g h.0, all_apart gs h.1)

    good_moved : (xs : List UnitTree) → IsGood xs → IsGood (map (unit_renumbered φ) xs)
    good_moved xs g = record {
      apart = subst (Each IsApart) (sym (groups_moved φ (steps xs) (steps (map (unit_renumbered φ) xs)) (all_alike φ xs)))
          (all_apart (groups_of (steps xs)) g.apart);
      matched =
          subst (λ (z : Facts). Each (λ l. l.source ≢ Missing) z.links) (sym (facts_moved xs))
          (each_front_map (λ l. l.source ≢ Missing) (move_link φ) (facts xs).links
          (each_contained (λ l. move_goal φ l.source ≢ Missing) (facts xs).links
          (λ l c e. each_in (λ k. k.source ≢ Missing) (facts xs).links l g.matched c (goal_missing l.source e))));
    }

    module _ (contained : (q : Renaming) (d : Place) (y : Name) → at_place q d ≡ Some y → Contains q (d, y)) where
      at_entry : (d : Place) (y : Name) → Changes vs (moved_renaming φ r) d y → (e : Place) × (d ≡ moved φ e) × Changes us r e y
      at_entry d y c =
          let m = is_moved d y (contained (moved_renaming φ r) d y c.0) in
          (m.0, m.1, change_moved m.0 y (subst (λ p. Changes vs (moved_renaming φ r) p y) m.1 c))

      pub valid_moved : IsValid vs (moved_renaming φ r)
      valid_moved = record {
        binders = λ d y c. entries_of_all (λ e. IsBinder vs e.0) (λ e k. binder_moved e.0 (valid.binders e.0 e.1 k)) (d, y) c;
        free = λ d y c. let e = at_entry d y c in subst (IsFree vs) (sym e.1) (free_moved e.0 (valid.free e.0 y e.2));
        names = λ d y c. let e = at_entry d y c in valid.names e.0 y e.2;
        good = subst IsGood (sym (respell_moved us r)) (good_moved (respell us r) valid.good);
        same = same_facts;
      }

pub numbers_stay : NumbersStay
numbers_stay us r φ keeps valid = valid_moved φ keeps us r valid at_contains
