-- A project whose files get other numbers in the same order: its shapes, its steps and its facts.
use Rattle.std.proofs.Common.{◌≡◌, ℕ, zero, suc, ◌+◌, List, [], ◌∷◌, ◌++◌, map, length}
use Rattle.std.proofs.Common.{Option, Some, None, refl, sym, ap, subst, ◌∙◌}
use Rattle.std.specs.Prelude.{max}
use Rattle.rotor_base.specs.declared.place.Place.{Place}
use Rattle.rotor_base.specs.declared.place.Ref.{Ref}
use Rattle.rotor_base.specs.declared.place.Link.{Link}
use Rattle.rotor_base.specs.declared.place.Goal.{Goal}
use Rattle.rotor_base.specs.declared.place.Goal.TheVariants.{Decl, Outside, Missing, Hidden, Blur}
use Rattle.value_sites.specs.Places.{Site}
use Rattle.ml_trees.specs.Tree.{UnitTree}
use Rattle.shape_core.specs.Shape.{Name, Shape, Struct, Functor, Unitary, Opaque, Entries, none, a_val, a_mod, a_mty, a_dark, ◌⊕◌, vals, mods, mtys}
use Rattle.shape_core.specs.Shape.{or_else, or_value, unless_some, last_of, passed, last_place, decl_of, seen, find_val, find_mod}
use Rattle.shape_core.specs.Shape.{find_mty, step, step_from, inside, find_path, walk, type_in, brought, value_at, value_in, depth, depths}
use Rattle.shape_core.specs.Links.{Trace, ◌&◌, nothing, a_step, one, or_empty, pin, pin_entries, pin_vals, match_entries, match_step, match_to}
use Rattle.shape_core.specs.Links.{matched}
use Rattle.shape_core.specs.Links.{link, source_of}
use Rattle.shape_core.specs.Respell.{over}
use Rattle.shape_core.proofs.Founds.{each, last_of-each, or_value-over}
use Rattle.shape_core.proofs.Retold.{after}
use Rattle.binding_model.specs.Scopes.{texts, type_under, applied, here, bound}
use Rattle.binding_model.specs.Steps.{Steps}
use Rattle.binding_model.specs.Steps.{refs_of, tied, trace, groups_of}
use Rattle.binding_model.specs.Walk.{apply_steps, steps}
use Rattle.binding_model.proofs.Naming.{PlaceNamed, units_named}
use Rattle.binding_model.proofs.Sounds.{each_all}
use Rattle.binding_model.proofs.Telling.{trace_mapped, trace_same}
use Rattle.open_world.specs.Laws.{moved, unit_renumbered}
use Rattle.open_world.proofs.Alike.{Alike, IsKept, quiet_alike, then_alike, alone_alike, under_alike, match_alike, pin_alike, tie_alike, group_alike}
use Rattle.open_world.proofs.Alike.{weighed_alike, opened_alike, start_alike, units_alike}
use Rattle.open_world.proofs.Told.{Any}

module _ (φ : ℕ → ℕ) where
  abbrev pub move_goal : Goal → Goal
  move_goal (Decl d) = Decl (moved φ d)
  move_goal Outside = Outside
  move_goal Missing = Missing
  move_goal Hidden = Hidden
  move_goal (Blur by n b) = Blur (moved φ by) n (over (moved φ) b)

  abbrev mutual
    pub move_shape : Shape → Shape
    move_shape (Struct es) = Struct (move_entries es)
    move_shape (Functor p r) = Functor (move_shape p) (move_shape r)
    move_shape (Unitary r) = Unitary (move_shape r)
    move_shape Opaque = Opaque

    pub move_entries : Entries → Entries
    move_entries none = none
    move_entries (a_val x g es) = a_val x (move_goal g) (move_entries es)
    move_entries (a_mod X s es) = a_mod X (move_shape s) (move_entries es)
    move_entries (a_mty X s es) = a_mty X (move_shape s) (move_entries es)
    move_entries (a_dark at es) = a_dark (moved φ at) (move_entries es)

  -- ---- look-ups

  move_append : (a b : Entries) → move_entries (a ⊕ b) ≡ move_entries a ⊕ move_entries b
  move_append none b = refl
  move_append (a_val x g a) b = ap (a_val x (move_goal g)) (move_append a b)
  move_append (a_mod X s a) b = ap (a_mod X (move_shape s)) (move_append a b)
  move_append (a_mty X s a) b = ap (a_mty X (move_shape s)) (move_append a b)
  move_append (a_dark at a) b = ap (a_dark (moved φ at)) (move_append a b)

  pub move_vals : (es : Entries) → vals (move_entries es) ≡ each move_goal (vals es)
  move_vals none = refl
  move_vals (a_val x g es) = ap (λ l. (x, move_goal g) ∷ l) (move_vals es)
  move_vals (a_mod X s es) = move_vals es
  move_vals (a_mty X s es) = move_vals es
  move_vals (a_dark at es) = move_vals es

  move_mods : (es : Entries) → mods (move_entries es) ≡ each move_shape (mods es)
  move_mods none = refl
  move_mods (a_val x g es) = move_mods es
  move_mods (a_mod X s es) = ap (λ l. (X, move_shape s) ∷ l) (move_mods es)
  move_mods (a_mty X s es) = move_mods es
  move_mods (a_dark at es) = move_mods es

  move_mtys : (es : Entries) → mtys (move_entries es) ≡ each move_shape (mtys es)
  move_mtys none = refl
  move_mtys (a_val x g es) = move_mtys es
  move_mtys (a_mod X s es) = move_mtys es
  move_mtys (a_mty X s es) = ap (λ l. (X, move_shape s) ∷ l) (move_mtys es)
  move_mtys (a_dark at es) = move_mtys es

  pub last_moved : (es : Entries) (x : Name) → last_of (vals (move_entries es)) x ≡ over move_goal (last_of (vals es) x)
  last_moved es x = ap (λ l. last_of l x) (move_vals es) ∙ last_of-each move_goal (vals es) x

  mod_moved : (es : Entries) (X : Name) → find_mod (move_entries es) X ≡ over move_shape (find_mod es X)
  mod_moved es X = ap (λ l. last_of l X) (move_mods es) ∙ last_of-each move_shape (mods es) X

  mty_moved : (es : Entries) (X : Name) → find_mty (move_entries es) X ≡ over move_shape (find_mty es X)
  mty_moved es X = ap (λ l. last_of l X) (move_mtys es) ∙ last_of-each move_shape (mtys es) X

  unless_over : {U V W : Type 0} (f : U → V) (o : Option U) (a b : W) → unless_some (over f o) a b ≡ unless_some o a b
  unless_over f None a b = refl
  unless_over f (Some u) a b = refl

  map_unless : {V : Type 0} (o : Option V) (at : Place) (ps : List Place)
      → map (moved φ) (unless_some o (at ∷ ps) ps) ≡ unless_some o (moved φ at ∷ map (moved φ) ps) (map (moved φ) ps)
  map_unless None at ps = refl
  map_unless (Some v) at ps = refl

  passed_moved : (es : Entries) (x : Name) → passed (move_entries es) x ≡ map (moved φ) (passed es x)
  passed_moved none x = refl
  passed_moved (a_val y g es) x = passed_moved es x
  passed_moved (a_mod X s es) x = passed_moved es x
  passed_moved (a_mty X s es) x = passed_moved es x
  passed_moved (a_dark at es) x =
      let P = passed (move_entries es) x in
      ap (λ o. unless_some o (moved φ at ∷ P) P) (last_moved es x)
      ∙ unless_over move_goal (last_of (vals es) x) (moved φ at ∷ P) P
      ∙ ap (λ l. unless_some (last_of (vals es) x) (moved φ at ∷ l) l) (passed_moved es x)
      ∙ sym (map_unless (last_of (vals es) x) at (passed es x))

  last_place_moved : (ps : List Place) → last_place (map (moved φ) ps) ≡ over (moved φ) (last_place ps)
  last_place_moved [] = refl
  last_place_moved (at ∷ ps) = ap (λ o. or_else o (Some (moved φ at))) (last_place_moved ps) ∙ by (last_place ps)
    where
      by : (o : Option Place) → or_else (over (moved φ) o) (Some (moved φ at)) ≡ over (moved φ) (or_else o (Some at))
      by None = refl
      by (Some p) = refl

  length_moved : (ps : List Place) → length (map (moved φ) ps) ≡ length ps
  length_moved [] = refl
  length_moved (p ∷ ps) = ap suc (length_moved ps)

  decl_moved : (g : Goal) → decl_of (move_goal g) ≡ over (moved φ) (decl_of g)
  decl_moved (Decl d) = refl
  decl_moved Outside = refl
  decl_moved Missing = refl
  decl_moved Hidden = refl
  decl_moved (Blur by n b) = refl

  seen_moved : (f : Option Goal) (p : Option Place) (n : ℕ) → seen (over move_goal f) (over (moved φ) p) n ≡ over move_goal (seen f p n)
  seen_moved f None n = refl
  seen_moved None (Some at) n = refl
  seen_moved (Some g) (Some at) n = ap (λ b. Some (Blur (moved φ at) n b)) (decl_moved g)

  pub found_moved : (es : Entries) (x : Name) → find_val (move_entries es) x ≡ over move_goal (find_val es x)
  found_moved es x =
      let p = passed es x in
      ap (λ o. seen o (last_place (passed (move_entries es) x)) (length (passed (move_entries es) x))) (last_moved es x)
      ∙ ap (λ l. seen (over move_goal (last_of (vals es) x)) (last_place l) (length l)) (passed_moved es x)
      ∙ ap (λ o. seen (over move_goal (last_of (vals es) x)) o (length (map (moved φ) p))) (last_place_moved p)
      ∙ ap (λ n. seen (over move_goal (last_of (vals es) x)) (over (moved φ) (last_place p)) n) (length_moved p)
      ∙ seen_moved (last_of (vals es) x) (last_place p) (length p)

  alone_moved : (sc : Entries) (x : Name) → value_at (move_entries sc) x ≡ move_goal (value_at sc x)
  alone_moved sc x = ap (λ o. or_value o Outside) (found_moved sc x) ∙ or_value-over move_goal (find_val sc x) Outside

  under_moved : (s : Shape) (x : Name) → value_in (move_shape s) x ≡ move_goal (value_in s x)
  under_moved (Struct es) x = ap (λ o. or_value o Missing) (found_moved es x) ∙ or_value-over move_goal (find_val es x) Missing
  under_moved (Functor p r) x = refl
  under_moved (Unitary r) x = refl
  under_moved Opaque x = refl

  step_moved : (s : Shape) (X : Name) → step (move_shape s) X ≡ over move_shape (step s X)
  step_moved (Struct es) X = mod_moved es X
  step_moved (Functor p r) X = refl
  step_moved (Unitary r) X = refl
  step_moved Opaque X = refl

  step_from_moved : (o : Option Shape) (X : Name) → step_from (over move_shape o) X ≡ over move_shape (step_from o X)
  step_from_moved None X = refl
  step_from_moved (Some s) X = step_moved s X

  inside_moved : (o : Option Shape) (p : List Name) → inside (over move_shape o) p ≡ over move_shape (inside o p)
  inside_moved o [] = refl
  inside_moved o (X ∷ p) = ap (λ t. inside t p) (step_from_moved o X) ∙ inside_moved (step_from o X) p

  path_moved : (sc : Entries) (p : List Name) → find_path (move_entries sc) p ≡ over move_shape (find_path sc p)
  path_moved sc [] = refl
  path_moved sc (X ∷ p) = ap (λ t. inside t p) (mod_moved sc X) ∙ inside_moved (find_mod sc X) p

  walk_moved : (sc : Entries) (p : List Name) → walk (move_entries sc) p ≡ move_shape (walk sc p)
  walk_moved sc p = ap (λ o. or_value o Opaque) (path_moved sc p) ∙ or_value-over move_shape (find_path sc p) Opaque

  type_moved : (s : Shape) (S : Name) → type_in (move_shape s) S ≡ move_shape (type_in s S)
  type_moved (Struct es) S = ap (λ o. or_value o Opaque) (mty_moved es S) ∙ or_value-over move_shape (find_mty es S) Opaque
  type_moved (Functor p r) S = refl
  type_moved (Unitary r) S = refl
  type_moved Opaque S = refl

  type_under_moved : (p : List Name) (s : Shape) → type_under (move_shape s) p ≡ move_shape (type_under s p)
  type_under_moved [] s = refl
  type_under_moved (S ∷ []) s = type_moved s S
  type_under_moved (X ∷ (Y ∷ p)) s =
      ap (λ o. type_under (or_value o Opaque) (Y ∷ p)) (step_moved s X)
      ∙ ap (λ t. type_under t (Y ∷ p)) (or_value-over move_shape (step s X) Opaque)
      ∙ type_under_moved (Y ∷ p) (or_value (step s X) Opaque)

  brought_moved : (s : Shape) (at : Place) → brought (move_shape s) (moved φ at) ≡ move_entries (brought s at)
  brought_moved (Struct es) at = refl
  brought_moved (Functor p r) at = refl
  brought_moved (Unitary r) at = refl
  brought_moved Opaque at = refl

  applied_moved : (s : Shape) → applied (move_shape s) ≡ move_shape (applied s)
  applied_moved (Struct es) = refl
  applied_moved (Functor p r) = refl
  applied_moved (Unitary r) = refl
  applied_moved Opaque = refl

  bound_moved : (f : ℕ) (xs : List Site) → move_entries (bound f xs) ≡ bound (φ f) xs
  bound_moved f [] = refl
  bound_moved f (x ∷ xs) = ap (a_val x.name (Decl (here (φ f) x.at))) (bound_moved f xs)

  -- ---- the likeness

  abbrev pub Es : Entries → Entries → Type 0
  Es es es' = move_entries es ≡ es'

  abbrev pub Ss : Shape → Shape → Type 0
  Ss s s' = move_shape s ≡ s'

  apply_moved : (s a a' : Shape) → Ss a a' → Alike φ Es Es Ss (apply_steps s a) (apply_steps (move_shape s) a')
  apply_moved (Struct es) a a' h = pin_alike a a' h
  apply_moved (Functor p r) a a' h = match_alike a a' p (move_shape p) h refl
  apply_moved (Unitary r) a a' h = quiet_alike
  apply_moved Opaque a a' h = pin_alike a a' h

  moves : IsKept φ Es Es Es Ss
  moves = record {
    on = λ sc sc' b b' c r. move_append sc b ∙ ap (λ l. l ⊕ move_entries b) c ∙ ap (λ l. sc' ⊕ l) r;
    no_entry = refl;
    append = λ a a' b b' h r. move_append a b ∙ ap (λ l. l ⊕ move_entries b) h ∙ ap (λ l. a' ⊕ l) r;
    values = bound_moved;
    variables_too = bound_moved;
    module_too = λ X s s' h. ap (λ t. a_mod X t none) h;
    type_too = λ X s s' h. ap (λ t. a_mty X t none) h;
    brings = λ s s' at h. sym (brought_moved s at) ∙ ap (λ t. brought t (moved φ at)) h;
    structure = λ es es' h. ap Struct h;
    functor = λ p p' r r' h k. ap (λ t. Functor t (move_shape r)) h ∙ ap (Functor p') k;
    unitary = λ r r' h. ap Unitary h;
    opaque = refl;
    path = λ sc sc' p c. sym (walk_moved sc (texts p)) ∙ ap (λ l. walk l (texts p)) c;
    type_path = λ sc sc' p c. sym (type_under_moved (texts p) (Struct sc)) ∙ ap (λ l. type_under (Struct l) (texts p)) c;
    apply = λ s s' h. sym (applied_moved s) ∙ ap applied h;
    apply_step = λ s s' a a' h k. subst (λ t. Alike φ Es Es Ss (apply_steps s a) (apply_steps t a')) h (apply_moved s a a' k);
  }

  pub all_alike : (us : List UnitTree) → Alike φ Es Es Ss (steps us) (steps (map (unit_renumbered φ) us))
  all_alike us = units_alike φ Es Es Es Ss moves us none none refl

  -- ---- references and groups

  abbrev pub move_ref : Ref → Ref
  move_ref r = record { at = moved φ r.at; goal = move_goal r.goal }

  abbrev pub move_link : Link → Link
  move_link l = record { item = move_goal l.item; source = move_goal l.source }

  map_both : {A B : Type 0} (f : A → B) (xs ys : List A) → map f (xs ++ ys) ≡ map f xs ++ map f ys
  map_both f [] ys = refl
  map_both f (x ∷ xs) ys = ap (λ l. f x ∷ l) (map_both f xs ys)

  pub refs_moved : (ss ss' : Steps) → Alike φ Es Es Ss ss ss' → refs_of ss' ≡ map move_ref (refs_of ss)
  refs_moved _ _ quiet_alike = refl
  refs_moved _ _ (then_alike x x' y y' p q) =
      ap (λ l. l ++ refs_of y') (refs_moved x x' p) ∙ ap (λ l. map move_ref (refs_of x) ++ l) (refs_moved y y' q)
      ∙ sym (map_both move_ref (refs_of x) (refs_of y))
  refs_moved _ _ (alone_alike at x sc sc' c) =
      ap (λ g. record { at = moved φ at; goal = g } ∷ []) (ap (λ l. value_at l x) (sym c) ∙ alone_moved sc x)
  refs_moved _ _ (under_alike at x s s' c) =
      ap (λ g. record { at = moved φ at; goal = g } ∷ []) (ap (λ t. value_in t x) (sym c) ∙ under_moved s x)
  refs_moved _ _ (match_alike s s' t t' c d) = refl
  refs_moved _ _ (pin_alike s s' c) = refl
  refs_moved _ _ (tie_alike p p' q q' c d) = refl
  refs_moved _ _ (group_alike es es' c) = refl
  refs_moved _ _ (weighed_alike at at' s s') = refl
  refs_moved _ _ (opened_alike at at' s s') = refl
  refs_moved _ _ start_alike = refl

  pub groups_moved : (ss ss' : Steps) → Alike φ Es Es Ss ss ss' → groups_of ss' ≡ map move_entries (groups_of ss)
  groups_moved _ _ quiet_alike = refl
  groups_moved _ _ (then_alike x x' y y' p q) =
      ap (λ l. l ++ groups_of y') (groups_moved x x' p) ∙ ap (λ l. map move_entries (groups_of x) ++ l) (groups_moved y y' q)
      ∙ sym (map_both move_entries (groups_of x) (groups_of y))
  groups_moved _ _ (alone_alike at x sc sc' c) = refl
  groups_moved _ _ (under_alike at x s s' c) = refl
  groups_moved _ _ (match_alike s s' t t' c d) = refl
  groups_moved _ _ (pin_alike s s' c) = refl
  groups_moved _ _ (tie_alike p p' q q' c d) = refl
  groups_moved _ _ (group_alike es es' c) = ap (λ l. l ∷ []) (sym c)
  groups_moved _ _ (weighed_alike at at' s s') = refl
  groups_moved _ _ (opened_alike at at' s s') = refl
  groups_moved _ _ start_alike = refl

  -- ---- links

  mutual
    depth_moved : (s : Shape) → depth (move_shape s) ≡ depth s
    depth_moved (Struct es) = depths_moved es
    depth_moved (Functor p r) = ap (λ n. max n (depth (move_shape r)) + 1) (depth_moved p) ∙ ap (λ n. max (depth p) n + 1) (depth_moved r)
    depth_moved (Unitary r) = ap (λ n. n + 1) (depth_moved r)
    depth_moved Opaque = refl

    depths_moved : (es : Entries) → depths (move_entries es) ≡ depths es
    depths_moved none = refl
    depths_moved (a_val x g es) = depths_moved es
    depths_moved (a_mod X s es) = ap (λ n. max (n + 1) (depths (move_entries es))) (depth_moved s) ∙ ap (λ n. max (depth s + 1) n) (depths_moved es)
    depths_moved (a_mty X s es) = ap (λ n. max (n + 1) (depths (move_entries es))) (depth_moved s) ∙ ap (λ n. max (depth s + 1) n) (depths_moved es)
    depths_moved (a_dark at es) = depths_moved es

  empty_moved : (o : Option Shape) → or_empty (over move_shape o) ≡ move_shape (or_empty o)
  empty_moved o = or_value-over move_shape o (Struct none)

  abbrev retold : Name → Goal → Entries → Option Entries → Link
  retold x g rest src = link x (move_goal g) (move_entries rest) (over move_entries src)

  part : {U V : Type 0} (o : Option U) (o' : Option V) (a a' b b' : Trace Link) → unless_some o a nothing ≡ unless_some o' a nothing → a ≡ a' → b ≡ b'
      → a_step & unless_some o a nothing & b ≡ a_step & unless_some o' a' nothing & b'
  part o o' a a' b b' e h k =
      ap (λ l. a_step & l & b) e ∙ ap (λ l. a_step & unless_some o' l nothing & b) h ∙ ap (λ l. a_step & unless_some o' a' nothing & l) k

  shown_mod : (es : Entries) (X : Name) (a : Trace Link)
      → unless_some (find_mod (move_entries es) X) a nothing ≡ unless_some (find_mod es X) a nothing
  shown_mod es X a = ap (λ o. unless_some o a nothing) (mod_moved es X) ∙ unless_over move_shape (find_mod es X) a nothing

  shown_mty : (es : Entries) (X : Name) (a : Trace Link)
      → unless_some (find_mty (move_entries es) X) a nothing ≡ unless_some (find_mty es X) a nothing
  shown_mty es X a = ap (λ o. unless_some o a nothing) (mty_moved es X) ∙ unless_over move_shape (find_mty es X) a nothing

  src_mod : (es : Entries) (X : Name) → or_empty (find_mod (move_entries es) X) ≡ move_shape (or_empty (find_mod es X))
  src_mod es X = ap or_empty (mod_moved es X) ∙ empty_moved (find_mod es X)

  src_mty : (es : Entries) (X : Name) → or_empty (find_mty (move_entries es) X) ≡ move_shape (or_empty (find_mty es X))
  src_mty es X = ap or_empty (mty_moved es X) ∙ empty_moved (find_mty es X)

  mutual
    pin_moved : (s : Shape) → pin link (move_shape s) ≡ pin retold s
    pin_moved (Struct es) = ap (λ l. a_step & l) (pins_moved es)
    pin_moved (Functor p r) = ap (λ l. a_step & l & pin link (move_shape r)) (pin_moved p) ∙ ap (λ l. a_step & pin retold p & l) (pin_moved r)
    pin_moved (Unitary r) = ap (λ l. a_step & l) (pin_moved r)
    pin_moved Opaque = refl

    pins_moved : (es : Entries) → pin_entries link (move_entries es) ≡ pin_entries retold es
    pins_moved none = refl
    pins_moved (a_val x g es) = ap (λ l. one (retold x g es None) & l) (pins_moved es)
    pins_moved (a_mod X s es) =
        part (find_mod (move_entries es) X) (find_mod es X) _ _ _ _ (shown_mod es X (pin link (move_shape s))) (pin_moved s) (pins_moved es)
    pins_moved (a_mty X s es) =
        part (find_mty (move_entries es) X) (find_mty es X) _ _ _ _ (shown_mty es X (pin link (move_shape s))) (pin_moved s) (pins_moved es)
    pins_moved (a_dark at es) = ap (λ l. a_step & l) (pins_moved es)

  pin_vals_moved : (es : Entries) → pin_vals link (move_entries es) ≡ pin_vals retold es
  pin_vals_moved none = refl
  pin_vals_moved (a_val x g es) = ap (λ l. one (retold x g es None) & l) (pin_vals_moved es)
  pin_vals_moved (a_mod X s es) = pin_vals_moved es
  pin_vals_moved (a_mty X s es) = pin_vals_moved es
  pin_vals_moved (a_dark at es) = pin_vals_moved es

  abbrev Moves : (Shape → Shape → Trace Link) → (Shape → Shape → Trace Link) → Type 0
  Moves go go' = (s t : Shape) → go (move_shape s) (move_shape t) ≡ go' s t

  entries_moved : (go go' : Shape → Shape → Trace Link) → Moves go go' → (src ts : Entries)
      → match_entries link go (move_entries src) (move_entries ts) ≡ match_entries retold go' src ts
  entries_moved go go' h src none = refl
  entries_moved go go' h src (a_val x g ts) = ap (λ l. one (retold x g ts (Some src)) & l) (entries_moved go go' h src ts)
  entries_moved go go' h src (a_mod X t ts) =
      part (find_mod (move_entries ts) X) (find_mod ts X) _ _ _ _ (shown_mod ts X _)
      (ap (λ s. go s (move_shape t)) (src_mod src X) ∙ h (or_empty (find_mod src X)) t) (entries_moved go go' h src ts)
  entries_moved go go' h src (a_mty X t ts) =
      let s = or_empty (find_mty src X) in
      part (find_mty (move_entries ts) X) (find_mty ts X) _ _ _ _ (shown_mty ts X _)
      (ap (λ z. go z (move_shape t) & go (move_shape t) z) (src_mty src X) ∙ ap (λ l. l & go (move_shape t) (move_shape s)) (h s t)
      ∙ ap (λ l. go' s t & l) (h t s))
      (entries_moved go go' h src ts)
  entries_moved go go' h src (a_dark at ts) =
      ap (λ l. a_step & l & match_entries link go (move_entries src) (move_entries ts)) (pin_vals_moved src)
      ∙ ap (λ l. a_step & pin_vals retold src & l) (entries_moved go go' h src ts)

  both_moved : (s t : Shape) → a_step & pin link (move_shape t) & pin link (move_shape s) ≡ a_step & pin retold t & pin retold s
  both_moved s t = ap (λ l. a_step & l & pin link (move_shape s)) (pin_moved t) ∙ ap (λ l. a_step & pin retold t & l) (pin_moved s)

  level_moved : (go go' : Shape → Shape → Trace Link) → Moves go go' → Moves (match_step link go) (match_step retold go')
  level_moved go go' h (Struct es) (Struct ts) = ap (λ l. a_step & l) (entries_moved go go' h es ts)
  level_moved go go' h (Struct es) (Functor q t) = both_moved (Struct es) (Functor q t)
  level_moved go go' h (Struct es) (Unitary t) = both_moved (Struct es) (Unitary t)
  level_moved go go' h (Struct es) Opaque = both_moved (Struct es) Opaque
  level_moved go go' h (Functor p r) (Struct ts) = both_moved (Functor p r) (Struct ts)
  level_moved go go' h (Functor p r) (Functor q t) =
      ap (λ x. a_step & x & go (move_shape r) (move_shape t)) (h q p) ∙ ap (λ x. a_step & go' q p & x) (h r t)
  level_moved go go' h (Functor p r) (Unitary t) = both_moved (Functor p r) (Unitary t)
  level_moved go go' h (Functor p r) Opaque = both_moved (Functor p r) Opaque
  level_moved go go' h (Unitary r) (Struct ts) = both_moved (Unitary r) (Struct ts)
  level_moved go go' h (Unitary r) (Functor q t) = both_moved (Unitary r) (Functor q t)
  level_moved go go' h (Unitary r) (Unitary t) = ap (λ x. a_step & x) (h r t)
  level_moved go go' h (Unitary r) Opaque = both_moved (Unitary r) Opaque
  level_moved go go' h Opaque (Struct ts) = both_moved Opaque (Struct ts)
  level_moved go go' h Opaque (Functor q t) = both_moved Opaque (Functor q t)
  level_moved go go' h Opaque (Unitary t) = both_moved Opaque (Unitary t)
  level_moved go go' h Opaque Opaque = refl

  levels_moved : (n : ℕ) → Moves (match_to link n) (match_to retold n)
  levels_moved zero s t = refl
  levels_moved (suc n) s t = level_moved (match_to link n) (match_to retold n) (levels_moved n) s t

  match_moved : (s t : Shape) → matched link (move_shape s) (move_shape t) ≡ matched retold s t
  unfolding matched
  match_moved s t =
      ap (λ n. match_to link (suc (n + depth (move_shape t))) (move_shape s) (move_shape t)) (depth_moved s)
      ∙ ap (λ n. match_to link (suc (depth s + n)) (move_shape s) (move_shape t)) (depth_moved t)
      ∙ levels_moved (suc (depth s + depth t)) s t

  tied_moved : (es src : Entries) → tied link (move_entries es) (move_entries src) ≡ tied retold es src
  tied_moved none src = refl
  tied_moved (a_val x g es) src = ap (λ l. one (retold x g none (Some src)) & l) (tied_moved es src)
  tied_moved (a_mod X s es) src = tied_moved es src
  tied_moved (a_mty X s es) src = tied_moved es src
  tied_moved (a_dark at es) src = tied_moved es src

  trace_moved : (ss ss' : Steps) → Alike φ Es Es Ss ss ss' → trace link ss' ≡ trace retold ss
  trace_moved _ _ quiet_alike = refl
  trace_moved _ _ (then_alike x x' y y' p q) = ap (λ l. l & trace link y') (trace_moved x x' p) ∙ ap (λ l. trace retold x & l) (trace_moved y y' q)
  trace_moved _ _ (alone_alike at x sc sc' c) = refl
  trace_moved _ _ (under_alike at x s s' c) = refl
  trace_moved _ _ (match_alike s s' t t' c d) =
      ap (λ z. matched link z t') (sym c) ∙ ap (matched link (move_shape s)) (sym d) ∙ match_moved s t
  trace_moved _ _ (pin_alike s s' c) = ap (pin link) (sym c) ∙ pin_moved s
  trace_moved _ _ (tie_alike p p' q q' c d) =
      ap (λ z. tied link z q' & tied link q' z) (sym c) ∙ ap (λ z. tied link (move_entries p) z & tied link z (move_entries p)) (sym d)
      ∙ ap (λ l. l & tied link (move_entries q) (move_entries p)) (tied_moved p q) ∙ ap (λ l. tied retold p q & l) (tied_moved q p)
  trace_moved _ _ (group_alike es es' c) = refl
  trace_moved _ _ (weighed_alike at at' s s') = refl
  trace_moved _ _ (opened_alike at at' s s') = refl
  trace_moved _ _ start_alike = refl

  source_moved : (src : Option Entries) (x : Name) → source_of (over move_entries src) x ≡ move_goal (source_of src x)
  source_moved None x = refl
  source_moved (Some es) x = ap (λ o. or_value o Missing) (found_moved es x) ∙ or_value-over move_goal (find_val es x) Missing

  hidden_moved : (o : Option Goal) (g : Goal) → unless_some (over move_goal o) (move_goal g) Hidden ≡ move_goal (unless_some o g Hidden)
  hidden_moved None g = refl
  hidden_moved (Some k) g = refl

  retold_is : (x : Name) (g : Goal) (rest : Entries) (src : Option Entries) → retold x g rest src ≡ after move_link link x g rest src
  retold_is x g rest src =
      ap (λ s. record { item = move_goal g; source = s })
      (ap (λ o. unless_some o (source_of (over move_entries src) x) Hidden) (last_moved rest x)
      ∙ ap (λ s. unless_some (over move_goal (last_of (vals rest) x)) s Hidden) (source_moved src x)
      ∙ hidden_moved (last_of (vals rest) x) (source_of src x))

  pub links_moved : (us : List UnitTree) → (trace link (steps (map (unit_renumbered φ) us))).told ≡ map move_link (trace link (steps us)).told
  links_moved us =
      ap (λ t. t.told)
      (trace_moved (steps us) (steps (map (unit_renumbered φ) us)) (all_alike us)
      ∙ trace_same Any retold (after move_link link) (λ x g rest src h k l. retold_is x g rest src) (steps us)
      (units_named Any us none tt (each_all (PlaceNamed Any) _ (λ e. tt)))
      ∙ sym (trace_mapped move_link link (steps us)))
