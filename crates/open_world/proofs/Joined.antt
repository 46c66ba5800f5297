-- A renaming that is valid in a project is valid behind units that define outside modules.
use Rattle.std.proofs.Common.{◌≡◌, ◌≢◌, ℕ, suc, Bool, true, false, List, [], ◌∷◌, ◌++◌, map, Option, Some, None, Contains, inl, inr, refl, sym, ap}
use Rattle.std.proofs.Common.{subst, ◌∙◌, arith}
use Rattle.std.specs.Prelude.{◌⊎◌}
use Rattle.rotor_base.specs.Place.{same_place}
use Rattle.rotor_base.specs.declared.place.Facts.{Facts}
use Rattle.rotor_base.specs.declared.place.Place.{Place}
use Rattle.rotor_base.specs.declared.place.Ref.{Ref}
use Rattle.rotor_base.specs.declared.place.Link.{Link}
use Rattle.rotor_base.specs.declared.place.Goal.{Goal}
use Rattle.rotor_base.specs.declared.place.Goal.TheVariants.{Decl, Outside, Missing, Hidden, Blur}
use Rattle.value_sites.specs.Each.{Each}
use Rattle.value_sites.specs.Places.{Site}
use Rattle.value_sites.specs.Sound.{IsSound}
use Rattle.ml_trees.specs.Tree.{FileTree, Body, Face, UnitTree}
use Rattle.shape_core.specs.Respell.{over}
use Rattle.shape_core.specs.Shape.{Name, Shape, Struct, Functor, Unitary, Opaque, Entries, none, a_val, a_mod, a_mty, a_dark, ◌⊕◌, vals, or_else}
use Rattle.shape_core.specs.Shape.{or_value}
use Rattle.shape_core.specs.Shape.{some_if}
use Rattle.shape_core.specs.Links.{link}
use Rattle.shape_core.specs.Respell.{Words, spell_at, spell_entries}
use Rattle.shape_core.proofs.Lists.{append_assoc, append_none}
use Rattle.binding_model.specs.Facts.{facts, facts_of, in_order, decls, AreNamedApart}
use Rattle.binding_model.specs.Renaming.{Renaming, IsBinder, file_places, places, at_place, site_name, name_of, words_of, respell, Changes}
use Rattle.binding_model.specs.Renaming.{IsFixedSite}
use Rattle.binding_model.specs.Renaming.{goal_at, new_word}
use Rattle.binding_model.specs.Renaming.{HasBehind, IsBlur, IsFree, IsValid}
use Rattle.binding_model.specs.Scopes.{unit_shape, after_unit, after_units}
use Rattle.binding_model.specs.Steps.{refs_of, trace, groups_of, spell_steps}
use Rattle.binding_model.specs.Walk.{unit_steps, units_steps, steps}
use Rattle.binding_model.proofs.Clashing.{groups-map, groups_named}
use Rattle.binding_model.proofs.LastEntries.{same_is}
use Rattle.binding_model.proofs.Leasts.{keeps, place_in}
use Rattle.binding_model.proofs.Named.{IsNamed, NamedShape, Named, NamedSteps}
use Rattle.binding_model.proofs.Naming.{PlaceNamed, units_named, each_in, each_ordered}
use Rattle.binding_model.proofs.OneName.{NamedGoal, UsesOneName, steps_use}
use Rattle.binding_model.proofs.Projects.{steps_stay, each_front, each_back}
use Rattle.binding_model.proofs.Sounds.{Other, Apart, each_map, each_joined, found_all, sound_named}
use Rattle.binding_model.proofs.Standing.{same_swap, each_unordered}
use Rattle.binding_model.proofs.Staying.{ref_at, groups-spell}
use Rattle.binding_model.proofs.Uses.{place_if}
use Rattle.binding_model.proofs.Using.{uses_places, refs_at_uses}
use Rattle.binding_model.proofs.Telltale.{no_goal, apart_of, each_contained, each_two}
use Rattle.open_world.specs.Laws.{TakesTheSameWords, WordsStay, AreValues, HoldsValues, HoldValues, Opens, StaysValid}
use Rattle.open_world.proofs.Twofold.{Values, block, KeptGoal, KeptBlock, end}
use Rattle.open_world.proofs.Opening.{own_number, Equal, Outsides, base, AreKept, Scopes, Lists, Shapes, is_kept}
use Rattle.open_world.specs.Laws.{renumbered, unit_renumbered}
use Rattle.open_world.proofs.Alike.{Alike, units_alike}
use Rattle.open_world.proofs.Told.{Told, tell, source, Keeps}
use Rattle.open_world.proofs.Grown.{Stays}
use Rattle.open_world.proofs.Resolved.{word_for, HasWord, TakesSame, uses_take, KeepsAll, Nm, steps_new, uses_back, groups_alike}
use Rattle.open_world.proofs.Words.{Agree, entries_agree, link_of, told_links, same_links, same_refs, seen_word, all_told, at_binder, binders_agree}
use Rattle.open_world.proofs.Words.{uses_agree, item_name, items_named, behind_name, sources_named, items_declared}
use Rattle.open_world.proofs.Before.{keeps_all, each_back_map, each_front_map}
use Rattle.open_world.proofs.Own.{Own, own_steps, own_entries}

-- ---- lists

places_both : (qs us : List UnitTree) → places (qs ++ us) ≡ places qs ++ places us
places_both [] us = refl
places_both (u ∷ qs) us =
    ap (λ l. file_places u.body ++ (file_places u.face ++ l)) (places_both qs us)
    ∙ sym (three (file_places u.body) (file_places u.face) (places qs) (places us))
  where
    assoc : {A : Type 0} (a b c : List A) → (a ++ b) ++ c ≡ a ++ (b ++ c)
    assoc [] b c = refl
    assoc (x ∷ a) b c = ap (λ l. x ∷ l) (assoc a b c)

    three : {A : Type 0} (a b c d : List A) → (a ++ (b ++ c)) ++ d ≡ a ++ (b ++ (c ++ d))
    three a b c d = assoc a (b ++ c) d ∙ ap (λ l. a ++ l) (assoc b c d)

apart_cross : (xs ys : List (Place × Site)) → Apart (xs ++ ys) → Each (λ e. Each (Other e.0) ys) xs
apart_cross [] ys h = tt
apart_cross (x ∷ xs) ys h = (each_back (Other x.0) xs ys h.0, apart_cross xs ys h.1)

none_at : (L : List (Place × Site)) (p : Place) → Each (Other p) L → at_place L p ≡ None
none_at [] p h = refl
none_at (e ∷ L) p h = ap (λ b. or_else (some_if b e.1) (at_place L p)) (same_swap e.0 p ∙ h.0) ∙ none_at L p h.1

-- the entry that a look-up finds is in the list
pub at_contains : (r : Renaming) (d : Place) (y : Name) → at_place r d ≡ Some y → Contains r (d, y)
at_contains [] d y e = absurd cc
at_contains (x ∷ r) d y e = by (same_place x.0 d) refl e (at_contains r d y)
  where
    by : (b : Bool) → same_place x.0 d ≡ b → or_else (some_if b x.1) (at_place r d) ≡ Some y → (at_place r d ≡ Some y → Contains r (d, y))
        → Contains (x ∷ r) (d, y)
    by true s f rest = let n : x.1 ≡ y = cc in (0, omega arith, ap (λ p. (p, x.1)) (same_is x.0 d s) ∙ ap (λ z. (d, z)) n)
    by false s f rest = let c = rest f in (suc c.0, omega (arith, c.1), c.2)

-- ---- units one after another

after_both : (sc : Entries) (qs us : List UnitTree) → after_units sc (qs ++ us) ≡ after_units (after_units sc qs) us
after_both sc [] us = refl
after_both sc (q ∷ qs) us = after_both (after_unit sc q) qs us

assoc : {A : Type 0} (a b c : List A) → (a ++ b) ++ c ≡ a ++ (b ++ c)
assoc [] b c = refl
assoc (x ∷ a) b c = ap (λ l. x ∷ l) (assoc a b c)

refs_both : (sc : Entries) (qs us : List UnitTree)
    → refs_of (units_steps sc (qs ++ us)) ≡ refs_of (units_steps sc qs) ++ refs_of (units_steps (after_units sc qs) us)
refs_both sc [] us = refl
refs_both sc (q ∷ qs) us =
    ap (λ l. refs_of (unit_steps sc q) ++ l) (refs_both (after_unit sc q) qs us)
    ∙ sym (assoc (refs_of (unit_steps sc q)) (refs_of (units_steps (after_unit sc q) qs))
    (refs_of (units_steps (after_units (after_unit sc q) qs) us)))

groups_both : (sc : Entries) (qs us : List UnitTree)
    → groups_of (units_steps sc (qs ++ us)) ≡ groups_of (units_steps sc qs) ++ groups_of (units_steps (after_units sc qs) us)
groups_both sc [] us = refl
groups_both sc (q ∷ qs) us =
    ap (λ l. groups_of (unit_steps sc q) ++ l) (groups_both (after_unit sc q) qs us)
    ∙ sym (assoc (groups_of (unit_steps sc q)) (groups_of (units_steps (after_unit sc q) qs))
    (groups_of (units_steps (after_units (after_unit sc q) qs) us)))

keeps_both : (v : Words) (name : Place → Name) (P : Told → Type 0) (sc : Entries) (qs us : List UnitTree) → KeepsAll v name P (units_steps sc qs)
    → KeepsAll v name P (units_steps (after_units sc qs) us) → KeepsAll v name P (units_steps sc (qs ++ us))
keeps_both v name P sc [] us h k = k
keeps_both v name P sc (q ∷ qs) us h k = (h.0, keeps_both v name P (after_unit sc q) qs us h.1 k)

named_front : (Q : Bool → Place → Name → Type 0) (sc : Entries) (qs us : List UnitTree) → NamedSteps Q (units_steps sc (qs ++ us))
    → NamedSteps Q (units_steps sc qs)
named_front Q sc [] us h = tt
named_front Q sc (q ∷ qs) us h = (h.0, named_front Q (after_unit sc q) qs us h.1)

named_back : (Q : Bool → Place → Name → Type 0) (sc : Entries) (qs us : List UnitTree) → NamedSteps Q (units_steps sc (qs ++ us))
    → NamedSteps Q (units_steps (after_units sc qs) us)
named_back Q sc [] us h = h
named_back Q sc (q ∷ qs) us h = named_back Q (after_unit sc q) qs us h.1

-- ---- the outside modules

values_of : (es : Entries) → AreValues es → (vs : Values) × (es ≡ block vs)
values_of none h = ([], refl)
values_of (a_val x g es) h = let r = values_of es h in ((x, g) ∷ r.0, ap (a_val x g) r.1)
values_of (a_mod X s es) h = absurd h
values_of (a_mty S s es) h = absurd h
values_of (a_dark at es) h = absurd h

holds_values : (s : Shape) → HoldsValues s → (vs : Values) × (s ≡ Struct (block vs))
holds_values (Struct es) h = let r = values_of es h in (r.0, ap Struct r.1)
holds_values (Functor p r) h = absurd h
holds_values (Unitary r) h = absurd h
holds_values Opaque h = absurd h

module _ (v : Words) (name : Place → Name) where
  kept_block : (vs : Values) → Named (Own v name) (block vs) → KeptBlock v vs
  kept_block [] h = tt
  kept_block (e ∷ vs) h = (kept_value e.1 e.0 h.0, kept_block vs h.1)
    where
      kept_value : (g : Goal) (x : Name) → IsNamed (Own v name) g x → KeptGoal v g x
      kept_value (Decl d) x k = k
      kept_value Outside x k = absurd k
      kept_value Missing x k = absurd k
      kept_value Hidden x k = absurd k
      kept_value (Blur by n o) x k = absurd k

  record AreOutsides (sc : Entries) (qs : List UnitTree) : Type 0 where
    pub all : Outsides
    pub is : after_units sc qs ≡ sc ⊕ base all
    pub kept : (us : Outsides) → AreKept v us all

  outsides : (sc : Entries) (qs : List UnitTree) → HoldValues sc qs → NamedSteps (Own v name) (units_steps sc qs) → AreOutsides sc qs
  outsides sc [] h n = record { all = []; is = sym (append_none sc); kept = λ us. tt }
  outsides sc (q ∷ qs) h n =
      let s = holds_values (unit_shape sc q) h.0 in
      let r = outsides (after_unit sc q) qs h.1 n.1 in
      let shape : NamedShape (Own v name) (unit_shape sc q) = n.0.1.1.1.1 in
      record {
        all = (q.name, s.0) ∷ r.all;
        is =
            r.is ∙ append_assoc sc (a_mod q.name (unit_shape sc q) none) (base r.all)
            ∙ ap (λ t. sc ⊕ a_mod q.name t (base r.all)) s.1;
        kept = λ us. (kept_block s.0 (subst (NamedShape (Own v name)) s.1 shape), r.kept us);
      }

-- ---- goals

has_behind : (d : Place) (g : Goal) → HasBehind d g → (by : Place) × (n : ℕ) × (g ≡ Blur by n (Some d))
has_behind d (Decl e) h = absurd h
has_behind d Outside h = absurd h
has_behind d Missing h = absurd h
has_behind d Hidden h = absurd h
has_behind d (Blur by n None) h = absurd h
has_behind d (Blur by n (Some e)) h = (by, n, ap (λ p. Blur by n (Some p)) h)

is_blur : (g : Goal) → IsBlur g → (by : Place) × (n : ℕ) × (b : Option Place) × (g ≡ Blur by n b)
is_blur (Decl e) h = absurd h
is_blur Outside h = absurd h
is_blur Missing h = absurd h
is_blur Hidden h = absurd h
is_blur (Blur by n b) h = (by, n, b, refl)

-- ---- files with their own numbers

tree_own : (o : Option FileTree) → over (renumbered own_number) o ≡ o
tree_own None = refl
tree_own (Some (Body f is)) = refl
tree_own (Some (Face f is)) = refl

all_own : (us : List UnitTree) → map (unit_renumbered own_number) us ≡ us
all_own [] = refl
all_own (u ∷ us) =
    ap (λ b. record { name = u.name; body = b; face = over (renumbered own_number) u.face } ∷ map (unit_renumbered own_number) us) (tree_own u.body)
    ∙ ap (λ d. record { name = u.name; body = u.body; face = d } ∷ map (unit_renumbered own_number) us) (tree_own u.face)
    ∙ ap (λ xs. u ∷ xs) (all_own us)

-- ---- the project behind the outside modules

module _ (qs us : List UnitTree) (r : Renaming) (sound : IsSound us) (valid : IsValid us r) (o : Opens qs us) where
  abbrev ws : List UnitTree
  ws = qs ++ us

  abbrev v : Words
  v = at_binder r

  abbrev name : Place → Name
  name = name_of ws

  abbrev w : Words
  w = words_of r (facts ws).refs

  abbrev W : Words
  W = words_of r (facts us).refs

  -- ---- places

  abbrev IsFoundAt : Place × Site → Type 0
  IsFoundAt e = at_place (places ws) e.0 ≡ Some e.1

  abbrev IsCalled : Place × Site → Type 0
  IsCalled e = name e.0 ≡ e.1.name

  found_us : Each IsFoundAt (places us)
  found_us =
      each_back IsFoundAt (places qs) (places us)
      (subst (Each IsFoundAt) (places_both qs us) (found_all (places ws) (apart_of ws o.sound)))

  at_there : (d : Place) (x : Site) → at_place (places us) d ≡ Some x → at_place (places ws) d ≡ Some x
  at_there d x e = place_in IsFoundAt (places us) d x found_us e

  named_ws : Each IsCalled (places ws)
  named_ws = each_map (λ e. e.1.name ≡ name e.0) IsCalled (places ws) (λ e h. sym h) (sound_named ws o.sound)

  named_us : Each IsCalled (places us)
  named_us = each_back IsCalled (places qs) (places us) (subst (Each IsCalled) (places_both qs us) named_ws)

  all_named : NamedSteps (Nm v name) (steps ws)
  all_named = units_named (Nm v name) ws none tt named_ws

  us_named : NamedSteps (Nm v name) (steps us)
  us_named = units_named (Nm v name) us none tt named_us

  none_if : (d : Place) → Each (Other d) (places us) → (y : Option Name) → at_place r d ≡ y → at_place r d ≡ None
  none_if d h None e = e
  none_if d h (Some y) e =
      let b = valid.binders d y (at_contains r d y e) in
      let wrong : None ≡ Some b.0 = sym (none_at (places us) d h) ∙ b.1 in absurd cc

  no_entry : Each (λ e. at_place r e.0 ≡ None) (places qs)
  no_entry =
      each_map (λ e. Each (Other e.0) (places us)) (λ e. at_place r e.0 ≡ None) (places qs) (λ e h. none_if e.0 h (at_place r e.0) refl)
      (apart_cross (places qs) (places us) (subst Apart (places_both qs us) (apart_of ws o.sound)))

  own_qs : NamedSteps (Own v name) (steps qs)
  own_qs =
      units_named (Own v name) qs none tt
      (each_map (λ e. at_place r e.0 ≡ None) (PlaceNamed (Own v name)) (places qs) (λ e h. ap (λ y. or_value y e.1.name) h) no_entry)

  abbrev NoEntry : Bool → Place → Name → Type 0
  NoEntry b d x = at_place r d ≡ None

  entry_qs : NamedSteps NoEntry (steps qs)
  entry_qs = units_named NoEntry qs none tt no_entry

  -- ---- scopes

  out : AreOutsides v name none qs
  out = outsides v name none qs o.values own_qs

  abbrev B : Entries
  B = base out.all

  kept : AreKept v out.all out.all
  kept = out.kept out.all

  alike : Alike own_number (Scopes v out.all) Equal (Shapes v out.all) (steps us) (units_steps B us)
  alike =
      subst (λ xs. Alike own_number (Scopes v out.all) Equal (Shapes v out.all) (steps us) (units_steps B xs)) (all_own us)
      (units_alike own_number (Scopes v out.all) (Lists v out.all) Equal (Shapes v out.all) (is_kept v out.all kept) us none B
      (record { parts = end; was = refl; is = append_none B; kept = tt }))

  before : KeepsAll v name (Stays v name) (steps us)
  before = keeps_all us sound r valid name named_us (at_contains r)

  after_us : KeepsAll v name (Keeps v) (units_steps B us)
  after_us = steps_new v name out.all kept (steps us) (units_steps B us) alike us_named before

  all : KeepsAll v name (Keeps v) (steps ws)
  all =
      keeps_both v name (Keeps v) none qs us (own_steps v name (steps qs) own_qs)
      (subst (λ sc. KeepsAll v name (Keeps v) (units_steps sc us)) (sym out.is) after_us)

  b_named : NamedSteps (Nm v name) (units_steps B us)
  b_named = subst (λ sc. NamedSteps (Nm v name) (units_steps sc us)) out.is (named_back (Nm v name) none qs us all_named)

  refs_are : refs_of (steps ws) ≡ refs_of (steps qs) ++ refs_of (units_steps B us)
  refs_are = refs_both none qs us ∙ ap (λ sc. refs_of (steps qs) ++ refs_of (units_steps sc us)) out.is

  groups_are : groups_of (steps ws) ≡ groups_of (steps qs) ++ groups_of (steps us)
  groups_are =
      groups_both none qs us ∙ ap (λ sc. groups_of (steps qs) ++ groups_of (units_steps sc us)) out.is
      ∙ ap (λ l. groups_of (steps qs) ++ l) (groups_alike v name out.all kept (steps us) (units_steps B us) alike)

  -- ---- a binder that changes may change

  abbrev Same_at : Bool → Place → Name → Type 0
  Same_at b p x = at_place (places ws) p ≡ at_place (places us) p

  same_at : Each (λ e. at_place (places ws) e.0 ≡ at_place (places us) e.0) (places us)
  same_at =
      each_two IsFoundAt (λ e. at_place (places us) e.0 ≡ Some e.1) (λ e. at_place (places ws) e.0 ≡ at_place (places us) e.0) (places us)
      (λ e h k. h ∙ sym k) found_us (found_all (places us) (apart_of us sound))

  module _ (d : Place) (y : Name) (c : Changes ws r d y) where
    binder : IsBinder us d
    binder = valid.binders d y (at_contains r d y c.0)

    here : at_place (places ws) d ≡ at_place (places us) d
    here = at_there d binder.0 binder.1 ∙ sym binder.1

    old_change : Changes us r d y
    old_change = (c.0, λ s. c.1 (s ∙ sym (ap site_name here)))

    free : IsFree us d
    free = valid.free d y old_change

    changed : v d (name d) ≡ name d → ⊥
    changed e = c.1 (sym (ap (λ z. or_value z (name d)) c.0) ∙ e)

    abbrev IsPlain : Place → Type 0
    IsPlain at = IsFixedSite (at_place (places ws) at) → ⊥

    abbrev IsUse : Ref → Type 0
    IsUse u = u.goal ≡ Decl d → IsPlain u.at

    uses_us : Each IsUse (refs_of (steps us))
    uses_us =
        each_two (λ u. u.goal ≡ Decl d → IsFixedSite (at_place (places us) u.at) → ⊥) (UsesOneName Same_at) IsUse (refs_of (steps us))
        (λ u f s e h. f e (subst IsFixedSite s.1 h))
        (each_unordered ref_at (λ u. u.goal ≡ Decl d → IsFixedSite (at_place (places us) u.at) → ⊥) (refs_of (steps us))
        (each_contained (λ u. u.goal ≡ Decl d → IsFixedSite (at_place (places us) u.at) → ⊥) (facts us).refs (λ u k e h. free.uses u k e h)))
        (steps_use Same_at (steps us) (units_named Same_at us none tt same_at))

    no_use : (u : Ref) → UsesOneName NoEntry u → IsUse u
    no_use u n e =
        let entry : at_place r d ≡ None = subst (λ z. NamedGoal NoEntry z n.0) e n.2 in
        let wrong : None ≡ Some y = sym entry ∙ c.0 in absurd cc

    uses_all : Each IsUse (refs_of (steps ws))
    uses_all =
        subst (Each IsUse) (sym refs_are)
        (each_joined IsUse (refs_of (steps qs)) (refs_of (units_steps B us))
        (each_map (UsesOneName NoEntry) IsUse (refs_of (steps qs)) no_use (steps_use NoEntry (steps qs) entry_qs))
        (uses_back v name out.all kept IsPlain d changed (steps us) (units_steps B us) alike us_named b_named before uses_us))

    -- ---- links

    record LinkIsFree (l : Link) : Type 0 where
      pub inside : ((l.item ≡ Decl d) × (l.source ≡ Outside)) ⊎ ((l.item ≡ Outside) × (l.source ≡ Decl d)) → ⊥
      pub seen : HasBehind d l.source ⊎ ((l.item ≡ Decl d) × IsBlur l.source) → ⊥

    -- an item that keeps its word does not change
    item_changes : (t : Told) → item_name name v t.goal t.name ≡ t.name → t.goal ≡ Decl d → spell_at v t.goal t.name ≡ t.name → ⊥
    item_changes t i g s =
        let n : name d ≡ t.name = ap (λ z. item_name name v z t.name) (sym g) ∙ i in
        changed (subst (λ x. v d x ≡ x) (sym n) (ap (λ z. spell_at v z t.name) (sym g) ∙ s))

    behind_changes : (t : Told) → behind_name name v (source t) t.name ≡ t.name → Keeps v t → HasBehind d (source t) → ⊥
    behind_changes t i k h =
        let b = has_behind d (source t) h in
        let n : name d ≡ t.name = ap (λ z. behind_name name v z t.name) (sym b.2) ∙ i in
        changed (subst (λ x. v d x ≡ x) (sym n) (k.behind b.0 b.1 d b.2))

    blur_changes : (t : Told) → item_name name v t.goal t.name ≡ t.name → Keeps v t → t.goal ≡ Decl d → IsBlur (source t) → ⊥
    blur_changes t i k g h = let b = is_blur (source t) h in item_changes t i g (k.blur b.0 b.1 b.2 b.3)

    record IsKnown (t : Told) : Type 0 where
      pub item : item_name name v t.goal t.name ≡ t.name
      pub behind : behind_name name v (source t) t.name ≡ t.name
      pub declared : t.goal ≡ Outside → ⊥

    known : Each IsKnown (trace tell (steps ws)).told
    known =
        each_two (λ t. (item_name name v t.goal t.name ≡ t.name) × (behind_name name v (source t) t.name ≡ t.name))
        (λ t. t.goal ≡ Outside → ⊥) IsKnown
        (trace tell (steps ws)).told (λ t h k. record { item = h.0; behind = h.1; declared = k })
        (each_two (λ t. item_name name v t.goal t.name ≡ t.name) (λ t. behind_name name v (source t) t.name ≡ t.name)
        (λ t. (item_name name v t.goal t.name ≡ t.name) × (behind_name name v (source t) t.name ≡ t.name)) (trace tell (steps ws)).told
        (λ t h k. (h, k)) (items_named name v (steps ws) all_named) (sources_named name v (steps ws) all_named))
        (items_declared name v (steps ws) all_named)

    link_is_free : (t : Told) → Keeps v t → IsKnown t → LinkIsFree (link_of t)
    link_is_free t k i = record {
      inside = λ h. elim h [ inl a ↦ item_changes t i.item a.0 (k.outside a.1) | inr a ↦ i.declared a.0 ];
      seen = λ h. elim h [ inl a ↦ behind_changes t i.behind k a | inr a ↦ blur_changes t i.item k a.0 a.1 ];
    }

    links_are_free : Each LinkIsFree (facts ws).links
    links_are_free =
        subst (Each LinkIsFree) (told_links (steps ws))
        (each_front_map LinkIsFree link_of (trace tell (steps ws)).told
        (each_two (Keeps v) IsKnown (λ t. LinkIsFree (link_of t)) (trace tell (steps ws)).told link_is_free
        (all_told v name (Keeps v) (steps ws) all) known))

    -- ---- references

    seen_by : (u : Ref) → ((by : Place) (n : ℕ) (e : Place) → u.goal ≡ Blur by n (Some e) → v e (name u.at) ≡ name u.at) → UsesOneName (Nm v name) u
        → HasBehind d u.goal → ⊥
    seen_by u f n h =
        let b = has_behind d u.goal h in
        let same : name d ≡ name u.at = subst (λ z. NamedGoal (Nm v name) z n.0) b.2 n.2 ∙ sym n.1 in
        changed (subst (λ x. v d x ≡ x) (sym same) (f b.0 b.1 d b.2))

    refs_seen : Each (λ u. HasBehind d u.goal → ⊥) (refs_of (steps ws))
    refs_seen =
        each_two (λ u. (by : Place) (n : ℕ) (e : Place) → u.goal ≡ Blur by n (Some e) → v e (name u.at) ≡ name u.at) (UsesOneName (Nm v name))
        (λ u. HasBehind d u.goal → ⊥) (refs_of (steps ws)) seen_by (seen_word v name (Keeps v) (steps ws) all_named all)
        (steps_use (Nm v name) (steps ws) all_named)

    free_there : IsFree ws d
    free_there = record {
      word = λ h. free.word (subst IsFixedSite here h);
      uses = λ u k e h. each_in IsUse (facts ws).refs u (each_ordered IsUse ref_at (refs_of (steps ws)) uses_all) k e h;
      inside = λ l k h. (each_in LinkIsFree (facts ws).links l links_are_free k).inside h;
      refs_seen = λ u k h.
          each_in (λ x. HasBehind d x.goal → ⊥) (facts ws).refs u
          (each_ordered (λ x. HasBehind d x.goal → ⊥) ref_at (refs_of (steps ws)) refs_seen) k h;
      links_seen = λ l k h. (each_in LinkIsFree (facts ws).links l links_are_free k).seen h;
    }

  -- ---- the facts

  steps_are : steps (respell ws r) ≡ spell_steps w (steps ws)
  steps_are = steps_stay ws w (keeps ws r o.sound free_there)

  agree : NamedSteps (Agree w v) (steps ws)
  agree = binders_agree ws o.sound r name

  abbrev made : List Ref → List Link → List (List Place) → Facts
  made a b c = record { refs = a; links = b; groups = c }

  same_facts : facts (respell ws r) ≡ facts ws
  same_facts =
      let ss = spell_steps w (steps ws) in
      ap facts_of steps_are
      ∙ ap (λ l. made (in_order ref_at l) (trace link ss).told (map decls (groups_of ss)))
      (same_refs v name (Keeps v) w (steps ws) agree (uses_agree ws o.sound r name) all)
      ∙ ap (λ l. made (facts ws).refs l (map decls (groups_of ss))) (same_links w v (steps ws) agree (all_told v name (Keeps v) (steps ws) all))
      ∙ ap (made (facts ws).refs (facts ws).links) (groups-spell w (steps ws))

  -- ---- the groups

  abbrev IsApart : Entries → Type 0
  IsApart es = AreNamedApart (vals es)

  apart_qs : Each (λ es. IsApart (spell_entries w es)) (groups_of (steps qs))
  apart_qs =
      each_two IsApart (λ es. Named (Agree w v) es × Named (Own v name) es) (λ es. IsApart (spell_entries w es)) (groups_of (steps qs))
      (λ es a n. subst IsApart (sym (entries_agree w v es n.0 ∙ own_entries v name es n.1)) a)
      (each_front IsApart (groups_of (steps qs)) (groups_of (steps us)) (subst (Each IsApart) groups_are o.good.apart))
      (each_two (Named (Agree w v)) (Named (Own v name)) (λ es. Named (Agree w v) es × Named (Own v name) es) (groups_of (steps qs))
      (λ es h k. (h, k))
      (groups_named (Agree w v) (steps qs) (named_front (Agree w v) none qs us agree)) (groups_named (Own v name) (steps qs) own_qs))

  old_apart : Each (λ es. IsApart (spell_entries W es)) (groups_of (steps us))
  old_apart =
      each_back_map IsApart (spell_entries W) (groups_of (steps us))
      (subst (Each IsApart) (ap groups_of (steps_stay us W (keeps us r sound valid.free)) ∙ groups-map W (steps us)) valid.good.apart)

  agree_us : Each (Named (Agree w v)) (groups_of (steps us))
  agree_us =
      subst (Each (Named (Agree w v))) (groups_alike v name out.all kept (steps us) (units_steps B us) alike)
      (groups_named (Agree w v) (units_steps B us)
      (subst (λ sc. NamedSteps (Agree w v) (units_steps sc us)) out.is (named_back (Agree w v) none qs us agree)))

  apart_us : Each (λ es. IsApart (spell_entries w es)) (groups_of (steps us))
  apart_us =
      each_two (λ es. IsApart (spell_entries W es)) (λ es. Named (Agree w v) es × Named (Agree W v) es) (λ es. IsApart (spell_entries w es))
      (groups_of (steps us)) (λ es a n. subst IsApart (entries_agree W v es n.1 ∙ sym (entries_agree w v es n.0)) a) old_apart
      (each_two (Named (Agree w v)) (Named (Agree W v)) (λ es. Named (Agree w v) es × Named (Agree W v) es) (groups_of (steps us)) (λ es h k. (h, k))
      agree_us (groups_named (Agree W v) (steps us) (binders_agree us sound r name)))

  apart_ws : Each IsApart (groups_of (steps (respell ws r)))
  apart_ws =
      subst (Each IsApart) (sym (ap groups_of steps_are ∙ groups-map w (steps ws)))
      (each_front_map IsApart (spell_entries w) (groups_of (steps ws))
      (subst (Each (λ es. IsApart (spell_entries w es))) (sym groups_are)
      (each_joined (λ es. IsApart (spell_entries w es)) (groups_of (steps qs)) (groups_of (steps us)) apart_qs apart_us)))

  pub valid_there : IsValid ws r
  valid_there = record {
    binders = λ d y k. let b = valid.binders d y k in (b.0, at_there d b.0 b.1, b.2);
    free = free_there;
    names = λ d y c. valid.names d y (old_change d y c);
    good = record {
      apart = apart_ws;
      matched = subst (λ (f : Facts). Each (λ l. l.source ≢ Missing) f.links) (sym same_facts) o.good.matched;
    };
    same = same_facts;
  }

  -- ---- the words

  abbrev TakesName : Ref → Type 0
  TakesName u = w u.at (name u.at) ≡ name u.at

  words_ws : Each (HasWord v name out.all kept w W w) (refs_of (steps qs) ++ refs_of (units_steps B us))
  words_ws = subst (Each (HasWord v name out.all kept w W w)) refs_are (uses_agree ws o.sound r name)

  use_words : Each (TakesSame v name out.all kept w W) (refs_of (steps us))
  use_words =
      uses_take v name out.all kept w W (steps us) (units_steps B us) alike us_named before (uses_agree us sound r name)
      (each_back (HasWord v name out.all kept w W w) (refs_of (steps qs)) (refs_of (units_steps B us)) words_ws)

  entry_kept : (g : Goal) (x z : Name) → NamedGoal NoEntry g z → word_for v name g x ≡ x
  entry_kept (Decl d) x z h = ap (λ y. or_value y x) h
  entry_kept Outside x z h = refl
  entry_kept Missing x z h = refl
  entry_kept Hidden x z h = refl
  entry_kept (Blur by n b) x z h = refl

  outside_words : Each TakesName (refs_of (steps qs))
  outside_words =
      each_two (HasWord v name out.all kept w W w) (UsesOneName NoEntry) TakesName (refs_of (steps qs))
      (λ u h n. h (name u.at) ∙ entry_kept u.goal (name u.at) n.0 n.2)
      (each_front (HasWord v name out.all kept w W w) (refs_of (steps qs)) (refs_of (units_steps B us)) words_ws)
      (steps_use NoEntry (steps qs) entry_qs)

  -- what holds at each reference holds at each place that binds nothing
  use_places : (P : Place → Type 0) (L : List (Place × Site)) → Each P (uses_places L) → Each (λ e. e.1.binds ≡ false → P e.0) L
  use_places P [] h = tt
  use_places P (e ∷ L) h = (
    λ b. (each_front P (place_if false e.0) (uses_places L) (subst (λ c. Each P (place_if c e.0 ++ uses_places L)) b h)).0,
    use_places P L (each_back P (place_if e.1.binds e.0) (uses_places L) h),
  )

  at_uses : (P : Place → Type 0) (xs : List UnitTree) → Each (λ u. P u.at) (refs_of (steps xs)) → Each (λ e. e.1.binds ≡ false → P e.0) (places xs)
  at_uses P xs h = use_places P (places xs) (subst (Each P) (sym (refs_at_uses xs)) (each_front_map P ref_at (refs_of (steps xs)) h))

  no_goals : Each (λ e. e.1.binds ≡ true → goal_at (facts ws).refs e.0 ≡ None) (places qs ++ places us)
  no_goals = subst (Each (λ e. e.1.binds ≡ true → goal_at (facts ws).refs e.0 ≡ None)) (places_both qs us) (no_goal ws (apart_of ws o.sound))

  by_kind : {A : Type 0} (b : Bool) → (b ≡ true → A) → (b ≡ false → A) → A
  by_kind true f g = f refl
  by_kind false f g = g refl

  project_words : Each (λ e. w e.0 e.1.name ≡ W e.0 e.1.name) (places us)
  project_words =
      each_two (λ e. e.1.binds ≡ false → w e.0 (name e.0) ≡ W e.0 (name e.0)) (λ e. IsCalled e × (e.1.binds ≡ true → w e.0 e.1.name ≡ W e.0 e.1.name))
      (λ e. w e.0 e.1.name ≡ W e.0 e.1.name) (places us)
      (λ e f n. by_kind e.1.binds n.1 (λ b. subst (λ x. w e.0 x ≡ W e.0 x) n.0 (f b)))
      (at_uses (λ p. w p (name p) ≡ W p (name p)) us use_words)
      (each_two IsCalled (λ e. e.1.binds ≡ true → w e.0 e.1.name ≡ W e.0 e.1.name)
      (λ e. IsCalled e × (e.1.binds ≡ true → w e.0 e.1.name ≡ W e.0 e.1.name)) (places us) (λ e h k. (h, k)) named_us
      (each_two (λ e. e.1.binds ≡ true → goal_at (facts ws).refs e.0 ≡ None) (λ e. e.1.binds ≡ true → goal_at (facts us).refs e.0 ≡ None)
      (λ e. e.1.binds ≡ true → w e.0 e.1.name ≡ W e.0 e.1.name) (places us)
      (λ e h k b. ap (λ g. new_word r g e.0 e.1.name) (h b) ∙ sym (ap (λ g. new_word r g e.0 e.1.name) (k b)))
      (each_back (λ e. e.1.binds ≡ true → goal_at (facts ws).refs e.0 ≡ None) (places qs) (places us) no_goals)
      (no_goal us (apart_of us sound))))

  new_words : Each (λ e. w e.0 e.1.name ≡ e.1.name) (places qs)
  new_words =
      each_two (λ e. e.1.binds ≡ false → w e.0 (name e.0) ≡ name e.0) (λ e. IsCalled e × (e.1.binds ≡ true → w e.0 e.1.name ≡ e.1.name))
      (λ e. w e.0 e.1.name ≡ e.1.name) (places qs)
      (λ e f n. by_kind e.1.binds n.1 (λ b. subst (λ x. w e.0 x ≡ x) n.0 (f b)))
      (at_uses (λ p. w p (name p) ≡ name p) qs outside_words)
      (each_two IsCalled (λ e. e.1.binds ≡ true → w e.0 e.1.name ≡ e.1.name) (λ e. IsCalled e × (e.1.binds ≡ true → w e.0 e.1.name ≡ e.1.name))
      (places qs)
      (λ e h k. (h, k)) (each_front IsCalled (places qs) (places us) (subst (Each IsCalled) (places_both qs us) named_ws))
      (each_two (λ e. e.1.binds ≡ true → goal_at (facts ws).refs e.0 ≡ None) (λ e. at_place r e.0 ≡ None)
      (λ e. e.1.binds ≡ true → w e.0 e.1.name ≡ e.1.name) (places qs)
      (λ e h k b. ap (λ g. new_word r g e.0 e.1.name) (h b) ∙ ap (λ y. or_value y e.1.name) k)
      (each_front (λ e. e.1.binds ≡ true → goal_at (facts ws).refs e.0 ≡ None) (places qs) (places us) no_goals) no_entry))

  pub words_there : TakesTheSameWords qs us r
  words_there = record { project = project_words; new_units = new_words }

pub words_stay : WordsStay
words_stay qs us r sound valid o = words_there qs us r sound valid o

pub stays_valid : StaysValid
stays_valid qs us r sound valid o = valid_there qs us r sound valid o
