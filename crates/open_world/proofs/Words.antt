-- The words of a renaming at binders and at uses, and what they make of steps.
use Rattle.std.proofs.Common.{◌≡◌, ℕ, Bool, true, List, [], ◌∷◌, ◌++◌, map, Option, Some, None, refl, sym, ap, subst, ◌∙◌}
use Rattle.rotor_base.specs.declared.place.Place.{Place}
use Rattle.rotor_base.specs.declared.place.Ref.{Ref}
use Rattle.rotor_base.specs.declared.place.Link.{Link}
use Rattle.rotor_base.specs.declared.place.Goal.{Goal}
use Rattle.rotor_base.specs.declared.place.Goal.TheVariants.{Decl, Outside, Missing, Hidden, Blur}
use Rattle.value_sites.specs.Each.{Each}
use Rattle.value_sites.specs.Sound.{IsSound}
use Rattle.ml_trees.specs.Tree.{UnitTree}
use Rattle.shape_core.specs.Shape.{Name, Shape, Struct, Functor, Unitary, Opaque, Entries, none, a_val, a_mod, a_mty, a_dark, vals, or_value}
use Rattle.shape_core.specs.Shape.{unless_some, last_of, value_at, value_in}
use Rattle.shape_core.specs.Links.{link, source_of}
use Rattle.shape_core.specs.Respell.{Words, over, spell_at, spell_shape, spell_entries}
use Rattle.shape_core.proofs.Spelled.{retold}
use Rattle.shape_core.proofs.Retold.{after}
use Rattle.binding_model.specs.Facts.{facts}
use Rattle.binding_model.specs.Renaming.{Renaming, places, at_place, goal_at, new_word, words_of}
use Rattle.binding_model.specs.Same.{Same}
use Rattle.binding_model.specs.Steps.{Steps, quiet, ◌⨾◌, UseAlone, UseUnder, MatchOf, PinOf, TieOf, GroupOf, WeighedSite, OpenedSite, UnitStart}
use Rattle.binding_model.specs.Steps.{a_ref, refs_of, trace, spell_steps}
use Rattle.binding_model.specs.Walk.{steps}
use Rattle.binding_model.proofs.Named.{IsNamed, NamedShape, Named, NamedSteps}
use Rattle.binding_model.proofs.Naming.{PlaceNamed, units_named}
use Rattle.binding_model.proofs.OneName.{NamedGoal, found_named}
use Rattle.binding_model.proofs.Projects.{each_front, each_back}
use Rattle.binding_model.proofs.Sounds.{each_map, each_joined}
use Rattle.binding_model.proofs.Telling.{SourceNamed, trace_mapped, trace_same, trace_spell}
use Rattle.binding_model.proofs.Telltale.{apart_of, no_goal, own_goal}
use Rattle.open_world.proofs.Told.{Told, tell, source, Keeps, respelled, each_of, each_then}
use Rattle.open_world.proofs.Resolved.{word_for, KeepsAll, Nm}

-- ---- words that agree at binders

module _ (w v : Words) where
  abbrev pub Agree : Bool → Place → Name → Type 0
  Agree b d x = b ≡ true → w d x ≡ v d x

  at_agree : (g : Goal) (x : Name) → IsNamed Agree g x → spell_at w g x ≡ spell_at v g x
  at_agree (Decl d) x h = h refl
  at_agree Outside x h = refl
  at_agree Missing x h = refl
  at_agree Hidden x h = refl
  at_agree (Blur by n o) x h = refl

  mutual
    pub shape_agree : (s : Shape) → NamedShape Agree s → spell_shape w s ≡ spell_shape v s
    shape_agree (Struct es) h = ap Struct (entries_agree es h)
    shape_agree (Functor p r) h = ap (λ z. Functor z (spell_shape w r)) (shape_agree p h.0) ∙ ap (Functor (spell_shape v p)) (shape_agree r h.1)
    shape_agree (Unitary r) h = ap Unitary (shape_agree r h)
    shape_agree Opaque h = refl

    pub entries_agree : (es : Entries) → Named Agree es → spell_entries w es ≡ spell_entries v es
    entries_agree none h = refl
    entries_agree (a_val x g es) h =
        ap (λ z. a_val z g (spell_entries w es)) (at_agree g x h.0) ∙ ap (a_val (spell_at v g x) g) (entries_agree es h.1)
    entries_agree (a_mod X s es) h = ap (λ z. a_mod X z (spell_entries w es)) (shape_agree s h.0)
        ∙ ap (a_mod X (spell_shape v s)) (entries_agree es h.1)
    entries_agree (a_mty X s es) h = ap (λ z. a_mty X z (spell_entries w es)) (shape_agree s h.0)
        ∙ ap (a_mty X (spell_shape v s)) (entries_agree es h.1)
    entries_agree (a_dark at es) h = ap (a_dark at) (entries_agree es h)

  source_agree : (src : Option Entries) → SourceNamed Agree src → over (spell_entries w) src ≡ over (spell_entries v) src
  source_agree None h = refl
  source_agree (Some es) h = ap Some (entries_agree es h)

  retold_agree : (x : Name) (g : Goal) (rest : Entries) (src : Option Entries) → IsNamed Agree g x → Named Agree rest → SourceNamed Agree src
      → retold w link x g rest src ≡ retold v link x g rest src
  retold_agree x g rest src h k l =
      ap (λ y. link y g (spell_entries w rest) (over (spell_entries w) src)) (at_agree g x h)
      ∙ ap (λ z. link (spell_at v g x) g z (over (spell_entries w) src)) (entries_agree rest k)
      ∙ ap (λ z. link (spell_at v g x) g (spell_entries v rest) z) (source_agree src l)

-- ---- links and what they are found from

abbrev pub link_of : Told → Link
link_of t = link t.name t.goal t.rest t.src

abbrev pub again_of : Words → Told → Link
again_of v t = link_of (respelled v t)

pub told_links : (ss : Steps) → map link_of (trace tell ss).told ≡ (trace link ss).told
told_links ss = ap (λ t. t.told) (trace_mapped link_of tell ss)

pub again_links : (w v : Words) (ss : Steps) → NamedSteps (Agree w v) ss
    → map (again_of v) (trace tell ss).told ≡ (trace link (spell_steps w ss)).told
again_links w v ss n =
    ap (λ t. t.told) (trace_mapped (again_of v) tell ss
    ∙ sym (trace_spell w link ss ∙ trace_same (Agree w v) (retold w link) (retold v link) (retold_agree w v) ss n))

all_equal : {A B : Type 0} (f g : A → B) (xs : List A) → map f xs ≡ map g xs → Each (λ x. f x ≡ g x) xs
all_equal f g [] e = tt
all_equal f g (x ∷ xs) e = let a : f x ≡ g x = cc in let b : map f xs ≡ map g xs = cc in (a, all_equal f g xs b)

map_equal : {A B : Type 0} (f g : A → B) (xs : List A) → Each (λ x. f x ≡ g x) xs → map f xs ≡ map g xs
map_equal f g [] h = refl
map_equal f g (x ∷ xs) h = ap (λ z. z ∷ map f xs) h.0 ∙ ap (λ l. g x ∷ l) (map_equal f g xs h.1)

pub same_sources : (w v : Words) (ss : Steps) → NamedSteps (Agree w v) ss → (trace link (spell_steps w ss)).told ≡ (trace link ss).told
    → Each (λ t. source (respelled v t) ≡ source t) (trace tell ss).told
same_sources w v ss n e =
    each_map (λ t. again_of v t ≡ link_of t) (λ t. source (respelled v t) ≡ source t) (trace tell ss).told (λ t h. ap (λ (l : Link). l.source) h)
    (all_equal (again_of v) link_of (trace tell ss).told (again_links w v ss n ∙ (e ∙ sym (told_links ss))))

pub same_links : (w v : Words) (ss : Steps) → NamedSteps (Agree w v) ss → Each (Keeps v) (trace tell ss).told
    → (trace link (spell_steps w ss)).told ≡ (trace link ss).told
same_links w v ss n k =
    sym (again_links w v ss n)
    ∙ map_equal (again_of v) link_of (trace tell ss).told
    (each_map (Keeps v) (λ t. again_of v t ≡ link_of t) (trace tell ss).told (λ t h. ap (λ s. record { item = t.goal; source = s }) h.same) k)
    ∙ told_links ss

-- ---- the parts of steps

module _ (v : Words) (name : Place → Name) (P : Told → Type 0) where
  -- `P` holds of what each link of the steps is found from
  pub all_told : (ss : Steps) → KeepsAll v name P ss → Each P (trace tell ss).told
  all_told quiet k = tt
  all_told (a ⨾ b) k = each_then P (trace tell a) (trace tell b) (all_told a k.0) (all_told b k.1)
  all_told (UseAlone at x sc) k = tt
  all_told (UseUnder at x s) k = tt
  all_told (MatchOf s t) k = k
  all_told (PinOf s) k = k
  all_told (TieOf p q) k = k
  all_told (GroupOf es) k = tt
  all_told (WeighedSite at s) k = tt
  all_told (OpenedSite at s) k = tt
  all_told UnitStart k = tt

  -- what is known of a reference
  pub record RefKeeps (w : Words) (r : Ref) : Type 0 where
    pub word : (x : Name) → w r.at x ≡ word_for v name r.goal x
    pub behind : (by : Place) (n : ℕ) (d : Place) → r.goal ≡ Blur by n (Some d) → v d (name r.at) ≡ name r.at

  pub from_same : (w : Words) (ss : Steps) → NamedSteps (Agree w v) ss → NamedSteps (Nm v name) ss → Each (RefKeeps w) (refs_of ss) → Same w ss
      → Each P (trace tell ss).told → KeepsAll v name P ss
  from_same w quiet n m r s h = tt
  from_same w (a ⨾ b) n m r s h =
      let p = each_of P (trace tell a) (trace tell b) h in (
        from_same w a n.0 m.0 (each_front (RefKeeps w) (refs_of a) (refs_of b) r) s.0 p.0,
        from_same w b n.1 m.1 (each_back (RefKeeps w) (refs_of a) (refs_of b) r) s.1 p.1,
      )
  from_same w (UseAlone at x sc) n m r s h = record {
    same =
        ap (λ l. value_at l (word_for v name (value_at sc x) x)) (sym (entries_agree w v sc n.1))
        ∙ ap (value_at (spell_entries w sc)) (sym (r.0.word x)) ∙ s;
    behind = λ by k d e. subst (λ y. v d y ≡ y) m.0 (r.0.behind by k d e);
  }
  from_same w (UseUnder at x t) n m r s h = record {
    same =
        ap (λ l. value_in l (word_for v name (value_in t x) x)) (sym (shape_agree w v t n.1))
        ∙ ap (value_in (spell_shape w t)) (sym (r.0.word x)) ∙ s;
    behind = λ by k d e. subst (λ y. v d y ≡ y) m.0 (r.0.behind by k d e);
  }
  from_same w (MatchOf s t) n m r e h = h
  from_same w (PinOf s) n m r e h = h
  from_same w (TieOf p q) n m r e h = h
  from_same w (GroupOf es) n m r e h = tt
  from_same w (WeighedSite at s) n m r e h = tt
  from_same w (OpenedSite at s) n m r e h = tt
  from_same w UnitStart n m r e h = tt

  -- the references of respelled steps
  pub same_refs : (w : Words) (ss : Steps) → NamedSteps (Agree w v) ss → Each (λ r. (x : Name) → w r.at x ≡ word_for v name r.goal x) (refs_of ss)
      → KeepsAll v name P ss → refs_of (spell_steps w ss) ≡ refs_of ss
  same_refs w quiet n r k = refl
  same_refs w (a ⨾ b) n r k =
      ap (λ l. l ++ refs_of (spell_steps w b)) (same_refs w a n.0 (each_front _ (refs_of a) (refs_of b) r) k.0)
      ∙ ap (λ l. refs_of a ++ l) (same_refs w b n.1 (each_back _ (refs_of a) (refs_of b) r) k.1)
  same_refs w (UseAlone at x sc) n r k =
      ap (λ g. a_ref at g ∷ [])
      (ap (λ l. value_at l (w at x)) (entries_agree w v sc n.1) ∙ ap (value_at (spell_entries v sc)) (r.0 x) ∙ k.same)
  same_refs w (UseUnder at x s) n r k =
      ap (λ g. a_ref at g ∷ [])
      (ap (λ l. value_in l (w at x)) (shape_agree w v s n.1) ∙ ap (value_in (spell_shape v s)) (r.0 x) ∙ k.same)
  same_refs w (MatchOf s t) n r k = refl
  same_refs w (PinOf s) n r k = refl
  same_refs w (TieOf p q) n r k = refl
  same_refs w (GroupOf es) n r k = refl
  same_refs w (WeighedSite at s) n r k = refl
  same_refs w (OpenedSite at s) n r k = refl
  same_refs w UnitStart n r k = refl

  -- what a use sees through Dark entries keeps its word
  pub seen_word : (ss : Steps) → NamedSteps (Nm v name) ss → KeepsAll v name P ss
      → Each (λ r. (by : Place) (n : ℕ) (d : Place) → r.goal ≡ Blur by n (Some d) → v d (name r.at) ≡ name r.at) (refs_of ss)
  seen_word quiet m k = tt
  seen_word (a ⨾ b) m k = each_joined _ (refs_of a) (refs_of b) (seen_word a m.0 k.0) (seen_word b m.1 k.1)
  seen_word (UseAlone at x sc) m k = ((λ by n d e. subst (λ y. v d y ≡ y) (sym m.0) (k.behind by n d e)), tt)
  seen_word (UseUnder at x s) m k = ((λ by n d e. subst (λ y. v d y ≡ y) (sym m.0) (k.behind by n d e)), tt)
  seen_word (MatchOf s t) m k = tt
  seen_word (PinOf s) m k = tt
  seen_word (TieOf p q) m k = tt
  seen_word (GroupOf es) m k = tt
  seen_word (WeighedSite at s) m k = tt
  seen_word (OpenedSite at s) m k = tt
  seen_word UnitStart m k = tt

-- ---- a renaming

-- the word of a renaming at a binder
abbrev pub at_binder : Renaming → Words
at_binder r d x = or_value (at_place r d) x

module _ (ps : List UnitTree) (sound : IsSound ps) (r : Renaming) (name : Place → Name) where
  abbrev w : Words
  w = words_of r (facts ps).refs

  by_goal : (g : Goal) (at : Place) (x : Name) → new_word r (Some g) at x ≡ word_for (at_binder r) name g x
  by_goal (Decl d) at x = refl
  by_goal Outside at x = refl
  by_goal Missing at x = refl
  by_goal Hidden at x = refl
  by_goal (Blur by n b) at x = refl

  -- at binders the words are those of the renaming
  pub binders_agree : NamedSteps (Agree w (at_binder r)) (steps ps)
  binders_agree =
      units_named (Agree w (at_binder r)) ps none tt
      (each_map (λ e. e.1.binds ≡ true → goal_at (facts ps).refs e.0 ≡ None) (PlaceNamed (Agree w (at_binder r))) (places ps)
      (λ e g b. ap (λ o. new_word r o e.0 e.1.name) (g b)) (no_goal ps (apart_of ps sound)))

  -- at uses they are those of their goals
  pub uses_agree : Each (λ u. (x : Name) → w u.at x ≡ word_for (at_binder r) name u.goal x) (refs_of (steps ps))
  uses_agree =
      each_map (λ u. goal_at (facts ps).refs u.at ≡ Some u.goal) (λ u. (x : Name) → w u.at x ≡ word_for (at_binder r) name u.goal x)
      (refs_of (steps ps)) (λ u g x. ap (λ o. new_word r o u.at x) g ∙ by_goal u.goal u.at x) (own_goal ps (apart_of ps sound))

-- ---- the names of what links are found from

module _ (name : Place → Name) (v : Words) where
  module _ (f : Name → Goal → Entries → Option Entries → Name)
      (same : (x : Name) (g : Goal) (rest : Entries) (src : Option Entries) → IsNamed (Nm v name) g x → Named (Nm v name) rest
      → SourceNamed (Nm v name) src
      → f x g rest src ≡ x) where
    abbrev named_again : Told → Told
    named_again t = tell (f t.name t.goal t.rest t.src) t.goal t.rest t.src

    keep_all : (ts : List Told) → ts ≡ map named_again ts → Each (λ t. f t.name t.goal t.rest t.src ≡ t.name) ts
    keep_all ts e =
        each_map (λ t. named_again t ≡ t) (λ t. f t.name t.goal t.rest t.src ≡ t.name) ts (λ t h. ap (λ (z : Told). z.name) h)
        (all_equal named_again (λ t. t) ts (sym e ∙ sym (itself ts)))
      where
        itself : (xs : List Told) → map (λ (t : Told). t) xs ≡ xs
        itself [] = refl
        itself (x ∷ xs) = ap (λ l. x ∷ l) (itself xs)

    pub names_told : (ss : Steps) → NamedSteps (Nm v name) ss → Each (λ t. f t.name t.goal t.rest t.src ≡ t.name) (trace tell ss).told
    names_told ss n =
        keep_all (trace tell ss).told
        (ap (λ t. t.told)
        (trace_same (Nm v name) tell (after named_again tell) (λ x g rest src h k l. ap (λ y. tell y g rest src) (sym (same x g rest src h k l))) ss n
        ∙ sym (trace_mapped named_again tell ss)))

  -- the name of an item, by its goal
  abbrev pub item_name : Goal → Name → Name
  item_name (Decl d) x = name d
  item_name _ x = x

  item_same : (x : Name) (g : Goal) → IsNamed (Nm v name) g x → item_name g x ≡ x
  item_same x (Decl d) h = h
  item_same x Outside h = refl
  item_same x Missing h = refl
  item_same x Hidden h = refl
  item_same x (Blur by n o) h = refl

  pub items_named : (ss : Steps) → NamedSteps (Nm v name) ss → Each (λ t. item_name t.goal t.name ≡ t.name) (trace tell ss).told
  items_named ss n = names_told (λ x g rest src. item_name g x) (λ x g rest src h k l. item_same x g h) ss n

  -- the name of what a source sees through Dark entries
  abbrev pub behind_name : Goal → Name → Name
  behind_name (Blur by n (Some d)) x = name d
  behind_name _ x = x

  behind_same : (s : Goal) (x : Name) → NamedGoal (Nm v name) s x → behind_name s x ≡ x
  behind_same (Decl d) x h = refl
  behind_same Outside x h = refl
  behind_same Missing x h = refl
  behind_same Hidden x h = refl
  behind_same (Blur by n None) x h = refl
  behind_same (Blur by n (Some d)) x h = h

  source_named : (x : Name) (src : Option Entries) → SourceNamed (Nm v name) src → NamedGoal (Nm v name) (source_of src x) x
  source_named x None h = tt
  source_named x (Some es) h = found_named (Nm v name) es x Missing h tt

  shown_named : (o : Option Goal) (s : Goal) (x : Name) → NamedGoal (Nm v name) s x → NamedGoal (Nm v name) (unless_some o s Hidden) x
  shown_named None s x h = h
  shown_named (Some g) s x h = tt

  pub sources_named : (ss : Steps) → NamedSteps (Nm v name) ss → Each (λ t. behind_name (source t) t.name ≡ t.name) (trace tell ss).told
  sources_named ss n =
      names_told (λ x g rest src. behind_name (source (tell x g rest src)) x)
      (λ x g rest src h k l. behind_same (source (tell x g rest src)) x
      (shown_named (last_of (vals rest) x) (source_of src x) x (source_named x src l)))
      ss n

  -- an item is a declaration
  abbrev declared_goal : Goal → Goal
  declared_goal (Decl d) = Decl d
  declared_goal _ = Decl (record { file = 0; token = 0 })

  declared_same : (g : Goal) (x : Name) → IsNamed (Nm v name) g x → declared_goal g ≡ g
  declared_same (Decl d) x h = refl
  declared_same Outside x h = absurd h
  declared_same Missing x h = absurd h
  declared_same Hidden x h = absurd h
  declared_same (Blur by n o) x h = absurd h

  abbrev declared_again : Told → Told
  declared_again t = tell t.name (declared_goal t.goal) t.rest t.src

  not_outside : (g : Goal) → declared_goal g ≡ g → g ≡ Outside → ⊥
  not_outside (Decl d) e i = cc
  not_outside Outside e i = cc
  not_outside Missing e i = cc
  not_outside Hidden e i = cc
  not_outside (Blur by n o) e i = cc

  itself : {A : Type 0} (xs : List A) → map (λ t. t) xs ≡ xs
  itself [] = refl
  itself (x ∷ xs) = ap (λ l. x ∷ l) (itself xs)

  pub items_declared : (ss : Steps) → NamedSteps (Nm v name) ss → Each (λ t. t.goal ≡ Outside → ⊥) (trace tell ss).told
  items_declared ss n =
      let same : (trace tell ss).told ≡ map declared_again (trace tell ss).told =
      ap (λ t. t.told)
      (trace_same (Nm v name) tell (after declared_again tell) (λ x g rest src h k l. ap (λ z. tell x z rest src) (sym (declared_same g x h))) ss n
      ∙ sym (trace_mapped declared_again tell ss)) in
      each_map (λ t. declared_again t ≡ t) (λ t. t.goal ≡ Outside → ⊥) (trace tell ss).told
      (λ t h. not_outside t.goal (ap (λ (z : Told). z.goal) h))
      (all_equal declared_again (λ t. t) (trace tell ss).told (sym same ∙ sym (itself (trace tell ss).told)))
