-- The faults of the project in which a footprint has a name that nothing has.
use Rattle.std.proofs.Common.{◌≡◌, ◌≢◌, ℕ, zero, suc, inl, inr, Bool, true, false, true≢false, if◌then◌else◌, ◌||◌, List, [], ◌∷◌}
use Rattle.std.proofs.Common.{Some, None}
use Rattle.std.proofs.Common.{slice_get, Contains, refl, ap, sym, subst, ◌∙◌, arith}
use Rattle.std.specs.List.{list_any}
use Rattle.std.specs.Bool.{beq}
use Rattle.std.proofs.lemmas.Option.{slice_get-get_or}
use Rattle.rotor_base.specs.Place.{same_place}
use Rattle.rotor_base.specs.declared.looks.Watch.{Watch}
use Rattle.rotor_base.specs.declared.place.Facts.{Facts}
use Rattle.rotor_base.specs.declared.place.Goal.{Goal}
use Rattle.rotor_base.specs.declared.place.Goal.TheVariants.{Decl, Outside, Missing, Hidden, Blur}
use Rattle.rotor_base.specs.declared.place.Link.{Link}
use Rattle.rotor_base.specs.declared.place.Place.{Place}
use Rattle.rotor_base.specs.declared.place.Ref.{Ref}
use Rattle.rotor_base.proofs.Rising.{some_is}
use Rattle.value_sites.specs.Each.{Each}
use Rattle.value_sites.specs.Places.{Site}
use Rattle.value_sites.specs.Sound.{IsSound}
use Rattle.ml_trees.specs.Tree.{UnitTree}
use Rattle.shape_core.specs.Links.{link}
use Rattle.shape_core.specs.Looks.{is_member}
use Rattle.shape_core.specs.Respell.{Words}
use Rattle.shape_core.specs.Shape.{Name, none, or_value, some_if}
use Rattle.dependency_kernel.specs.Foot.{IsFoot, along}
use Rattle.binding_model.specs.Facts.{facts, facts_of, in_order, IsGood}
use Rattle.binding_model.specs.Renaming.{IsBinder}
use Rattle.binding_model.specs.Local.{IsWatched}
use Rattle.binding_model.specs.Renaming.{renaming}
use Rattle.binding_model.specs.Renaming.{places, at_place, site_name, name_of, goal_at, new_word, respell, Changes, HasBehind, IsFree}
use Rattle.binding_model.specs.Steps.{refs_of, spell_steps, trace}
use Rattle.binding_model.specs.Walk.{steps}
use Rattle.binding_model.proofs.Finding.{Clear}
use Rattle.binding_model.proofs.Leasts.{binder_name, place_in}
use Rattle.binding_model.proofs.Named.{NamedSteps}
use Rattle.binding_model.proofs.Naming.{PlaceNamed, units_named}
use Rattle.binding_model.proofs.Projects.{steps_stay}
use Rattle.binding_model.proofs.Sounds.{Apart, same_self}
use Rattle.binding_model.proofs.Standing.{each_unordered, given, member_in}
use Rattle.binding_model.proofs.Staying.{groups-spell, ref_at}
use Rattle.binding_model.proofs.Telltale.{apart_named, apart_of, each_contained, each_two, keeps_fixed, no_goal, own_goal, wd}
use Rattle.capture_check.specs.Fault.{IsFirstDiffering, IsLeastRepeat, of_link, of_ref}
use Rattle.capture_check.proofs.Binders.{group_binds}
use Rattle.facts_laws.proofs.Unrepeated.{good_repeats_none}
use Rattle.unused_names.specs.Laws.{IsUnused}
use Rattle.unused_names.proofs.Links.{link_stays, steady}
use Rattle.unused_names.proofs.Refs.{Takes, Word, refs_stay}

-- ---- lists

pub got_in : {A : Type 0} (xs : List A) (n : ℕ) (x : A) → slice_get xs n ≡ Some x → Contains xs x
got_in [] n x e = let wrong : None ≡ Some x = e in absurd cc
got_in (y ∷ xs) zero x e = (0, omega arith, some_is y x e)
got_in (y ∷ xs) (suc n) x e = let k = got_in xs n x e in (suc k.0, omega (arith, k.1), k.2)

or_true : (b : Bool) → (b || true) ≡ true
or_true true = refl
or_true false = refl

in_any : (es : List Place) (d : Place) (k : ℕ) → slice_get es k ≡ Some d → list_any (same_place d) es ≡ true
in_any [] d k e = let wrong : None ≡ Some d = e in absurd cc
in_any (x ∷ es) d zero e = ap (λ p. same_place d p || list_any (same_place d) es) (some_is x d e)
    ∙ ap (λ b. b || list_any (same_place d) es) (same_self d)
in_any (x ∷ es) d (suc k) e = ap (λ b. same_place d x || b) (in_any es d k e) ∙ or_true (same_place d x)

both_ways : (a b : Bool) → (a ≡ true → b ≡ true) → (b ≡ true → a ≡ true) → beq a b ≡ true
both_ways true true f g = refl
both_ways false false f g = refl
both_ways true false f g = let wrong : false ≡ true = f refl in absurd cc
both_ways false true f g = let wrong : false ≡ true = g refl in absurd cc

neither : (a b : Bool) → (a ≡ true → ⊥) → (b ≡ true → ⊥) → beq a b ≡ true
neither true b f g = absurd (f refl)
neither false true f g = absurd (g refl)
neither false false f g = refl

none_differing : {A : Type 0} (make : Place → Goal → A) → ((p : Place) (g h : Goal) → make p g ≡ make p h → g ≡ h) → (old new : List A) → new ≡ old
    → (p : Place) (w v : Goal) → IsFirstDiffering make old new p w v → ⊥
none_differing make keeps old new e p w v h =
    let both : Some (make p w) ≡ Some (make p v) = sym h.differs.old_one ∙ (ap (λ l. slice_get l h.number) (sym e) ∙ h.differs.new_one) in
    h.differs.differ (keeps p w v (some_is (make p w) (make p v) both))

-- a binder has another name
pub not_the_name : (us : List UnitTree) (new : Name) → IsUnused us new → (d : Place) → IsBinder us d → name_of us d ≢ new
not_the_name us new unused d b e =
    place_in (λ e. e.1.name ≢ new) (places us) d b.0 (each_contained (λ e. e.1.name ≢ new) (places us) (λ e c. unused e.0 e.1 c)) b.1
    (sym (ap site_name b.1) ∙ e)

module _ (us : List UnitTree) (sound : IsSound us) (w : Watch) (k : IsWatched us w) (unused : IsUnused us w.new) where
  apart : Apart (places us)
  apart = apart_of us sound

  abbrev W : Words
  W = wd us apart w k

  abbrev vs : List UnitTree
  vs = respell us (renaming w)

  -- ---- the words

  value_if : (b : Bool) (y x : Name) → or_value (some_if b y) x ≡ (if b then y else x)
  value_if true y x = refl
  value_if false y x = refl

  word_new : (d : Place) (x : Name) → or_value (at_place (renaming w) d) x ≡ (if is_member w (Decl d) then w.new else x)
  word_new d x = ap (λ o. or_value o x) (given w.new w.foot.decls d) ∙ value_if (is_member w (Decl d)) w.new x

  word_goal : (g : Goal) (at : Place) (x : Name) → new_word (renaming w) (Some g) at x ≡ (if is_member w g then w.new else x)
  word_goal (Decl d) at x = word_new d x
  word_goal Outside at x = refl
  word_goal Missing at x = refl
  word_goal Hidden at x = refl
  word_goal (Blur by n b) at x = refl

  -- what is known of a place
  record IsKnown (e : Place × Site) : Type 0 where
    pub alone : e.1.binds ≡ true → goal_at (facts us).refs e.0 ≡ None
    pub named : e.1.name ≡ name_of us e.0

  known : Each IsKnown (places us)
  known =
      each_two (λ e. e.1.binds ≡ true → goal_at (facts us).refs e.0 ≡ None) (λ e. e.1.name ≡ name_of us e.0) IsKnown (places us)
      (λ e a n. record { alone = a; named = n }) (no_goal us apart) (apart_named us apart)

  word_there : (e : Place × Site) → IsKnown e → e.1.name ≢ w.new → (b : Bool) → e.1.binds ≡ b → Word w W b e.0 e.1.name
  word_there e h n false q = n
  word_there e h n true q = record {
    renamed = (
      ap (λ o. new_word (renaming w) o e.0 e.1.name) (h.alone q) ∙ word_new e.0 e.1.name,
      (λ m. h.named ∙ k.named e.0 (member_in e.0 w.foot.decls m)),
      (e.0, refl),
    );
    fresh = n;
  }

  named_steps : NamedSteps (Word w W) (steps us)
  named_steps =
      units_named (Word w W) us none tt
      (each_two IsKnown (λ e. e.1.name ≢ w.new) (PlaceNamed (Word w W)) (places us) (λ e h n. word_there e h n e.1.binds refl) known
      (each_contained (λ e. e.1.name ≢ w.new) (places us) (λ e c. unused e.0 e.1 c)))

  -- ---- the references

  clear_as : (g : Goal) → ((d : Place) → is_member w (Decl d) ≡ true → HasBehind d g → ⊥) → is_member w g ≡ false → Clear w g
  clear_as (Decl d) f h = h
  clear_as Outside f h = h
  clear_as Missing f h = h
  clear_as Hidden f h = h
  clear_as (Blur by n None) f h = h
  clear_as (Blur by n (Some d)) f h = unless (is_member w (Decl d)) refl
    where
      unless : (b : Bool) → is_member w (Decl d) ≡ b → is_member w (Decl d) ≡ false
      unless true e = absurd (f d e refl)
      unless false e = e

  all_take : Each (Takes w W) (refs_of (steps us))
  all_take =
      each_two (λ r. goal_at (facts us).refs r.at ≡ Some r.goal) (λ r. is_member w r.goal ≡ false → Clear w r.goal) (Takes w W)
      (refs_of (steps us))
      (λ r g c. record { word = λ x. ap (λ o. new_word (renaming w) o r.at x) g ∙ word_goal r.goal r.at x; clear = c })
      (own_goal us apart)
      (each_unordered ref_at (λ r. is_member w r.goal ≡ false → Clear w r.goal) (refs_of (steps us))
      (each_contained (λ r. is_member w r.goal ≡ false → Clear w r.goal) (facts us).refs
      (λ r c. clear_as r.goal (λ d m b. (k.free d (member_in d w.foot.decls m)).refs_seen r c b))))

  -- ---- the facts

  facts_are : facts vs ≡ facts_of (spell_steps W (steps us))
  facts_are = ap facts_of (steps_stay us W (keeps_fixed us apart w k))

  same_refs : (facts vs).refs ≡ (facts us).refs
  same_refs = ap (λ (f : Facts). f.refs) facts_are ∙ ap (in_order ref_at) (refs_stay w W (steps us) named_steps all_take)

  same_groups : (facts vs).groups ≡ (facts us).groups
  same_groups = ap (λ (f : Facts). f.groups) facts_are ∙ groups-spell W (steps us)

  pub no_capture : (at : Place) (was would : Goal) → IsFirstDiffering of_ref (facts us).refs (facts vs).refs at was would → ⊥
  no_capture = none_differing of_ref (λ d g h e. ap (λ (x : Ref). x.goal) e) (facts us).refs (facts vs).refs same_refs

  -- ---- the links

  module _ (d : Place) (is : IsFoot (facts us).links d w.foot) where
    member_of : (a : Place) → is_member w (Decl a) ≡ true → Contains w.foot.decls a
    member_of a m = member_in a w.foot.decls m

    is_in : (a : Place) → Contains w.foot.decls a → is_member w (Decl a) ≡ true
    is_in a c = in_any w.foot.decls a c.0 (got a c)
      where
        got : (b : Place) (c : Contains w.foot.decls b) → slice_get w.foot.decls c.0 ≡ Some b
        got b c = slice_get-get_or w.foot.decls c.0 b c.1 ∙ ap (λ (x : Place). Some x) c.2

    closed : (a b : Place) → Contains (facts us).links (of_link a (Decl b)) → beq (is_member w (Decl b)) (is_member w (Decl a)) ≡ true
    closed a b c =
        both_ways (is_member w (Decl b)) (is_member w (Decl a))
        (λ m. is_in a (is.all a (along b a (is.reached b (member_of b m)) (inr c))))
        (λ m. is_in b (is.all b (along a b (is.reached a (member_of a m)) (inl c))))

    -- a link that is not steady was hidden
    hidden : (a : Place) (g : Goal) → Contains (facts us).links (of_link a g) → steady w W (of_link a g) ≡ false → g ≡ Hidden
    hidden a (Decl b) c e = absurd (true≢false (sym (closed a b c) ∙ e))
    hidden a Hidden c e = refl
    hidden a Outside c e = absurd (true≢false e)
    hidden a Missing c e = absurd (true≢false e)
    hidden a (Blur by n None) c e = absurd (true≢false e)
    hidden a (Blur by n (Some b)) c e =
        absurd
        (true≢false
        (sym
        (neither (is_member w (Decl b)) (is_member w (Decl a))
        (λ m. (k.free b (member_of b m)).links_seen (of_link a (Blur by n (Some b))) c (inl refl))
        (λ m. (k.free a (member_of a m)).links_seen (of_link a (Blur by n (Some b))) c (inr (refl, tt))))
        ∙ e))

    pub was_hidden : (item : Place) (was would : Goal) → IsFirstDiffering of_link (facts us).links (facts vs).links item was would → was ≡ Hidden
    was_hidden item was would h = by (steady w W (of_link item was)) refl where
      now : slice_get (trace link (spell_steps W (steps us))).told h.number ≡ Some (of_link item would)
      now = ap (λ (f : Facts). slice_get f.links h.number) (sym facts_are) ∙ h.differs.new_one

      by : (b : Bool) → steady w W (of_link item was) ≡ b → was ≡ Hidden
      by false e = hidden item was (got_in (facts us).links h.number (of_link item was) h.differs.old_one) e
      by true e =
          let same : of_link item would ≡ of_link item was =
          link_stays w W (steps us) named_steps h.number (of_link item was) (of_link item would) h.differs.old_one now e in
          absurd (h.differs.differ (sym (ap (λ (l : Link). l.source) same)))

  -- ---- the groups

  free_of : (d : Place) (y : Name) → Changes us (renaming w) d y → IsFree us d
  free_of d y c = by (is_member w (Decl d)) refl where
    by : (b : Bool) → is_member w (Decl d) ≡ b → IsFree us d
    by true e = k.free d (member_in d w.foot.decls e)
    by false e = let wrong : None ≡ Some y = ap (λ b. some_if b w.new) (sym e) ∙ (sym (given w.new w.foot.decls d) ∙ c.0) in absurd cc

  name_there : (d : Place) → IsBinder us d → name_of vs d ≡ (if is_member w (Decl d) then w.new else name_of us d)
  name_there d b = binder_name us (renaming w) sound free_of d b ∙ word_new d (name_of us d)

  -- two values that have one name afterwards had one before
  one_before : (a b : Place) → IsBinder us a → IsBinder us b → name_of vs a ≡ name_of vs b → (m n : Bool) → is_member w (Decl a) ≡ m
      → is_member w (Decl b) ≡ n → name_of us a ≡ name_of us b
  one_before a b i j e true true p q = k.named a (member_in a w.foot.decls p) ∙ sym (k.named b (member_in b w.foot.decls q))
  one_before a b i j e true false p q =
      let new : w.new ≡ name_of us b =
      sym (name_there a i ∙ ap (λ t. if t then w.new else name_of us a) p)
      ∙ (e ∙ (name_there b j ∙ ap (λ t. if t then w.new else name_of us b) q)) in
      absurd (not_the_name us w.new unused b j (sym new))
  one_before a b i j e false true p q =
      let new : name_of us a ≡ w.new =
      sym (name_there a i ∙ ap (λ t. if t then w.new else name_of us a) p)
      ∙ (e ∙ (name_there b j ∙ ap (λ t. if t then w.new else name_of us b) q)) in
      absurd (not_the_name us w.new unused a i new)
  one_before a b i j e false false p q =
      sym (name_there a i ∙ ap (λ t. if t then w.new else name_of us a) p)
      ∙ (e ∙ (name_there b j ∙ ap (λ t. if t then w.new else name_of us b) q))

  pub no_clash : IsGood us → (first again : Place) → IsLeastRepeat (name_of vs) (facts vs).groups first again → ⊥
  no_clash good first again h =
      let r = h.repeats in
      let among : Contains (facts us).groups r.group = subst (λ gs. Contains gs r.group) same_groups r.among in
      let a = group_binds us sound r.group first among r.here in
      let b = group_binds us sound r.group again among r.there in
      good_repeats_none us sound good first again
      (record {
        group = r.group;
        among = among;
        here = r.here;
        there = r.there;
        order = r.order;
        same = one_before first again a b r.same (is_member w (Decl first)) (is_member w (Decl again)) refl refl;
      })
