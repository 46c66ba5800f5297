-- Steps that keep their goals and their links keep them if outside modules are filled in.
use Rattle.std.proofs.Common.{◌≡◌, ℕ, suc, ◌+◌, Bool, List, [], ◌∷◌, ◌++◌, Option, Some, None, length, refl, sym, ap, subst, ◌∙◌}
use Rattle.std.proofs.Common.{inl, inr}
use Rattle.std.specs.Prelude.{◌⊎◌, max}
use Rattle.rotor_base.specs.declared.place.Place.{Place}
use Rattle.rotor_base.specs.declared.place.Ref.{Ref}
use Rattle.rotor_base.specs.declared.place.Goal.{Goal}
use Rattle.rotor_base.specs.declared.place.Goal.TheVariants.{Decl, Outside, Missing, Hidden, Blur}
use Rattle.rotor_base.proofs.Rising.{some_is}
use Rattle.value_sites.specs.Each.{Each}
use Rattle.shape_core.specs.Shape.{Name, Shape, Struct, Entries, a_mod, ◌⊕◌, vals}
use Rattle.shape_core.specs.Shape.{or_value, last_of, passed, last_place, behind_of, seen, find_val, value_at, value_in, depth, depths}
use Rattle.shape_core.specs.Links.{◌&◌, pin, match_to, matched}
use Rattle.shape_core.specs.Respell.{Words, spell_shape, spell_entries}
use Rattle.shape_core.proofs.Spelled.{spell-append}
use Rattle.binding_model.specs.Steps.{Steps, quiet, ◌⨾◌, UseAlone, UseUnder, MatchOf, PinOf, TieOf, GroupOf, WeighedSite, OpenedSite, UnitStart}
use Rattle.binding_model.specs.Steps.{tied, refs_of, groups_of}
use Rattle.binding_model.proofs.Named.{IsNamed, NamedShape, Named, NamedSteps}
use Rattle.binding_model.proofs.OneName.{NamedGoal, found_named, under_named}
use Rattle.binding_model.proofs.Projects.{each_front, each_back}
use Rattle.binding_model.proofs.Sounds.{each_joined}
use Rattle.open_world.proofs.Alike.{Alike, quiet_alike, then_alike, alone_alike, under_alike, match_alike, pin_alike, tie_alike, group_alike}
use Rattle.open_world.proofs.Alike.{weighed_alike, opened_alike, start_alike}
use Rattle.open_world.proofs.Twofold.{Values, block, Twofold, Known, Maps, Makes, Unknown, Filled, Parts, end, val, mod_of, mty_of, dark, filled}
use Rattle.open_world.proofs.Twofold.{old, olds}
use Rattle.open_world.proofs.Twofold.{new, news, KeptBlock, HasName, Fine, Fines}
use Rattle.open_world.proofs.Seen.{was, behind, through, found, finds, expand, IsDeclared, last_some, never_blur}
use Rattle.open_world.proofs.Fixed.{spell_block, deep_new}
use Rattle.open_world.proofs.Told.{Told, tell, Any, declared, Keeps, keeps_pin}
use Rattle.open_world.proofs.Spelling.{named_spells, named_olds, named_news, nothing_passed, found_stays, block_named}
use Rattle.open_world.proofs.Grown.{Stays, deep_from, behind_is, kept_or}
use Rattle.open_world.proofs.Matched.{grows_to}
use Rattle.open_world.proofs.Opening.{own_number, Equal, Outsides, base, Kept, Kepts, AreKept, Shapes, Scopes}

-- ---- look-ups with a goal for what is not found

module _ (o : Goal) (no_decl : (d : Place) → Decl d ≡ o → ⊥) (no_blur : (by : Place) (n : ℕ) (b : Option Place) → Blur by n b ≡ o → ⊥) where
  seen_is_not : (f : Option Goal) (p : Option Place) (n : ℕ) (g : Goal) → IsDeclared f → seen f p n ≡ Some g → g ≡ o → ⊥
  seen_is_not None None n g h e i = cc
  seen_is_not (Some k) None n g h e i = no_decl h.0 (sym h.1 ∙ (some_is k g e ∙ i))
  seen_is_not f (Some at) n g h e i = no_blur at n (behind_of f) (some_is (Blur at n (behind_of f)) g e ∙ i)

  pub found_same : (es fs : Entries) (x y : Name) → Named Any es → Named Any fs → or_value (find_val fs y) o ≡ or_value (find_val es x) o
      → find_val fs y ≡ find_val es x
  found_same es fs x y h k e = both (find_val es x) (find_val fs y) refl refl e
    where
      both : (a b : Option Goal) → find_val es x ≡ a → find_val fs y ≡ b → or_value b o ≡ or_value a o → b ≡ a
      both None None i j q = refl
      both (Some g) None i j q =
          absurd (seen_is_not (last_of (vals es) x) (last_place (passed es x)) (length (passed es x)) g (declared es h x) i (sym q))
      both None (Some g) i j q =
          absurd (seen_is_not (last_of (vals fs) y) (last_place (passed fs y)) (length (passed fs y)) g (declared fs k y) j q)
      both (Some g) (Some l) i j q = ap Some q

  pub decl_seen : (f : Option Goal) (p : Option Place) (n : ℕ) (d : Place) → or_value (seen f p n) o ≡ Decl d → f ≡ Some (Decl d)
  decl_seen None None n d e = absurd (no_decl d (sym e))
  decl_seen (Some g) None n d e = ap Some e
  decl_seen f (Some at) n d e = absurd cc

  behind_decl : (f : Option Goal) (d : Place) → IsDeclared f → behind_of f ≡ Some d → f ≡ Some (Decl d)
  behind_decl None d h e = absurd cc
  behind_decl (Some g) d h e =
      let same : Some h.0 ≡ Some d = sym (ap (λ z. behind_of (Some z)) h.1) ∙ e in
      ap Some (h.1 ∙ ap Decl (some_is h.0 d same))

  blur_same : (a b : Place) (n m : ℕ) (p q : Option Place) → Blur a n p ≡ Blur b m q → p ≡ q
  blur_same a b n m p q e = cc

  pub blur_seen : (f : Option Goal) (p : Option Place) (k n : ℕ) (by d : Place) → IsDeclared f → or_value (seen f p k) o ≡ Blur by n (Some d)
      → f ≡ Some (Decl d)
  blur_seen None None k n by d h e = absurd (no_blur by n (Some d) (sym e))
  blur_seen (Some g) None k n by d h e = absurd (never_blur (Some g) by n (Some d) h (ap Some e))
  blur_seen f (Some at) k n by d h e = behind_decl f d h (blur_same at by k n (behind_of f) (Some d) e)

module _ (v : Words) (name : Place → Name) where
  -- the word of a use, by its goal
  abbrev pub word_for : Goal → Name → Name
  word_for (Decl d) x = v d x
  word_for _ x = x

  word_stays : (g : Goal) (x : Name) → ((d : Place) → g ≡ Decl d → v d x ≡ x) → word_for g x ≡ x
  word_stays (Decl d) x h = h d refl
  word_stays Outside x h = refl
  word_stays Missing x h = refl
  word_stays Hidden x h = refl
  word_stays (Blur by n b) x h = refl

  -- a use finds its goal after respelling, and what it sees through Dark entries keeps its word
  pub record UseKeeps (x : Name) (g : Goal) (again : Name → Goal) : Type 0 where
    pub same : again (word_for g x) ≡ g
    pub behind : (by : Place) (n : ℕ) (d : Place) → g ≡ Blur by n (Some d) → v d x ≡ x

  abbrev pub AloneKeeps : Name → Entries → Type 0
  AloneKeeps x sc = UseKeeps x (value_at sc x) (value_at (spell_entries v sc))

  abbrev pub UnderKeeps : Name → Shape → Type 0
  UnderKeeps x s = UseKeeps x (value_in s x) (value_in (spell_shape v s))

  -- each use keeps its goal, and `P` holds of each link
  abbrev pub KeepsAll : (Told → Type 0) → Steps → Type 0
  KeepsAll P quiet = Unit {0}
  KeepsAll P (a ⨾ b) = KeepsAll P a × KeepsAll P b
  KeepsAll P (UseAlone at x sc) = AloneKeeps x sc
  KeepsAll P (UseUnder at x s) = UnderKeeps x s
  KeepsAll P (MatchOf s t) = Each P (matched tell s t).told
  KeepsAll P (PinOf s) = Each P (pin tell s).told
  KeepsAll P (TieOf p q) = Each P (tied tell p q & tied tell q p).told
  KeepsAll P (GroupOf es) = Unit {0}
  KeepsAll P (WeighedSite at s) = Unit {0}
  KeepsAll P (OpenedSite at s) = Unit {0}
  KeepsAll P UnitStart = Unit {0}

  -- ---- uses

  module _ (o : Goal) (no_decl : (d : Place) → Decl d ≡ o → ⊥) (no_blur : (by : Place) (n : ℕ) (b : Option Place) → Blur by n b ≡ o → ⊥)
      (m : Parts) (h : Fines v name m) (x : Name) where
    abbrev g : Goal
    g = or_value (find_val (olds m) x) o

    abbrev g' : Goal
    g' = or_value (find_val (news m) x) o

    module _ (k : UseKeeps x g (λ y. or_value (find_val (spell_entries v (olds m)) y) o)) where
      new_last : (d : Place) → last_of (vals (news m)) x ≡ Some (Decl d) → (by : Place) (n : ℕ) → g ≡ Blur by n (behind_of (was x m)) → v d x ≡ x
      new_last d e by n i =
          elim (behind_is v name m h x d (last_of (vals (expand (behind x m))) x) refl (sym (finds x m) ∙ e))
          [ inl q ↦ q | inr q ↦ k.behind by n d (i ∙ ap (λ f. Blur by n (behind_of f)) q) ]

      same_goal : passed (olds m) x ≡ [] → find_val (news m) x ≡ find_val (olds m) x
      same_goal e =
          found x m ∙ ap (λ l. through x l (was x m)) (nothing_passed v x m e)
          ∙ sym (ap (λ l. seen (was x m) (last_place l) (length l)) e)

      is_blur : (at : Place) (p : List Place) → passed (olds m) x ≡ at ∷ p
          → (by : Place) × (g ≡ Blur by (length (passed (olds m) x)) (behind_of (was x m)))
      is_blur at p e =
          let b = last_some p at in
          (b.0, ap (λ q. or_value (seen (was x m) q (length (passed (olds m) x))) o) (ap last_place e ∙ b.1))

      decl_word : (p : List Place) → passed (olds m) x ≡ p → word_for g' x ≡ word_for g x
      decl_word [] e = ap (λ f. word_for (or_value f o) x) (same_goal e)
      decl_word (at ∷ p) e =
          let b = is_blur at p e in
          word_stays g' x (λ d i.
          new_last d (decl_seen o no_decl no_blur (last_of (vals (news m)) x) (last_place (passed (news m) x)) (length (passed (news m) x)) d i) b.0
          (length (passed (olds m) x)) b.1)
          ∙ sym (ap (λ z. word_for z x) b.1)

      unless : (p : List Place) → passed (olds m) x ≡ p → (passed (olds m) x ≡ []) ⊎ (word_for g x ≡ x)
      unless [] e = inl e
      unless (at ∷ p) e = let b = is_blur at p e in inr (ap (λ z. word_for z x) b.1)

      same_new : or_value (find_val (spell_entries v (news m)) (word_for g' x)) o ≡ g'
      same_new =
          let named = named_olds v name m h in
          ap (λ y. or_value (find_val (spell_entries v (news m)) y) o) (decl_word (passed (olds m) x) refl)
          ∙ ap (λ f. or_value f o)
          (found_stays v name m h x (word_for g x)
          (found_same o no_decl no_blur (olds m) (spell_entries v (olds m)) x (word_for g x) named (named_spells v (olds m) named) k.same)
          (unless (passed (olds m) x) refl))

      behind_new : (p : List Place) → passed (olds m) x ≡ p → (by : Place) (n : ℕ) (d : Place) → g' ≡ Blur by n (Some d) → v d x ≡ x
      behind_new [] e by n d i = k.behind by n d (ap (λ f. or_value f o) (sym (same_goal e)) ∙ i)
      behind_new (at ∷ p) e by n d i =
          let b = is_blur at p e in
          new_last d
          (blur_seen o no_decl no_blur (last_of (vals (news m)) x) (last_place (passed (news m) x)) (length (passed (news m) x)) n by d
          (declared (news m) (named_news v name m h) x) i) b.0 (length (passed (olds m) x)) b.1

      back_from : (p : List Place) → passed (olds m) x ≡ p → (d : Place) → g' ≡ Decl d → (g ≡ Decl d) ⊎ (v d x ≡ x)
      back_from [] e d i = inl (ap (λ f. or_value f o) (sym (same_goal e)) ∙ i)
      back_from (at ∷ p) e d i =
          let b = is_blur at p e in
          inr (new_last d (decl_seen o no_decl no_blur (last_of (vals (news m)) x) (last_place (passed (news m) x))
          (length (passed (news m) x)) d i) b.0
          (length (passed (olds m) x)) b.1)

      -- the use has the word that it had
      pub use_word : word_for g' x ≡ word_for g x
      use_word = decl_word (passed (olds m) x) refl

      -- a declaration that is found now was found before, or keeps its word
      pub use_back : (d : Place) → g' ≡ Decl d → (g ≡ Decl d) ⊎ (v d x ≡ x)
      use_back d e = back_from (passed (olds m) x) refl d e

      pub use_new : UseKeeps x g' (λ y. or_value (find_val (spell_entries v (news m)) y) o)
      use_new = record { same = same_new; behind = λ by n d e. behind_new (passed (olds m) x) refl by n d e }

  -- ---- the outside modules in a scope

  base_find : (us : Outsides) (es : Entries) (y : Name) → find_val (base us ⊕ es) y ≡ find_val es y
  base_find [] es y = refl
  base_find (e ∷ us) es y = base_find us es y

  base_spelled : (us : Outsides) → AreKept v us us → spell_entries v (base us) ≡ base us
  base_spelled us k = by us us k
    where
      by : (all us : Outsides) → AreKept v all us → spell_entries v (base us) ≡ base us
      by all [] k = refl
      by all (e ∷ us) k =
          ap (λ t. a_mod e.0 (Struct t) (spell_entries v (base us))) (spell_block v e.1 k.0) ∙ ap (a_mod e.0 (Struct (block e.1))) (by all us k.1)

  spelled_find : (us : Outsides) → AreKept v us us → (es : Entries) (y : Name)
      → find_val (spell_entries v (base us ⊕ es)) y ≡ find_val (spell_entries v es) y
  spelled_find us k es y =
      ap (λ l. find_val l y) (spell-append v (base us) es) ∙ ap (λ l. find_val (l ⊕ spell_entries v es) y) (base_spelled us k)
      ∙ base_find us (spell_entries v es) y

  outside_decl : (d : Place) → Decl d ≡ Outside → ⊥
  outside_decl d e = cc

  outside_blur : (by : Place) (n : ℕ) (b : Option Place) → Blur by n b ≡ Outside → ⊥
  outside_blur by n b e = cc

  missing_decl : (d : Place) → Decl d ≡ Missing → ⊥
  missing_decl d e = cc

  missing_blur : (by : Place) (n : ℕ) (b : Option Place) → Blur by n b ≡ Missing → ⊥
  missing_blur by n b e = cc

  alone_new : (us : Outsides) → AreKept v us us → (m : Parts) → Fines v name m → (x : Name) → AloneKeeps x (olds m) → AloneKeeps x (base us ⊕ news m)
  alone_new us a m h x k =
      let n = use_new Outside outside_decl outside_blur m h x k in
      let same : value_at (base us ⊕ news m) x ≡ value_at (news m) x = ap (λ f. or_value f Outside) (base_find us (news m) x) in
      record {
        same =
            ap (λ z. value_at (spell_entries v (base us ⊕ news m)) (word_for z x)) same
            ∙ ap (λ f. or_value f Outside) (spelled_find us a (news m) (word_for (value_at (news m) x) x)) ∙ (n.same ∙ sym same);
        behind = λ by j d e. n.behind by j d (sym same ∙ e);
      }

  alone_back : (us : Outsides) → AreKept v us us → (m : Parts) → Fines v name m → (x : Name) → AloneKeeps x (olds m) → (d : Place)
      → value_at (base us ⊕ news m) x ≡ Decl d → (value_at (olds m) x ≡ Decl d) ⊎ (v d x ≡ x)
  alone_back us a m h x k d e =
      use_back Outside outside_decl outside_blur m h x k d (sym (ap (λ f. or_value f Outside) (base_find us (news m) x)) ∙ e)

  alone_word : (us : Outsides) → AreKept v us us → (m : Parts) → Fines v name m → (x : Name) → AloneKeeps x (olds m)
      → word_for (value_at (base us ⊕ news m) x) x ≡ word_for (value_at (olds m) x) x
  alone_word us a m h x k =
      ap (λ f. word_for (or_value f Outside) x) (base_find us (news m) x) ∙ use_word Outside outside_decl outside_blur m h x k

  -- ---- under a module that is filled in

  block_passed : (vs : Values) (x : Name) → passed (block vs) x ≡ []
  block_passed [] x = refl
  block_passed (e ∷ vs) x = block_passed vs x

  block_vals : (vs : Values) → vals (block vs) ≡ vs
  block_vals [] = refl
  block_vals (e ∷ vs) = ap (λ l. e ∷ l) (block_vals vs)

  block_goal : (vs : Values) (x : Name) → value_in (Struct (block vs)) x ≡ or_value (last_of (vals (block vs)) x) Missing
  block_goal vs x = ap (λ l. or_value (seen (last_of (vals (block vs)) x) (last_place l) (length l)) Missing) (block_passed vs x)

  plain_decl : (f : Option Goal) (d : Place) → or_value f Missing ≡ Decl d → f ≡ Some (Decl d)
  plain_decl None d e = absurd cc
  plain_decl (Some g) d e = ap Some e

  plain_blur : (f : Option Goal) (by : Place) (n : ℕ) (b : Option Place) → IsDeclared f → or_value f Missing ≡ Blur by n b → ⊥
  plain_blur None by n b h e = cc
  plain_blur (Some g) by n b h e = never_blur (Some g) by n b h (ap Some e)

  filled_word : (vs : Values) → KeptBlock v vs → (x : Name) (d : Place) → value_in (Struct (block vs)) x ≡ Decl d → v d x ≡ x
  filled_word vs k x d e =
      kept_or v name x d vs None k (λ i. absurd cc)
      (ap (λ l. last_of l x) (sym (block_vals vs)) ∙ plain_decl (last_of (vals (block vs)) x) d (sym (block_goal vs x) ∙ e))

  filled_new : (vs : Values) → KeptBlock v vs → (x : Name) → UnderKeeps x (Struct (block vs))
  filled_new vs k x =
      let g = value_in (Struct (block vs)) x in
      let word : word_for g x ≡ x = word_stays g x (λ d e. filled_word vs k x d e) in
      record {
        same = ap (λ es. value_in (Struct es) (word_for g x)) (spell_block v vs k) ∙ ap (λ y. value_in (Struct (block vs)) y) word;
        behind = λ by n d e.
            absurd (plain_blur (last_of (vals (block vs)) x) by n (Some d) (declared (block vs) (block_named v vs k) x) (sym (block_goal vs x) ∙ e));
      }

  under_new : (t : Twofold) → Fine v name t → (x : Name) → UnderKeeps x (old t) → UnderKeeps x (new t)
  under_new (Known m) h x k = use_new Missing missing_decl missing_blur m h x k
  under_new (Maps p r) h x k = record { same = refl; behind = λ by n d e. absurd cc }
  under_new (Makes r) h x k = record { same = refl; behind = λ by n d e. absurd cc }
  under_new Unknown h x k = record { same = refl; behind = λ by n d e. absurd cc }
  under_new (Filled vs) h x k = filled_new vs h x

  under_back : (t : Twofold) → Fine v name t → (x : Name) → UnderKeeps x (old t) → (d : Place) → value_in (new t) x ≡ Decl d
      → (value_in (old t) x ≡ Decl d) ⊎ (v d x ≡ x)
  under_back (Known m) h x k d e = use_back Missing missing_decl missing_blur m h x k d e
  under_back (Maps p r) h x k d e = absurd cc
  under_back (Makes r) h x k d e = absurd cc
  under_back Unknown h x k d e = absurd cc
  under_back (Filled vs) h x k d e = inr (filled_word vs h x d e)

  under_word : (t : Twofold) → Fine v name t → (x : Name) → UnderKeeps x (old t) → word_for (value_in (new t) x) x ≡ word_for (value_in (old t) x) x
  under_word (Known m) h x k = use_word Missing missing_decl missing_blur m h x k
  under_word (Maps p r) h x k = refl
  under_word (Makes r) h x k = refl
  under_word Unknown h x k = refl
  under_word (Filled vs) h x k = word_stays (value_in (Struct (block vs)) x) x (λ d e. filled_word vs h x d e)

  -- ---- names and what is kept

  abbrev pub Nm : Bool → Place → Name → Type 0
  Nm b d x = name d ≡ x

  has_name : (g : Goal) (x : Name) → IsNamed Nm g x → HasName name g x
  has_name (Decl d) x h = h
  has_name Outside x h = absurd h
  has_name Missing x h = absurd h
  has_name Hidden x h = absurd h
  has_name (Blur by n b) x h = absurd h

  module _ (us : Outsides) where
    mutual
      pub fine_of : (t : Twofold) → NamedShape Nm (old t) → Kept v us t → Fine v name t
      fine_of (Known m) h k = fines_of m h k
      fine_of (Maps p r) h k = (fine_of p h.0 k.0, fine_of r h.1 k.1)
      fine_of (Makes r) h k = fine_of r h k
      fine_of Unknown h k = tt
      fine_of (Filled vs) h k = k

      pub fines_of : (m : Parts) → Named Nm (olds m) → Kepts v us m → Fines v name m
      fines_of end h k = tt
      fines_of (val x g m) h k = (has_name g x h.0, fines_of m h.1 k)
      fines_of (mod_of X s m) h k = (fine_of s h.0 k.0, fines_of m h.1 k.1)
      fines_of (mty_of S s m) h k = (fine_of s h.0 k.0, fines_of m h.1 k.1)
      fines_of (dark at m) h k = fines_of m h k
      fines_of (filled at vs m) h k = (k.0, fines_of m h k.1)

  -- ---- depths

  block_depth : (vs : Values) (es : Entries) → depths (block vs ⊕ es) ≡ depths es
  block_depth [] es = refl
  block_depth (e ∷ vs) es = block_depth vs es

  block_flat : (vs : Values) → depths (block vs) ≡ 0
  block_flat [] = refl
  block_flat (e ∷ vs) = block_flat vs

  mutual
    same_depth : (t : Twofold) → depth (new t) ≡ depth (old t)
    same_depth (Known m) = same_depths m
    same_depth (Maps p r) = ap (λ n. max n (depth (new r)) + 1) (same_depth p) ∙ ap (λ n. max (depth (old p)) n + 1) (same_depth r)
    same_depth (Makes r) = ap (λ n. n + 1) (same_depth r)
    same_depth Unknown = refl
    same_depth (Filled vs) = block_flat vs

    same_depths : (m : Parts) → depths (news m) ≡ depths (olds m)
    same_depths end = refl
    same_depths (val x g m) = same_depths m
    same_depths (mod_of X s m) = ap (λ n. max (n + 1) (depths (news m))) (same_depth s) ∙ ap (λ n. max (depth (old s) + 1) n) (same_depths m)
    same_depths (mty_of S s m) = ap (λ n. max (n + 1) (depths (news m))) (same_depth s) ∙ ap (λ n. max (depth (old s) + 1) n) (same_depths m)
    same_depths (dark at m) = same_depths m
    same_depths (filled at vs m) = block_depth vs (news m) ∙ same_depths m

  match_new : (a b : Twofold) → Fine v name a → Fine v name b → Each (Stays v name) (matched tell (old a) (old b)).told
      → Each (Keeps v) (matched tell (new a) (new b)).told
  unfolding matched
  match_new a b fa fb h =
      let n : suc (depth (old a) + depth (old b)) ≡ suc (depth (new a) + depth (new b)) =
      sym (ap (λ i. suc (i + depth (new b))) (same_depth a) ∙ ap (λ i. suc (depth (old a) + i)) (same_depth b)) in
      subst (λ i. Each (Keeps v) (match_to tell i (new a) (new b)).told) n (grows_to v name (suc (depth (old a) + depth (old b))) a b fa fb h)

  each_weaker : (ts : List Told) → Each (Stays v name) ts → Each (Keeps v) ts
  each_weaker [] h = tt
  each_weaker (t ∷ ts) h = (h.0.keeps, each_weaker ts h.1)

  -- ---- steps

  module _ (us : Outsides) (a : AreKept v us us) where
    pub steps_new : (ss ss' : Steps) → Alike own_number (Scopes v us) Equal (Shapes v us) ss ss' → NamedSteps Nm ss → KeepsAll (Stays v name) ss
        → KeepsAll (Keeps v) ss'
    steps_new _ _ quiet_alike n k = tt
    steps_new _ _ (then_alike x x' y y' p q) n k = (steps_new x x' p n.0 k.0, steps_new y y' q n.1 k.1)
    steps_new _ _ (alone_alike at x sc sc' c) n k =
        let named = subst (Named Nm) (sym c.was) n.1 in
        subst (AloneKeeps x) c.is (alone_new us a c.parts (fines_of us c.parts named c.kept) x (subst (AloneKeeps x) (sym c.was) k))
    steps_new _ _ (under_alike at x s s' c) n k =
        let named = subst (NamedShape Nm) (sym c.was) n.1 in
        subst (UnderKeeps x) c.is (under_new c.two (fine_of us c.two named c.kept) x (subst (UnderKeeps x) (sym c.was) k))
    steps_new _ _ (match_alike s s' t t' c d) n k =
        let ns = subst (NamedShape Nm) (sym c.was) n.0 in
        let nt = subst (NamedShape Nm) (sym d.was) n.1 in
        let before : Each (Stays v name) (matched tell (old c.two) (old d.two)).told =
        subst (λ z. Each (Stays v name) (matched tell z (old d.two)).told) (sym c.was)
        (subst (λ z. Each (Stays v name) (matched tell s z).told) (sym d.was) k) in
        subst (λ z. Each (Keeps v) (matched tell z t').told) c.is
        (subst (λ z. Each (Keeps v) (matched tell (new c.two) z).told) d.is
        (match_new c.two d.two (fine_of us c.two ns c.kept) (fine_of us d.two nt d.kept) before))
    steps_new _ _ (pin_alike s s' c) n k =
        let named = subst (NamedShape Nm) (sym c.was) n in
        let f = fine_of us c.two named c.kept in
        subst (λ z. Each (Keeps v) (pin tell z).told) c.is
        (keeps_pin v (new c.two) (deep_new v name c.two f
        (deep_from v name (old c.two) (subst (λ z. Each (Stays v name) (pin tell z).told) (sym c.was) k))))
    steps_new _ _ (tie_alike p p' q q' e i) n k =
        subst (λ z. Each (Keeps v) (tied tell z q' & tied tell q' z).told) e
        (subst (λ z. Each (Keeps v) (tied tell p z & tied tell z p).told) i (each_weaker (tied tell p q & tied tell q p).told k))
    steps_new _ _ (group_alike es es' e) n k = tt
    steps_new _ _ (weighed_alike at at' s s') n k = tt
    steps_new _ _ (opened_alike at at' s s') n k = tt
    steps_new _ _ start_alike n k = tt

    module _ (P : Place → Type 0) (d : Place) (changed : v d (name d) ≡ name d → ⊥) where
      abbrev pub IsUse : Ref → Type 0
      IsUse u = u.goal ≡ Decl d → P u.at

      back_use : (at : Place) (x : Name) (g g' : Goal) → NamedGoal (Nm) g' x → (g' ≡ Decl d → (g ≡ Decl d) ⊎ (v d x ≡ x)) → (g ≡ Decl d → P at)
          → g' ≡ Decl d → P at
      back_use at x g g' n b u e =
          elim (b e) [ inl i ↦ u i | inr i ↦ absurd (changed (subst (λ y. v d y ≡ y) (sym (subst (λ z. NamedGoal Nm z x) e n)) i)) ]

      -- a use of a declaration that changes was one before
      pub uses_back : (ss ss' : Steps) → Alike own_number (Scopes v us) Equal (Shapes v us) ss ss' → NamedSteps Nm ss → NamedSteps Nm ss'
          → KeepsAll (Stays v name) ss
          → Each IsUse (refs_of ss) → Each IsUse (refs_of ss')
      uses_back _ _ quiet_alike n m k u = tt
      uses_back _ _ (then_alike x x' y y' p q) n m k u =
          each_joined IsUse (refs_of x') (refs_of y') (uses_back x x' p n.0 m.0 k.0 (each_front IsUse (refs_of x) (refs_of y) u))
          (uses_back y y' q n.1 m.1 k.1 (each_back IsUse (refs_of x) (refs_of y) u))
      uses_back _ _ (alone_alike at x sc sc' c) n m k u =
          let named = subst (Named Nm) (sym c.was) n.1 in (
            back_use at x (value_at sc x) (value_at sc' x) (found_named Nm sc' x Outside m.1 tt)
                (subst (λ l. value_at l x ≡ Decl d → (value_at sc x ≡ Decl d) ⊎ (v d x ≡ x)) c.is
                (subst (λ l. value_at (base us ⊕ news c.parts) x ≡ Decl d → (value_at l x ≡ Decl d) ⊎ (v d x ≡ x)) c.was
                (alone_back us a c.parts (fines_of us c.parts named c.kept) x (subst (AloneKeeps x) (sym c.was) k) d))) u.0,
            tt,
          )
      uses_back _ _ (under_alike at x s s' c) n m k u =
          let named = subst (NamedShape Nm) (sym c.was) n.1 in (
            back_use at x (value_in s x) (value_in s' x) (under_named Nm s' x m.1)
                (subst (λ l. value_in l x ≡ Decl d → (value_in s x ≡ Decl d) ⊎ (v d x ≡ x)) c.is
                (subst (λ l. value_in (new c.two) x ≡ Decl d → (value_in l x ≡ Decl d) ⊎ (v d x ≡ x)) c.was
                (under_back c.two (fine_of us c.two named c.kept) x (subst (UnderKeeps x) (sym c.was) k) d))) u.0,
            tt,
          )
      uses_back _ _ (match_alike s s' t t' c e) n m k u = tt
      uses_back _ _ (pin_alike s s' c) n m k u = tt
      uses_back _ _ (tie_alike p p' q q' e i) n m k u = tt
      uses_back _ _ (group_alike es es' e) n m k u = tt
      uses_back _ _ (weighed_alike at at' s s') n m k u = tt
      uses_back _ _ (opened_alike at at' s s') n m k u = tt
      uses_back _ _ start_alike n m k u = tt

    -- the groups are the same
    pub groups_alike : (ss ss' : Steps) → Alike own_number (Scopes v us) Equal (Shapes v us) ss ss' → groups_of ss' ≡ groups_of ss
    groups_alike _ _ quiet_alike = refl
    groups_alike _ _ (then_alike x x' y y' p q) = ap (λ l. l ++ groups_of y') (groups_alike x x' p) ∙ ap (λ l. groups_of x ++ l) (groups_alike y y' q)
    groups_alike _ _ (alone_alike at x sc sc' c) = refl
    groups_alike _ _ (under_alike at x s s' c) = refl
    groups_alike _ _ (match_alike s s' t t' c e) = refl
    groups_alike _ _ (pin_alike s s' c) = refl
    groups_alike _ _ (tie_alike p p' q q' e i) = refl
    groups_alike _ _ (group_alike es es' e) = ap (λ z. z ∷ []) (sym e)
    groups_alike _ _ (weighed_alike at at' s s') = refl
    groups_alike _ _ (opened_alike at at' s s') = refl
    groups_alike _ _ start_alike = refl

    -- a use takes the word that it takes without the outside modules
    module _ (w W : Words) where
      abbrev pub HasWord : Words → Ref → Type 0
      HasWord u r = (x : Name) → u r.at x ≡ word_for r.goal x

      abbrev pub TakesSame : Ref → Type 0
      TakesSame r = w r.at (name r.at) ≡ W r.at (name r.at)

      pub uses_take : (ss ss' : Steps) → Alike own_number (Scopes v us) Equal (Shapes v us) ss ss' → NamedSteps Nm ss → KeepsAll (Stays v name) ss
          → Each (HasWord W) (refs_of ss) → Each (HasWord w) (refs_of ss') → Each TakesSame (refs_of ss)
      uses_take _ _ quiet_alike n k h i = tt
      uses_take _ _ (then_alike x x' y y' p q) n k h i =
          each_joined TakesSame (refs_of x) (refs_of y)
          (uses_take x x' p n.0 k.0 (each_front (HasWord W) (refs_of x) (refs_of y) h) (each_front (HasWord w) (refs_of x') (refs_of y') i))
          (uses_take y y' q n.1 k.1 (each_back (HasWord W) (refs_of x) (refs_of y) h) (each_back (HasWord w) (refs_of x') (refs_of y') i))
      uses_take _ _ (alone_alike at x sc sc' c) n k h i =
          let named = subst (Named Nm) (sym c.was) n.1 in
          let same : word_for (value_at sc' x) x ≡ word_for (value_at sc x) x =
          subst (λ l. word_for (value_at l x) x ≡ word_for (value_at sc x) x) c.is
          (subst (λ l. word_for (value_at (base us ⊕ news c.parts) x) x ≡ word_for (value_at l x) x) c.was
          (alone_word us a c.parts (fines_of us c.parts named c.kept) x (subst (AloneKeeps x) (sym c.was) k))) in
          (subst (λ z. w at z ≡ W at z) (sym n.0) (i.0 x ∙ (same ∙ sym (h.0 x))), tt)
      uses_take _ _ (under_alike at x s s' c) n k h i =
          let named = subst (NamedShape Nm) (sym c.was) n.1 in
          let same : word_for (value_in s' x) x ≡ word_for (value_in s x) x =
          subst (λ l. word_for (value_in l x) x ≡ word_for (value_in s x) x) c.is
          (subst (λ l. word_for (value_in (new c.two) x) x ≡ word_for (value_in l x) x) c.was
          (under_word c.two (fine_of us c.two named c.kept) x (subst (UnderKeeps x) (sym c.was) k))) in
          (subst (λ z. w at z ≡ W at z) (sym n.0) (i.0 x ∙ (same ∙ sym (h.0 x))), tt)
      uses_take _ _ (match_alike s s' t t' c e) n k h i = tt
      uses_take _ _ (pin_alike s s' c) n k h i = tt
      uses_take _ _ (tie_alike p p' q q' e j) n k h i = tt
      uses_take _ _ (group_alike es es' e) n k h i = tt
      uses_take _ _ (weighed_alike at at' s s') n k h i = tt
      uses_take _ _ (opened_alike at at' s s') n k h i = tt
      uses_take _ _ start_alike n k h i = tt
