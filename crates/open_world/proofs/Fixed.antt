-- Lists whose visible values keep their words, and whose hidden values stay hidden: each name finds the same in them.
use Rattle.std.proofs.Common.{◌≡◌, Bool, true, false, [], ◌∷◌, Option, Some, None, length, refl, sym, ap, ◌∙◌}
use Rattle.std.specs.Prelude.{bytes_eq}
use Rattle.std.proofs.lemmas.Slice.Eq.{bytes_eq-Decides}
use Rattle.rotor_base.specs.declared.place.Place.{Place}
use Rattle.rotor_base.specs.declared.place.Goal.{Goal}
use Rattle.rotor_base.specs.declared.place.Goal.TheVariants.{Decl, Outside, Missing, Hidden, Blur}
use Rattle.rotor_base.proofs.Rising.{some_is}
use Rattle.shape_core.specs.Shape.{Name, Shape, Struct, Functor, Unitary, Opaque, Entries, none, a_val, a_mod, a_mty, a_dark, ◌⊕◌, vals, or_else}
use Rattle.shape_core.specs.Shape.{some_if, unless_some, last_of, passed, last_place, seen, find_val, find_mod, find_mty}
use Rattle.shape_core.specs.Respell.{Words, spell_at, spell_entries, over}
use Rattle.open_world.proofs.Twofold.{Values, block, Twofold, Known, Maps, Makes, Unknown, Filled, Parts, end, val, mod_of, mty_of, dark, filled}
use Rattle.open_world.proofs.Twofold.{old, olds}
use Rattle.open_world.proofs.Twofold.{new, news, KeptGoal, KeptBlock, Fine, Fines, old_mod, new_mod, old_mty, new_mty, twofold_mods, twofold_mtys}
use Rattle.open_world.proofs.Seen.{finds, was, behind, expand}

abbrev pub is_none : {V : Type 0} → Option V → Bool
is_none o = unless_some o true false

pub none_is : {V : Type 0} (o : Option V) → is_none o ≡ true → o ≡ None
none_is None e = refl
none_is (Some v) e = absurd cc

false_if : (b : Bool) → (b ≡ true → ⊥) → b ≡ false
false_if true h = absurd (h refl)
false_if false h = refl

module _ (w : Words) where
  -- a value is hidden before and after, or keeps its word
  pub record FixedVal (x : Name) (g : Goal) (es : Entries) : Type 0 where
    pub hid : is_none (last_of (vals (spell_entries w es)) (spell_at w g x)) ≡ is_none (last_of (vals es) x)
    pub word : last_of (vals es) x ≡ None → spell_at w g x ≡ x

  abbrev pub Fixed : Entries → Type 0
  Fixed none = Unit {0}
  Fixed (a_val x g es) = FixedVal x g es × Fixed es
  Fixed (a_mod X s es) = Fixed es
  Fixed (a_mty S s es) = Fixed es
  Fixed (a_dark at es) = Fixed es

  module _ (x : Name) (g : Goal) (es : Entries) (f : FixedVal x g es)
      (same : (z : Name) → last_of (vals (spell_entries w es)) z ≡ last_of (vals es) z)
      (z : Name) where
    off : (k : Goal) → last_of (vals es) z ≡ None → last_of (vals es) x ≡ Some k → bytes_eq x z ≡ false
    off k e h = false_if (bytes_eq x z) (λ t.
        let is : x ≡ z = (bytes_eq-Decides x z).0 t in
        let wrong : Some k ≡ None = sym h ∙ (ap (λ n. last_of (vals es) n) is ∙ e) in absurd cc)

    off_too : (k : Goal) → last_of (vals es) z ≡ None → last_of (vals es) x ≡ Some k → bytes_eq (spell_at w g x) z ≡ false
    off_too k e h = false_if (bytes_eq (spell_at w g x) z) (λ t.
        let is : spell_at w g x ≡ z = (bytes_eq-Decides (spell_at w g x) z).0 t in
        let there : is_none (last_of (vals (spell_entries w es)) (spell_at w g x)) ≡ true =
        ap (λ n. is_none (last_of (vals (spell_entries w es)) n)) is ∙ ap is_none (same z ∙ e) in
        let wrong : true ≡ false = sym there ∙ (f.hid ∙ ap is_none h) in absurd cc)

    shown : (o : Option Goal) → last_of (vals es) z ≡ None → last_of (vals es) x ≡ o
        → some_if (bytes_eq (spell_at w g x) z) g ≡ some_if (bytes_eq x z) g
    shown None e h = ap (λ n. some_if (bytes_eq n z) g) (f.word h)
    shown (Some k) e h = ap (λ b. some_if b g) (off_too k e h ∙ sym (off k e h))

    one_last : (o : Option Goal) → last_of (vals es) z ≡ o
        → or_else o (some_if (bytes_eq (spell_at w g x) z) g) ≡ or_else o (some_if (bytes_eq x z) g)
    one_last (Some k) e = refl
    one_last None e = shown (last_of (vals es) x) e refl

  -- each name finds the same value
  pub same_last : (es : Entries) → Fixed es → (z : Name) → last_of (vals (spell_entries w es)) z ≡ last_of (vals es) z
  same_last none f z = refl
  same_last (a_val x g es) f z =
      ap (λ o. or_else o (some_if (bytes_eq (spell_at w g x) z) g)) (same_last es f.1 z)
      ∙ one_last x g es f.0 (same_last es f.1) z (last_of (vals es) z) refl
  same_last (a_mod X s es) f z = same_last es f z
  same_last (a_mty S s es) f z = same_last es f z
  same_last (a_dark at es) f z = same_last es f z

  same_passed : (es : Entries) → Fixed es → (z : Name) → passed (spell_entries w es) z ≡ passed es z
  same_passed none f z = refl
  same_passed (a_val x g es) f z = same_passed es f.1 z
  same_passed (a_mod X s es) f z = same_passed es f z
  same_passed (a_mty S s es) f z = same_passed es f z
  same_passed (a_dark at es) f z =
      let P = passed (spell_entries w es) z in
      ap (λ o. unless_some o (at ∷ P) P) (same_last es f z) ∙ ap (λ l. unless_some (last_of (vals es) z) (at ∷ l) l) (same_passed es f z)

  pub same_find : (es : Entries) → Fixed es → (z : Name) → find_val (spell_entries w es) z ≡ find_val es z
  same_find es f z =
      ap (λ o. seen o (last_place (passed (spell_entries w es) z)) (length (passed (spell_entries w es) z))) (same_last es f z)
      ∙ ap (λ l. seen (last_of (vals es) z) (last_place l) (length l)) (same_passed es f z)

  found_here : (x y : Name) (g k : Goal) (es : Entries) (f : FixedVal y g es) (b : Bool) → bytes_eq y x ≡ b → last_of (vals es) x ≡ None
      → some_if b g ≡ Some k → spell_at w k x ≡ x
  found_here x y g k es f false e n h = absurd cc
  found_here x y g k es f true e n h =
      let is : y ≡ x = (bytes_eq-Decides y x).0 e in
      let word : spell_at w g y ≡ y = f.word (ap (λ z. last_of (vals es) z) is ∙ n) in
      ap (λ z. spell_at w z x) (sym (some_is g k h)) ∙ (ap (spell_at w g) (sym is) ∙ (word ∙ is))

  found_in : (x y : Name) (g k : Goal) (es : Entries) (f : FixedVal y g es) (o : Option Goal) → last_of (vals es) x ≡ o
      → (o ≡ Some k → spell_at w k x ≡ x) → or_else o (some_if (bytes_eq y x) g) ≡ Some k → spell_at w k x ≡ x
  found_in x y g k es f (Some j) e ih h = ih h
  found_in x y g k es f None e ih h = found_here x y g k es f (bytes_eq y x) refl e h

  -- what a name finds keeps its word
  pub found_word : (es : Entries) → Fixed es → (x : Name) (k : Goal) → last_of (vals es) x ≡ Some k → spell_at w k x ≡ x
  found_word none f x k e = absurd cc
  found_word (a_val y g es) f x k e = found_in x y g k es f.0 (last_of (vals es) x) refl (found_word es f.1 x k) e
  found_word (a_mod X s es) f x k e = found_word es f x k e
  found_word (a_mty S s es) f x k e = found_word es f x k e
  found_word (a_dark at es) f x k e = found_word es f x k e

  -- ---- shapes

  abbrev mutual
    -- the same of what is visible in a shape
    pub Deep : Shape → Type 0
    Deep (Struct es) = Fixed es × DeepMods es
    Deep (Functor p r) = Deep p × Deep r
    Deep (Unitary r) = Deep r
    Deep Opaque = Unit {0}

    pub DeepMods : Entries → Type 0
    DeepMods none = Unit {0}
    DeepMods (a_val x g es) = DeepMods es
    DeepMods (a_mod X s es) = (find_mod es X ≡ None → Deep s) × DeepMods es
    DeepMods (a_mty S s es) = (find_mty es S ≡ None → Deep s) × DeepMods es
    DeepMods (a_dark at es) = DeepMods es

  -- ---- what is filled in

  kept_word : (g : Goal) (x : Name) → KeptGoal w g x → spell_at w g x ≡ x
  kept_word (Decl d) x k = k
  kept_word Outside x k = absurd k
  kept_word Missing x k = absurd k
  kept_word Hidden x k = absurd k
  kept_word (Blur by n o) x k = absurd k

  -- the words of a block stay
  pub spell_block : (vs : Values) → KeptBlock w vs → spell_entries w (block vs) ≡ block vs
  spell_block [] k = refl
  spell_block (e ∷ vs) k = ap (λ y. a_val y e.1 (spell_entries w (block vs))) (kept_word e.1 e.0 k.0) ∙ ap (a_val e.0 e.1) (spell_block vs k.1)

  pub fixed_block : (vs : Values) → KeptBlock w vs → (es : Entries) → Fixed es → Fixed (block vs ⊕ es)
  fixed_block [] k es f = f
  fixed_block (e ∷ vs) k es f =
      let rest = fixed_block vs k.1 es f in
      let word = kept_word e.1 e.0 k.0 in (
        record {
          hid = ap (λ y. is_none (last_of (vals (spell_entries w (block vs ⊕ es))) y)) word ∙ ap is_none (same_last (block vs ⊕ es) rest e.0);
          word = λ n. word;
        },
        rest,
      )

  mods_block : (vs : Values) (es : Entries) → DeepMods es → DeepMods (block vs ⊕ es)
  mods_block [] es d = d
  mods_block (e ∷ vs) es d = mods_block vs es d

  none_behind : {V : Type 0} (a o : Option V) → or_else a o ≡ None → o ≡ None
  none_behind None o e = e
  none_behind (Some v) o e = absurd cc

  still_some : {V : Type 0} (a o : Option V) → is_none o ≡ false → is_none (or_else a o) ≡ false
  still_some None o e = e
  still_some (Some v) o e = refl

  -- a name of an old value is one of a new value
  there_too : (m : Parts) (x : Name) → is_none (last_of (vals (olds m)) x) ≡ false → is_none (last_of (vals (news m)) x) ≡ false
  there_too m x e = ap is_none (finds x m) ∙ still_some (last_of (vals (expand (behind x m))) x) (was x m) e

  module _ (x : Name) (g : Goal) (m : Parts) (f : FixedVal x g (olds m)) (olds_are : Fixed (olds m)) (news_are : Fixed (news m)) where
    new_hid : (o : Option Goal) → last_of (vals (olds m)) x ≡ o
        → is_none (last_of (vals (spell_entries w (news m))) (spell_at w g x)) ≡ is_none (last_of (vals (news m)) x)
    new_hid None e = ap (λ y. is_none (last_of (vals (spell_entries w (news m))) y)) (f.word e) ∙ ap is_none (same_last (news m) news_are x)
    new_hid (Some k) e =
        let y = spell_at w g x in
        let there : is_none (last_of (vals (olds m)) y) ≡ false = ap is_none (sym (same_last (olds m) olds_are y)) ∙ (f.hid ∙ ap is_none e) in
        ap is_none (same_last (news m) news_are y) ∙ (there_too m y there ∙ sym (there_too m x (ap is_none e)))

    pub new_val : FixedVal x g (news m)
    new_val = record {
      hid = new_hid (last_of (vals (olds m)) x) refl;
      word = λ e. f.word (none_behind (last_of (vals (expand (behind x m))) x) (was x m) (sym (finds x m) ∙ e));
    }

  -- a structure of values that is filled in
  deep_filled : (vs : Values) → KeptBlock w vs → Fixed (block vs) × DeepMods (block vs)
  deep_filled [] k = (tt, tt)
  deep_filled (e ∷ vs) k =
      let rest = deep_filled vs k.1 in
      let word = kept_word e.1 e.0 k.0 in (
        (
          record {
            hid = ap (λ y. is_none (last_of (vals (spell_entries w (block vs))) y)) word ∙ ap is_none (same_last (block vs) rest.0 e.0);
            word = λ n. word;
          },
          rest.0,
        ),
        rest.1,
      )

  module _ (name : Place → Name) where
    pub fixed_new : (m : Parts) → Fines w name m → Fixed (olds m) → Fixed (news m)
    fixed_new end h f = tt
    fixed_new (val x g m) h f = let rest = fixed_new m h.1 f.1 in (new_val x g m f.0 f.1 rest, rest)
    fixed_new (mod_of X s m) h f = fixed_new m h.1 f
    fixed_new (mty_of S s m) h f = fixed_new m h.1 f
    fixed_new (dark at m) h f = fixed_new m h f
    fixed_new (filled at vs m) h f = fixed_block vs h.0 (news m) (fixed_new m h.1 f)

    over_none : {U V : Type 0} (f : Twofold → U) (g : Twofold → V) (o : Option Twofold) → over f o ≡ None → over g o ≡ None
    over_none f g None e = refl
    over_none f g (Some s) e = absurd cc

    pub no_mod : (m : Parts) (X : Name) → find_mod (news m) X ≡ None → find_mod (olds m) X ≡ None
    no_mod m X e = old_mod m X ∙ over_none new old (last_of (twofold_mods m) X) (sym (new_mod m X) ∙ e)

    pub no_mty : (m : Parts) (S : Name) → find_mty (news m) S ≡ None → find_mty (olds m) S ≡ None
    no_mty m S e = old_mty m S ∙ over_none new old (last_of (twofold_mtys m) S) (sym (new_mty m S) ∙ e)

    mutual
      pub deep_new : (s : Twofold) → Fine w name s → Deep (old s) → Deep (new s)
      deep_new (Known m) h d = (fixed_new m h d.0, mods_new m h d.1)
      deep_new (Maps p r) h d = (deep_new p h.0 d.0, deep_new r h.1 d.1)
      deep_new (Makes r) h d = deep_new r h d
      deep_new Unknown h d = tt
      deep_new (Filled vs) h d = deep_filled vs h

      mods_new : (m : Parts) → Fines w name m → DeepMods (olds m) → DeepMods (news m)
      mods_new end h d = tt
      mods_new (val x g m) h d = mods_new m h.1 d
      mods_new (mod_of X s m) h d = (λ e. deep_new s h.0 (d.0 (no_mod m X e)), mods_new m h.1 d.1)
      mods_new (mty_of S s m) h d = (λ e. deep_new s h.0 (d.0 (no_mty m S e)), mods_new m h.1 d.1)
      mods_new (dark at m) h d = mods_new m h d
      mods_new (filled at vs m) h d = mods_block vs (news m) (mods_new m h.1 d)
