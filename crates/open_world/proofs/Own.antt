-- Steps of which each value keeps its word keep each goal and each link.
use Rattle.std.proofs.Common.{◌≡◌, ℕ, suc, ◌+◌, Bool, Option, Some, length, refl, ap, ◌∙◌}
use Rattle.rotor_base.specs.declared.place.Place.{Place}
use Rattle.rotor_base.specs.declared.place.Goal.{Goal}
use Rattle.rotor_base.specs.declared.place.Goal.TheVariants.{Decl, Outside, Missing, Hidden, Blur}
use Rattle.value_sites.specs.Each.{Each}
use Rattle.shape_core.specs.Shape.{Name, Shape, Struct, Functor, Unitary, Opaque, Entries, none, a_val, a_mod, a_mty, a_dark, vals, or_value, last_of}
use Rattle.shape_core.specs.Shape.{passed, last_place, find_val, depth}
use Rattle.shape_core.specs.Links.{one, matched}
use Rattle.shape_core.specs.Respell.{Words, spell_at, spell_shape, spell_entries}
use Rattle.binding_model.specs.Steps.{Steps, quiet, ◌⨾◌, UseAlone, UseUnder, MatchOf, PinOf, TieOf, GroupOf, WeighedSite, OpenedSite, UnitStart, tied}
use Rattle.binding_model.proofs.Named.{IsNamed, NamedShape, Named, NamedSteps}
use Rattle.open_world.proofs.Fixed.{is_none, FixedVal, Fixed, Deep, DeepMods, same_last, same_find, found_word}
use Rattle.open_world.proofs.Told.{tell, Any, declared, each_then, Keeps, keeps_found, keeps_pin, keeps_match}
use Rattle.open_world.proofs.Resolved.{word_for, AloneKeeps, UnderKeeps, KeepsAll, decl_seen, blur_seen}

module _ (v : Words) (name : Place → Name) where
  abbrev pub Own : Bool → Place → Name → Type 0
  Own b d x = v d x ≡ x

  own_word : (g : Goal) (x : Name) → IsNamed Own g x → spell_at v g x ≡ x
  own_word (Decl d) x h = h
  own_word Outside x h = absurd h
  own_word Missing x h = absurd h
  own_word Hidden x h = absurd h
  own_word (Blur by n o) x h = absurd h

  own_goal : (g : Goal) (x : Name) → IsNamed Own g x → IsNamed Any g x
  own_goal (Decl d) x h = tt
  own_goal Outside x h = absurd h
  own_goal Missing x h = absurd h
  own_goal Hidden x h = absurd h
  own_goal (Blur by n o) x h = absurd h

  mutual
    own_any : (s : Shape) → NamedShape Own s → NamedShape Any s
    own_any (Struct es) h = own_all es h
    own_any (Functor p r) h = (own_any p h.0, own_any r h.1)
    own_any (Unitary r) h = own_any r h
    own_any Opaque h = tt

    own_all : (es : Entries) → Named Own es → Named Any es
    own_all none h = tt
    own_all (a_val x g es) h = (own_goal g x h.0, own_all es h.1)
    own_all (a_mod X s es) h = (own_any s h.0, own_all es h.1)
    own_all (a_mty X s es) h = (own_any s h.0, own_all es h.1)
    own_all (a_dark at es) h = own_all es h

  own_val : (x : Name) (g : Goal) (es : Entries) → IsNamed Own g x → Fixed v es → FixedVal v x g es
  own_val x g es h f = record {
    hid = ap (λ y. is_none (last_of (vals (spell_entries v es)) y)) (own_word g x h) ∙ ap is_none (same_last v es f x);
    word = λ e. own_word g x h;
  }

  own_fixed : (es : Entries) → Named Own es → Fixed v es
  own_fixed none h = tt
  own_fixed (a_val x g es) h = let f = own_fixed es h.1 in (own_val x g es h.0 f, f)
  own_fixed (a_mod X s es) h = own_fixed es h.1
  own_fixed (a_mty X s es) h = own_fixed es h.1
  own_fixed (a_dark at es) h = own_fixed es h

  mutual
    own_deep : (s : Shape) → NamedShape Own s → Deep v s
    own_deep (Struct es) h = (own_fixed es h, own_mods es h)
    own_deep (Functor p r) h = (own_deep p h.0, own_deep r h.1)
    own_deep (Unitary r) h = own_deep r h
    own_deep Opaque h = tt

    own_mods : (es : Entries) → Named Own es → DeepMods v es
    own_mods none h = tt
    own_mods (a_val x g es) h = own_mods es h.1
    own_mods (a_mod X s es) h = (λ e. own_deep s h.0, own_mods es h.1)
    own_mods (a_mty X s es) h = (λ e. own_deep s h.0, own_mods es h.1)
    own_mods (a_dark at es) h = own_mods es h

  -- ---- uses

  word_if : (g : Goal) (x : Name) → ((d : Place) → g ≡ Decl d → v d x ≡ x) → word_for v name g x ≡ x
  word_if (Decl d) x h = h d refl
  word_if Outside x h = refl
  word_if Missing x h = refl
  word_if Hidden x h = refl
  word_if (Blur by n b) x h = refl

  module _ (o : Goal) (no_decl : (d : Place) → Decl d ≡ o → ⊥) (no_blur : (by : Place) (n : ℕ) (b : Option Place) → Blur by n b ≡ o → ⊥)
      (es : Entries) (h : Named Own es) (x : Name) where
    own_decl : (d : Place) → or_value (find_val es x) o ≡ Decl d → v d x ≡ x
    own_decl d e =
        found_word v es (own_fixed es h) x (Decl d)
        (decl_seen o no_decl no_blur (last_of (vals es) x) (last_place (passed es x)) (length (passed es x)) d e)

    own_blur : (by : Place) (n : ℕ) (d : Place) → or_value (find_val es x) o ≡ Blur by n (Some d) → v d x ≡ x
    own_blur by n d e =
        found_word v es (own_fixed es h) x (Decl d)
        (blur_seen o no_decl no_blur (last_of (vals es) x) (last_place (passed es x)) (length (passed es x)) n by d (declared es (own_all es h) x) e)

    own_same : or_value (find_val (spell_entries v es) (word_for v name (or_value (find_val es x) o) x)) o ≡ or_value (find_val es x) o
    own_same =
        ap (λ y. or_value (find_val (spell_entries v es) y) o) (word_if (or_value (find_val es x) o) x own_decl)
        ∙ ap (λ f. or_value f o) (same_find v es (own_fixed es h) x)

  own_alone : (sc : Entries) (x : Name) → Named Own sc → AloneKeeps v name x sc
  own_alone sc x h = record {
    same = own_same Outside (λ d e. cc) (λ b n p e. cc) sc h x;
    behind = λ by n d e. own_blur Outside (λ c i. cc) (λ b k p i. cc) sc h x by n d e;
  }

  own_under : (s : Shape) (x : Name) → NamedShape Own s → UnderKeeps v name x s
  own_under (Struct es) x h = record {
    same = own_same Missing (λ d e. cc) (λ b n p e. cc) es h x;
    behind = λ by n d e. own_blur Missing (λ c i. cc) (λ b k p i. cc) es h x by n d e;
  }
  own_under (Functor p r) x h = record { same = refl; behind = λ by n d e. absurd cc }
  own_under (Unitary r) x h = record { same = refl; behind = λ by n d e. absurd cc }
  own_under Opaque x h = record { same = refl; behind = λ by n d e. absurd cc }

  -- ---- steps

  own_tied : (es src : Entries) → Named Own es → Named Own src → Each (Keeps v) (tied tell es src).told
  own_tied none src h k = tt
  own_tied (a_val x g es) src h k =
      each_then (Keeps v) (one (tell x g none (Some src))) (tied tell es src)
      (keeps_found v x g none (own_val x g none h.0 tt) src (own_fixed src k) (own_all src k), tt)
      (own_tied es src h.1 k)
  own_tied (a_mod X s es) src h k = own_tied es src h.1 k
  own_tied (a_mty X s es) src h k = own_tied es src h.1 k
  own_tied (a_dark at es) src h k = own_tied es src h k

  own_match : (s t : Shape) → NamedShape Own s → NamedShape Own t → Each (Keeps v) (matched tell s t).told
  unfolding matched
  own_match s t h k = keeps_match v (suc (depth s + depth t)) s t (own_deep s h) (own_deep t k) (own_any s h) (own_any t k)

  pub own_steps : (ss : Steps) → NamedSteps Own ss → KeepsAll v name (Keeps v) ss
  own_steps quiet h = tt
  own_steps (a ⨾ b) h = (own_steps a h.0, own_steps b h.1)
  own_steps (UseAlone at x sc) h = own_alone sc x h.1
  own_steps (UseUnder at x s) h = own_under s x h.1
  own_steps (MatchOf s t) h = own_match s t h.0 h.1
  own_steps (PinOf s) h = keeps_pin v s (own_deep s h)
  own_steps (TieOf p q) h = each_then (Keeps v) (tied tell p q) (tied tell q p) (own_tied p q h.0 h.1) (own_tied q p h.1 h.0)
  own_steps (GroupOf es) h = tt
  own_steps (WeighedSite at s) h = tt
  own_steps (OpenedSite at s) h = tt
  own_steps UnitStart h = tt

  mutual
    own_shape : (s : Shape) → NamedShape Own s → spell_shape v s ≡ s
    own_shape (Struct es) h = ap Struct (own_entries es h)
    own_shape (Functor p r) h = ap (λ t. Functor t (spell_shape v r)) (own_shape p h.0) ∙ ap (Functor p) (own_shape r h.1)
    own_shape (Unitary r) h = ap Unitary (own_shape r h)
    own_shape Opaque h = refl

    -- the respelled list is the list
    pub own_entries : (es : Entries) → Named Own es → spell_entries v es ≡ es
    own_entries none h = refl
    own_entries (a_val x g es) h = ap (λ y. a_val y g (spell_entries v es)) (own_word g x h.0) ∙ ap (a_val x g) (own_entries es h.1)
    own_entries (a_mod X s es) h = ap (λ t. a_mod X t (spell_entries v es)) (own_shape s h.0) ∙ ap (a_mod X s) (own_entries es h.1)
    own_entries (a_mty X s es) h = ap (λ t. a_mty X t (spell_entries v es)) (own_shape s h.0) ∙ ap (a_mty X s) (own_entries es h.1)
    own_entries (a_dark at es) h = ap (a_dark at) (own_entries es h)
