-- A link stays, or its old source is Hidden.
use Rattle.std.proofs.Common.{◌≡◌, ℕ, zero, suc, Bool, true, false, if◌then◌else◌, List, [], ◌∷◌, Option, Some, None, map, slice_get}
use Rattle.std.proofs.Common.{refl, ap, sym, subst, ◌∙◌}
use Rattle.std.specs.Bool.{beq}
use Rattle.rotor_base.specs.declared.place.Goal.{Goal}
use Rattle.rotor_base.specs.declared.place.Goal.TheVariants.{Decl, Outside, Missing, Hidden, Blur}
use Rattle.rotor_base.specs.declared.place.Link.{Link}
use Rattle.rotor_base.specs.declared.looks.Watch.{Watch}
use Rattle.rotor_base.proofs.Rising.{some_is}
use Rattle.shape_core.specs.Shape.{Name, Entries, vals, or_value, unless_some, last_of}
use Rattle.shape_core.specs.Links.{Trace, link, source_of}
use Rattle.shape_core.specs.Looks.{is_member}
use Rattle.shape_core.specs.Respell.{Words, over, spell_at, spell_entries}
use Rattle.shape_core.proofs.Spelled.{retold}
use Rattle.shape_core.proofs.Retold.{after}
use Rattle.binding_model.specs.Steps.{Steps, spell_steps, trace}
use Rattle.binding_model.proofs.Named.{IsNamed, Named, NamedSteps}
use Rattle.binding_model.proofs.Telling.{SourceNamed, trace_mapped, trace_same, trace_spell}
use Rattle.unused_names.proofs.Fresh.{IsFresh, IsLookUp, Agrees, Fits, agrees_with, found_stays, last_stays}
use Rattle.unused_names.proofs.Refs.{Word, fresh_named}

module _ (w : Watch) (wd : Words) where
  -- the source is not Hidden, and its declaration is a member exactly if `m` says so
  abbrev pub fits : Bool → Goal → Bool
  fits m (Decl d) = beq (is_member w (Decl d)) m
  fits m (Blur by n (Some d)) = beq (is_member w (Decl d)) m
  fits m Hidden = false
  fits m _ = true

  abbrev pub steady : Link → Bool
  steady l = fits (is_member w l.item) l.source

  is_beq : (a b : Bool) → beq a b ≡ true → a ≡ b
  is_beq true true e = refl
  is_beq false false e = refl
  is_beq true false e = let wrong : false ≡ true = e in absurd cc
  is_beq false true e = let wrong : false ≡ true = e in absurd cc

  fits_is : (m : Bool) (g : Goal) → fits m g ≡ true → Fits w wd m g
  fits_is m (Decl d) e = is_beq (is_member w (Decl d)) m e
  fits_is m Outside e = tt
  fits_is m Missing e = tt
  fits_is m Hidden e = tt
  fits_is m (Blur by n None) e = tt
  fits_is m (Blur by n (Some d)) e = is_beq (is_member w (Decl d)) m e

  -- ---- one link

  abbrev Pair : Type 0
  Pair = Link × Link

  abbrev old_link : Pair → Link
  old_link p = p.0

  -- the old link if it is steady, or the new one
  abbrev kept : Pair → Link
  kept p = if steady p.0 then p.0 else p.1

  abbrev both : Name → Goal → Entries → Option Entries → Pair
  both x g rest src = (link x g rest src, retold wd link x g rest src)

  fresh_item : (x : Name) (g : Goal) → IsNamed (Word w wd) g x → IsFresh w wd x g
  fresh_item x (Decl d) h = h
  fresh_item x Outside h = absurd h
  fresh_item x Missing h = absurd h
  fresh_item x Hidden h = absurd h
  fresh_item x (Blur by n o) h = absurd h

  module _ (x : Name) (g : Goal) (f : IsFresh w wd x g) where
    abbrev y : Name
    y = spell_at wd g x

    look : IsLookUp w wd (is_member w g) x y
    look = record { word = f.renamed.0; old = f.renamed.1; fresh = f.fresh }

    same_source : (src : Option Entries) → SourceNamed (Word w wd) src → Fits w wd (is_member w g) (source_of src x)
        → source_of (over (spell_entries wd) src) y ≡ source_of src x
    same_source None h k = refl
    same_source (Some es) h k =
        let fs = fresh_named w wd es h in
        ap (λ o. or_value o Missing) (found_stays w wd (is_member w g) x y look es fs (agrees_with w wd (is_member w g) es x Missing fs k))

    same_goal : (rest : Entries) (src : Option Entries) → Named (Word w wd) rest → SourceNamed (Word w wd) src → (o : Option Goal)
        → last_of (vals rest) x ≡ o → fits (is_member w g) (unless_some o (source_of src x) Hidden) ≡ true
        → unless_some (last_of (vals (spell_entries wd rest)) y) (source_of (over (spell_entries wd) src) y) Hidden
        ≡ unless_some o (source_of src x) Hidden
    same_goal rest src h k (Some d) e s = let wrong : false ≡ true = s in absurd cc
    same_goal rest src h k None e s =
        let none : last_of (vals (spell_entries wd rest)) y ≡ None =
        last_stays w wd (is_member w g) x y look rest (fresh_named w wd rest h)
        (subst (λ o. Agrees w wd (is_member w g) o) (sym e) tt) ∙ e in
        ap (λ o. unless_some o (source_of (over (spell_entries wd) src) y) Hidden) none
        ∙ same_source src k (fits_is (is_member w g) (source_of src x) s)

    one_kept : (rest : Entries) (src : Option Entries) → Named (Word w wd) rest → SourceNamed (Word w wd) src → (b : Bool)
        → steady (link x g rest src) ≡ b
        → retold wd link x g rest src ≡ (if b then link x g rest src else retold wd link x g rest src)
    one_kept rest src h k false e = refl
    one_kept rest src h k true e =
        ap (λ s. record { item = g; source = s })
        (same_goal rest src h k (last_of (vals rest) x) refl e)

  link_kept : (x : Name) (g : Goal) (rest : Entries) (src : Option Entries) → IsNamed (Word w wd) g x → Named (Word w wd) rest
      → SourceNamed (Word w wd) src → retold wd link x g rest src ≡ after kept both x g rest src
  link_kept x g rest src h k l = one_kept x g (fresh_item x g h) rest src k l (steady (link x g rest src)) refl

  -- ---- all links

  stays_at : (ps : List Pair) (n : ℕ) (a b : Link) → slice_get (map old_link ps) n ≡ Some a → slice_get (map kept ps) n ≡ Some b → steady a ≡ true
      → b ≡ a
  stays_at [] n a b e f s = let wrong : None ≡ Some a = e in absurd cc
  stays_at (p ∷ ps) zero a b e f s =
      let same : p.0 ≡ a = some_is p.0 a e in
      sym (some_is (kept p) b f) ∙ (ap (λ (t : Bool). if t then p.0 else p.1) (ap steady same ∙ s) ∙ same)
  stays_at (p ∷ ps) (suc n) a b e f s = stays_at ps n a b e f s

  -- a link of the steps that is steady is the same of the respelled steps
  pub link_stays : (ss : Steps) → NamedSteps (Word w wd) ss → (n : ℕ) (a b : Link) → slice_get (trace link ss).told n ≡ Some a
      → slice_get (trace link (spell_steps wd ss)).told n ≡ Some b → steady a ≡ true → b ≡ a
  link_stays ss h n a b e f s =
      let ps = (trace both ss).told in
      let olds : map old_link ps ≡ (trace link ss).told = ap (λ (t : Trace Link). t.told) (trace_mapped old_link both ss) in
      let news : (trace link (spell_steps wd ss)).told ≡ map kept ps =
      ap (λ (t : Trace Link). t.told)
      (trace_spell wd link ss ∙ (trace_same (Word w wd) (retold wd link) (after kept both) link_kept ss h ∙ sym (trace_mapped kept both ss))) in
      stays_at ps n a b (ap (λ l. slice_get l n) olds ∙ e) (ap (λ l. slice_get l n) (sym news) ∙ f) s
