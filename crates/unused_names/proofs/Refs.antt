-- The references stay.
use Rattle.std.proofs.Common.{◌≡◌, ◌≢◌, ℕ, Bool, true, false, if◌then◌else◌, List, [], ◌∷◌, ◌++◌, Option, Some, None, refl, ap, ◌∙◌}
use Rattle.rotor_base.specs.declared.place.Goal.{Goal}
use Rattle.rotor_base.specs.declared.place.Goal.TheVariants.{Decl, Outside, Missing, Hidden, Blur}
use Rattle.rotor_base.specs.declared.place.Place.{Place}
use Rattle.rotor_base.specs.declared.place.Ref.{Ref}
use Rattle.rotor_base.specs.declared.looks.Watch.{Watch}
use Rattle.value_sites.specs.Each.{Each}
use Rattle.shape_core.specs.Shape.{Name, Shape, Struct, Functor, Unitary, Opaque, Entries, none, a_val, a_mod, a_mty, a_dark, or_value, find_val}
use Rattle.shape_core.specs.Shape.{value_in}
use Rattle.shape_core.specs.Looks.{is_member}
use Rattle.shape_core.specs.Respell.{Words, spell_entries, spell_shape}
use Rattle.binding_model.specs.Steps.{Steps, quiet, ◌⨾◌, UseAlone, UseUnder, MatchOf, PinOf, TieOf, GroupOf, WeighedSite, OpenedSite, UnitStart}
use Rattle.binding_model.specs.Steps.{a_ref, refs_of, spell_steps}
use Rattle.binding_model.proofs.Finding.{Clear}
use Rattle.binding_model.proofs.Named.{IsNamed, Named, NamedShape, NamedSteps}
use Rattle.binding_model.proofs.OneName.{NamedGoal, found_named}
use Rattle.unused_names.proofs.Fresh.{IsFresh, AreFresh, IsLookUp, Fits, agrees_with, found_stays}

module _ (w : Watch) (wd : Words) where
  -- a binder that is fresh, and a use that does not have the new name
  abbrev pub Word : Bool → Place → Name → Type 0
  Word true d x = IsFresh w wd x (Decl d)
  Word false d x = x ≢ w.new

  fresh_val : (x : Name) (g : Goal) → IsNamed Word g x → IsFresh w wd x g
  fresh_val x (Decl d) h = h
  fresh_val x Outside h = absurd h
  fresh_val x Missing h = absurd h
  fresh_val x Hidden h = absurd h
  fresh_val x (Blur by n o) h = absurd h

  pub fresh_named : (es : Entries) → Named Word es → AreFresh w wd es
  fresh_named none h = tt
  fresh_named (a_val x g es) h = (fresh_val x g h.0, fresh_named es h.1)
  fresh_named (a_mod X s es) h = fresh_named es h.1
  fresh_named (a_mty S s es) h = fresh_named es h.1
  fresh_named (a_dark at es) h = fresh_named es h

  -- a reference takes the new name exactly if its goal is a member; if not, its goal has no member behind Dark entries
  pub record Takes (r : Ref) : Type 0 where
    pub word : (x : Name) → wd r.at x ≡ (if is_member w r.goal then w.new else x)
    pub clear : is_member w r.goal ≡ false → Clear w r.goal

  fits_clear : (by : Place) (n : ℕ) (o : Option Place) → Clear w (Blur by n o) → Fits w wd false (Blur by n o)
  fits_clear by n None h = tt
  fits_clear by n (Some d) h = h

  fits_itself : (g : Goal) → (is_member w g ≡ false → Clear w g) → Fits w wd (is_member w g) g
  fits_itself (Decl d) h = refl
  fits_itself Outside h = tt
  fits_itself Missing h = tt
  fits_itself Hidden h = tt
  fits_itself (Blur by n o) h = fits_clear by n o (h refl)

  member_old : (g : Goal) (x : Name) → NamedGoal Word g x → is_member w g ≡ true → x ≡ w.old
  member_old (Decl d) x h m = h.renamed.1 m
  member_old Outside x h m = absurd cc
  member_old Missing x h m = absurd cc
  member_old Hidden x h m = absurd cc
  member_old (Blur by n b) x h m = absurd cc

  found_there : (at : Place) (x : Name) (other : Goal) (es : Entries) → x ≢ w.new → Named Word es → NamedGoal Word other x
      → Takes (a_ref at (or_value (find_val es x) other)) → find_val (spell_entries wd es) (wd at x) ≡ find_val es x
  found_there at x other es n h k t =
      let g = or_value (find_val es x) other in
      let m = is_member w g in
      let f = fresh_named es h in
      let look : IsLookUp w wd m x (wd at x) =
      record { word = t.word x; old = member_old g x (found_named Word es x other h k); fresh = n } in
      found_stays w wd m x (wd at x) look es f (agrees_with w wd m es x other f (fits_itself g t.clear))

  under_stays : (at : Place) (x : Name) (s : Shape) → x ≢ w.new → NamedShape Word s → Takes (a_ref at (value_in s x))
      → value_in (spell_shape wd s) (wd at x) ≡ value_in s x
  under_stays at x (Struct es) n h t = ap (λ o. or_value o Missing) (found_there at x Missing es n h tt t)
  under_stays at x (Functor p r) n h t = refl
  under_stays at x (Unitary r) n h t = refl
  under_stays at x Opaque n h t = refl

  each_front : (xs ys : List Ref) → Each Takes (xs ++ ys) → Each Takes xs × Each Takes ys
  each_front [] ys h = (tt, h)
  each_front (x ∷ xs) ys h = let r = each_front xs ys h.1 in ((h.0, r.0), r.1)

  pub refs_stay : (ss : Steps) → NamedSteps Word ss → Each Takes (refs_of ss) → refs_of (spell_steps wd ss) ≡ refs_of ss
  refs_stay quiet h t = refl
  refs_stay (a ⨾ b) h t =
      let p = each_front (refs_of a) (refs_of b) t in
      ap (λ l. l ++ refs_of (spell_steps wd b)) (refs_stay a h.0 p.0) ∙ ap (λ l. refs_of a ++ l) (refs_stay b h.1 p.1)
  refs_stay (UseAlone at x sc) h t = ap (λ o. a_ref at (or_value o Outside) ∷ []) (found_there at x Outside sc h.0 h.1 tt t.0)
  refs_stay (UseUnder at x s) h t = ap (λ g. a_ref at g ∷ []) (under_stays at x s h.0 h.1 t.0)
  refs_stay (MatchOf s r) h t = refl
  refs_stay (PinOf s) h t = refl
  refs_stay (TieOf p q) h t = refl
  refs_stay (GroupOf es) h t = refl
  refs_stay (WeighedSite at s) h t = refl
  refs_stay (OpenedSite at s) h t = refl
  refs_stay UnitStart h t = refl
