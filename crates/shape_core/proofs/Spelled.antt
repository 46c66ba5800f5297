-- Respelled shapes: look-ups, weights and matches of them.
use Rattle.std.proofs.Common.{◌≡◌, ℕ, zero, suc, ◌+◌, List, [], ◌∷◌, Option, Some, None, refl, ap, ◌∙◌}
use Rattle.std.specs.Prelude.{max}
use Rattle.rotor_base.specs.declared.place.Place.{Place}
use Rattle.rotor_base.specs.declared.place.Goal.{Goal}
use Rattle.shape_core.specs.Shape.{Name, Shape, Struct, Functor, Unitary, Opaque, Entries, none, a_val, a_mod, a_mty, a_dark, ◌⊕◌, mods, mtys, darks}
use Rattle.shape_core.specs.Shape.{last_of, or_value, unless_some, step, step_from, inside, find_path, walk, type_in, brought, find_mod, find_mty}
use Rattle.shape_core.specs.Shape.{weight, weights, depth, depths}
use Rattle.shape_core.specs.Links.{Trace, ◌&◌, nothing, a_step, one, or_empty, pin, pin_entries, pin_vals, match_entries, match_step, match_to}
use Rattle.shape_core.specs.Links.{matched}
use Rattle.shape_core.specs.Respell.{Words, spell_at, spell_shape, spell_entries, over}
use Rattle.shape_core.proofs.Founds.{each, last_of-each, or_value-over}

module _ (w : Words) where
  pub spell-append : (a b : Entries) → spell_entries w (a ⊕ b) ≡ spell_entries w a ⊕ spell_entries w b
  spell-append none b = refl
  spell-append (a_val x g a) b = ap (λ l. a_val (spell_at w g x) g l) (spell-append a b)
  spell-append (a_mod X s a) b = ap (λ l. a_mod X (spell_shape w s) l) (spell-append a b)
  spell-append (a_mty S s a) b = ap (λ l. a_mty S (spell_shape w s) l) (spell-append a b)
  spell-append (a_dark at a) b = ap (λ l. a_dark at l) (spell-append a b)

  pub mods-spell : (es : Entries) → mods (spell_entries w es) ≡ each (spell_shape w) (mods es)
  mods-spell none = refl
  mods-spell (a_val x g es) = mods-spell es
  mods-spell (a_mod X s es) = ap (λ l. (X, spell_shape w s) ∷ l) (mods-spell es)
  mods-spell (a_mty S s es) = mods-spell es
  mods-spell (a_dark at es) = mods-spell es

  pub mtys-spell : (es : Entries) → mtys (spell_entries w es) ≡ each (spell_shape w) (mtys es)
  mtys-spell none = refl
  mtys-spell (a_val x g es) = mtys-spell es
  mtys-spell (a_mod X s es) = mtys-spell es
  mtys-spell (a_mty S s es) = ap (λ l. (S, spell_shape w s) ∷ l) (mtys-spell es)
  mtys-spell (a_dark at es) = mtys-spell es

  pub darks-spell : (es : Entries) → darks (spell_entries w es) ≡ darks es
  darks-spell none = refl
  darks-spell (a_val x g es) = darks-spell es
  darks-spell (a_mod X s es) = darks-spell es
  darks-spell (a_mty S s es) = darks-spell es
  darks-spell (a_dark at es) = ap (λ l. at ∷ l) (darks-spell es)

  pub find_mods-spell : (es : Entries) (X : Name) → find_mod (spell_entries w es) X ≡ over (spell_shape w) (find_mod es X)
  find_mods-spell es X = ap (λ l. last_of l X) (mods-spell es) ∙ last_of-each (spell_shape w) (mods es) X

  pub find_mtys-spell : (es : Entries) (S : Name) → find_mty (spell_entries w es) S ≡ over (spell_shape w) (find_mty es S)
  find_mtys-spell es S = ap (λ l. last_of l S) (mtys-spell es) ∙ last_of-each (spell_shape w) (mtys es) S

  step-spell : (s : Shape) (X : Name) → step (spell_shape w s) X ≡ over (spell_shape w) (step s X)
  step-spell (Struct es) X = find_mods-spell es X
  step-spell (Functor p r) X = refl
  step-spell (Unitary r) X = refl
  step-spell Opaque X = refl

  step_from-spell : (o : Option Shape) (X : Name) → step_from (over (spell_shape w) o) X ≡ over (spell_shape w) (step_from o X)
  step_from-spell None X = refl
  step_from-spell (Some s) X = step-spell s X

  inside-spell : (o : Option Shape) (p : List Name) → inside (over (spell_shape w) o) p ≡ over (spell_shape w) (inside o p)
  inside-spell o [] = refl
  inside-spell o (X ∷ p) = ap (λ t. inside t p) (step_from-spell o X) ∙ inside-spell (step_from o X) p

  find_path-spell : (sc : Entries) (p : List Name) → find_path (spell_entries w sc) p ≡ over (spell_shape w) (find_path sc p)
  find_path-spell sc [] = refl
  find_path-spell sc (X ∷ p) = ap (λ t. inside t p) (find_mods-spell sc X) ∙ inside-spell (find_mod sc X) p

  -- a path leads to the respelled shape
  pub walk-spell : (sc : Entries) (p : List Name) → walk (spell_entries w sc) p ≡ spell_shape w (walk sc p)
  walk-spell sc p = ap (λ o. or_value o Opaque) (find_path-spell sc p) ∙ or_value-over (spell_shape w) (find_path sc p) Opaque

  pub type_in-spell : (s : Shape) (S : Name) → type_in (spell_shape w s) S ≡ spell_shape w (type_in s S)
  type_in-spell (Struct es) S = ap (λ o. or_value o Opaque) (find_mtys-spell es S) ∙ or_value-over (spell_shape w) (find_mty es S) Opaque
  type_in-spell (Functor p r) S = refl
  type_in-spell (Unitary r) S = refl
  type_in-spell Opaque S = refl

  pub brought-spell : (s : Shape) (at : Place) → brought (spell_shape w s) at ≡ spell_entries w (brought s at)
  brought-spell (Struct es) at = refl
  brought-spell (Functor p r) at = refl
  brought-spell (Unitary r) at = refl
  brought-spell Opaque at = refl

  mutual
    -- weights depend on no name of a value
    pub weight-spell : (s : Shape) → weight (spell_shape w s) ≡ weight s
    weight-spell (Struct es) = weights-spell es
    weight-spell (Functor p r) = ap (λ n. 1 + (n + weight (spell_shape w r))) (weight-spell p) ∙ ap (λ n. 1 + (weight p + n)) (weight-spell r)
    weight-spell (Unitary r) = ap (λ n. 1 + n) (weight-spell r)
    weight-spell Opaque = refl

    pub weights-spell : (es : Entries) → weights (spell_entries w es) ≡ weights es
    weights-spell none = refl
    weights-spell (a_val x g es) = ap (λ n. 1 + n) (weights-spell es)
    weights-spell (a_mod X s es) = ap (λ n. (1 + n) + weights (spell_entries w es)) (weight-spell s) ∙ ap (λ n. (1 + weight s) + n) (weights-spell es)
    weights-spell (a_mty S s es) = ap (λ n. (1 + n) + weights (spell_entries w es)) (weight-spell s) ∙ ap (λ n. (1 + weight s) + n) (weights-spell es)
    weights-spell (a_dark at es) = ap (λ n. 1 + n) (weights-spell es)

  mutual
    depth-spell : (s : Shape) → depth (spell_shape w s) ≡ depth s
    depth-spell (Struct es) = depths-spell es
    depth-spell (Functor p r) = ap (λ n. max n (depth (spell_shape w r)) + 1) (depth-spell p) ∙ ap (λ n. max (depth p) n + 1) (depth-spell r)
    depth-spell (Unitary r) = ap (λ n. n + 1) (depth-spell r)
    depth-spell Opaque = refl

    depths-spell : (es : Entries) → depths (spell_entries w es) ≡ depths es
    depths-spell none = refl
    depths-spell (a_val x g es) = depths-spell es
    depths-spell (a_mod X s es) = ap (λ n. max (n + 1) (depths (spell_entries w es))) (depth-spell s)
        ∙ ap (λ n. max (depth s + 1) n) (depths-spell es)
    depths-spell (a_mty S s es) = ap (λ n. max (n + 1) (depths (spell_entries w es))) (depth-spell s)
        ∙ ap (λ n. max (depth s + 1) n) (depths-spell es)
    depths-spell (a_dark at es) = depths-spell es

  unless_some-over : {U V W : Type 0} (f : U → V) (o : Option U) (a b : W) → unless_some (over f o) a b ≡ unless_some o a b
  unless_some-over f None a b = refl
  unless_some-over f (Some u) a b = refl

  or_empty-over : (o : Option Shape) → or_empty (over (spell_shape w) o) ≡ spell_shape w (or_empty o)
  or_empty-over o = or_value-over (spell_shape w) o (Struct none)

  src_mod : (es : Entries) (X : Name) → or_empty (find_mod (spell_entries w es) X) ≡ spell_shape w (or_empty (find_mod es X))
  src_mod es X = ap or_empty (find_mods-spell es X) ∙ or_empty-over (find_mod es X)

  src_mty : (es : Entries) (S : Name) → or_empty (find_mty (spell_entries w es) S) ≡ spell_shape w (or_empty (find_mty es S))
  src_mty es S = ap or_empty (find_mtys-spell es S) ∙ or_empty-over (find_mty es S)

  -- the match of respelled shapes is the match of the shapes with respelled arguments of `keep`
  module _ {A : Type 0} (keep : Name → Goal → Entries → Option Entries → A) where
    abbrev pub retold : Name → Goal → Entries → Option Entries → A
    retold x g rest src = keep (spell_at w g x) g (spell_entries w rest) (over (spell_entries w) src)

    part : {U : Type 0} (o : Option U) (o' : Option U) (a a' b b' : Trace A) → unless_some o a nothing ≡ unless_some o' a nothing → a ≡ a' → b ≡ b'
        → a_step & unless_some o a nothing & b ≡ a_step & unless_some o' a' nothing & b'
    part o o' a a' b b' e h k = ap (λ l. a_step & l & b) e ∙ ap (λ l. a_step & unless_some o' l nothing & b) h
        ∙ ap (λ l. a_step & unless_some o' a' nothing & l) k

    shown_mod : (es : Entries) (X : Name) (a : Trace A) → unless_some (find_mod (spell_entries w es) X) a nothing ≡ unless_some
        (find_mod es X) a nothing
    shown_mod es X a = ap (λ o. unless_some o a nothing) (find_mods-spell es X) ∙ unless_some-over (spell_shape w) (find_mod es X) a nothing

    shown_mty : (es : Entries) (S : Name) (a : Trace A) → unless_some (find_mty (spell_entries w es) S) a nothing ≡ unless_some
        (find_mty es S) a nothing
    shown_mty es S a = ap (λ o. unless_some o a nothing) (find_mtys-spell es S) ∙ unless_some-over (spell_shape w) (find_mty es S) a nothing

    mutual
      pub pin-spell : (s : Shape) → pin keep (spell_shape w s) ≡ pin retold s
      pin-spell (Struct es) = ap (λ l. a_step & l) (pin_entries-spell es)
      pin-spell (Functor p r) = ap (λ l. a_step & l & pin keep (spell_shape w r)) (pin-spell p) ∙ ap (λ l. a_step & pin retold p & l) (pin-spell r)
      pin-spell (Unitary r) = ap (λ l. a_step & l) (pin-spell r)
      pin-spell Opaque = refl

      pub pin_entries-spell : (es : Entries) → pin_entries keep (spell_entries w es) ≡ pin_entries retold es
      pin_entries-spell none = refl
      pin_entries-spell (a_val x g es) = ap (λ l. one (retold x g es None) & l) (pin_entries-spell es)
      pin_entries-spell (a_mod X s es) = part (find_mod (spell_entries w es) X) (find_mod es X) _ _ _ _ (shown_mod es X (pin keep (spell_shape w s)))
          (pin-spell s) (pin_entries-spell es)
      pin_entries-spell (a_mty S s es) = part (find_mty (spell_entries w es) S) (find_mty es S) _ _ _ _ (shown_mty es S (pin keep (spell_shape w s)))
          (pin-spell s) (pin_entries-spell es)
      pin_entries-spell (a_dark at es) = ap (λ l. a_step & l) (pin_entries-spell es)

    pub pin_vals-spell : (es : Entries) → pin_vals keep (spell_entries w es) ≡ pin_vals retold es
    pin_vals-spell none = refl
    pin_vals-spell (a_val x g es) = ap (λ l. one (retold x g es None) & l) (pin_vals-spell es)
    pin_vals-spell (a_mod X s es) = pin_vals-spell es
    pin_vals-spell (a_mty S s es) = pin_vals-spell es
    pin_vals-spell (a_dark at es) = pin_vals-spell es

    entries-spell : (go go' : Shape → Shape → Trace A) → ((s t : Shape) → go (spell_shape w s) (spell_shape w t) ≡ go' s t) → (src ts : Entries)
        → match_entries keep go (spell_entries w src) (spell_entries w ts) ≡ match_entries retold go' src ts
    entries-spell go go' h src none = refl
    entries-spell go go' h src (a_val x g ts) = ap (λ l. one (retold x g ts (Some src)) & l) (entries-spell go go' h src ts)
    entries-spell go go' h src (a_mod X t ts) =
        part (find_mod (spell_entries w ts) X) (find_mod ts X) _ _ _ _ (shown_mod ts X _)
        (ap (λ s. go s (spell_shape w t)) (src_mod src X) ∙ h (or_empty (find_mod src X)) t) (entries-spell go go' h src ts)
    entries-spell go go' h src (a_mty S t ts) =
        let s = or_empty (find_mty src S) in
        part (find_mty (spell_entries w ts) S) (find_mty ts S) _ _ _ _ (shown_mty ts S _)
        (ap (λ z. go z (spell_shape w t) & go (spell_shape w t) z) (src_mty src S) ∙ ap (λ l. l & go (spell_shape w t) (spell_shape w s)) (h s t)
        ∙ ap (λ l. go' s t & l) (h t s))
        (entries-spell go go' h src ts)
    entries-spell go go' h src (a_dark at ts) = ap (λ l. a_step & l & match_entries keep go (spell_entries w src) (spell_entries w ts))
        (pin_vals-spell src) ∙ ap (λ l. a_step & pin_vals retold src & l) (entries-spell go go' h src ts)

    both-spell : (s t : Shape) → a_step & pin keep (spell_shape w t) & pin keep (spell_shape w s) ≡ a_step & pin retold t & pin retold s
    both-spell s t = ap (λ l. a_step & l & pin keep (spell_shape w s)) (pin-spell t) ∙ ap (λ l. a_step & pin retold t & l) (pin-spell s)

    level-spell : (go go' : Shape → Shape → Trace A) → ((s t : Shape) → go (spell_shape w s) (spell_shape w t) ≡ go' s t) → (s t : Shape)
        → match_step keep go (spell_shape w s) (spell_shape w t) ≡ match_step retold go' s t
    level-spell go go' h (Struct es) (Struct ts) = ap (λ l. a_step & l) (entries-spell go go' h es ts)
    level-spell go go' h (Struct es) (Functor q t) = both-spell (Struct es) (Functor q t)
    level-spell go go' h (Struct es) (Unitary t) = both-spell (Struct es) (Unitary t)
    level-spell go go' h (Struct es) Opaque = both-spell (Struct es) Opaque
    level-spell go go' h (Functor p r) (Struct ts) = both-spell (Functor p r) (Struct ts)
    level-spell go go' h (Functor p r) (Functor q t) = ap (λ x. a_step & x & go (spell_shape w r) (spell_shape w t)) (h q p)
        ∙ ap (λ x. a_step & go' q p & x) (h r t)
    level-spell go go' h (Functor p r) (Unitary t) = both-spell (Functor p r) (Unitary t)
    level-spell go go' h (Functor p r) Opaque = both-spell (Functor p r) Opaque
    level-spell go go' h (Unitary r) (Struct ts) = both-spell (Unitary r) (Struct ts)
    level-spell go go' h (Unitary r) (Functor q t) = both-spell (Unitary r) (Functor q t)
    level-spell go go' h (Unitary r) (Unitary t) = ap (λ x. a_step & x) (h r t)
    level-spell go go' h (Unitary r) Opaque = both-spell (Unitary r) Opaque
    level-spell go go' h Opaque (Struct ts) = both-spell Opaque (Struct ts)
    level-spell go go' h Opaque (Functor q t) = both-spell Opaque (Functor q t)
    level-spell go go' h Opaque (Unitary t) = both-spell Opaque (Unitary t)
    level-spell go go' h Opaque Opaque = refl

    levels-spell : (n : ℕ) (s t : Shape) → match_to keep n (spell_shape w s) (spell_shape w t) ≡ match_to retold n s t
    levels-spell zero s t = refl
    levels-spell (suc n) s t = level-spell (match_to keep n) (match_to retold n) (levels-spell n) s t

    pub matched-spell : (s t : Shape) → matched keep (spell_shape w s) (spell_shape w t) ≡ matched retold s t
    unfolding matched
    matched-spell s t =
        ap (λ n. match_to keep (suc (n + depth (spell_shape w t))) (spell_shape w s) (spell_shape w t)) (depth-spell s)
        ∙ ap (λ n. match_to keep (suc (depth s + n)) (spell_shape w s) (spell_shape w t)) (depth-spell t)
        ∙ levels-spell (suc (depth s + depth t)) s t
