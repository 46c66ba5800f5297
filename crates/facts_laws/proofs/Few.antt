-- A project in which no site is too heavy has few links.
use Rattle.std.proofs.Common.{◌≡◌, ℕ, zero, suc, ◌+◌, ◌≤◌, ◌||◌, List, [], ◌∷◌, Bool, true, false, length, Option, Some, None, refl, arith}
use Rattle.std.proofs.Common.{nat_lt, length-append}
use Rattle.std.proofs.lemmas.Bool.Decides.{leb_tells}
use Rattle.rotor_base.specs.declared.place.Place.{Place}
use Rattle.rotor_base.specs.declared.place.Goal.{Goal}
use Rattle.rotor_base.specs.declared.place.Link.{Link}
use Rattle.ml_trees.specs.Tree.{UnitTree}
use Rattle.shape_core.specs.Shape.{Name, Shape, Struct, Functor, Unitary, Opaque, Entries, none, a_val}
use Rattle.shape_core.specs.Shape.{a_mod, a_mty, a_dark, weight, find_mod, find_mty}
use Rattle.shape_core.specs.Shape.{or_else, some_if, unless_some, depth}
use Rattle.shape_core.specs.Links.{Trace, ◌&◌, nothing, a_step, one, or_empty, pin, pin_entries, pin_vals, match_entries, match_step, match_to}
use Rattle.shape_core.specs.Links.{matched, link}
use Rattle.binding_model.specs.declared.found.Sums.{Sums}
use Rattle.binding_model.specs.Scopes.{here, unit_shape, after_unit}
use Rattle.binding_model.specs.Steps.{Steps, quiet, ◌⨾◌, UseAlone, UseUnder, MatchOf, PinOf, TieOf}
use Rattle.binding_model.specs.Steps.{GroupOf, WeighedSite, OpenedSite, UnitStart, tied}
use Rattle.binding_model.specs.Steps.{trace}
use Rattle.binding_model.specs.Sums.{no_sums, sums_after, is_over, heavy_from}
use Rattle.binding_model.specs.Walk.{last_file, maybe_file_steps, unit_links, unit_steps, units_steps, steps}
use Rattle.facts_laws.specs.Laws.{LinksAreFew}

-- ---- a trace has no more links than work

record Fair {A : Type 0} (t : Trace A) : Type 0 where
  few : length t.told ≤ t.work

module _ {A : Type 0} where
  fair_both : (a b : Trace A) → Fair a → Fair b → Fair (a & b)
  unfolding ◌&◌
  fair_both a b h k = record { few = omega (arith, h.few, k.few, length-append a.told b.told) }

  fair_none : Fair {A = A} nothing
  fair_none = record { few = omega arith }

  fair_step : Fair {A = A} a_step
  fair_step = record { few = omega arith }

  fair_one : (x : A) → Fair (one x)
  fair_one x = record { few = omega arith }

  fair_unless : {B : Type 0} (o : Option B) (t : Trace A) → Fair t → Fair (unless_some o t nothing)
  fair_unless None t h = h
  fair_unless (Some x) t h = fair_none

  -- a step, a part and the rest
  fair_three : (a b c : Trace A) → Fair a → Fair b → Fair c → Fair (a & b & c)
  fair_three a b c h j k = fair_both (a & b) c (fair_both a b h j) k

module _ {A : Type 0} (tell : Name → Goal → Entries → Option Entries → A) where
  mutual
    fair_pin : (s : Shape) → Fair (pin tell s)
    fair_pin (Struct es) = fair_both a_step (pin_entries tell es) fair_step (fair_pins es)
    fair_pin (Functor p r) = fair_three a_step (pin tell p) (pin tell r) fair_step (fair_pin p) (fair_pin r)
    fair_pin (Unitary r) = fair_both a_step (pin tell r) fair_step (fair_pin r)
    fair_pin Opaque = fair_step

    fair_pins : (es : Entries) → Fair (pin_entries tell es)
    fair_pins none = fair_none
    fair_pins (a_val x g es) = fair_both (one (tell x g es None)) (pin_entries tell es) (fair_one (tell x g es None)) (fair_pins es)
    fair_pins (a_mod X s es) =
        let o = find_mod es X in
        let p = pin tell s in
        fair_three a_step (unless_some o p nothing) (pin_entries tell es) fair_step (fair_unless o p (fair_pin s)) (fair_pins es)
    fair_pins (a_mty S s es) =
        let o = find_mty es S in
        let p = pin tell s in
        fair_three a_step (unless_some o p nothing) (pin_entries tell es) fair_step (fair_unless o p (fair_pin s)) (fair_pins es)
    fair_pins (a_dark at es) = fair_both a_step (pin_entries tell es) fair_step (fair_pins es)

  fair_vals : (es : Entries) → Fair (pin_vals tell es)
  fair_vals none = fair_none
  fair_vals (a_val x g es) = fair_both (one (tell x g es None)) (pin_vals tell es) (fair_one (tell x g es None)) (fair_vals es)
  fair_vals (a_mod X s es) = fair_vals es
  fair_vals (a_mty S s es) = fair_vals es
  fair_vals (a_dark at es) = fair_vals es

  module _ (go : Shape → Shape → Trace A) (h : (s t : Shape) → Fair (go s t)) where
    fair_entries : (src es : Entries) → Fair (match_entries tell go src es)
    fair_entries src none = fair_none
    fair_entries src (a_val x g es) =
        fair_both (one (tell x g es (Some src))) (match_entries tell go src es) (fair_one (tell x g es (Some src))) (fair_entries src es)
    fair_entries src (a_mod X t es) =
        let o = find_mod es X in
        let m = go (or_empty (find_mod src X)) t in
        fair_three a_step (unless_some o m nothing) (match_entries tell go src es) fair_step (fair_unless o m (h _ t)) (fair_entries src es)
    fair_entries src (a_mty S t es) =
        let o = find_mty es S in
        let m = go (or_empty (find_mty src S)) t in
        let n = go t (or_empty (find_mty src S)) in
        fair_three a_step (unless_some o (m & n) nothing) (match_entries tell go src es) fair_step
        (fair_unless o (m & n) (fair_both m n (h _ t) (h t _))) (fair_entries src es)
    fair_entries src (a_dark at es) =
        fair_three a_step (pin_vals tell src) (match_entries tell go src es) fair_step (fair_vals src) (fair_entries src es)

    fair_other : (s t : Shape) → Fair (a_step & pin tell t & pin tell s)
    fair_other s t = fair_three a_step (pin tell t) (pin tell s) fair_step (fair_pin t) (fair_pin s)

    fair_level : (s t : Shape) → Fair (match_step tell go s t)
    fair_level (Struct es) (Struct ts) = fair_both a_step (match_entries tell go es ts) fair_step (fair_entries es ts)
    fair_level (Functor p r) (Functor q t) = fair_three a_step (go q p) (go r t) fair_step (h q p) (h r t)
    fair_level (Unitary r) (Unitary t) = fair_both a_step (go r t) fair_step (h r t)
    fair_level Opaque Opaque = fair_step
    fair_level s t = fair_other s t

  fair_to : (n : ℕ) (s t : Shape) → Fair (match_to tell n s t)
  fair_to zero s t = fair_none
  fair_to (suc n) s t = fair_level (match_to tell n) (fair_to n) s t

  fair_match : (s t : Shape) → Fair (matched tell s t)
  unfolding matched
  fair_match s t = fair_to (suc (depth s + depth t)) s t

  fair_tied : (es src : Entries) → Fair (tied tell es src)
  fair_tied none src = fair_none
  fair_tied (a_val x g es) src =
      fair_both (one (tell x g none (Some src))) (tied tell es src) (fair_one (tell x g none (Some src))) (fair_tied es src)
  fair_tied (a_mod X s es) src = fair_tied es src
  fair_tied (a_mty S s es) src = fair_tied es src
  fair_tied (a_dark at es) src = fair_tied es src

  fair_steps : (ss : Steps) → Fair (trace tell ss)
  fair_steps quiet = fair_none
  fair_steps (a ⨾ b) = fair_both (trace tell a) (trace tell b) (fair_steps a) (fair_steps b)
  fair_steps (UseAlone at x sc) = fair_none
  fair_steps (UseUnder at x s) = fair_none
  fair_steps (MatchOf s t) = fair_match s t
  fair_steps (PinOf s) = fair_pin s
  fair_steps (TieOf p q) = fair_both (tied tell p q) (tied tell q p) (fair_tied p q) (fair_tied q p)
  fair_steps (GroupOf es) = fair_none
  fair_steps (WeighedSite at s) = fair_none
  fair_steps (OpenedSite at s) = fair_none
  fair_steps UnitStart = fair_none

-- ---- the work of some steps is in their sums

work_both : (a b : Trace Link) → (a & b).work ≡ a.work + b.work
unfolding ◌&◌
work_both a b = refl

sums_are : (ss : Steps) (n : Sums) → (sums_after n ss).work ≡ n.work + (trace link ss).work
sums_are quiet n = omega arith
sums_are (a ⨾ b) n =
    omega (arith, sums_are b (sums_after n a), sums_are a n, work_both (trace link a) (trace link b))
sums_are (UseAlone at x sc) n = omega arith
sums_are (UseUnder at x s) n = omega arith
sums_are (MatchOf s t) n = refl
sums_are (PinOf s) n = refl
sums_are (TieOf p q) n = refl
sums_are (GroupOf es) n = omega arith
sums_are (WeighedSite at s) n = omega arith
sums_are (OpenedSite at s) n = omega arith
sums_are UnitStart n = omega arith

-- ---- each unit ends with a weighed site, at which the work is within the bound

site_light : (own : ℕ) (k : Sums) (at : Place) → some_if (is_over own k) at ≡ None → k.work ≤ 4194304
site_light own k at h = by (nat_lt 65536 own) (nat_lt 4194304 k.weight) (nat_lt 4194304 k.work) refl h where
  by : (a b c : Bool) → nat_lt 4194304 k.work ≡ c → some_if (a || b || c) at ≡ None → k.work ≤ 4194304
  by a b false e f = grind (arith, e, leb_tells 4194305 k.work)
  by true b true e f = absurd cc
  by false true true e f = absurd cc
  by false false true e f = absurd cc

first_light : (o p : Option Place) → or_else o p ≡ None → o ≡ None
first_light None p h = refl
first_light (Some at) p h = absurd cc

rest_light : (o p : Option Place) → or_else o p ≡ None → p ≡ None
rest_light None p h = h
rest_light (Some at) p h = absurd cc

last_light : (n : Sums) (a : Steps) (at : Place) (s : Shape) → heavy_from n (a ⨾ WeighedSite at s) ≡ None
    → (sums_after n (a ⨾ WeighedSite at s)).work ≤ 4194304
last_light n a at s h = site_light (weight s) (sums_after (sums_after n a) (WeighedSite at s)) at
    (rest_light (heavy_from n a) (heavy_from (sums_after n a) (WeighedSite at s)) h)

unit_light : (u : UnitTree) (sc : Entries) (n : Sums) → heavy_from n (unit_steps sc u) ≡ None → (sums_after n (unit_steps sc u)).work ≤ 4194304
unit_light u sc n h =
    let B = maybe_file_steps sc u.body in
    let F = maybe_file_steps sc u.face in
    let L = unit_links sc u.body u.face in
    let at = here (last_file u.body u.face) 1 in
    let s = unit_shape sc u in
    let begun = sums_after n UnitStart in
    let half = sums_after begun B in
    let whole = sums_after half F in
    let i = rest_light (heavy_from n UnitStart) (heavy_from begun (B ⨾ F ⨾ L ⨾ WeighedSite at s)) h in
    let j = rest_light (heavy_from begun B) (heavy_from half (F ⨾ L ⨾ WeighedSite at s)) i in
    let k = rest_light (heavy_from half F) (heavy_from whole (L ⨾ WeighedSite at s)) j in
    last_light whole L at s k

units_light : (us : List UnitTree) (sc : Entries) (n : Sums) → n.work ≤ 4194304 → heavy_from n (units_steps sc us) ≡ None
    → (sums_after n (units_steps sc us)).work ≤ 4194304
units_light [] sc n l h = l
units_light (u ∷ us) sc n l h =
    let a = first_light (heavy_from n (unit_steps sc u)) (heavy_from (sums_after n (unit_steps sc u)) (units_steps (after_unit sc u) us)) h in
    let b = rest_light (heavy_from n (unit_steps sc u)) (heavy_from (sums_after n (unit_steps sc u)) (units_steps (after_unit sc u) us)) h in
    units_light us (after_unit sc u) (sums_after n (unit_steps sc u)) (unit_light u sc n a) b

pub links_are_few : LinksAreFew
links_are_few us h =
    omega (arith, (fair_steps link (steps us)).few, sums_are (steps us) no_sums, units_light us none no_sums (omega arith) h)
