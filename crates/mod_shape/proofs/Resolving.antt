-- A resolver of units, one after another from nothing, has the facts and the looks of the project, or names its first
-- heavy site.
use Rattle.std.proofs.Common.{◌≡◌, ℕ, ◌+◌, ◌≤◌, ◌||◌, List, [], ◌∷◌, Bool, true, false, map, length, Option, Some, None, refl, sym, ap}
use Rattle.std.proofs.Common.{◌∙◌, arith, nat_lt}
use Rattle.std.proofs.lemmas.Bool.Decides.{leb_tells}
use Rattle.rotor_base.specs.declared.place.Place.{Place}
use Rattle.rotor_base.specs.declared.place.Link.{Link}
use Rattle.rotor_base.specs.declared.place.Facts.{Facts}
use Rattle.rotor_base.specs.declared.looks.Watch.{Watch}
use Rattle.rotor_base.specs.declared.looks.Looks.{Looks}
use Rattle.ml_trees.specs.declared.module.UnitTree.{UnitTree as Unit_tree}
use Rattle.ml_trees.specs.Tree.{UnitTree}
use Rattle.ml_trees.specs.View.{view_unit}
use Rattle.shape_core.specs.declared.shared.SharedEntry.{SharedEntry}
use Rattle.shape_core.specs.Node.{entries_of}
use Rattle.shape_core.specs.Shape.{Shape, Entries, none, weight, or_else, some_if}
use Rattle.shape_core.specs.Links.{link}
use Rattle.shape_core.specs.Looks.{look, numbered}
use Rattle.binding_model.specs.declared.found.Sums.{Sums}
use Rattle.binding_model.specs.declared.found.Found.{Found}
use Rattle.binding_model.specs.declared.found.Recorder.{Recorder}
use Rattle.binding_model.specs.Facts.{decls, in_order, facts}
use Rattle.binding_model.specs.Looks.{ref_looks, looks}
use Rattle.binding_model.specs.Scopes.{here, unit_shape, after_unit}
use Rattle.binding_model.specs.Steps.{Steps, ◌⨾◌, WeighedSite, UnitStart, refs_of, trace}
use Rattle.binding_model.specs.Sums.{no_sums, sums_after, is_over, heavy_from, heavy}
use Rattle.binding_model.specs.Taken.{Taken, Going, HeavyAt, taken, nothing_found, no_looks, Tracks, Arrived}
use Rattle.binding_model.specs.Walk.{last_file, maybe_file_steps, unit_links, unit_steps, units_steps, steps}
use Rattle.found_facts.proofs.Arriving.{stopped_heavy, went_light, went_there}
use Rattle.group_walk.specs.Groups.{units_groups}
use Rattle.group_walk.proofs.Found.{units_found}
use Rattle.found_facts.specs.Kept.{looks_kept}

-- a site that is not heavy has its work within the bound
site_light : (own : ℕ) (k : Sums) (at : Place) → some_if (is_over own k) at ≡ None → k.work ≤ 4194304
site_light own k at h = by (nat_lt 65536 own) (nat_lt 4194304 k.weight) (nat_lt 4194304 k.work) refl h
  where
    by : (a b c : Bool) → nat_lt 4194304 k.work ≡ c → some_if (a || b || c) at ≡ None → k.work ≤ 4194304
    by a b false e f = grind (arith, e, leb_tells 4194305 k.work)
    by true b true e f = absurd cc
    by false true true e f = absurd cc
    by false false true e f = absurd cc

first_light : (o p : Option Place) → or_else o p ≡ None → o ≡ None
first_light None p h = refl
first_light (Some at) p h = absurd cc

rest_light : (o p : Option Place) → or_else o p ≡ None → p ≡ None
rest_light None p h = h
rest_light (Some at) p h = absurd cc

-- the last of some steps, if no site is heavy
last_light : (n : Sums) (a : Steps) (at : Place) (s : Shape) → heavy_from n (a ⨾ WeighedSite at s) ≡ None
    → (sums_after n (a ⨾ WeighedSite at s)).work ≤ 4194304
last_light n a at s h = site_light (weight s) (sums_after (sums_after n a) (WeighedSite at s))
    at (rest_light (heavy_from n a) (heavy_from (sums_after n a) (WeighedSite at s)) h)

unit_light : (u : UnitTree) (sc : Entries) (n : Sums) → heavy_from n (unit_steps sc u) ≡ None → (sums_after n (unit_steps sc u)).work ≤ 4194304
unit_light u sc n h =
    let B = maybe_file_steps sc u.body in
    let F = maybe_file_steps sc u.face in
    let L = unit_links sc u.body u.face in
    let at = here (last_file u.body u.face) 1 in
    let s = unit_shape sc u in
    let begun = sums_after n UnitStart in
    let half = sums_after begun B in
    let whole = sums_after half F in
    let i = rest_light (heavy_from n UnitStart) (heavy_from begun (B ⨾ F ⨾ L ⨾ WeighedSite at s)) h in
    let j = rest_light (heavy_from begun B) (heavy_from half (F ⨾ L ⨾ WeighedSite at s)) i in
    let k = rest_light (heavy_from half F) (heavy_from whole (L ⨾ WeighedSite at s)) j in
    last_light whole L at s k

units_light : (us : List UnitTree) (sc : Entries) (n : Sums) → n.work ≤ 4194304 → heavy_from n (units_steps sc us) ≡ None
    → (sums_after n (units_steps sc us)).work ≤ 4194304
units_light [] sc n l h = l
units_light (u ∷ us) sc n l h =
    let a = first_light (heavy_from n (unit_steps sc u)) (heavy_from (sums_after n (unit_steps sc u)) (units_steps (after_unit sc u) us)) h in
    let b = rest_light (heavy_from n (unit_steps sc u)) (heavy_from (sums_after n (unit_steps sc u)) (units_steps (after_unit sc u) us)) h in
    units_light us (after_unit sc u) (sums_after n (unit_steps sc u)) (unit_light u sc n a) b

-- a resolver that begins with nothing, in a scope without entries
pub from_start : (r : Option Recorder) (n : Found) (s : List SharedEntry) (l us : List Unit_tree) (t : Taken) → n ≡ nothing_found r → s ≡ [] → l ≡ us
    → taken (Going n) (units_steps (entries_of s) (map view_unit l)) ≡ t → taken (Going (nothing_found r)) (steps (map view_unit us)) ≡ t
from_start r n s l us t a b c h =
    sym (ap (λ x. taken (Going x) (steps (map view_unit us))) a) ∙ sym (ap (λ x. taken (Going n) (units_steps (entries_of x) (map view_unit us))) b)
    ∙ sym (ap (λ x. taken (Going n) (units_steps (entries_of s) (map view_unit x))) c) ∙ h

-- the state of a resolver at the end
at_start : (r : Option Recorder) → Tracks no_sums (nothing_found r).sums
at_start r = record { weight = refl; work = refl; opened = refl }

pub heavy_taken : (us : List UnitTree) (r : Option Recorder) (at : Place)
    → taken (Going (nothing_found r)) (steps us) ≡ HeavyAt at → heavy us ≡ Some at
heavy_taken us r at h = stopped_heavy (steps us) (nothing_found r) no_sums at (at_start r) h

pub light_taken : (us : List UnitTree) (r : Option Recorder) (m : Found) → taken (Going (nothing_found r)) (steps us) ≡ Going m → heavy us ≡ None
light_taken us r m h = went_light (steps us) (nothing_found r) m no_sums (at_start r) h

arrived : (us : List UnitTree) (r : Option Recorder) (m : Found) → taken (Going (nothing_found r)) (steps us) ≡ Going m
    → Arrived (nothing_found r) no_sums (steps us) m
arrived us r m h = went_there (steps us) (nothing_found r) m no_sums (at_start r) h

within : (us : List UnitTree) (r : Option Recorder) (m : Found) → taken (Going (nothing_found r)) (steps us) ≡ Going m
    → (sums_after no_sums (steps us)).work ≤ 4194304
within us r m h = units_light us none no_sums (omega arith) (light_taken us r m h)

pub facts_taken : (us : List UnitTree) (r : Option Recorder) (m : Found) → taken (Going (nothing_found r)) (steps us) ≡ Going m
    → facts us ≡ record { refs = in_order (λ r. r.at) m.refs; links = m.links; groups = m.groups }
facts_taken us r m h =
    let a = arrived us r m h in
    let facts_with : _ → List Link → List (List Place) → Facts = λ rs ls gs. record { refs = in_order (λ r. r.at) rs; links = ls; groups = gs } in
    sym (ap (λ x. facts_with x m.links m.groups) a.refs ∙ ap (λ x. facts_with (refs_of (steps us)) x m.groups) (a.links (within us r m h))
    ∙ ap (facts_with (refs_of (steps us)) (trace link (steps us)).told) a.groups)

pub looks_taken : (us : List UnitTree) (w : Watch) (m : Found) → taken (Going (nothing_found (Some (record { watch = w; looks = no_looks }))))
    (steps us) ≡ Going m → looks_kept m.recorder ≡ looks w us
looks_taken us w m h =
    let r : Recorder = record { watch = w; looks = no_looks } in
    let ls = (trace (look w) (steps us)).told in
    let whole : ℕ → Looks = λ k. record { refs = in_order (λ look. look.at) (ref_looks w (steps us)); links = numbered 0 ls; passed = k } in
    let number : 0 + length ls ≡ length ls = omega arith in
    ap looks_kept ((arrived us (Some r) m h).recorder (within us (Some r) m h)) ∙ ap whole number

pub groups_told : (us : List UnitTree) → map decls (units_groups us) ≡ (facts us).groups
groups_told us = sym (ap (map decls) (units_found us none))
