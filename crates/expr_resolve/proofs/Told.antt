-- What is found of an expression is what its steps give.
use Rattle.std.proofs.Common.{◌≡◌, ℕ, ◌+◌, ◌≤◌, length, Some, None, refl, ap, ◌∙◌, arith}
use Rattle.rotor_base.specs.declared.place.Place.{Place}
use Rattle.rotor_base.specs.declared.looks.Watch.{Watch}
use Rattle.rotor_base.specs.declared.looks.Looks.{Looks}
use Rattle.shape_core.specs.Looks.{look, numbered}
use Rattle.binding_model.specs.declared.found.Sums.{Sums}
use Rattle.binding_model.specs.declared.found.Found.{Found}
use Rattle.binding_model.specs.declared.found.Recorder.{Recorder}
use Rattle.binding_model.specs.Facts.{in_order, facts_of}
use Rattle.binding_model.specs.Looks.{ref_looks, looks_in}
use Rattle.binding_model.specs.Steps.{Steps, trace}
use Rattle.binding_model.specs.Sums.{no_sums, sums_after, heavy_from}
use Rattle.binding_model.specs.Taken.{Going, HeavyAt, taken, nothing_found, no_looks, Tracks, Arrived}
use Rattle.found_facts.specs.Kept.{found_from, looks_kept}
use Rattle.found_facts.proofs.Arriving.{stopped_heavy, went_light, went_there}

itself : (k : Sums) → k.work ≤ 4194305 → Tracks k (found_from k).sums
itself k h = record { weight = refl; work = omega (arith, h); opened = refl }

there : (ss : Steps) (k : Sums) (m : Found) → k.work ≤ 4194305 → taken (Going (found_from k)) ss ≡ Going m → Arrived (found_from k) k ss m
there ss k m h e = went_there ss (found_from k) m k (itself k h) e

pub refs_told : (ss : Steps) (k : Sums) (m : Found) → k.work ≤ 4194305 → taken (Going (found_from k)) ss ≡ Going m
    → in_order (λ r. r.at) m.refs ≡ (facts_of ss).refs
refs_told ss k m h e = ap (in_order (λ r. r.at)) (there ss k m h e).refs

pub groups_told : (ss : Steps) (k : Sums) (m : Found) → k.work ≤ 4194305 → taken (Going (found_from k)) ss ≡ Going m → m.groups ≡ (facts_of ss).groups
groups_told ss k m h e = (there ss k m h e).groups

pub sums_told : (ss : Steps) (k : Sums) (m : Found) → k.work ≤ 4194305 → taken (Going (found_from k)) ss ≡ Going m → Tracks (sums_after k ss) m.sums
sums_told ss k m h e = (there ss k m h e).sums

small : (k j : Sums) → Tracks k j → j.work ≤ 4194304 → k.work ≤ 4194304
small k j t h = omega (arith, t.work, h)

pub links_told : (ss : Steps) (k : Sums) (m : Found) → k.work ≤ 4194305 → taken (Going (found_from k)) ss ≡ Going m → m.sums.work ≤ 4194304
    → m.links ≡ (facts_of ss).links
links_told ss k m h e l = (there ss k m h e).links (small (sums_after k ss) m.sums (there ss k m h e).sums l)

pub light_told : (ss : Steps) (k : Sums) (m : Found) → k.work ≤ 4194305 → taken (Going (found_from k)) ss ≡ Going m → heavy_from k ss ≡ None
light_told ss k m h e = went_light ss (found_from k) m k (itself k h) e

pub heavy_told : (ss : Steps) (k : Sums) (at : Place) → k.work ≤ 4194305 → taken (Going (found_from k)) ss ≡ HeavyAt at → heavy_from k ss ≡ Some at
heavy_told ss k at h e = stopped_heavy ss (found_from k) k at (itself k h) e

pub looks_told : (ss : Steps) (w : Watch) (m : Found) → taken (Going (nothing_found (Some (record { watch = w; looks = no_looks })))) ss ≡ Going m
    → m.sums.work ≤ 4194304
    → looks_kept m.recorder ≡ looks_in w ss
looks_told ss w m e l =
    let r : Recorder = record { watch = w; looks = no_looks } in
    let a = went_there ss (nothing_found (Some r)) m no_sums (record { weight = refl; work = refl; opened = refl }) e in
    let os = (trace (look w) ss).told in
    let whole : ℕ → Looks = λ k. record { refs = in_order (λ look. look.at) (ref_looks w ss); links = numbered 0 os; passed = k } in
    let number : 0 + length os ≡ length os = omega arith in
    ap looks_kept (a.recorder (small (sums_after no_sums ss) m.sums a.sums l)) ∙ ap whole number
