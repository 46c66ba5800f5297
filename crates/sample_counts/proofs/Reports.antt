-- What `sample` reports of so many units.
use Rattle.std.proofs.Common.{◌≡◌, ◌∙◌, sym, ap, subst, ℕ, zero, suc, ◌-◌, ◌*◌, ◌≤◌, List, [], ◌∷◌, Some, Option, Ok, length, codes, arith, true}
use Rattle.std.specs.Prelude.{Contains}
use Rattle.std.specs.List.{list_any}
use Rattle.rotor_base.specs.declared.place.Place.{Place}
use Rattle.rotor_base.specs.declared.place.Foot.{Foot}
use Rattle.rotor_base.specs.declared.report.Renamed.{Renamed}
use Rattle.rotor_base.specs.Place.{same_place}
use Rattle.ml_trees.specs.Tree.{UnitTree}
use Rattle.dependency_kernel.specs.Foot.{Path}
use Rattle.shape_core.specs.Shape.{none}
use Rattle.binding_model.specs.Facts.{facts}
use Rattle.binding_model.proofs.Sounds.{same_self}
use Rattle.binding_model.specs.Scopes.{after_units}
use Rattle.project_reading.specs.Reads.{Reads}
use Rattle.rename_model.specs.Foot.{refs_to, IsTheFoot}
use Rattle.rename_model.specs.Target.{dotted}
use Rattle.rename_parts.proofs.Having.{any_has, has_contained}
use Rattle.sample_project.specs.Sample.{Answers, report_of}
use Rattle.sample_project.specs.Sources.{sample_files}
use Rattle.sample_counts.specs.Laws.{SamplesAreCounted, counted_report}
use Rattle.sample_counts.proofs.Walked.{first_unit, sig_f}
use Rattle.sample_counts.proofs.Counted.{AreOthers, aims, counted}
use Rattle.sample_counts.proofs.Numbers.{later_below}
use Rattle.sample_counts.proofs.Project.{read_sample}
use Rattle.sample_counts.proofs.Linked.{two_members}

-- `U0.S.f`
abbrev target_path : List (List ℕ)
target_path = codes "U0" ∷ codes "S" ∷ codes "f" ∷ []

one_place : (a b : Place) → ◌≡◌ {A = Option Place} (Some a) (Some b) → a ≡ b
one_place a b e = cc

-- a member is found by the test
in_foot : (decls : List Place) (d : Place) → Contains decls d → list_any (same_place d) decls ≡ true
in_foot decls d c = any_has (same_place d) decls (has_contained (λ q. same_place d q ≡ true) decls d c (same_self d))

-- the numbers of a project that is a sample
record AreCounted (us : List UnitTree) (foot : Foot) (others : ℕ) : Type 0 where
  references : length (refs_to foot (facts us).refs) ≡ 3 * others
  declarations : length foot.decls ≡ 2

-- a first unit, another one, and further ones
counted_units : (us : List UnitTree) (u : UnitTree) (rest : List UnitTree) (d : Place) (foot : Foot) → us ≡ first_unit ∷ u ∷ rest
    → AreOthers (u ∷ rest) → dotted (after_units none us) target_path ≡ Some d → IsTheFoot us d foot → AreCounted us foot (length (u ∷ rest))
counted_units us u rest d foot e os aimed is_foot =
    let named : d ≡ sig_f =
    one_place d sig_f (sym aimed ∙ ap (λ (vs : List UnitTree). dotted (after_units none vs) target_path) e ∙ aims (u ∷ rest) os) in
    let member : Contains foot.decls sig_f = subst (Contains foot.decls) named (is_foot.all d Path.here) in
    let whole : IsTheFoot (first_unit ∷ u ∷ rest) sig_f foot =
    subst (λ (p : Place). IsTheFoot (first_unit ∷ u ∷ rest) p foot) named (subst (λ (vs : List UnitTree). IsTheFoot vs d foot) e is_foot) in
    record {
      references =
          ap (λ (vs : List UnitTree). length (refs_to foot (facts vs).refs)) e ∙ counted foot (in_foot foot.decls sig_f member) (u ∷ rest) os;
      declarations = two_members u rest foot os whole;
    }

-- a first unit and so many less one
counted_rest : (n : ℕ) (us rest : List UnitTree) (d : Place) (foot : Foot) → 2 ≤ n → us ≡ first_unit ∷ rest → AreOthers rest → length rest ≡ n - 1
    → dotted (after_units none us) target_path ≡ Some d → IsTheFoot us d foot → AreCounted us foot (n - 1)
counted_rest n us [] d foot some e os many aimed is_foot = absurd (omega (arith, some, many))
counted_rest n us (u ∷ rest) d foot some e os many aimed is_foot =
    subst (AreCounted us foot) many (counted_units us u rest d foot e os aimed is_foot)

-- what a sample is read as
counted_project : (n : ℕ) (us : List UnitTree) (d : Place) (foot : Foot) → 2 ≤ n → n ≤ 1000 → Reads (sample_files n) us
    → dotted (after_units none us) target_path ≡ Some d → IsTheFoot us d foot → AreCounted us foot (n - 1)
counted_project zero us d foot some few reads aimed is_foot = absurd (omega (arith, some))
counted_project (suc n) us d foot some few reads aimed is_foot =
    let r = read_sample n us reads in
    counted_rest (suc n) us r.0 d foot some r.1 r.2 (r.3 ∙ later_below (suc n) few) aimed is_foot

reported : (n : ℕ) (done : Renamed) → done.refs ≡ 3 * (n - 1) → length done.foot.decls ≡ 2 → report_of n done ≡ counted_report n
reported n done r f =
    ap (λ (m : ℕ). record { units = n; footprint = m; references = done.refs; undone = true }) f
    ∙ ap (λ (m : ℕ). record { units = n; footprint = 2; references = m; undone = true }) r

reports : (n : ℕ) (done : Renamed) → 2 ≤ n → n ≤ 1000 → Answers n (Ok done) → report_of n done ≡ counted_report n
reports n done some few a =
    let c = counted_project n a.project a.binder a.foot some few a.accepts.reads a.aims.0 a.is_foot in
    reported n done (a.renaming.references ∙ c.references) (ap (λ (foot : Foot). length foot.decls) a.renaming.footprint ∙ c.declarations)

pub samples_are_counted : SamplesAreCounted
samples_are_counted n report some few s = s.3 ∙ reports n s.0 some few s.1
