use Rattle.std.proofs.Common.{◌≡◌, ◌∙◌, ap, sym, subst, ◌+◌, ◌++◌, ◌∷◌, [], List, ℕ, drop, flat_map, None}
use Rattle.std.proofs.lemmas.List.{drop_more}
use Rattle.rotor_base.specs.Files.{AreSources, load_refusal}
use Rattle.rotor_base.specs.declared.source.SourceFile.{SourceFile}
use Rattle.sample_project.specs.Sources.{nonzero_digits, numbers, sources_below, with_digits}
use Rattle.sample_project.proofs.Adding.{added, all_added}
use Rattle.sample_project.proofs.Taken.{are_sources, taken}
use Rattle.sample_project.proofs.sources.sample_files.Goals as goal

pub loop-digit-init : goal.loop-digit-init
loop-digit-init c =
    added c.args.units c.new-sources.result.items c.push_source.new.sources.items (0 ∷ [])
    (flat_map with_digits nonzero_digits) c.in_ok-push_source.ensures
    ∙ ap (λ (old : List SourceFile). old ++ sources_below c.args.units numbers) c.new-sources.ensures.items

pub loop-digit-preserved : goal.loop-digit-preserved
loop-digit-preserved c =
    let n = c.args.units in
    let i = c.loop-digit.digit-index in
    added n c.loop-digit.sources.items c.push_with_digits.new.sources.items (with_digits _) (flat_map with_digits (drop (i + 1) nonzero_digits))
    c.in_ok-push_with_digits.ensures
    ∙ ap (λ (ds : List ℕ). c.loop-digit.sources.items ++ sources_below n (flat_map with_digits ds))
    (sym (drop_more nonzero_digits i _ c.loop-digit-test.true))
    ∙ c.loop-digit.invariant

pub from_parts-requires : goal.from_parts-requires
from_parts-requires c =
    let whole = sym (all_added c.args.units c.loop-digit.digit-index c.loop-digit.sources.items c.loop-digit-test.false c.loop-digit.invariant) in
    record {
      sources = subst AreSources whole (are_sources c.args.units);
      taken = subst (λ (sources : List SourceFile). load_refusal sources None ≡ None) whole (taken c.args.units);
    }

pub returns : goal.returns
returns c =
    c.from_parts.ensures
    ∙ ap (λ (entries : List SourceFile). record { entries = entries; manifest = None })
    (all_added c.args.units c.loop-digit.digit-index c.loop-digit.sources.items c.loop-digit-test.false c.loop-digit.invariant)
