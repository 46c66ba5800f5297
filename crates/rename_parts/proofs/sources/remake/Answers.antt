use Rattle.std.proofs.Common.{◌∙◌, ap, sym, subst, Option, List, ℕ}
use Rattle.std.specs.Option.{option_map}
use Rattle.std.specs.Global.{Vec}
use Rattle.std.specs.List.{list_all}
use Rattle.std.specs.List.Sorted.{IsStrictlySortedBy}
use Rattle.std.specs.Ordering.{nat_cmp}
use Rattle.std.specs.Cmp.Lexicographic.{slice_cmp}
use Rattle.rotor_base.specs.Files.{load_refusal}
use Rattle.rotor_base.specs.Stem.{is_source_name}
use Rattle.rename_parts.proofs.Numbers.{still_taken}
use Rattle.rename_parts.proofs.sources.remake.Goals as goal

pub from_parts-requires : goal.from_parts-requires
from_parts-requires c =
    let m : Option (List ℕ) = option_map (λ (b : Vec ℕ). b.items) c.in_ok-manifest.manifest in
    let old = c.in_ok-manifest.ensures.project in
    record {
      sources = record {
        named = ap (list_all is_source_name) c.requires.named ∙ old.sources.named;
        ordered = subst (IsStrictlySortedBy (slice_cmp nat_cmp)) (sym c.requires.named) old.sources.ordered;
      };
      taken =
          still_taken c.args.files.now.entries c.args.sources.items m c.requires.named c.requires.small
          (ap (load_refusal c.args.files.now.entries) c.in_ok-manifest.ensures.same ∙ old.taken);
    }
