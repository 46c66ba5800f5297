use Rattle.std.proofs.Common.{◌≡◌, ◌∙◌, sym, subst, List, Contains, AllPairs}
use Rattle.rotor_base.specs.declared.place.Place.{Place}
use Rattle.rotor_base.specs.declared.place.Link.{Link}
use Rattle.rotor_base.specs.Place.{IsBefore}
use Rattle.dependency_kernel.specs.Foot.{IsLeastFixed, Path}
use Rattle.dependency_kernel.proofs.footprint.Goals as goal

pub returns : goal.returns
returns c =
    let same : c.from_vec.result ≡ c.in_ok-decls.decls.items = c.from_vec.ensures in
    let links : c.as_slice-links.result.now ≡ c.args.facts.now.links = c.as_slice-links.ensures in
    let Ordered : List Place → Type 0 = AllPairs IsBefore in
    let Reached : List Place → Type 0 = λ ps. (p : Place) → Contains ps p → Path c.args.facts.now.links c.args.d p in
    let All : List Place → Type 0 = λ ps. (p : Place) → Path c.args.facts.now.links c.args.d p → Contains ps p in
    let Along : List Link → Type 0 = λ ls. (p : Place) → Contains c.in_ok-decls.decls.items p → Path ls c.args.d p in
    let Whole : List Link → Type 0 = λ ls. (p : Place) → Path ls c.args.d p → Contains c.in_ok-decls.decls.items p in
    let Fixed : List Place → Type 0 = λ ps. IsLeastFixed c.args.facts.now.links ps c.in_ok-outside.outside in
    let Linked : List Link → Type 0 = λ ls. IsLeastFixed ls c.deref.result.now c.in_ok-outside.outside in
    record {
      foot = record {
        ordered = subst Ordered (sym same) c.in_ok-decls.ensures.ordered;
        reached = subst Reached (sym same) (subst Along links c.in_ok-decls.ensures.reached);
        all = subst All (sym same) (subst Whole links c.in_ok-decls.ensures.all);
        outside = subst Fixed (c.deref.ensures.value ∙ sym same) (subst Linked links c.in_ok-outside.ensures);
      };
    }
