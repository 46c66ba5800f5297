use Rattle.std.proofs.Common.{◌≡◌, filter, string_bytes, rules, sym}
use Rattle.std.specs.Cmp.Lexicographic.{slice_cmp, on_texts, texts_ties, same_text}
use Rattle.std.specs.Ordering.{nat_cmp}
use Rattle.std.proofs.lemmas.List.Filters.{dedup_is}
use Rattle.std.proofs.lemmas.List.Elements.{filter_from_retain}
use Rattle.std.proofs.lemmas.List.Kept.{IsStrictlySortedBy-dedup}
use Rattle.rotor_base.specs.Stem.{is_source_name}
use Rattle.project_load.proofs.Kept.{any_kept, all_kept, ordered_map}
use Rattle.project_load.proofs.names.source_names.Goals as goal

pub returns-clause-ordered : goal.returns-clause-ordered
returns-clause-ordered c =
    rw (dedup_is _ _ _ c.dedup.ensures.filtered)
    (ordered_map string_bytes
    (slice_cmp nat_cmp) _ (IsStrictlySortedBy-dedup (on_texts (λ x. string_bytes x)) (λ x y. texts_ties (string_bytes x) (string_bytes y))
    _ c.sort_unstable.ensures.sorted))

pub returns-clause-same : goal.returns-clause-same
returns-clause-same c = λ test.
    let kept : c.retain.new.self.items ≡ filter (λ name. is_source_name (string_bytes name)) c.args.listed.items =
    filter_from_retain _ (λ name. is_source_name (string_bytes name)) (λ p x b q k. search rules) _ _ _ c.retain.ensures.filtered in
    rw (dedup_is _ _ _ c.dedup.ensures.filtered)
    (any_kept string_bytes _ (λ x y e. same_text (string_bytes x) (string_bytes y) (sym e)) is_source_name test c.args.listed.items
    c.sort_unstable.new.self.items (rw kept at c.sort_unstable.ensures.permutation))

pub returns-clause-sources : goal.returns-clause-sources
returns-clause-sources c = all_kept is_source_name _ _ (returns-clause-same c)
