use Rattle.std.proofs.Common.{◌≡◌, ◌++◌, true, List, [], ◌∷◌, String, Global, IsPermutation, map, string_bytes, filter, refl, sym, ap, subst, ◌∙◌}
use Rattle.std.specs.List.{list_any}
use Rattle.std.specs.Cmp.Lexicographic.{slice_cmp, on_texts, texts_ties, same_text}
use Rattle.std.specs.Ordering.{nat_cmp}
use Rattle.std.proofs.lemmas.List.{map-append}
use Rattle.std.proofs.lemmas.List.Filters.{dedup_is}
use Rattle.std.proofs.lemmas.List.Folds.{list_any-append}
use Rattle.std.proofs.lemmas.List.Kept.{IsStrictlySortedBy-dedup}
use Rattle.project_load.proofs.Kept.{any_kept, ordered_map}
use Rattle.open_documents.proofs.names.join_names.Goals as goal

pub returns-clause-ordered : goal.returns-clause-ordered
returns-clause-ordered c =
    rw (dedup_is _ _ _ c.dedup.ensures.filtered)
    (ordered_map string_bytes
    (slice_cmp nat_cmp) _ (IsStrictlySortedBy-dedup (on_texts (λ x. string_bytes x)) (λ x y. texts_ties (string_bytes x) (string_bytes y))
    _ c.sort_unstable.ensures.sorted))

all_pass : (names : List (String Global)) → filter (λ (name : String Global). true) names ≡ names
all_pass [] = refl
all_pass (name ∷ names) = ap (λ (rest : List (String Global)). name ∷ rest) (all_pass names)

pub returns-clause-same : goal.returns-clause-same
returns-clause-same c = λ test.
    let both : c.append.new.self.items ≡ c.args.names.items ++ c.args.more.items = c.in_ok-append.ensures.items in
    let moved : IsPermutation (filter (λ (name : String Global). true) (c.args.names.items ++ c.args.more.items)) c.sort_unstable.new.self.items =
    subst (λ (names : List (String Global)). IsPermutation names c.sort_unstable.new.self.items)
    (both ∙ sym (all_pass (c.args.names.items ++ c.args.more.items))) c.sort_unstable.ensures.permutation in
    rw (dedup_is _ _ _ c.dedup.ensures.filtered)
    (any_kept string_bytes _ (λ x y e. same_text (string_bytes x) (string_bytes y) (sym e)) (λ _. true) test
    (c.args.names.items ++ c.args.more.items) c.sort_unstable.new.self.items moved
    ∙ ap (list_any test) (map-append string_bytes c.args.names.items c.args.more.items)
    ∙ list_any-append test (map string_bytes c.args.names.items) (map string_bytes c.args.more.items))
