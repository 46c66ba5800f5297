use Rattle.std.proofs.Common.{rules, ◌∙◌, ap, sym, subst, Some, Result, ℕ}
use Rattle.std.proofs.lemmas.List.{get_or_default}
use Rattle.std.proofs.lemmas.List.Sorted.{answers_always}
use Rattle.std.specs.List.Sorted.{IsSearchInRange, IsBinarySearchResult}
use Rattle.std.specs.Ordering.{nat_cmp}
use Rattle.std.proofs.Common.{length}
use Rattle.ml_syntax.specs.declared.sites.Site.{Site}
use Rattle.ml_syntax.specs.Sites.{view_site}
use Rattle.value_places.proofs.Searches.{found, missing, no_site}
use Rattle.value_places.proofs.placed.find_site.Goals as goal

pub returns-in-Ok : goal.returns-in-Ok
returns-in-Ok c =
    let xs = c.args.sites.now in
    let said = c.binary_search_by_key.ensures in
    let by_key = said.position (λ (x : Site). x.token) (answers_always _ _ _ (λ f a r g called. search rules)) in
    let range = subst (λ (r : Result ℕ ℕ). IsSearchInRange r (length xs)) c.in-Ok.is said.bound in
    let at = subst (λ (r : Result ℕ ℕ). IsBinarySearchResult (λ (x : Site). nat_cmp x.token c.args.token) xs r) c.in-Ok.is by_key in
    ap (λ (x : Site). Some (view_site x)) (c.index-sites-at.is ∙ get_or_default xs c.in-Ok.at c.index-sites-at.result no_site range)
    ∙ sym (found xs c.requires c.args.token c.in-Ok.at range at)

pub returns-in-Err : goal.returns-in-Err
returns-in-Err c =
    let xs = c.args.sites.now in
    let said = c.binary_search_by_key.ensures in
    let by_key = said.position (λ (x : Site). x.token) (answers_always _ _ _ (λ f a r g called. search rules)) in
    let range = subst (λ (r : Result ℕ ℕ). IsSearchInRange r (length xs)) c.in-Err.is said.bound in
    let at = subst (λ (r : Result ℕ ℕ). IsBinarySearchResult (λ (x : Site). nat_cmp x.token c.args.token) xs r) c.in-Err.is by_key in
    sym (missing xs c.requires c.args.token c.in-Err.field-0 range at)
