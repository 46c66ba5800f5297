use Rattle.std.proofs.Common.{◌≡◌, ℕ, Bool, List, Some, length, map, rules, sym, ap, ◌∙◌}
use Rattle.std.specs.List.{list_all, slice_get}
use Rattle.std.specs.Option.{option_map}
use Rattle.std.specs.FinMap.{get}
use Rattle.std.specs.Map.Iter.{deref_pair}
use Rattle.std.proofs.lemmas.List.Folds.{list_all-map}
use Rattle.std.proofs.lemmas.Map.Iter.{iter_turn, iter_end}
use Rattle.open_documents.specs.Document.{is_known}
use Rattle.open_documents.specs.Documents.{documents}
use Rattle.open_documents.proofs.Gathered.{all_known, entry_held}
use Rattle.open_documents.proofs.documents.Documents.first_unknown.Goals as goal

pub returns-then-not-is_known-clause-unknown : goal.returns-then-not-is_known-clause-unknown
returns-then-not-is_known-clause-unknown c =
    let at : slice_get c.args.self.now.held.entries (length c.loop-name.yielded) ≡ Some (c.in-Some.name.now, c.in-Some.document.now) =
    (iter_turn deref_pair c.args.self.now.held.entries c.loop-name.yielded c.into_iter-name-iterator.result c.loop-name.name-iterator c.next.new.self
    c.next.result (search rules) c.loop-name.yielded_by (c.in-Some.name, c.in-Some.document) c.in-Some.is c.next.ensures.steps).1 in
    let held =
    entry_held c.args.self.now (length c.loop-name.yielded) c.in-Some.name.now c.in-Some.document.now c.iter-name-items.ensures.ordered at in
    ap (λ (name : List ℕ). option_map is_known (get (documents c.args.self.now) name)) c.as_str.ensures.value
    ∙ ap (option_map is_known) held ∙ ap (λ (known : Bool). Some known) (sym c.is_known.ensures ∙ c.if-not-is_known.true)

pub returns-clause-known : goal.returns-clause-known
returns-clause-known c = λ name document held.
    let all : map deref_pair c.loop-name.yielded ≡ c.args.self.now.held.entries = search (rules, iter_end) in
    all_known c.args.self.now name document
    (ap (list_all (λ e. is_known e.1)) (sym all) ∙ list_all-map (λ e. is_known e.1) deref_pair c.loop-name.yielded ∙ c.loop-name.invariant) held
