-- No encoding of the values so far is known.
use Rattle.std.proofs.Common.{◌≡◌, drop}
use Rattle.serde_json.specs.View.{items_view}
use Rattle.requests.specs.Client.{first_encoding}
use Rattle.requests.proofs.client.first_encoding.Given as goal

abbrev pub invariant-loop-value : goal.invariant-loop-value
invariant-loop-value l = first_encoding (items_view l.list) ≡ first_encoding (items_view (drop l.value-index l.list))
