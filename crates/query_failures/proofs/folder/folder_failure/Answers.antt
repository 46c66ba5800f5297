use Rattle.std.proofs.Common.{◌∙◌}
use Rattle.serde_json.specs.View.{view}
use Rattle.query_failures.proofs.Failing.{noted_as}
use Rattle.query_failures.proofs.folder.folder_failure.Goals as goal

pub returns : goal.returns
returns c =
    noted_as c.as_slice.result.now _ (view c.in_ok-load_data.field-0) _ c.noted_failure.result (c.as_slice.ensures ∙ c.in_ok-text.ensures)
    c.in_ok-load_data.ensures.data c.noted_failure.ensures
