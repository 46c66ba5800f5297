use Rattle.std.proofs.Common.{map}
use Rattle.refusal_words.specs.Cut.{view_cut}
use Rattle.document_answers.proofs.Valued.{nothing_renamed, nothing_told}
use Rattle.document_answers.proofs.value.nothing_reply.Goals as goal

pub returns-in_ok-valueless_failure-in-Rename-clause-reply : goal.returns-in_ok-valueless_failure-in-Rename-clause-reply
returns-in_ok-valueless_failure-in-Rename-clause-reply c =
    nothing_renamed (map view_cut c.args.cuts.now) c.args.place c.args.found c.args.query _ c.in_ok-valueless_failure-in-Rename.field-0 c.in-Rename.is
    c.in_ok-valueless_failure-in-Rename.ensures

pub returns-in_default-clause-reply : goal.returns-in_default-clause-reply
returns-in_default-clause-reply c =
    nothing_told (map view_cut c.args.cuts.now) c.args.place c.args.found c.args.query c.in_default.not-Rename
