use Rattle.explain_verify.proofs.Listing.{said_judged, said_no_new}
use Rattle.explain_verify.proofs.verified.explain_verify.Goals as goal

pub returns-in-Explanation-2-clause-said : goal.returns-in-Explanation-2-clause-said
returns-in-Explanation-2-clause-said g c =
    said_no_new (g.T.Tree.content c.args.tree.now) (g.T.Tree.content c.load_or_explain.new.tree) c.args.old.now c.args.new.now c.in_ok-files.field-0
    c.in_ok-files-2.field-0 c.in-Files.files c.in-Explanation-2.explanation c.load_or_explain.ensures.content c.in-Files.is c.in-Explanation-2.is
    c.in_ok-files.ensures.listed c.in_ok-files-2.ensures.listed

pub returns-clause-said : goal.returns-clause-said
returns-clause-said g c =
    said_judged (g.T.Tree.content c.args.tree.now) (g.T.Tree.content c.load_or_explain.new.tree) c.args.old.now c.args.new.now c.in_ok-files.field-0
    c.in_ok-files-2.field-0 c.in-Files.files c.in-Files-2.files c.in_ok-explain_versions.field-0 c.load_or_explain.ensures.content c.in-Files.is
    c.in-Files-2.is c.in_ok-files.ensures.listed c.in_ok-files-2.ensures.listed c.in_ok-explain_versions.ensures
