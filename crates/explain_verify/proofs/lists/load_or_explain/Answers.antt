use Rattle.explain_verify.proofs.Listing.{bad_listed, fails_so, load_listed}
use Rattle.explain_verify.proofs.lists.load_or_explain.Goals as goal

pub returns-in_ok-explain_unread_list-in-Err-Load-clause-listed : goal.returns-in_ok-explain_unread_list-in-Err-Load-clause-listed
returns-in_ok-explain_unread_list-in-Err-Load-clause-listed g c =
    load_listed (g.T.Tree.content c.args.tree.now) c.args.list.now c.in-Err-Load.error c.load_list.result
    c.in_ok-explain_unread_list-in-Err-Load.field-0
    (fails_so c.load_list.result c.in-Err-Load.field-0 _ c.in-Err-Load.is c.in-Err-Load.field-0-is)
    c.in_ok-explain_unread_list-in-Err-Load.ensures.other
    c.in_ok-explain_unread_list-in-Err-Load.ensures.explanation
    c.load_list.ensures.answer

pub returns-in_ok-explain_bad_list-in-Err-BadList-clause-listed : goal.returns-in_ok-explain_bad_list-in-Err-BadList-clause-listed
returns-in_ok-explain_bad_list-in-Err-BadList-clause-listed g c =
    bad_listed (g.T.Tree.content c.args.tree.now) (g.T.Tree.content c.load_list.new.tree) c.args.list.now c.in-Err-BadList.line c.load_list.result
    c.in_ok-explain_bad_list-in-Err-BadList.field-0 c.load_list.ensures.content
    (fails_so c.load_list.result c.in-Err-BadList.field-0 _ c.in-Err-BadList.is c.in-Err-BadList.field-0-is) c.load_list.ensures.answer
    c.in_ok-explain_bad_list-in-Err-BadList.ensures.bad
