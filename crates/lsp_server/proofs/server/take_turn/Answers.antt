use Rattle.std.proofs.Common.{ℕ, List, Option, ap}
use Rattle.std.specs.Prelude.{Vec}
use Rattle.std.specs.Option.{option_map}
use Rattle.std.specs.declared.alloc.Global.{Global}
use Rattle.lsp_server.specs.Does.{one_text}
use Rattle.lsp_server.proofs.Serving.{takes}
use Rattle.lsp_server.proofs.server.take_turn.Goals as goal

pub returns-in_ok-take_message-in-Ok-Some-clause-turn : goal.returns-in_ok-take_message-in-Ok-Some-clause-turn
returns-in_ok-take_message-in-Ok-Some-clause-turn g c =
    let turn = c.in_ok-take_message-in-Ok-Some.field-0 in
    let items : Option (Vec ℕ Global) → Option (List ℕ) = option_map (λ body. body.items) in
    takes g.A.Answers.replies (g.A.Answers.content c.args.answers.now) c.args.session.now c.take_message.new.session
    (g.R.Read.remaining c.args.input.now) (g.R.Read.remaining c.read_message.new.reader) (items c.in-Ok-Some.field-0) c.in-Ok-Some.body.items
    c.deref.result.now (one_text turn.response) turn.status c.in-Ok-Some.ensures.message (ap items c.in-Ok-Some.field-0-is) c.deref.ensures.value
    c.in_ok-take_message-in-Ok-Some.ensures.follows
