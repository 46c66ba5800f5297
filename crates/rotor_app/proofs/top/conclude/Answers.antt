use Rattle.std.proofs.Common.{map, string_bytes, refl, ap, ◌∙◌, Err}
use Rattle.cli_words.specs.Words.{command_of}
use Rattle.rotor_app.proofs.Concluded.{ends_unread, ends_wanting, ends_carried, failed_rose, memory_same, alone_writes}
use Rattle.rotor_app.proofs.top.conclude.Goals as goal

pub returns-in-Err-Failed-clause-ending : goal.returns-in-Err-Failed-clause-ending
returns-in-Err-Failed-clause-ending g c =
    ends_unread (command_of (map string_bytes c.args.words.now)) (g.T.Tree.faults c.args.tree.now) (g.T.Tree.faults c.decide.new.tree)
    (g.S.Sink.faults c.args.out.now)
    (g.T.Tree.content c.args.tree.now) (g.T.Tree.content c.decide.new.tree)
    (g.S.Sink.taken c.args.out.now) _ _ (c.decide.ensures.read (c.in-Err-Failed.is ∙ ap (λ e. Err e) c.in-Err-Failed.field-0-is))
    c.decide.ensures.cause.later
    (failed_rose _ _ c.decide.result c.decide.ensures.cause (c.in-Err-Failed.is ∙ ap (λ e. Err e) c.in-Err-Failed.field-0-is))
    c.decide.ensures.content refl

pub returns-in-Err-Memory-clause-ending : goal.returns-in-Err-Memory-clause-ending
returns-in-Err-Memory-clause-ending g c =
    ends_wanting (command_of (map string_bytes c.args.words.now)) (g.T.Tree.faults c.args.tree.now) (g.T.Tree.faults c.decide.new.tree)
    (g.S.Sink.faults c.args.out.now)
    (g.T.Tree.content c.args.tree.now) (g.T.Tree.content c.decide.new.tree) (g.S.Sink.taken c.args.out.now) _ _ c.decide.ensures.alone
    (memory_same _ _ c.decide.result c.decide.ensures.cause (c.in-Err-Memory.is ∙ ap (λ e. Err e) c.in-Err-Memory.field-0-is))
    c.decide.ensures.content refl

pub returns-in-Ok-clause-ending : goal.returns-in-Ok-clause-ending
returns-in-Ok-clause-ending g c =
    ends_carried (command_of (map string_bytes c.args.words.now)) (g.T.Tree.faults c.args.tree.now) (g.T.Tree.faults c.decide.new.tree)
    (g.S.Sink.faults c.args.out.now)
    (g.T.Tree.content c.args.tree.now) (g.T.Tree.content c.decide.new.tree) (g.S.Sink.taken c.args.out.now) _ _ _ c.in-Ok.reply
    _ (λ a. c.carry_out.ensures.none (alone_writes _ _ (c.in-Ok.ensures.said_alone a)) ∙ c.decide.ensures.alone a) c.in-Ok.ensures.kind
    c.in-Ok.ensures.said c.in-Ok.ensures.said_alone c.in-Ok.ensures.usage c.in-Ok.ensures.cause.ok
    c.decide.ensures.content c.carry_out.ensures.carried
