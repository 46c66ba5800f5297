use Rattle.std.proofs.Common.{codes}
use Rattle.clap.specs.Words.{new_app}
use Rattle.cli_words.specs.Grammar.{IsTold}
use Rattle.cli_words.proofs.Told.{told_sub, told_last_sub}
use Rattle.cli_words.proofs.grammar.program.Goals as goal

pub returns : goal.returns
returns c =
    let check : IsTold c.new.result (new_app (codes "check")) = record { shape = c.new.ensures.app; local = c.new.ensures.local } in
    let recover : IsTold c.new-2.result (new_app (codes "recover")) = record { shape = c.new-2.ensures.app; local = c.new-2.ensures.local } in
    let first = told_sub _ _ _ _ _ c.make_bare.ensures check c.in_ok-subcommand.ensures in
    let second = told_sub _ _ _ _ _ first c.in_ok-footprint.ensures c.in_ok-subcommand-2.ensures in
    let third = told_sub _ _ _ _ _ second c.in_ok-rename.ensures c.in_ok-subcommand-3.ensures in
    let fourth = told_sub _ _ _ _ _ third c.in_ok-sample.ensures c.in_ok-subcommand-4.ensures in
    let fifth = told_sub _ _ _ _ _ fourth c.in_ok-verify.ensures c.in_ok-subcommand-5.ensures in
    let sixth = told_sub _ _ _ _ _ fifth c.in_ok-batch.ensures c.in_ok-subcommand-6.ensures in
    told_last_sub _ _ _ _ c.subcommand-7.result sixth recover c.subcommand-7.ensures
