use Rattle.std.proofs.Common.{codes}
use Rattle.clap.specs.Words.{new_app}
use Rattle.cli_words.specs.Grammar.{IsTold}
use Rattle.cli_words.proofs.Told.{told_arg, told_last_arg}
use Rattle.cli_words.proofs.grammar.rename.Goals as goal

pub returns : goal.returns
returns c =
    let bare : IsTold c.new.result (new_app (codes "rename")) = record { shape = c.new.ensures.app; local = c.new.ensures.local } in
    let first = told_arg _ _ _ _ _ bare c.value.ensures.rule c.value.ensures.local c.in_ok-arg.ensures in
    let second = told_arg _ _ _ _ _ first c.value-2.ensures.rule c.value-2.ensures.local c.in_ok-arg-2.ensures in
    let third = told_arg _ _ _ _ _ second c.flag.ensures.rule c.flag.ensures.local c.in_ok-arg-3.ensures in
    let fourth = told_arg _ _ _ _ _ third c.flag-2.ensures.rule c.flag-2.ensures.local c.in_ok-arg-4.ensures in
    told_last_arg _ _ _ _ c.arg-5.result fourth c.flag-3.ensures.rule c.flag-3.ensures.local c.arg-5.ensures
