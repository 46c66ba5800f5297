use Rattle.std.proofs.Common.{◌∙◌, map, string_bytes, option_and_then, ap}
use Rattle.clap.specs.Words.{is_simple, subcommand_of, takes}
use Rattle.cli_words.specs.Grammar.{heard, is_taken, read_of, rotor_app}
use Rattle.cli_words.proofs.Answered.{not_true}
use Rattle.cli_words.proofs.command.parse_words.Goals as goal

pub returns-in-Ok-try_get_matches_from-clause-ok : goal.returns-in-Ok-try_get_matches_from-clause-ok
unfolding read_of
returns-in-Ok-try_get_matches_from-clause-ok c =
    let told = c.in-Ok.ensures.shape in
    let rows = (c.in-Ok-try_get_matches_from.ensures.matches (ap is_simple told)).1 in
    ap (option_and_then heard) (rows ∙ ap (λ app. subcommand_of app (map string_bytes c.args.words.now)) told)

pub returns-in-Err-clause-usage : goal.returns-in-Err-clause-usage
unfolding is_taken
returns-in-Err-clause-usage c = λ e.
    let told = c.in-Ok.ensures.shape in
    not_true (takes rotor_app (map string_bytes c.args.words.now)) (λ taken.
    c.convert_error.ensures (cc) (c.in-Err.ensures.passes (ap (λ app. takes app (map string_bytes c.args.words.now)) told ∙ taken)))
