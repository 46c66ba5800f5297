use Rattle.rotor_main.proofs.run_words.Goals as goal

pub returns : goal.returns
returns g c = (c.run_command-ended.result.status, c.run_command-ended.ensures.run, c.exit_code.ensures)
