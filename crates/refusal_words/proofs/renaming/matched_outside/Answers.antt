use Rattle.std.proofs.Common.{refl}
use Rattle.refusal_words.proofs.renaming.matched_outside.Goals as goal

pub returns : goal.returns
returns c =
    rw (c.make_error_at.ensures, c.in_ok-text.ensures, c.in_ok-help.ensures, c.word_at-word.ensures, c.in_ok-spot.ensures, c.new.ensures) refl
