use Rattle.std.proofs.Common.{refl}
use Rattle.refusal_words.proofs.source.duplicate.Goals as goal

pub returns : goal.returns
returns c =
    rw (c.make_error_at.ensures, c.in_ok-text.ensures, c.word_at.ensures, c.in_ok-at.ensures, c.in_ok-notes.ensures) refl
