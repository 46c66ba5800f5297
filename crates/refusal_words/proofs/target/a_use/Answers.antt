use Rattle.std.proofs.Common.{refl}
use Rattle.refusal_words.proofs.target.a_use.Goals as goal

pub returns : goal.returns
returns c =
    rw (
      c.make_error_at.ensures,
      c.in_ok-text.ensures,
      c.as_slice.ensures,
      c.in_ok-begin.ensures,
      c.in_ok-spot.ensures,
      c.in_ok-notes.ensures,
      c.in_ok-help.ensures,
    ) refl
