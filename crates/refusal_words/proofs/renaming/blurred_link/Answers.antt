use Rattle.std.proofs.Common.{refl}
use Rattle.refusal_words.proofs.renaming.blurred_link.Goals as goal

pub returns : goal.returns
returns c =
    rw (
      c.make_error_at.ensures,
      c.in_ok-text.ensures,
      c.word_at.ensures,
      c.as_slice.ensures,
      c.in_ok-place.ensures,
      c.in_ok-by.ensures,
      c.in_ok-spot.ensures,
      c.in_ok-notes.ensures,
    ) refl
