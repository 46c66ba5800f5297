use Rattle.std.proofs.Common.{refl}
use Rattle.refusal_words.proofs.captured.captured_use.Goals as goal

pub returns : goal.returns
returns c =
    rw (
      c.make_error_at.ensures,
      c.in_ok-text.ensures,
      c.as_slice.ensures,
      c.as_slice-2.ensures,
      c.in_ok-old.ensures,
      c.in_ok-new.ensures,
      c.in_ok-spot.ensures,
      c.from_vec.ensures,
      c.in_ok-push-2.ensures.items,
      c.in_ok-push.ensures.items,
      c.new-notes.ensures.items,
      c.in_ok-note_at.ensures,
      c.in_ok-note_at-2.ensures,
      c.in_ok-help.ensures,
      c.word_at-name.ensures,
    ) refl
