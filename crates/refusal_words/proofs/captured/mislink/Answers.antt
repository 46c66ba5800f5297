use Rattle.std.proofs.Common.{refl}
use Rattle.refusal_words.proofs.captured.mislink.Goals as goal

pub returns : goal.returns
returns c =
    rw (
      c.make_error_at.ensures,
      c.in_ok-text.ensures,
      c.word_at.ensures,
      c.as_slice.ensures,
      c.as_slice-2.ensures,
      c.in_ok-now.ensures,
      c.in_ok-then.ensures,
      c.article.ensures,
      c.is_declared.ensures,
      c.in_ok-spot.ensures,
      c.from_vec.ensures,
      c.in_ok-add_goal_note-2.ensures,
      c.in_ok-add_goal_note.ensures,
      c.new-notes.ensures.items,
      c.in_ok-help.ensures,
    ) refl
