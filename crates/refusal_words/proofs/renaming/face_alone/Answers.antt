use Rattle.std.proofs.Common.{refl}
use Rattle.refusal_words.proofs.renaming.face_alone.Goals as goal

pub returns : goal.returns
returns c =
    rw (
      c.make_error_at.ensures,
      c.in_ok-text.ensures,
      c.word_at.ensures,
      c.in_ok-help.ensures,
      c.saturating_sub.ensures,
      c.source_name-file.ensures,
      c.in_ok-spot.ensures,
      c.new.ensures,
    ) refl
