use Rattle.explain.proofs.shown.shown_line.Goals as goal

pub returns : goal.returns
returns c =
    rw (
      c.as_slice-2.ensures,
      c.in_ok-declarations.ensures,
      c.as_slice-3.ensures,
      c.in_ok-uses.ensures,
      c.as_bytes.ensures,
      c.as_slice.ensures,
    ) at c.join_words.ensures
