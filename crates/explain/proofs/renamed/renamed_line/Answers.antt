use Rattle.explain.proofs.renamed.renamed_line.Goals as goal

pub returns : goal.returns
returns c =
    rw (
      c.as_slice-3.ensures,
      c.in_ok-declarations.ensures,
      c.as_slice-4.ensures,
      c.in_ok-uses.ensures,
      c.as_slice-5.ensures,
      c.in_ok-files.ensures,
      c.as_bytes.ensures,
      c.as_bytes-2.ensures,
      c.as_slice.ensures,
      c.as_slice-2.ensures,
    ) at c.join_words.ensures
