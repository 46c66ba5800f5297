use Rattle.difference_words.proofs.warning.warn_indexed.Goals as goal

pub returns : goal.returns
returns c =
    rw (
      c.in_ok-text.ensures,
      c.form_text.ensures,
      c.module_name.ensures,
      c.in_ok-help.ensures,
      c.module_name-2.ensures,
      c.in_ok-at.ensures,
    ) at c.warning_at.ensures
