use Rattle.std.proofs.Common.{inl, refl}
use Rattle.explain.proofs.checked.explain_checked_folder.Goals as goal

pub returns : goal.returns
returns c =
    inl (
      c.in_ok-counts.counts,
      c.in_ok-counts.ensures,
      record {
        ending = refl;
        warnings = c.in_ok-messages.ensures;
        text = c.in_ok-counts_text.ensures;
        places = c.new.ensures;
      },
    )
