-- A renaming to a name that nothing has is accepted if nothing is hidden.
use Rattle.std.proofs.Common.{inl, inr, length, refl}
use Rattle.rotor_base.specs.declared.refusal.Refusal.{Refusal}
use Rattle.rotor_base.specs.declared.report.Renamed.{Renamed}
use Rattle.binding_model.specs.Facts.{facts}
use Rattle.binding_model.specs.Renaming.{name_of}
use Rattle.capture_check.specs.Fault.{IsMet}
use Rattle.project_reading.proofs.Cut.{all_cut}
use Rattle.renamed_sources.proofs.Respelling.{sources_can_be_respelled}
use Rattle.rename_model.specs.Foot.{hits, refs_to}
use Rattle.rename_model.specs.Renaming.{refusals_of_binder, renamed_words, watch_of}
use Rattle.rename_model.specs.Report.{hit_files}
use Rattle.rename_parts.proofs.Rungs.{Rest, none_met}
use Rattle.unused_renamings.specs.Laws.{UnusedIsAccepted}
use Rattle.unused_renamings.proofs.Refused.{IsOfHidden, capture_never, clash_never, mislink_hidden}

pub unused_is_accepted : UnusedIsAccepted
unused_is_accepted files us target d foot new p accepts unused shown aims is free small =
    let cut = all_cut 0 files.entries accepts.reads.trees accepts.reads.read in
    let news = sources_can_be_respelled (renamed_words us (watch_of us d foot new)) 0 files.entries cut.0 cut.1 in
    let done : Renamed = record {
      files = record { entries = news.0; manifest = files.manifest };
      changed = hit_files (hits (facts us).refs foot) 0 files.entries;
      old = name_of us d;
      new = new;
      foot = foot;
      refs = length (refs_to foot (facts us).refs);
      undo_at = d;
    } in (
      done,
      record {
        project = us;
        binder = d;
        foot = foot;
        accepts = accepts;
        aims = aims;
        is_foot = is;
        none = none;
        renaming =
            record {
              sources = news.1;
              manifest = refl;
              changed = refl;
              old_name = refl;
              new_name = refl;
              footprint = refl;
              references = refl;
              target = refl;
            };
      },
    )
  where
    not_hidden : (why : Refusal) → IsOfHidden us why → ⊥
    not_hidden why h = shown h.link h.among h.source

    rest : IsMet (Rest us d foot new files.entries) → ⊥
    rest (why, inl h) = small (why, h)
    rest (why, inr (a, inl h)) = clash_never files us new p accepts unused d foot aims.1 is free why h
    rest (why, inr (a, inr (b, inl h))) = capture_never files us new p accepts unused d foot aims.1 is free why h
    rest (why, inr (a, inr (b, inr (c, inl h)))) = not_hidden why (mislink_hidden files us new p accepts unused d foot aims.1 is free why h)
    rest (why, inr (a, inr (b, inr (c, inr (e, h))))) = h

    none : IsMet (refusals_of_binder files.entries us d foot new) → ⊥
    none met = none_met us d foot new files.entries free rest met.0 met.1
