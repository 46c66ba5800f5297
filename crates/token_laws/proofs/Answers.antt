-- `check` and `footprint` answer the same.
use Rattle.std.proofs.Common.{inl, inr, Ok, Err, ap, ◌∙◌}
use Rattle.binding_model.specs.Facts.{facts}
use Rattle.rename_model.specs.Project.{binder_count}
use Rattle.token_laws.specs.Laws.{ChecksAreTheSame, FootprintsAreTheSame}
use Rattle.token_laws.proofs.Files.{accepts_the_same, aims_the_same, as_many, no_target_the_same, rejects_the_same}
use Rattle.std.proofs.Common.{ℕ, length}

pub checks_are_the_same : ChecksAreTheSame
checks_are_the_same one other (Ok counts) d h = (
  h.0,
  accepts_the_same one other h.0 d h.1,
  h.2
      ∙ ap (λ (n : ℕ). record {
        files = n;
        units = length h.0;
        declarations = binder_count h.0;
        references = length (facts h.0).refs;
        links = length (facts h.0).links;
      }) (as_many one.entries other.entries d.sources),
)
checks_are_the_same one other (Err why) d h = rejects_the_same one other why d h

pub footprints_are_the_same : FootprintsAreTheSame
footprints_are_the_same one other t u (Ok shown) d n h = record {
  project = h.project;
  binder = h.binder;
  foot = h.foot;
  accepts = accepts_the_same one other h.project d h.accepts;
  aims = aims_the_same one other h.project t u h.binder d n h.aims;
  is_foot = h.is_foot;
  report = h.report;
}
footprints_are_the_same one other t u (Err why) d n (inl h) = inl (rejects_the_same one other why d h)
footprints_are_the_same one other t u (Err why) d n (inr h) =
    inr (h.0, accepts_the_same one other h.0 d h.1, no_target_the_same one other h.0 t u why d n h.2)
