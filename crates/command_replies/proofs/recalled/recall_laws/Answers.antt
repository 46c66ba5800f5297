use Rattle.command_replies.proofs.recalled.recall_laws.Goals as goal

pub returns : goal.returns
returns c = record {
  project = c.loaded_files_are_a_project.ensures;
  loaded_new = c.new_sources_are_loaded.ensures;
  old_back = c.old_sources_are_restored.ensures;
  undos = c.undos_are_read.ensures;
  rewrite = c.renamings_rewrite.ensures;
  undone = c.renamings_are_undone.ensures;
  places = c.undos_have_places.ensures;
  valid = c.renamings_are_valid.ensures;
  facts = c.renamings_keep_facts.ensures;
  runs = c.renamings_keep_runs.ensures;
  least = c.footprints_are_least.ensures;
  shown_least = c.shown_footprints_are_least.ensures.least;
  shown_kept = c.shown_footprints_are_least.ensures.outside;
  changes = c.changes_are_listed.ensures;
  batch_sources = c.batches_rewrite.ensures;
  batch_undone = c.batches_are_undone.ensures;
  batch_asked = c.undos_are_read-2.ensures;
  batch_runs = c.batches_keep_runs.ensures;
  verified = c.yes_is_valid.ensures.valid;
  verified_runs = c.yes_is_valid.ensures.runs;
  verified_all = c.yes_is_valid.ensures.said;
  lists = c.lists_are_one.ensures;
}
