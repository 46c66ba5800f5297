use Rattle.kept_projects.proofs.open.known_trees.Goals as goal

pub from_project-requires : goal.from_project-requires
from_project-requires c = c.into_parts-olds.ensures.kept.accepts.reads
