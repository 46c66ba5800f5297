-- The names that are known at a file, as the definitions have them (own).
use Rattle.module_openings.specs.Opened.{Linked, Meant, Named}
use Rattle.module_openings.specs.declared.names.Linked.{Linked as Units}
use Rattle.module_openings.specs.declared.names.Meant.{Meant as Modules}
use Rattle.module_openings.specs.declared.names.Names.{Names}

abbrev pub view_linked : Units → Linked
view_linked l = record { units = l.units; nested = l.nested }

abbrev pub view_names : Names → Named
view_names n = record { linked = view_linked n.linked.now; types = n.types }

abbrev pub view_meant : Modules → Meant
view_meant m = record { named = view_names m.names.now; locals = m.locals.now; brought = m.brought }
