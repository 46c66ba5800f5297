-- The folder that a naming of sources shows (own).
use Rattle.std.specs.Prelude.{Option}
use Rattle.std.specs.Option.{option_map}
use Rattle.tree_io.specs.Outside.{FileMap}
use Rattle.project_load.specs.Entries.{given_by, table_of}
use Rattle.project_load.specs.declared.naming.Naming.{Naming}
use Rattle.project_load.specs.declared.naming.Naming.TheVariants.{Own, Listed}

-- the folder itself, or the folder that a list gives
abbrev pub seen_by : Naming → FileMap → FileMap
seen_by Own held = held
seen_by (Listed list) held = given_by held (table_of list.now)

-- the same, if the content of the folder is known
abbrev pub seen : Naming → Option FileMap → Option FileMap
seen naming content = option_map (seen_by naming) content
