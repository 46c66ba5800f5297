-- The entries that an opening brings into a scope (own).
use Rattle.std.specs.Prelude.{Option, Some, None}
use Rattle.shape_core.specs.Shape.{Entries, none, a_dark, entries_in}
use Rattle.name_resolve.specs.declared.opened.Opened.{Opened}
use Rattle.name_resolve.specs.declared.opened.Opened.TheVariants as o

abbrev pub brings : Opened → Entries
brings (o.Module s) = entries_in s
brings (o.Dark at) = a_dark at none

-- the same of an item that may open nothing
abbrev pub brings_any : Option Opened → Entries
brings_any None = none
brings_any (Some opened) = brings opened
