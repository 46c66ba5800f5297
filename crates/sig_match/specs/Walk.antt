-- What a walk over shapes finds: the traces of Match and Pin, kept as meetings (own).
use Rattle.std.specs.Prelude.{◌≡◌, ℕ, ◌<◌, ◌≤◌, List, [], ◌∷◌, ◌++◌, Option, Some, None, Result, Ok, Err}
use Rattle.std.specs.Borrow.{Bor}
use Rattle.rotor_base.specs.declared.place.Goal.{Goal}
use Rattle.shape_core.specs.Shape.{Name, Shape, Entries, none, a_val, a_mod, a_mty, a_dark, entries_in, entries_from}
use Rattle.shape_core.specs.Links.{Trace, ◌&◌}
use Rattle.sig_match.specs.declared.found.Meeting.{Meeting}
use Rattle.sig_match.specs.declared.found.Found.{Found}
use Rattle.sig_match.specs.declared.found.Stop.{Stop}
use Rattle.sig_match.specs.declared.found.Stop.TheVariants.{Over, Memory}

-- a value that is linked: its name and its goal, the entries after it, and the list in which its source is looked up.
-- That list is None if the value is pinned
pub record Met : Type 0 where
  pub name : Name
  pub goal : Goal
  pub rest : Entries
  pub source : Option Entries

abbrev pub met : Name → Goal → Entries → Option Entries → Met
met x g rest source = record { name = x; goal = g; rest = rest; source = source }

-- the first entry of a list, if it is a value
abbrev pub met_first : Option Entries → Entries → List Met
met_first source none = []
met_first source (a_val x g rest) = met x g rest source ∷ []
met_first source (a_mod X s rest) = []
met_first source (a_mty S s rest) = []
met_first source (a_dark at rest) = []

abbrev pub list_in : Option (Bor Shape) → Option Entries
list_in None = None
list_in (Some s) = Some (entries_in s.now)

abbrev pub met_at : Meeting → List Met
met_at m = met_first (list_in m.source) (entries_from m.at (entries_in m.list.now))

abbrev pub mets : List Meeting → List Met
mets [] = []
mets (m ∷ ms) = met_at m ++ mets ms

abbrev pub trace_of : Found → Trace Met
trace_of f = record { told = mets f.meetings.items; work = f.work }

-- these meetings, at one unit of work
abbrev pub told_once : List Met → Trace Met
told_once l = record { told = l; work = 1 }

-- a part is added to a trace, and the work stays within the room
abbrev pub Goes : ℕ → Trace Met → Trace Met → Trace Met → Type 0
Goes room before after part = (after ≡ before & part) × (before.work ≤ room → after.work ≤ room)

-- a walk from one trace to another adds a part to it, unless the work would be more than the room
abbrev pub Walks : Result Unit Stop → ℕ → Trace Met → Trace Met → Trace Met → Type 0
Walks (Ok u) room before after part = Goes room before after part
Walks (Err Over) room before after part = room < (before & part).work
Walks (Err Memory) room before after part = Unit {0}
