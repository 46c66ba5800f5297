-- What single look-ups add to a recorder (own).
use Rattle.std.specs.Prelude.{ℕ, [], ◌∷◌, Option, Some, None, map, ◌++◌, ◌+◌}
use Rattle.rotor_base.specs.declared.place.Place.{Place}
use Rattle.rotor_base.specs.declared.place.Goal.{Goal}
use Rattle.rotor_base.specs.declared.place.Goal.TheVariants.{Missing}
use Rattle.rotor_base.specs.declared.looks.LinkLook.{LinkLook}
use Rattle.rotor_base.specs.declared.looks.Looks.{Looks}
use Rattle.shape_core.specs.Shape.{Name, Entries, none, a_val, a_mod, a_mty, a_dark, or_value, find_val}
use Rattle.shape_core.specs.Looks.{look, numbered}
use Rattle.binding_model.specs.declared.found.Recorder.{Recorder}
use Rattle.binding_model.specs.declared.found.Found.{Found}
use Rattle.binding_model.specs.Looks.{ref_look}

-- the look of a reference, looked up in a list
abbrev pub use_recorded : Option Recorder → Place → Name → Goal → Entries → Option Recorder
use_recorded None at x g es = None
use_recorded (Some r) at x g es = Some (record r { looks = record r.looks { refs = r.looks.refs ++ ref_look r.watch at x g es } })

-- looks of links, numbered after others
abbrev pub moved : ℕ → LinkLook → LinkLook
moved n l = record l { number = n + l.number }

abbrev pub joined_looks : Looks → Looks → Looks
joined_looks a b = record { refs = a.refs; links = a.links ++ map (moved a.passed) b.links; passed = a.passed + b.passed }

-- a variable of an or-pattern, looked up among those of another part
abbrev pub tie_recorded : Option Recorder → Name → Goal → Entries → Option Recorder
tie_recorded None x g src = None
tie_recorded (Some r) x g src = Some (record r {
  looks = record r.looks {
    links = r.looks.links ++ numbered r.looks.passed (look r.watch x g none (Some src) ∷ []);
    passed = r.looks.passed + 1;
  };
})

abbrev pub with_tie : Found → Name → Goal → Entries → Found
with_tie n x g src = record n {
  links = n.links ++ record { item = g; source = or_value (find_val src x) Missing } ∷ [];
  recorder = tie_recorded n.recorder x g src;
}

-- all variables of a part
abbrev pub tied_to : Found → Entries → Entries → Found
tied_to n src none = n
tied_to n src (a_val x g es) = tied_to (with_tie n x g src) src es
tied_to n src (a_mod X s es) = tied_to n src es
tied_to n src (a_mty S s es) = tied_to n src es
tied_to n src (a_dark at es) = tied_to n src es
