-- The parts of Match and Pin that walks go through one by one (the OCaml manual, "Module types").
use Rattle.std.specs.Prelude.{Bool, true, false, Option, Some, None}
use Rattle.shape_core.specs.Shape.{Shape, Struct, Functor, Unitary, Opaque, Entries, none, a_val, a_mod, a_mty, a_dark, unless_some}
use Rattle.shape_core.specs.Shape.{find_mod, find_mty}
use Rattle.shape_core.specs.Links.{Trace, ◌&◌, nothing, a_step, one, pin, pin_vals, matched, or_empty}
use Rattle.sig_match.specs.Walk.{Met, met}

-- a part of a shape that may be absent
abbrev pub pin_part : Option Shape → Trace Met
pin_part None = nothing
pin_part (Some s) = pin met s

abbrev pub match_part : Option Shape → Option Shape → Trace Met
match_part (Some s) (Some t) = matched met s t
match_part (Some s) None = nothing
match_part None t = nothing

-- the first entry of a list that is pinned
abbrev pub pin_first : Entries → Trace Met
pin_first none = nothing
pin_first (a_val x g es) = one (met x g es None)
pin_first (a_mod X s es) = a_step & unless_some (find_mod es X) (pin met s) nothing
pin_first (a_mty S s es) = a_step & unless_some (find_mty es S) (pin met s) nothing
pin_first (a_dark at es) = a_step

-- the first entry of a target
abbrev pub match_first : Entries → Entries → Trace Met
match_first src none = nothing
match_first src (a_val x g es) = one (met x g es (Some src))
match_first src (a_mod X t es) = a_step & unless_some (find_mod es X) (matched met (or_empty (find_mod src X)) t) nothing
match_first src (a_mty S t es) =
    a_step & unless_some (find_mty es S) (matched met (or_empty (find_mty src S)) t & matched met t (or_empty (find_mty src S))) nothing
match_first src (a_dark at es) = a_step & pin_vals met src

-- two shapes of one kind
abbrev pub has_one_kind : Shape → Shape → Bool
has_one_kind (Struct es) (Struct ts) = true
has_one_kind (Functor p r) (Functor q t) = true
has_one_kind (Unitary r) (Unitary t) = true
has_one_kind Opaque Opaque = true
has_one_kind s t = false
