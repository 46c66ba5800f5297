-- The walk of a pinning, part by part.
use Rattle.std.proofs.Common.{◌≡◌, ℕ, Option, ap}
use Rattle.std.specs.Prelude.{Result, Err}
use Rattle.shape_core.specs.Shape.{Shape, entries_in, param_of, result_of}
use Rattle.shape_core.specs.Links.{Trace, ◌&◌, a_step, pin, pin_entries}
use Rattle.sig_match.specs.declared.found.Stop.{Stop}
use Rattle.sig_match.specs.Walk.{Met, met, Goes, Walks}
use Rattle.sig_match.specs.Parts.{pin_part}
use Rattle.sig_match.proofs.Walks.{walk_then, walk_stops, walk_same, goes_same, joined}
use Rattle.sig_match.proofs.Firsts.{pin_parts}

abbrev listed : Shape → Trace Met
listed s = pin_entries met (entries_in s)

pub pin_stops_first : (e : Stop) (room : ℕ) (t u : Trace Met) (s : Shape) → Walks (Err e) room t u a_step → Walks (Err e) room t u (pin met s)
pin_stops_first e room t u s h =
    walk_same (Err e) room t u _ _ (pin_parts s)
    (walk_stops e room t u u _ (pin_part (result_of s))
    (walk_stops e room t u u _ (pin_part (param_of s)) (walk_stops e room t u u a_step (listed s) h)))

pub pin_stops_list : (e : Stop) (room : ℕ) (t t1 u : Trace Met) (s : Shape) → Goes room t t1 a_step → Walks (Err e) room t1 u (listed s)
    → Walks (Err e) room t u (pin met s)
pin_stops_list e room t t1 u s a h =
    walk_same (Err e) room t u _ _ (pin_parts s)
    (walk_stops e room t u u _ (pin_part (result_of s))
    (walk_stops e room t u u _ (pin_part (param_of s)) (walk_then (Err e) room t t1 u a_step (listed s) a h)))

pub pin_stops_param : (e : Stop) (room : ℕ) (t t1 t2 u : Trace Met) (s : Shape) (o : Option Shape) → o ≡ param_of s → Goes room t t1 a_step
    → Goes room t1 t2 (listed s)
    → Walks (Err e) room t2 u (pin_part o) → Walks (Err e) room t u (pin met s)
pin_stops_param e room t t1 t2 u s o p a b h =
    walk_same (Err e) room t u _ _ (pin_parts s)
    (walk_stops e room t u u _ (pin_part (result_of s))
    (walk_then (Err e) room t t2 u (a_step & listed s) (pin_part (param_of s)) (joined room t t1 t2 a_step (listed s) a b)
    (walk_same (Err e) room t2 u _ _ (ap pin_part p) h)))

pub pin_walks : (r : Result Unit Stop) (room : ℕ) (t t1 t2 t3 u : Trace Met) (s : Shape) (o q : Option Shape) → o ≡ param_of s → q ≡ result_of s
    → Goes room t t1 a_step → Goes room t1 t2 (listed s)
    → Goes room t2 t3 (pin_part o) → Walks r room t3 u (pin_part q) → Walks r room t u (pin met s)
pin_walks r room t t1 t2 t3 u s o q p l a b c h =
    walk_same r room t u _ _ (pin_parts s)
    (walk_then r room t t3 u (a_step & listed s & pin_part (param_of s)) (pin_part (result_of s))
    (joined room t t2 t3 (a_step & listed s) (pin_part (param_of s)) (joined room t t1 t2 a_step (listed s) a b)
    (goes_same room t2 t3 _ _ (ap pin_part p) c))
    (walk_same r room t3 u _ _ (ap pin_part l) h))
