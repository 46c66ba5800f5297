-- The walk of a match, part by part.
use Rattle.std.proofs.Common.{◌≡◌, ℕ, Bool, true, false, Option, refl, sym, ap, ◌∙◌}
use Rattle.std.specs.Prelude.{Result, Err}
use Rattle.shape_core.specs.Shape.{Shape, Struct, Functor, Unitary, Opaque, entries_in, param_of, result_of}
use Rattle.shape_core.specs.Links.{Trace, ◌&◌, nothing, a_step, pin, match_entries, matched}
use Rattle.shape_core.proofs.Matches.{then_nothing, matched_is, matched_structs, matched_functors, matched_unitaries}
use Rattle.sig_match.specs.declared.found.Stop.{Stop}
use Rattle.sig_match.specs.Walk.{Met, met, Goes, Walks}
use Rattle.sig_match.specs.Parts.{match_part, has_one_kind}
use Rattle.sig_match.proofs.Walks.{walk_then, walk_stops, walk_same, goes_same, joined}

abbrev listed : Shape → Shape → Trace Met
listed s t = match_entries met (matched met) (entries_in s) (entries_in t)

abbrev params : Shape → Shape → Trace Met
params s t = match_part (param_of t) (param_of s)

abbrev results : Shape → Shape → Trace Met
results s t = match_part (result_of s) (result_of t)

match_parts : (s t : Shape) → has_one_kind s t ≡ true → a_step & listed s t & params s t & results s t ≡ matched met s t
match_parts (Struct es) (Struct ts) h = then_nothing (a_step & listed (Struct es) (Struct ts) & nothing)
    ∙ then_nothing (a_step & listed (Struct es) (Struct ts)) ∙ sym (matched_structs met es ts)
match_parts (Struct es) (Functor q t) h = absurd cc
match_parts (Struct es) (Unitary t) h = absurd cc
match_parts (Struct es) Opaque h = absurd cc
match_parts (Functor p r) (Struct ts) h = absurd cc
match_parts (Functor p r) (Functor q t) h = ap (λ z. z & matched met q p & matched met r t) (then_nothing a_step) ∙ sym (matched_functors met p r q t)
match_parts (Functor p r) (Unitary t) h = absurd cc
match_parts (Functor p r) Opaque h = absurd cc
match_parts (Unitary r) (Struct ts) h = absurd cc
match_parts (Unitary r) (Functor q t) h = absurd cc
match_parts (Unitary r) (Unitary t) h = ap (λ z. z & matched met r t) (then_nothing (a_step & nothing) ∙ then_nothing a_step)
    ∙ sym (matched_unitaries met r t)
match_parts (Unitary r) Opaque h = absurd cc
match_parts Opaque (Struct ts) h = absurd cc
match_parts Opaque (Functor q t) h = absurd cc
match_parts Opaque (Unitary t) h = absurd cc
match_parts Opaque Opaque h = then_nothing (a_step & nothing & nothing) ∙ then_nothing (a_step & nothing) ∙ then_nothing a_step
    ∙ sym (matched_is met Opaque Opaque)

pin_parts : (s t : Shape) → has_one_kind s t ≡ false → a_step & pin met t & pin met s ≡ matched met s t
pin_parts (Struct es) (Struct ts) h = absurd cc
pin_parts (Struct es) (Functor q t) h = sym (matched_is met (Struct es) (Functor q t))
pin_parts (Struct es) (Unitary t) h = sym (matched_is met (Struct es) (Unitary t))
pin_parts (Struct es) Opaque h = sym (matched_is met (Struct es) Opaque)
pin_parts (Functor p r) (Struct ts) h = sym (matched_is met (Functor p r) (Struct ts))
pin_parts (Functor p r) (Functor q t) h = absurd cc
pin_parts (Functor p r) (Unitary t) h = sym (matched_is met (Functor p r) (Unitary t))
pin_parts (Functor p r) Opaque h = sym (matched_is met (Functor p r) Opaque)
pin_parts (Unitary r) (Struct ts) h = sym (matched_is met (Unitary r) (Struct ts))
pin_parts (Unitary r) (Functor q t) h = sym (matched_is met (Unitary r) (Functor q t))
pin_parts (Unitary r) (Unitary t) h = absurd cc
pin_parts (Unitary r) Opaque h = sym (matched_is met (Unitary r) Opaque)
pin_parts Opaque (Struct ts) h = sym (matched_is met Opaque (Struct ts))
pin_parts Opaque (Functor q t) h = sym (matched_is met Opaque (Functor q t))
pin_parts Opaque (Unitary t) h = sym (matched_is met Opaque (Unitary t))
pin_parts Opaque Opaque h = absurd cc

-- shapes of two kinds
pub pins_stop : (e : Stop) (room : ℕ) (t0 t1 u : Trace Met) (s t : Shape) → has_one_kind s t ≡ false → Goes room t0 t1 a_step
    → Walks (Err e) room t1 u (pin met t) → Walks (Err e) room t0 u (matched met s t)
pins_stop e room t0 t1 u s t k a h =
    walk_same (Err e) room t0 u _ _ (pin_parts s t k)
    (walk_stops e room t0 u u (a_step & pin met t) (pin met s) (walk_then (Err e) room t0 t1 u a_step (pin met t) a h))

pub pins_walk : (r : Result Unit Stop) (room : ℕ) (t0 t1 t2 u : Trace Met) (s t : Shape) → has_one_kind s t ≡ false → Goes room t0 t1 a_step
    → Goes room t1 t2 (pin met t) → Walks r room t2 u (pin met s) → Walks r room t0 u (matched met s t)
pins_walk r room t0 t1 t2 u s t k a b h =
    walk_same r room t0 u _ _ (pin_parts s t k)
    (walk_then r room t0 t2 u (a_step & pin met t) (pin met s) (joined room t0 t1 t2 a_step (pin met t) a b) h)

-- shapes of one kind
first_stops : (e : Stop) (room : ℕ) (t0 u : Trace Met) (s t : Shape) (b : Bool) → has_one_kind s t ≡ b → Walks (Err e) room t0 u a_step
    → Walks (Err e) room t0 u (matched met s t)
first_stops e room t0 u s t true k h =
    walk_same (Err e) room t0 u _ _ (match_parts s t k)
    (walk_stops e room t0 u u _ (results s t) (walk_stops e room t0 u u _ (params s t) (walk_stops e room t0 u u a_step (listed s t) h)))
first_stops e room t0 u s t false k h =
    walk_same (Err e) room t0 u _ _ (pin_parts s t k)
    (walk_stops e room t0 u u _ (pin met s) (walk_stops e room t0 u u a_step (pin met t) h))

pub match_stops_first : (e : Stop) (room : ℕ) (t0 u : Trace Met) (s t : Shape) → Walks (Err e) room t0 u a_step
    → Walks (Err e) room t0 u (matched met s t)
match_stops_first e room t0 u s t h = first_stops e room t0 u s t (has_one_kind s t) refl h

pub match_stops_list : (e : Stop) (room : ℕ) (t0 t1 u : Trace Met) (s t : Shape) → has_one_kind s t ≡ true → Goes room t0 t1 a_step
    → Walks (Err e) room t1 u (listed s t) → Walks (Err e) room t0 u (matched met s t)
match_stops_list e room t0 t1 u s t k a h =
    walk_same (Err e) room t0 u _ _ (match_parts s t k)
    (walk_stops e room t0 u u _ (results s t) (walk_stops e room t0 u u _ (params s t) (walk_then (Err e) room t0 t1 u a_step (listed s t) a h)))

pub match_stops_params : (e : Stop) (room : ℕ) (t0 t1 t2 u : Trace Met) (s t : Shape) (o p : Option Shape) → has_one_kind s t ≡ true → o ≡ param_of t
    → p ≡ param_of s → Goes room t0 t1 a_step → Goes room t1 t2 (listed s t)
    → Walks (Err e) room t2 u (match_part o p) → Walks (Err e) room t0 u (matched met s t)
match_stops_params e room t0 t1 t2 u s t o p k f g a b h =
    walk_same (Err e) room t0 u _ _ (match_parts s t k)
    (walk_stops e room t0 u u _ (results s t)
    (walk_then (Err e) room t0 t2 u (a_step & listed s t) (params s t) (joined room t0 t1 t2 a_step (listed s t) a b)
    (walk_same (Err e) room t2 u (match_part o p) (params s t) (ap (λ z. match_part z p) f ∙ ap (λ z. match_part (param_of t) z) g) h)))

pub match_walks : (r : Result Unit Stop) (room : ℕ) (t0 t1 t2 t3 u : Trace Met) (s t : Shape) (o p o' p' : Option Shape) → has_one_kind s t ≡ true
    → o ≡ param_of t → p ≡ param_of s → o' ≡ result_of s → p' ≡ result_of t
    → Goes room t0 t1 a_step → Goes room t1 t2 (listed s t) → Goes room t2 t3 (match_part o p) → Walks r room t3 u (match_part o' p')
    → Walks r room t0 u (matched met s t)
match_walks r room t0 t1 t2 t3 u s t o p o' p' k f g f' g' a b c h =
    walk_same r room t0 u _ _ (match_parts s t k)
    (walk_then r room t0 t3 u (a_step & listed s t & params s t) (results s t)
    (joined room t0 t2 t3 (a_step & listed s t) (params s t) (joined room t0 t1 t2 a_step (listed s t) a b)
    (goes_same room t2 t3 _ _ (ap (λ z. match_part z p) f ∙ ap (λ z. match_part (param_of t) z) g) c))
    (walk_same r room t3 u (match_part o' p') (results s t) (ap (λ z. match_part z p') f' ∙ ap (λ z. match_part (result_of s) z) g') h))
