-- Walks that stop at the first unit of work of an entry.
use Rattle.std.proofs.Common.{◌≡◌, ℕ, Bool, true, false, Option, Some, None, refl, sym, ap, ◌∙◌}
use Rattle.std.specs.Prelude.{Result, Err}
use Rattle.rotor_base.specs.declared.place.Place.{Place}
use Rattle.shape_core.specs.Shape.{Name, Shape, Entries, a_mod, a_mty, a_dark, find_mod, find_mty, unless_some, is_shown}
use Rattle.shape_core.specs.Links.{Trace, ◌&◌, nothing, a_step, pin, pin_vals, matched, or_empty}
use Rattle.sig_match.specs.declared.found.Stop.{Stop}
use Rattle.sig_match.specs.Walk.{Met, met, Goes, Walks}
use Rattle.sig_match.specs.Parts.{pin_first, match_first, match_part}
use Rattle.sig_match.proofs.Walks.{walk_then, walk_stops, walk_same, goes_same}
use Rattle.sig_match.proofs.Firsts.{shown_mod, shown_mty, hidden_mod, hidden_mty}

stops : (e : Stop) (room : ℕ) (t u a b : Trace Met) → b ≡ a_step & a → Walks (Err e) room t u a_step → Walks (Err e) room t u b
stops e room t u a b h w = walk_same (Err e) room t u (a_step & a) b (sym h) (walk_stops e room t u u a_step a w)

pub mod_stops : (e : Stop) (room : ℕ) (t u : Trace Met) (es rest : Entries) (X : Name) (s : Shape) → es ≡ a_mod X s rest
    → Walks (Err e) room t u a_step → Walks (Err e) room t u (pin_first es)
mod_stops e room t u es rest X s h w = stops e room t u (unless_some (find_mod rest X) (pin met s) nothing) (pin_first es) (ap pin_first h) w

pub mty_stops : (e : Stop) (room : ℕ) (t u : Trace Met) (es rest : Entries) (X : Name) (s : Shape) → es ≡ a_mty X s rest
    → Walks (Err e) room t u a_step → Walks (Err e) room t u (pin_first es)
mty_stops e room t u es rest X s h w = stops e room t u (unless_some (find_mty rest X) (pin met s) nothing) (pin_first es) (ap pin_first h) w

pub target_mod_stops : (e : Stop) (room : ℕ) (t u : Trace Met) (src es rest : Entries) (X : Name) (s : Shape) → es ≡ a_mod X s rest
    → Walks (Err e) room t u a_step → Walks (Err e) room t u (match_first src es)
target_mod_stops e room t u src es rest X s h w =
    stops e room t u (unless_some (find_mod rest X) (matched met (or_empty (find_mod src X)) s) nothing) (match_first src es)
    (ap (match_first src) h) w

pub target_mty_stops : (e : Stop) (room : ℕ) (t u : Trace Met) (src es rest : Entries) (X : Name) (s : Shape) → es ≡ a_mty X s rest
    → Walks (Err e) room t u a_step → Walks (Err e) room t u (match_first src es)
target_mty_stops e room t u src es rest X s h w =
    stops e room t u (unless_some (find_mty rest X) (matched met (or_empty (find_mty src X)) s & matched met s (or_empty (find_mty src X))) nothing)
    (match_first src es) (ap (match_first src) h) w

pub target_dark_stops : (e : Stop) (room : ℕ) (t u : Trace Met) (src es rest : Entries) (at : Place) → es ≡ a_dark at rest
    → Walks (Err e) room t u a_step → Walks (Err e) room t u (match_first src es)
target_dark_stops e room t u src es rest at h w = stops e room t u (pin_vals met src) (match_first src es) (ap (match_first src) h) w

-- walks through the first entry of a target
pub target_mod_walks : (r : Result Unit Stop) (room : ℕ) (t0 t1 u : Trace Met) (src es rest : Entries) (X : Name) (s t : Shape) (b : Bool)
    → es ≡ a_mod X t rest → b ≡ is_shown es → b ≡ true → s ≡ or_empty (find_mod src X)
    → Goes room t0 t1 a_step → Walks r room t1 u (matched met s t) → Walks r room t0 u (match_first src es)
target_mod_walks r room t0 t1 u src es rest X s t b h k l m a w =
    walk_same r room t0 u (a_step & matched met s t) (match_first src es)
    (shown_mod es rest X t (matched met s t) b h k l
    ∙ ap (λ z. a_step & unless_some (find_mod rest X) (matched met z t) nothing) m
    ∙ ap (match_first src) (sym h))
    (walk_then r room t0 t1 u a_step (matched met s t) a w)

pub target_mty_walks : (r : Result Unit Stop) (room : ℕ) (t0 t1 u : Trace Met) (src es rest : Entries) (X : Name) (s t : Shape) (b : Bool)
    → es ≡ a_mty X t rest → b ≡ is_shown es → b ≡ true → s ≡ or_empty (find_mty src X)
    → Goes room t0 t1 a_step → Walks r room t1 u (matched met s t & matched met t s) → Walks r room t0 u (match_first src es)
target_mty_walks r room t0 t1 u src es rest X s t b h k l m a w =
    walk_same r room t0 u (a_step & (matched met s t & matched met t s)) (match_first src es)
    (shown_mty es rest X t (matched met s t & matched met t s) b h k l
    ∙ ap (λ z. a_step & unless_some (find_mty rest X) (matched met z t & matched met t z) nothing) m
    ∙ ap (match_first src) (sym h))
    (walk_then r room t0 t1 u a_step (matched met s t & matched met t s) a w)

pub target_mod_hidden : (room : ℕ) (t0 t1 : Trace Met) (src es rest : Entries) (X : Name) (t : Shape) (b : Bool) → es ≡ a_mod X t rest
    → b ≡ is_shown es → b ≡ false → Goes room t0 t1 a_step → Goes room t0 t1 (match_first src es)
target_mod_hidden room t0 t1 src es rest X t b h k l a =
    goes_same room t0 t1 _ _ (hidden_mod es rest X t (matched met (or_empty (find_mod src X)) t) b h k l ∙ ap (match_first src) (sym h)) a

pub target_mty_hidden : (room : ℕ) (t0 t1 : Trace Met) (src es rest : Entries) (X : Name) (t : Shape) (b : Bool) → es ≡ a_mty X t rest
    → b ≡ is_shown es → b ≡ false → Goes room t0 t1 a_step → Goes room t0 t1 (match_first src es)
target_mty_hidden room t0 t1 src es rest X t b h k l a =
    goes_same room t0 t1 _ _ (hidden_mty es rest X t (matched met (or_empty (find_mty src X)) t & matched met t (or_empty (find_mty src X))) b h k l
    ∙ ap (match_first src) (sym h)) a

pub target_dark_walks : (r : Result Unit Stop) (room : ℕ) (t0 t1 u : Trace Met) (src es rest : Entries) (at : Place) → es ≡ a_dark at rest
    → Goes room t0 t1 a_step → Walks r room t1 u (pin_vals met src) → Walks r room t0 u (match_first src es)
target_dark_walks r room t0 t1 u src es rest at h a w =
    walk_same r room t0 u (a_step & pin_vals met src) (match_first src es) (ap (match_first src) (sym h))
    (walk_then r room t0 t1 u a_step (pin_vals met src) a w)

-- a part that is absent
pub no_source : (o p : Option Shape) → o ≡ None → match_part o p ≡ nothing
no_source o p h = ap (λ z. match_part z p) h

pub no_target : (o p : Option Shape) → p ≡ None → match_part o p ≡ nothing
no_target None p h = refl
no_target (Some s) p h = ap (λ z. match_part (Some s) z) h
