-- Walks over the positions of the values of a list.
use Rattle.std.proofs.Common.{◌≡◌, ℕ, zero, suc, ◌+◌, ◌<◌, ◌≤◌, List, [], ◌∷◌, length, drop, get_or, None, refl, ap, ◌∙◌, arith}
use Rattle.shape_core.specs.Shape.{Entries, none, a_val, a_mod, a_mty, a_dark, entries_from, values_from}
use Rattle.shape_core.specs.Links.{Trace, ◌&◌, nothing, one, pin_vals}
use Rattle.sig_match.specs.Walk.{Met, met, met_first, told_once}

-- the values at some positions of a list, pinned
abbrev pub pins_at : Entries → List ℕ → Trace Met
pins_at es [] = nothing
pins_at es (at ∷ ats) = told_once (met_first None (entries_from at es)) & pins_at es ats

-- the entries after the first of those from a position on
from_next : (at : ℕ) (es : Entries) → entries_from (suc at) es ≡ entries_from 1 (entries_from at es)
from_next zero es = refl
from_next (suc at) none = refl
from_next (suc at) (a_val x g es) = from_next at es
from_next (suc at) (a_mod X s es) = from_next at es
from_next (suc at) (a_mty S s es) = from_next at es
from_next (suc at) (a_dark p es) = from_next at es

-- the values are those at the positions of values
pins_from : (all es : Entries) (at : ℕ) → entries_from at all ≡ es → pins_at all (values_from at es) ≡ pin_vals met es
pins_from all none at h = refl
pins_from all (a_val x g es) at h =
    ap (λ z. told_once (met_first None z) & pins_at all (values_from (suc at) es)) h
    ∙ ap (λ t. one (met x g es None) & t) (pins_from all es (suc at) (from_next at all ∙ ap (entries_from 1) h))
pins_from all (a_mod X s es) at h = pins_from all es (suc at) (from_next at all ∙ ap (entries_from 1) h)
pins_from all (a_mty S s es) at h = pins_from all es (suc at) (from_next at all ∙ ap (entries_from 1) h)
pins_from all (a_dark p es) at h = pins_from all es (suc at) (from_next at all ∙ ap (entries_from 1) h)

pub pins_all : (es : Entries) → pins_at es (values_from 0 es) ≡ pin_vals met es
pins_all es = pins_from es es 0 refl

-- one position after another
pins_next : (es : Entries) (ats : List ℕ) (i z : ℕ) → i < length ats
    → pins_at es (drop i ats) ≡ told_once (met_first None (entries_from (get_or ats i z) es)) & pins_at es (drop (suc i) ats)
pins_next es [] i z h = absurd (omega (arith, h))
pins_next es (a ∷ ats) zero z h = refl
pins_next es (a ∷ ats) (suc i) z h = pins_next es ats i z (omega (arith, h))

pub pins_rest : (es : Entries) (ats : List ℕ) (i z : ℕ) → i < length ats
    → pins_at es (drop i ats) ≡ told_once (met_first None (entries_from (get_or ats i z) es)) & pins_at es (drop (i + 1) ats)
pins_rest es ats i z h =
    let q : suc i ≡ i + 1 = omega arith in
    pins_next es ats i z h ∙ ap (λ n. told_once (met_first None (entries_from (get_or ats i z) es)) & pins_at es (drop n ats)) q

pub pins_over : (es : Entries) (ats : List ℕ) (i : ℕ) → length ats ≤ i → pins_at es (drop i ats) ≡ nothing
pins_over es [] zero h = refl
pins_over es [] (suc i) h = refl
pins_over es (a ∷ ats) zero h = absurd (omega (arith, h))
pins_over es (a ∷ ats) (suc i) h = pins_over es ats i (omega (arith, h))
