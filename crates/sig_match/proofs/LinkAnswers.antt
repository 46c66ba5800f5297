-- Links of meetings, and the answers of walks.
use Rattle.std.proofs.Common.{◌≡◌, ℕ, ◌+◌, ◌<◌, ◌≤◌, Bool, true, false, List, [], ◌∷◌, ◌++◌, map, length, take, get_or, Option, Some, None, refl, sym}
use Rattle.std.proofs.Common.{ap, subst, ◌∙◌, arith}
use Rattle.std.proofs.lemmas.List.{take_more, append-nil, map-append}
use Rattle.std.specs.Prelude.{Result, Ok, Err}
use Rattle.rotor_base.specs.declared.place.Goal.{Goal}
use Rattle.rotor_base.specs.declared.place.Goal.TheVariants.{Hidden}
use Rattle.rotor_base.specs.declared.place.Link.{Link}
use Rattle.shape_core.specs.declared.shared.SharedEntry.{SharedEntry}
use Rattle.shape_core.specs.Node.{entries_of}
use Rattle.shape_core.specs.Shape.{Name, Shape, Entries, a_val, vals, last_of, unless_some, entries_from, is_shown}
use Rattle.shape_core.specs.Links.{Trace, ◌&◌, nothing, links, pinned, matched, pin, source_of}
use Rattle.shape_core.proofs.Matches.{nothing_then}
use Rattle.shape_core.proofs.Retold.{mapped, matched-mapped, pin-mapped}
use Rattle.sig_match.specs.declared.found.Meeting.{Meeting}
use Rattle.sig_match.specs.declared.found.Found.{Found}
use Rattle.sig_match.specs.declared.found.Stop.{Stop}
use Rattle.sig_match.specs.declared.found.Stop.TheVariants as stop
use Rattle.sig_match.specs.declared.links.Matched.{Matched}
use Rattle.sig_match.specs.declared.links.Matched.TheVariants.{Whole, Over}
use Rattle.sig_match.specs.Walk.{Met, met, met_first, met_at, mets, trace_of, Walks}
use Rattle.sig_match.specs.Matched.{IsMatched, IsAnswer, link_of}
use Rattle.sig_match.proofs.Walks.{mets-push}
use Rattle.sig_match.proofs.Firsts.{end_in}

-- what a walk from nothing has found
pub answered : (r : Result Unit Stop) (room : ℕ) (f : Found) (t : Trace Met) (l : Trace Link) (m : Matched) → mapped link_of t ≡ l
    → Walks r room nothing (trace_of f) t → IsAnswer r f m → IsMatched room l m
answered (Ok u) room f t l (Whole ls n) k h a =
    let g : mapped link_of (trace_of f) ≡ l = ap (mapped link_of) (h.0 ∙ nothing_then t) ∙ k in
    let w : f.work ≡ l.work = ap (λ z. z.work) g in
    let b : f.work ≤ room = h.1 (omega arith) in
    (a.0 ∙ ap (λ z. z.told) g, a.1 ∙ w, omega (arith, w, b))
answered (Ok u) room f t l Over k h a = absurd a
answered (Err stop.Over) room f t l (Whole ls n) k h a = absurd a
answered (Err stop.Over) room f t l Over k h a =
    let g : mapped link_of (nothing & t) ≡ l = ap (mapped link_of) (nothing_then t) ∙ k in
    let w : (nothing & t).work ≡ l.work = ap (λ z. z.work) g in
    omega (arith, w, h)
answered (Err stop.Memory) room f t l m k h a = absurd a

-- the links of what is met
pub matched_links : (s t : Shape) → mapped link_of (matched met s t) ≡ links s t
matched_links s t = matched-mapped link_of met s t

pub pinned_links : (s : Shape) → mapped link_of (pin met s) ≡ pinned s
pinned_links s = pin-mapped link_of met s

-- the link of one meeting
pub no_link : (src : Option Entries) (es rest : Entries) → es ≡ rest → met_first src rest ≡ [] → [] ≡ map link_of (met_first src es)
no_link src es rest h k = sym (ap (λ z. map link_of (met_first src z)) h ∙ ap (map link_of) k)

pub no_link_past : (src : Option Entries) (xs : List SharedEntry) (es : Entries) (at : ℕ) → entries_of xs ≡ es
    → length xs ≤ at → [] ≡ map link_of (met_first src (entries_from at es))
no_link_past src xs es at h k = sym (ap (λ z. map link_of (met_first src z)) (end_in xs es at h k))

pub one_link : (src : Option Entries) (es rest : Entries) (x : Name) (g s : Goal) → es ≡ a_val x g rest
    → s ≡ unless_some (last_of (vals rest) x) (source_of src x) Hidden
    → (record { item = g; source = s }) ∷ [] ≡ map link_of (met_first src es)
one_link src es rest x g s h k =
    ap (λ z. (record { item = g; source = z }) ∷ []) k ∙ sym (ap (λ z. map link_of (met_first src z)) h)

shown_goal : (o : Option Goal) (g : Goal) (b : Bool) → b ≡ unless_some o true false → b ≡ true → g ≡ unless_some o g Hidden
shown_goal None g b h k = refl
shown_goal (Some d) g b h k = absurd cc

hidden_goal : (o : Option Goal) (g : Goal) (b : Bool) → b ≡ unless_some o true false → b ≡ false → Hidden ≡ unless_some o g Hidden
hidden_goal None g b h k = absurd cc
hidden_goal (Some d) g b h k = refl

pub shown_source : (src : Option Entries) (es rest : Entries) (x : Name) (g s : Goal) (b : Bool) → es ≡ a_val x g rest → b ≡ is_shown es → b ≡ true
    → s ≡ source_of src x → s ≡ unless_some (last_of (vals rest) x) (source_of src x) Hidden
shown_source src es rest x g s b h k l m = m ∙ shown_goal (last_of (vals rest) x) (source_of src x) b (k ∙ ap is_shown h) l

pub hidden_source : (src : Option Entries) (es rest : Entries) (x : Name) (g s : Goal) (b : Bool) → es ≡ a_val x g rest → b ≡ is_shown es → b ≡ false
    → s ≡ Hidden → s ≡ unless_some (last_of (vals rest) x) (source_of src x) Hidden
hidden_source src es rest x g s b h k l m = m ∙ hidden_goal (last_of (vals rest) x) (source_of src x) b (k ∙ ap is_shown h) l

-- the links of one meeting more
more_links : (xs : List Meeting) (i : ℕ) (d : Meeting) → i < length xs → d ≡ get_or xs i d
    → map link_of (mets (take (i + 1) xs)) ≡ map link_of (mets (take i xs)) ++ map link_of (met_at d)
more_links xs i d h k =
    ap (λ l. map link_of (mets l)) (take_more xs i d h)
    ∙ ap (λ z. map link_of (mets (take i xs ++ z ∷ []))) (sym k)
    ∙ ap (map link_of) (mets-push (take i xs) d)
    ∙ map-append link_of (mets (take i xs)) (met_at d)

pub links_some : (ls os : List Link) (l : Link) (xs : List Meeting) (i : ℕ) (d : Meeting) → i < length xs → d ≡ get_or xs i d
    → ls ≡ map link_of (mets (take i xs)) → l ∷ [] ≡ map link_of (met_at d) → os ≡ ls ++ l ∷ []
    → os ≡ map link_of (mets (take (i + 1) xs))
links_some ls os l xs i d h k a b e = e ∙ ap (λ z. z ++ l ∷ []) a ∙ ap (λ z. map link_of (mets (take i xs)) ++ z) b ∙ sym (more_links xs i d h k)

pub links_none : (ls : List Link) (xs : List Meeting) (i : ℕ) (d : Meeting) → i < length xs → d ≡ get_or xs i d → ls ≡ map link_of (mets (take i xs))
    → [] ≡ map link_of (met_at d) → ls ≡ map link_of (mets (take (i + 1) xs))
links_none ls xs i d h k a b = a ∙ sym (append-nil (map link_of (mets (take i xs)))) ∙ ap (λ z. map link_of (mets (take i xs)) ++ z) b
    ∙ sym (more_links xs i d h k)

-- a walk begins with nothing
pub from_start : (r : Result Unit Stop) (room : ℕ) (ms : List Meeting) (u t : Trace Met) → ms ≡ []
    → Walks r room (record { told = mets ms; work = 0 }) u t → Walks r room nothing u t
from_start r room ms u t e h = subst (λ (z : List Meeting). Walks r room (record { told = mets z; work = 0 }) u t) e h
