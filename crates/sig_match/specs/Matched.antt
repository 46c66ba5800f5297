-- The answers of a match and of a pinning (own).
use Rattle.std.specs.Prelude.{◌≡◌, ℕ, ◌<◌, ◌≤◌, List, [], ◌∷◌, map, Option, Some, None, Result, Ok, Err}
use Rattle.rotor_base.specs.declared.place.Link.{Link}
use Rattle.shape_core.specs.Links.{Trace, link}
use Rattle.sig_match.specs.declared.found.Found.{Found}
use Rattle.sig_match.specs.declared.found.Stop.{Stop}
use Rattle.sig_match.specs.declared.found.Stop.TheVariants as stop
use Rattle.sig_match.specs.declared.links.Matched.{Matched}
use Rattle.sig_match.specs.declared.links.Matched.TheVariants.{Whole, Over}
use Rattle.sig_match.specs.Walk.{Met, mets}

-- the answer to a match or a pinning of these links and this work: Over if the work is more than the room, else all
-- links in order and the work
abbrev pub IsMatched : ℕ → Trace Link → Matched → Type 0
IsMatched room t (Whole links work) = (links.items ≡ t.told) × (work ≡ t.work) × (t.work ≤ room)
IsMatched room t Over = room < t.work

-- the link of a meeting
abbrev pub link_of : Met → Link
link_of m = link m.name m.goal m.rest m.source

abbrev pub listed : {A : Type 0} → Option A → List A
listed None = []
listed (Some a) = a ∷ []

-- the answer after a walk
abbrev pub IsAnswer : Result Unit Stop → Found → Matched → Type 0
IsAnswer (Ok u) found (Whole links work) = (links.items ≡ map link_of (mets found.meetings.items)) × (work ≡ found.work)
IsAnswer (Ok u) found Over = ⊥
IsAnswer (Err stop.Over) found (Whole links work) = ⊥
IsAnswer (Err stop.Over) found Over = Unit {0}
IsAnswer (Err stop.Memory) found m = ⊥
