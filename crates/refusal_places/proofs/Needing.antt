-- What is said of the needs of a chain.
use Rattle.std.proofs.Common.{◌≡◌, ℕ, List, [], ◌∷◌, Option, None, Result, Ok, Err, IfOk, map, refl, subst, sym}
use Rattle.report.specs.Pieces.{Word}
use Rattle.messages.specs.declared.parts.Message.{Message}
use Rattle.messages.specs.declared.parts.Note.{Note}
use Rattle.messages.specs.declared.parts.Spot.{Spot}
use Rattle.need_chains.specs.Chains.{IsCircle}
use Rattle.need_chains.specs.declared.unit_heads.UnitHeads.{UnitHeads}
use Rattle.project_reading.specs.Source.{kind_of_source}
use Rattle.refusal_words.specs.Cut.{Cut}
use Rattle.refusal_words.specs.Stretches.{no_spot}
use Rattle.refusal_places.specs.Blanks.{IsFirstHead}
use Rattle.refusal_places.specs.Circle.{AreNeedNotes, IsHeadSpot, IsNeedSpot, IsUserSpot, SaysCircle, circle, circle_message, found, user_of}
use Rattle.refusal_places.specs.Heads.{cut_heads}
use Rattle.refusal_places.specs.Unread.{lexeme_spot}

-- no source, no user
pub user_none : (sources : List UnitHeads) (unit name : Word) → user_of sources [] unit name ≡ None
user_none [] unit name = refl
user_none (s ∷ sources) unit name = refl

pub spot_none : {E : Type 0} (user : Option Cut) (name : Word) (result : Result Spot E) → user ≡ None → IfOk result (λ spot. spot ≡ no_spot)
    → IfOk result (IsUserSpot user name)
spot_none user name (Err e) none h = tt
spot_none user name (Ok spot) none h = subst (λ (o : Option Cut). IsUserSpot o name spot) (sym none) h

pub spot_found : {E : Type 0} (cut : Cut) (name : Word) (at : ℕ) (result : Result Spot E)
    → IsFirstHead (kind_of_source cut.name) name cut.lexemes at → IfOk result (λ spot. spot ≡ lexeme_spot cut at)
    → IfOk result (IsHeadSpot cut name)
spot_found cut name at (Err e) first h = tt
spot_found cut name at (Ok spot) first h = found at first h

pub chain_said : {E : Type 0} (cuts : List Cut) (unit name : Word) (names : List Word) (sources : List UnitHeads) (at : Spot) (notes : List Note)
    (result : Result Message E) → sources ≡ map cut_heads cuts → IsCircle sources unit (name ∷ names) → IsNeedSpot cuts unit name at
    → AreNeedNotes cuts name names notes → IfOk result (λ message. message ≡ circle_message unit (name ∷ names) at notes)
    → IfOk result (SaysCircle cuts unit)
chain_said cuts unit name names sources at notes (Err e) heads is spot are h = tt
chain_said cuts unit name names sources at notes (Ok message) heads is spot are h =
    circle name names at notes (subst (λ (ss : List UnitHeads). IsCircle ss unit (name ∷ names)) heads is) spot are h
