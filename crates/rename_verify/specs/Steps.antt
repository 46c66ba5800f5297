-- What the steps of `verify` give (own).
use Rattle.std.specs.Prelude.{◌≡◌, ℕ, List, Option, None, map}
use Rattle.rotor_base.specs.Files.{FileSet}
use Rattle.rotor_base.specs.declared.place.Facts.{Facts}
use Rattle.ml_lexer.specs.Lexed.{Lexeme}
use Rattle.ml_trees.specs.Tree.{UnitTree}
use Rattle.binding_model.specs.Facts.{facts}
use Rattle.binding_model.specs.Renaming.{Renaming, name_of}
use Rattle.binding_model.specs.Sums.{heavy}
use Rattle.capture_check.specs.declared.fault.Fault.{Fault}
use Rattle.capture_check.specs.Fault.{IsFirstFault}
use Rattle.project_reading.specs.Reads.{Reads}
use Rattle.rename_respell.specs.Respelled.{AreRespelledBytes, mapped_words}
use Rattle.rename_survey.specs.declared.answer.Binder.{Binder}
use Rattle.rename_verify.specs.declared.bytes.Spot.{Spot}
use Rattle.rename_verify.specs.Candidate.{AreLexemesOf, candidate, changes}
use Rattle.rename_verify.specs.Changed.{Changed}
use Rattle.rename_verify.specs.Scans.{IsSpot}

-- the candidate by the words of new files, and the binders that it changes
abbrev pub IsSuggestedFor : List Binder → FileSet → Renaming → List Changed → Type 0
IsSuggestedFor binders new names list = (lists : List (List Lexeme)) × AreLexemesOf new.entries lists
    × (names ≡ candidate lists binders) × (list ≡ changes lists binders)

-- the first byte at which the new sources differ from the old ones with other names; or none
abbrev pub HasSpot : List UnitTree → Renaming → FileSet → FileSet → Option Spot → Type 0
HasSpot us r old new spot = (sources : List (List ℕ)) × AreRespelledBytes (mapped_words us r) 0 old.entries sources
    × IsSpot sources (map (λ s. s.bytes) new.entries) spot

-- the facts have the reference places, the items and the groups of a project, which has no site that is too heavy
pub record IsSameShape (old : Facts) (us : List UnitTree) : Type 0 where
  pub refs : map (λ r. r.at) old.refs ≡ map (λ r. r.at) (facts us).refs
  pub items : map (λ l. l.item) old.links ≡ map (λ l. l.item) (facts us).links
  pub groups : old.groups ≡ (facts us).groups
  pub light : heavy us ≡ None

-- the first fault of the project that files are read as, against facts; or none
abbrev pub HasFirstFault : FileSet → Facts → Option Fault → Type 0
HasFirstFault new old fault = (us : List UnitTree) × Reads new us × IsFirstFault (name_of us) old (facts us) fault
