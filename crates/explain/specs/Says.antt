-- What is said of the commands over the files of a project (own).
use Rattle.std.specs.Prelude.{◌≡◌, ◌⊎◌, ℕ, List, [], ◌∷◌, ◌++◌, Ok, Err, Bool, codes, flat_map, length, true, false}
use Rattle.report.specs.Pieces.{Word, join}
use Rattle.rotor_base.specs.Files.{FileSet}
use Rattle.rotor_base.specs.declared.place.Facts.{Facts}
use Rattle.rotor_base.specs.declared.place.Foot.{Foot}
use Rattle.rotor_base.specs.declared.refusal.Refusal.{Refusal}
use Rattle.rotor_base.specs.declared.report.Counts.{Counts}
use Rattle.rotor_base.specs.declared.report.FootReport.{FootReport}
use Rattle.rotor_base.specs.declared.report.Renamed.{Renamed}
use Rattle.rotor_base.specs.declared.target.Target.{Target}
use Rattle.messages.specs.Words.{counted}
use Rattle.messages.specs.declared.parts.Message.{Message}
use Rattle.refusal_words.specs.Cut.{AreCuts, Cut}
use Rattle.rename_files.specs.Answer.{Checks, Renames, Shows}
use Rattle.explain.specs.declared.ending.Ending.TheVariants.{Done}
use Rattle.explain.specs.declared.explanation.Explanation.{Explanation}
use Rattle.value_at.specs.Places.{places_of}
use Rattle.explain.specs.Around.{AreFacts}
use Rattle.explain.specs.Diffs.{AreDiffs}
use Rattle.explain.specs.Lines.{place_line, place_word}
use Rattle.explain.specs.Refused.{SaysProject, SaysRefusal}
use Rattle.explain.specs.Shown.{place_messages, shown_text}
use Rattle.difference_words.specs.Warnings.{AreWarnings, CountsWarnings}

-- what a project has
abbrev pub counts_text : Counts → Word
counts_text c =
    join (counted c.files (codes "source") ∷ codes ", " ∷ counted c.units (codes "unit") ∷ codes ", "
    ∷ counted c.declarations (codes "declaration") ∷ codes ", " ∷ counted c.references (codes "use") ∷ codes ": all of it is read\n" ∷ [])

-- a folder that is read: the warnings of the places at which OCaml may read it otherwise, and what the project has
pub record SaysChecked (files : FileSet) (counts : Counts) (explanation : Explanation) : Type 0 where
  pub ending : explanation.ending ≡ Done
  pub warnings : AreWarnings files explanation.messages
  pub text : explanation.text ≡ counts_text counts
  pub places : explanation.places ≡ []

-- `check`: warnings and what the project has; or what is said of its first refusal
abbrev pub SaysCheck : FileSet → Explanation → Type 0
SaysCheck files explanation =
    ((counts : Counts) × Checks files (Ok counts) × SaysChecked files counts explanation)
    ⊎ ((why : Refusal) × Checks files (Err why) × SaysProject files why explanation)

-- the first line of a renaming that is accepted
abbrev pub renamed_line : Renamed → Word
renamed_line done =
    join (codes "`" ∷ done.old ∷ codes "` becomes `" ∷ done.new ∷ codes "`: " ∷ counted (length done.foot.decls) (codes "declaration")
    ∷ codes ", " ∷ counted done.refs (codes "use") ∷ codes ", " ∷ counted (length done.changed) (codes "file") ∷ codes "\n" ∷ [])

-- the line of each declaration
abbrev pub declaration_lines : List Cut → Renamed → Word
declaration_lines cuts done = flat_map (λ p. place_line cuts (place_word true) p) done.foot.decls

-- the places of a footprint for tools, by the facts of the folder; if they are not asked for, none
pub data AreToolPlaces (known : Facts) (cuts : List Cut) (foot : Foot) : Bool → List Message → Type 0 where
  not_asked : AreToolPlaces known cuts foot false []
  asked : AreToolPlaces known cuts foot true (place_messages cuts (places_of known.refs foot))

-- a renaming that is accepted: its line, its declarations, the number of warnings, and the diffs of the changed sources
pub record SaysDone (files : FileSet) (done : Renamed) (for_tools : Bool) (explanation : Explanation) : Type 0 where
  pub cuts : List Cut
  pub diffs : List ℕ
  pub count : Word
  pub known : Facts
  pub cut : AreCuts files.entries cuts
  pub facts : AreFacts files known
  pub counts : CountsWarnings files count
  pub are_diffs : AreDiffs files.entries done.files.entries done.changed diffs
  pub ending : explanation.ending ≡ Done
  pub messages : explanation.messages ≡ []
  pub text : explanation.text ≡ renamed_line done ++ declaration_lines cuts done ++ count ++ diffs
  pub places : AreToolPlaces known cuts done.foot for_tools explanation.places

-- `rename`: the renaming; or what is said of its first refusal
abbrev pub SaysRename : FileSet → Target → List ℕ → Bool → Explanation → Type 0
SaysRename files target new for_tools explanation =
    ((done : Renamed) × Renames files target new (Ok done) × SaysDone files done for_tools explanation)
    ⊎ ((why : Refusal) × Renames files target new (Err why) × SaysRefusal files target new why explanation)

-- a footprint, by the facts of the folder: its line, a line for each place, one for the declaration that is fixed from
-- outside, and the number of warnings
pub record SaysShown (files : FileSet) (shown : FootReport) (explanation : Explanation) : Type 0 where
  pub cuts : List Cut
  pub count : Word
  pub known : Facts
  pub cut : AreCuts files.entries cuts
  pub facts : AreFacts files known
  pub counts : CountsWarnings files count
  pub said : explanation
      ≡ record {
        ending = Done;
        messages = [];
        text = shown_text cuts shown (places_of known.refs shown.foot) ++ count;
        places = place_messages cuts (places_of known.refs shown.foot);
      }

-- `footprint`: the footprint; or what is said of the first refusal
abbrev pub SaysFootprint : FileSet → Target → Explanation → Type 0
SaysFootprint files target explanation =
    ((shown : FootReport) × Shows files target (Ok shown) × SaysShown files shown explanation)
    ⊎ ((why : Refusal) × Shows files target (Err why) × SaysRefusal files target [] why explanation)
