-- What `clap` makes of words that have one of the forms.
use Rattle.std.proofs.Common.{◌≡◌, ℕ, true, false, List, [], ◌∷◌, ◌==◌, Option, Some, None, option_and_then, refl, ap, codes}
use Rattle.std.specs.Prelude.{fold}
use Rattle.clap.specs.Words.{Rule, subcommand_of, takes}
use Rattle.clap.specs.Walk.{Walk, finished, idle, nothing_held, walk_from, walked}
use Rattle.clap.specs.Simple.{filled_from}
use Rattle.clap.specs.declared.builder.value_parser.Reading.TheVariants.{AsWritten}
use Rattle.clap.specs.declared.parser.matches.ValueSource.TheVariants.{CommandLine}
use Rattle.clap.proofs.OnLiterals.{clap_on_literals}
use Rattle.cli_words.specs.Words.{Word}
use Rattle.cli_words.specs.Grammar.{rename_app, rotor_app, heard, is_taken, read_of}
use Rattle.cli_words.specs.declared.asked.Asked.{Asked}
use Rattle.cli_words.specs.declared.asked.Asked.TheVariants.{Check, Footprint, Rename, Sample, Verify, Batch, Recover}

-- the words are taken, and read as this form
pub record IsHeard (words : List Word) (form : Asked Word) : Type 0 where
  pub taken : takes rotor_app words ≡ true
  pub read : option_and_then heard (subcommand_of rotor_app words) ≡ Some form

pub check_is_heard : IsHeard (codes "check" ∷ []) Check
unfolding clap_on_literals
check_is_heard = record { taken = refl; read = refl }

pub recover_is_heard : IsHeard (codes "recover" ∷ []) Recover
unfolding clap_on_literals
recover_is_heard = record { taken = refl; read = refl }

pub footprint_is_heard : (b : ℕ) (bs : List ℕ) → (b == 45) ≡ false → IsHeard (codes "footprint" ∷ (b ∷ bs) ∷ []) (Footprint (b ∷ bs))
unfolding clap_on_literals
footprint_is_heard b bs h = record { taken = simp h refl; read = simp h refl }

pub sample_is_heard : (b : ℕ) (bs : List ℕ) → (b == 45) ≡ false → IsHeard (codes "sample" ∷ (b ∷ bs) ∷ []) (Sample (b ∷ bs))
unfolding clap_on_literals
sample_is_heard b bs h = record { taken = simp h refl; read = simp h refl }

pub batch_is_heard : (b : ℕ) (bs : List ℕ) → (b == 45) ≡ false → IsHeard (codes "batch" ∷ (b ∷ bs) ∷ []) (Batch (b ∷ bs) false)
unfolding clap_on_literals
batch_is_heard b bs h = record { taken = simp h refl; read = simp h refl }

pub batch_write_is_heard : (b : ℕ) (bs : List ℕ) → (b == 45) ≡ false → IsHeard (codes "batch" ∷ (b ∷ bs) ∷ codes "--write" ∷ []) (Batch (b ∷ bs) true)
unfolding clap_on_literals
batch_write_is_heard b bs h = record { taken = simp h refl; read = simp h refl }

pub taken_by : (words : List Word) (form : Asked Word) → IsHeard words form → is_taken words ≡ true
unfolding is_taken
taken_by words form h = h.taken

pub read_by : (words : List Word) (form : Asked Word) → IsHeard words form → read_of words ≡ Some form
unfolding read_of
read_by words form h = h.read

-- the arguments of `rename`, as building leaves them
abbrev rename_rules : List Rule
rename_rules = filled_from 1 rename_app.top.rules

-- the form that the rest of the words makes of a walk
abbrev renaming_from : List Word → Walk → Option (Asked Word)
renaming_from flags w = heard (codes "rename", finished rename_rules (fold (walked rename_rules []) w flags).held)

-- a walk behind the two values: the first is used, and the second is pending
abbrev between : ℕ → List ℕ → ℕ → List ℕ → Walk
between b bs d ds = record {
  held = record {
    rows = record { id = codes "TARGET"; values = (b ∷ bs) ∷ []; count = None; source = Some CommandLine; reading = AsWritten } ∷ [];
    pending = Some (codes "NAME", (d ∷ ds) ∷ []);
    skip = 0;
  };
  waiting = idle;
  position = 3;
  is_trailing = false;
  stopped = None;
}

module _ (b : ℕ) (bs : List ℕ) (d : ℕ) (ds : List ℕ) (h : (b == 45) ≡ false) (g : (d == 45) ≡ false) where
  pub verify_is_heard : IsHeard (codes "verify" ∷ (b ∷ bs) ∷ (d ∷ ds) ∷ []) (Verify (b ∷ bs) (d ∷ ds))
  unfolding clap_on_literals
  verify_is_heard = record { taken = simp (h, g) refl; read = simp (h, g) refl }

  pub rename_is_heard : IsHeard (codes "rename" ∷ (b ∷ bs) ∷ (d ∷ ds) ∷ [])
      (Rename (b ∷ bs) (d ∷ ds) (record { write = false; safe = false; json = false }))
  unfolding clap_on_literals
  rename_is_heard = record { taken = simp (h, g) refl; read = simp (h, g) refl }

  pub rename_write_is_heard : IsHeard (codes "rename" ∷ (b ∷ bs) ∷ (d ∷ ds) ∷ codes "--write" ∷ [])
      (Rename (b ∷ bs) (d ∷ ds) (record { write = true; safe = false; json = false }))
  unfolding clap_on_literals
  rename_write_is_heard = record { taken = simp h (simp g refl); read = simp h (simp g refl) }

  pub rename_safe_is_heard : IsHeard (codes "rename" ∷ (b ∷ bs) ∷ (d ∷ ds) ∷ codes "--safe" ∷ [])
      (Rename (b ∷ bs) (d ∷ ds) (record { write = false; safe = true; json = false }))
  unfolding clap_on_literals
  rename_safe_is_heard = record { taken = simp h (simp g refl); read = simp h (simp g refl) }

  pub rename_json_is_heard : IsHeard (codes "rename" ∷ (b ∷ bs) ∷ (d ∷ ds) ∷ codes "--json" ∷ [])
      (Rename (b ∷ bs) (d ∷ ds) (record { write = false; safe = false; json = true }))
  unfolding clap_on_literals
  rename_json_is_heard = record { taken = simp h (simp g refl); read = simp h (simp g refl) }

  -- the walk behind the two values
  behind_values : walked rename_rules [] (walked rename_rules [] (walk_from nothing_held) (b ∷ bs)) (d ∷ ds) ≡ between b bs d ds
  unfolding clap_on_literals
  behind_values = simp (h, g) refl

  pub rename_write_json_is_heard : IsHeard (codes "rename" ∷ (b ∷ bs) ∷ (d ∷ ds) ∷ codes "--write" ∷ codes "--json" ∷ [])
      (Rename (b ∷ bs) (d ∷ ds) (record { write = true; safe = false; json = true }))
  unfolding clap_on_literals
  rename_write_json_is_heard =
      record { taken = simp h (simp g refl); read = ap (renaming_from (codes "--write" ∷ codes "--json" ∷ [])) behind_values }

  pub rename_json_write_is_heard : IsHeard (codes "rename" ∷ (b ∷ bs) ∷ (d ∷ ds) ∷ codes "--json" ∷ codes "--write" ∷ [])
      (Rename (b ∷ bs) (d ∷ ds) (record { write = true; safe = false; json = true }))
  unfolding clap_on_literals
  rename_json_write_is_heard =
      record { taken = simp h (simp g refl); read = ap (renaming_from (codes "--json" ∷ codes "--write" ∷ [])) behind_values }

  pub rename_safe_json_is_heard : IsHeard (codes "rename" ∷ (b ∷ bs) ∷ (d ∷ ds) ∷ codes "--safe" ∷ codes "--json" ∷ [])
      (Rename (b ∷ bs) (d ∷ ds) (record { write = false; safe = true; json = true }))
  unfolding clap_on_literals
  rename_safe_json_is_heard = record { taken = simp h (simp g refl); read = ap (renaming_from (codes "--safe" ∷ codes "--json" ∷ [])) behind_values }

  pub rename_json_safe_is_heard : IsHeard (codes "rename" ∷ (b ∷ bs) ∷ (d ∷ ds) ∷ codes "--json" ∷ codes "--safe" ∷ [])
      (Rename (b ∷ bs) (d ∷ ds) (record { write = false; safe = true; json = true }))
  unfolding clap_on_literals
  rename_json_safe_is_heard = record { taken = simp h (simp g refl); read = ap (renaming_from (codes "--json" ∷ codes "--safe" ∷ [])) behind_values }
