-- A form written out, and compared with the words (own).
use Rattle.std.specs.Prelude.{List, [], ◌∷◌, Bool, true, false, ◌&&◌, ◌||◌, codes}
use Rattle.std.specs.Borrow.{Bor}
use Rattle.std.specs.Str.{bytes_eq}
use Rattle.cli_words.specs.Words.{Word, is_value}
use Rattle.cli_words.specs.declared.asked.Flags.{Flags}
use Rattle.cli_words.specs.declared.asked.Asked.{Asked}
use Rattle.cli_words.specs.declared.asked.Asked.TheVariants.{Check, Footprint, Rename, Sample, Verify, Batch, Recover}

-- two lists of words are one
abbrev pub same_words : List Word → List Word → Bool
same_words [] [] = true
same_words (x ∷ xs) (y ∷ ys) = bytes_eq x y && same_words xs ys
same_words _ _ = false

-- the words are these flags, in either order
abbrev pub are_flags : Bool → Bool → Bool → List Word → Bool
are_flags true true json words = false
are_flags false false false words = same_words words []
are_flags false false true words = same_words words (codes "--json" ∷ [])
are_flags true false false words = same_words words (codes "--write" ∷ [])
are_flags false true false words = same_words words (codes "--safe" ∷ [])
are_flags true false true words = same_words words (codes "--write" ∷ codes "--json" ∷ []) || same_words words (codes "--json" ∷ codes "--write" ∷ [])
are_flags false true true words = same_words words (codes "--safe" ∷ codes "--json" ∷ []) || same_words words (codes "--json" ∷ codes "--safe" ∷ [])

abbrev pub is_renaming : Word → Word → Flags → List Word → Bool
is_renaming target name flags (form ∷ first ∷ second ∷ rest) =
    is_value target && is_value name && (bytes_eq form (codes "rename") && bytes_eq first target && bytes_eq second name) && are_flags flags.write
    flags.safe flags.json rest
is_renaming target name flags _ = false

abbrev pub batch_words : Word → Bool → List Word
batch_words file false = codes "batch" ∷ file ∷ []
batch_words file true = codes "batch" ∷ file ∷ codes "--write" ∷ []

-- the words are this form, written out
abbrev pub is_written : Asked Word → List Word → Bool
is_written Check words = same_words words (codes "check" ∷ [])
is_written (Footprint target) words = is_value target && same_words words (codes "footprint" ∷ target ∷ [])
is_written (Rename target name flags) words = is_renaming target name flags words
is_written (Sample units) words = is_value units && same_words words (codes "sample" ∷ units ∷ [])
is_written (Verify old new) words = is_value old && is_value new && same_words words (codes "verify" ∷ old ∷ new ∷ [])
is_written (Batch file write) words = is_value file && same_words words (batch_words file write)
is_written Recover words = same_words words (codes "recover" ∷ [])

-- a form whose values are borrowed, as a form of words
abbrev pub in_words : Asked (Bor Word) → Asked Word
in_words Check = Check
in_words (Footprint target) = Footprint target.now
in_words (Rename target name flags) = Rename target.now name.now flags
in_words (Sample units) = Sample units.now
in_words (Verify old new) = Verify old.now new.now
in_words (Batch file write) = Batch file.now write
in_words Recover = Recover
