-- What the reports print is read again (own).
use Rattle.std.specs.Prelude.{◌≡◌, ℕ, List, [], ◌∷◌, ◌++◌, ◌<◌, ◌^◌, true, false, Some, codes}
use Rattle.std.specs.Fmt.{decimal}
use Rattle.rotor_base.specs.Name.{is_value_name}
use Rattle.rotor_base.specs.Stem.{is_source_name}
use Rattle.rotor_base.specs.declared.target.Target.TheVariants.{At}
use Rattle.cli_words.specs.Words.{Word, command_of}
use Rattle.cli_words.specs.declared.command.Command.TheVariants.{Rename}

-- the words `rename FILE#N NAME --write`
abbrev pub undo_words : Word → ℕ → Word → List Word
undo_words file n name = codes "rename" ∷ (file ++ (codes "#" ++ decimal n)) ∷ name ∷ codes "--write" ∷ []

-- they request the renaming of the declaration at that place
abbrev pub UndosAreRead : Type 0
UndosAreRead = (file name : Word) (n : ℕ) → is_source_name file ≡ true → is_value_name name ≡ true → 0 < n → n < 2 ^ 32
    → command_of (undo_words file n name) ≡ Some (Rename (At file n) name true false false)
