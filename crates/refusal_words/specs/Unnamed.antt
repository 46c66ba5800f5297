-- The sentences of targets that name no token (own).
use Rattle.std.specs.Prelude.{ℕ, [], ◌∷◌, codes}
use Rattle.std.specs.Fmt.{decimal}
use Rattle.report.specs.Pieces.{Word, join}
use Rattle.messages.specs.Shown.{shown_word_of}
use Rattle.messages.specs.Words.{grouped}
use Rattle.refusal_words.specs.Parts.{around}

abbrev pub no_member : Word → Word → Word
no_member path name =
    join (codes "`" ∷ shown_word_of path ∷ codes "` has no value `" ∷ shown_word_of name ∷ codes "` of this folder" ∷ [])

abbrev pub no_path : Word → Word
no_path word = around (codes "`") (shown_word_of word) (codes "` is no place, and no path from a unit to a value")

abbrev pub no_source : Word → Word
no_source file = around (codes "the folder has no source ") file []

abbrev pub no_line : Word → ℕ → Word
no_line file line = join (file ∷ codes " has no line " ∷ grouped line ∷ [])

abbrev pub no_token : Word → ℕ → ℕ → Word
no_token file token count = join (file ∷ codes " has no token " ∷ grouped token ∷ codes "; it has " ∷ grouped count ∷ [])

abbrev pub no_token_at : Word → ℕ → ℕ → Word
no_token_at file line column = join (codes "no token stands at " ∷ file ∷ codes ":" ∷ decimal line ∷ codes ":" ∷ decimal column ∷ [])
