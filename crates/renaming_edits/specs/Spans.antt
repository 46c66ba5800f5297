-- The spans of the words that take a new one (own).
use Rattle.std.specs.Prelude.{ℕ, suc, List, [], ◌∷◌, ◌&&◌, if◌then◌else◌}
use Rattle.std.specs.BTreeSet.{BTreeSet, contains}
use Rattle.rotor_base.specs.declared.place.Place.{Place}
use Rattle.rotor_base.specs.Place.{place_cmp}
use Rattle.ml_lexer.specs.Lexed.{Lexeme}
use Rattle.binding_model.specs.Scopes.{here}
use Rattle.rename_parts.specs.Hits.{is_lower}
use Rattle.source_edits.specs.declared.ranges.Span.{Span}

-- the spans of the lower-case words at places of a set; the lexemes of the file are numbered from `n`
abbrev pub word_spans : BTreeSet Place → ℕ → ℕ → List Lexeme → List Span
word_spans set file n [] = []
word_spans set file n (x ∷ xs) =
    if is_lower x.class && contains place_cmp set (here file n) then record { start = x.start; end = x.end } ∷ word_spans set file (suc n) xs
    else word_spans set file (suc n) xs
