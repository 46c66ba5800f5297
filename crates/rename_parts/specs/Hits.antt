-- The places of a project that take a new word, with what is there (own).
use Rattle.std.specs.Prelude.{ℕ, suc, List, [], ◌∷◌, Bool, true, false, Option, Some, None, flat_map, if◌then◌else◌, ◌&&◌}
use Rattle.std.specs.BTreeSet.{BTreeSet, contains}
use Rattle.rotor_base.specs.declared.place.Place.{Place}
use Rattle.rotor_base.specs.declared.token.Class.{Class}
use Rattle.rotor_base.specs.declared.token.Class.TheVariants as class
use Rattle.rotor_base.specs.Place.{place_cmp}
use Rattle.ml_lexer.specs.Lexed.{Lexeme}
use Rattle.value_sites.specs.Places.{Site}
use Rattle.binding_model.specs.Scopes.{here}
use Rattle.binding_model.specs.Renaming.{at_place}
use Rattle.rename_parts.specs.declared.checks.Hit.{Hit}

-- what is at a place of a value
abbrev pub hit_of : Place → Site → Hit
hit_of p x = record { place = p; pun = x.pun; operator = x.operator }

abbrev pub hit_if : Place → Option Site → List Hit
hit_if p None = []
hit_if p (Some x) = hit_of p x ∷ []

-- what is at a place, if it is one of a value
abbrev pub hit_at : List (Place × Site) → Place → List Hit
hit_at ls p = hit_if p (at_place ls p)

-- what is at some places, in order
abbrev pub all_hits : List Place → List (Place × Site) → List Hit
all_hits ps ls = flat_map (hit_at ls) ps

-- the words of lexemes, numbered from one: the new one for a lower-case word in a set
abbrev pub is_lower : Class → Bool
is_lower class.Lower = true
is_lower _ = false

abbrev pub hit_words : BTreeSet Place → ℕ → List ℕ → ℕ → List Lexeme → List (List ℕ)
hit_words set file new n [] = []
hit_words set file new n (x ∷ xs) = (if is_lower x.class && contains place_cmp set (here file n) then new else x.bytes) ∷ hit_words set file new
    (suc n) xs
