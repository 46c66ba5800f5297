-- The tables by which the new words are found (own).
use Rattle.std.specs.Prelude.{ℕ, List, Option, Some, None, option_copied}
use Rattle.std.specs.Borrow.{Bor}
use Rattle.std.specs.BTreeMap.{BTreeMap, get}
use Rattle.rotor_base.specs.declared.token.Class.{Class}
use Rattle.rotor_base.specs.declared.token.Class.TheVariants as class
use Rattle.rotor_base.specs.declared.place.Place.{Place}
use Rattle.rotor_base.specs.declared.place.Goal.{Goal}
use Rattle.rotor_base.specs.declared.place.Goal.TheVariants.{Decl}
use Rattle.rotor_base.specs.Place.{place_cmp}
use Rattle.shape_core.specs.Shape.{Name, or_value}
use Rattle.shape_core.specs.Respell.{Words}
use Rattle.rename_respell.specs.Respelled.{label_with}

-- the new name of the binder that a place is or refers to
abbrev pub word_by : BTreeMap Place (Bor (List ℕ)) → Option Goal → Place → Option Name
word_by names None p = option_copied (get place_cmp names p)
word_by names (Some (Decl d)) p = option_copied (get place_cmp names d)
word_by names (Some g) p = None

abbrev pub word_in : BTreeMap Place (Bor (List ℕ)) → BTreeMap Place Goal → Place → Option Name
word_in names goals p = word_by names (get place_cmp goals p) p

-- the words that they give
abbrev pub words_in : BTreeMap Place (Bor (List ℕ)) → BTreeMap Place Goal → Words
words_in names goals p x = or_value (word_in names goals p) x

-- the text of a token, with its new word if it takes one
abbrev pub text_of : Option Name → Class → List ℕ → List ℕ
text_of None c text = text
text_of (Some word) class.Label text = label_with text word
text_of (Some word) c text = word
