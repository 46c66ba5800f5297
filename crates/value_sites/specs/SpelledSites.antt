-- The places of a respelled tree (own).
use Rattle.std.specs.Prelude.{◌≡◌, ◌||◌, IsTrue, map}
use Rattle.value_sites.specs.Each.{Each}
use Rattle.ml_trees.specs.Tree.{FileTree}
use Rattle.value_sites.specs.Places.{Site, sites}
use Rattle.value_sites.specs.Respelled.{Spelling, spell_file}

-- an operator, and a word that is a label or a field too, keeps its word
abbrev pub IsKept : Spelling → Site → Type 0
IsKept w s = IsTrue (s.pun || s.operator) → w s.at s.name ≡ s.name

abbrev pub spell_site : Spelling → Site → Site
spell_site w s = record { binds = s.binds; at = s.at; name = w s.at s.name; pun = s.pun; operator = s.operator }

-- the places of a respelled tree are its places, respelled, if puns and operators are kept
abbrev pub SitesAreRespelled : Type 0
SitesAreRespelled = (w : Spelling) (t : FileTree) → Each (IsKept w) (sites t) → sites (spell_file w t) ≡ map (spell_site w) (sites t)
