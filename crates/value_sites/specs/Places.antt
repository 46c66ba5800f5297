-- The places of values in a tree: its binders and its references, in the order of its words (the OCaml manual,
-- "Names", "Patterns" and "Expressions"). The events of the tree give them, one after another.
use Rattle.std.specs.Prelude.{◌≡◌, ℕ, ◌-◌, take, drop, length, List, [], ◌∷◌, ◌++◌, Bool, true, false, if◌then◌else◌, codes, not, Option, Some, None}
use Rattle.std.specs.List.{filter}
use Rattle.ml_trees.specs.declared.fixed.Fixed.TheVariants as key
use Rattle.value_sites.specs.declared.mark.Mark.{Mark}
use Rattle.ml_trees.specs.Tok.{Name, Tok, placed, word}
use Rattle.ml_trees.specs.Runs.{has_colon}
use Rattle.ml_trees.specs.Tree.{ValueName, PlainName, OperatorName, Variable, PlainVariable, AnyVariable, FileTree}
use Rattle.ml_trees.specs.Events.{Event, value, field, label, operator, minus, file_out}
use Rattle.tree_events.specs.Behind.{behind}

-- a place with its name: whether it is a binder, whether its word is a label or a field too, and whether it is an
-- operator
pub record Site : Type 0 where
  pub binds : Bool
  pub at : ℕ
  pub name : List ℕ
  pub pun : Bool
  pub operator : Bool

-- ---- words

-- a lower-case name
abbrev pub plain : Bool → Name → Site
plain binds x = record { binds = binds; at = x.at; name = x.text; pun = false; operator = false }

-- a name that is a label or a field too
abbrev pub punned : Bool → ℕ → List ℕ → Site
punned binds at name = record { binds = binds; at = at; name = name; pun = true; operator = false }

abbrev pub operated : Bool → ℕ → List ℕ → Site
operated binds at name = record { binds = binds; at = at; name = name; pun = false; operator = true }

-- the operator that a token is, or none: `::`, `<-`, `;` and `,` are no references
abbrev pub operator_sites : List Site → Bool → Tok → List Site
operator_sites found binds (placed key.Equals at) = found ++ operated binds at (codes "=") ∷ []
operator_sites found binds (word c x) = found ++ operated binds x.at x.text ∷ []
operator_sites found binds _ = found

-- the place of an operator, if a word is one
abbrev pub operated_at : Bool → ℕ → Option (List ℕ) → List Site
operated_at binds at None = []
operated_at binds at (Some x) = operated binds at x ∷ []

-- a token with this number is the operator of this name; without a name it is none
abbrev pub IsOperatorOf : Tok → ℕ → Option (List ℕ) → Type 0
IsOperatorOf t at name = (found : List Site) (binds : Bool) → operator_sites found binds t ≡ found ++ operated_at binds at name

abbrev pub name_sites : List Site → Bool → ValueName → List Site
name_sites found binds (PlainName x) = found ++ plain binds x ∷ []
name_sites found binds (OperatorName at t) = operator_sites found binds t

-- a text without the colon at its end
abbrev pub without_colon : List ℕ → List ℕ
without_colon text = if has_colon text then take (length text - 1) text else text

-- the word of a label: what is between the `~` or `?` and the colon
abbrev pub label_name : List ℕ → List ℕ
label_name text = without_colon (drop 1 text)

abbrev pub label_site : Bool → Name → Site
label_site binds x = punned binds x.at (label_name x.text)

abbrev pub variable_sites : List Site → Variable → List Site
variable_sites found (PlainVariable x) = found ++ plain true x ∷ []
variable_sites found (AnyVariable at) = found

-- the places that were found, and the one that an event adds
abbrev pub adds_site : List Site → Event → List Site
adds_site found (value binds x) = name_sites found binds x
adds_site found (field binds x) = found ++ punned binds x.at x.text ∷ []
adds_site found (label binds x) = found ++ label_site binds x ∷ []
adds_site found (operator t) = operator_sites found false t
adds_site found (minus x) = found ++ operated false x.at (126 ∷ x.text) ∷ []
adds_site found _ = found

-- ---- the places of a file

abbrev pub sites : FileTree → List Site
sites t = file_out (behind adds_site) t (λ found. found) []

-- Binders
abbrev pub binder_sites : FileTree → List Site
binder_sites t = filter (λ x. x.binds) (sites t)

-- Uses
abbrev pub use_sites : FileTree → List Site
use_sites t = filter (λ x. not x.binds) (sites t)

-- Puns
abbrev pub pun_sites : FileTree → List Site
pun_sites t = filter (λ x. x.pun) (sites t)

-- as the program gives it
abbrev pub mark : Site → Mark
mark x = record { token = x.at; name = x.name; pun = x.pun; operator = x.operator }
