-- The parts of items of structures, module types and files, as the code reads them (own).
use Rattle.std.specs.Prelude.{ℕ, List, Option, Some}
use Rattle.ml_trees.specs.declared.fixed.Fixed.TheVariants as key
use Rattle.ml_trees.specs.Tok.{Tok}
use Rattle.ml_trees.specs.Tree.{WithClause, ModType, TypeOf, Item, ModuleTypeItem, FileTree}
use Rattle.token_reading.specs.Steps.{Read, ◌>>=◌, expect, expect_at}
use Rattle.expr_parts.specs.Rows.{upper_word}
use Rattle.parse_module.specs.declared.files.FileKind.{FileKind}
use Rattle.parse_module.specs.declared.files.FileKind.TheVariants as kind
use Rattle.module_reading.specs.ModReading as reading
use Rattle.module_reading.specs.ModReading.{read_mod, read_type, mod_apply, read_body, read_face}

module _ (d : ℕ) where
  -- after `module type`
  abbrev pub module_type_item : ℕ → Read Item
  module_type_item at ts = upper_word ts >>= λ x. expect_at key.Equals x.1 >>= λ q. read_type d q.1 >>= λ s. Some (ModuleTypeItem at x.0 q.0 s.0, s.1)

  -- after `module type`: `of` and a module
  abbrev pub type_of : ℕ → Read ModType
  type_of at ts = expect key.Of ts >>= λ r. mod_apply (read_mod d) (read_type d) d r >>= λ m. Some (TypeOf at m.0, m.1)

  -- after a SimpleType: `with` clauses, or an arrow
  abbrev pub with_or : ModType → List Tok → List WithClause × List Tok → ModType × List Tok
  with_or = reading.with_or (read_mod d) (read_type d) d

-- a body or an interface
abbrev pub read_file : FileKind → ℕ → ℕ → List Tok → Option FileTree
read_file kind.Body file n ts = read_body file n ts
read_file kind.Face file n ts = read_face file n ts
