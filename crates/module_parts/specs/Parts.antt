-- The parts of items of signatures, as the code reads them (own).
use Rattle.std.specs.Prelude.{ℕ, List, ◌∷◌, Bool, true, false, Some}
use Rattle.rotor_base.specs.declared.token.Class.TheVariants as class
use Rattle.ml_trees.specs.declared.fixed.Fixed.TheVariants as key
use Rattle.ml_trees.specs.declared.module.External.{External as Source}
use Rattle.ml_trees.specs.Tok.{Tok, placed, word}
use Rattle.ml_trees.specs.Tree.{SigItem, ModuleTypeSig, AliasSig}
use Rattle.ml_trees.specs.View.{view_name, view_run, view_words}
use Rattle.token_reading.specs.Steps.{Read, ◌>>=◌, expect_at}
use Rattle.expr_reading.specs.ExprReading.{upper_path}
use Rattle.expr_parts.specs.Rows.{upper_word}
use Rattle.module_reading.specs.ModReading.{External, read_type}

-- a name of class Upper and a `=`
abbrev pub names_module : List Tok → Bool
names_module (word class.Upper x ∷ placed key.Equals at ∷ ts) = true
names_module _ = false

-- an `external`, as the code holds it
abbrev pub external_of : Source → External
external_of e = record { name = view_name e.name; run = view_run e.run; at = e.equals; texts = view_words e.texts.items }

module _ (d : ℕ) where
  -- after `module type`
  abbrev pub module_type_sig : ℕ → Read SigItem
  module_type_sig at ts = upper_word ts >>= λ x. expect_at key.Equals x.1 >>= λ q. read_type d q.1 >>= λ s. Some (ModuleTypeSig at x.0 q.0 s.0, s.1)

  -- after `module`: another name of a module
  abbrev pub alias_sig : ℕ → Read SigItem
  alias_sig at ts = upper_word ts >>= λ x. expect_at key.Equals x.1 >>= λ q. upper_path d q.1 >>= λ p. Some (AliasSig at x.0 q.0 p.0, p.1)
