-- Laws: what is before the front is read, and of a source that is read the front is the end (own; the OCaml manual,
-- "Compilation units").
use Rattle.std.specs.Prelude.{◌≡◌, ◌↔◌, ℕ, List, length, true}
use Rattle.ml_lexer.specs.Lexed.{Lexeme}
use Rattle.ml_syntax.specs.RespelledFile.{lexeme_toks}
use Rattle.ml_trees.specs.Tree.{FileTree, Items, SigItems}
use Rattle.ml_trees.specs.WellFormed.{WfItems, WfSigItems}
use Rattle.ml_trees.specs.Words.{items_then, sig_items_then}
use Rattle.parse_module.specs.declared.files.FileKind.{FileKind}
use Rattle.parse_module.specs.declared.files.FileKind.TheVariants as kind
use Rattle.parse_module.specs.Whole.{IsTreeOf}
use Rattle.refusal_places.specs.Front.{behind_items, front_of}

-- the tokens are the words of well-formed items, and those behind the items
abbrev pub BeginWithItems : FileKind → List Lexeme → Type 0
BeginWithItems kind.Body xs = (is : Items) × WfItems true is × (lexeme_toks 1 xs ≡ items_then is (behind_items kind.Body xs))
BeginWithItems kind.Face xs = (is : SigItems) × WfSigItems is × (lexeme_toks 1 xs ≡ sig_items_then is (behind_items kind.Face xs))

abbrev pub FrontsEndItems : Type 0
FrontsEndItems = (k : FileKind) (xs : List Lexeme) → BeginWithItems k xs

-- the lexemes have a tree
abbrev pub AreRead : FileKind → ℕ → List Lexeme → Type 0
AreRead k file xs = (t : FileTree) × IsTreeOf k file (lexeme_toks 1 xs) t

-- no lexeme is behind the front, exactly if the source is read
abbrev pub FrontsDetermineReading : Type 0
FrontsDetermineReading = (k : FileKind) (file : ℕ) (xs : List Lexeme) → (front_of k xs ≡ length xs) ↔ AreRead k file xs
