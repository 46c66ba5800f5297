-- The law of the front: the items before it are the longest, and none begins there (own; the OCaml manual, "Compilation units").
use Rattle.std.specs.Prelude.{List, true}
use Rattle.ml_lexer.specs.Lexed.{Lexeme}
use Rattle.ml_syntax.specs.RespelledFile.{lexeme_toks}
use Rattle.ml_trees.specs.Tree.{Items, SigItems}
use Rattle.parse_module.specs.declared.files.FileKind.{FileKind}
use Rattle.parse_module.specs.declared.files.FileKind.TheVariants as kind
use Rattle.refusal_places.specs.Front.{behind_items}
use Rattle.longest_items.specs.Longest.{AreLongestItems, AreLongestSigs}

-- the lexemes begin with items, each the longest where it begins, and no item begins the tokens behind them
abbrev pub BeginWithLongest : FileKind → List Lexeme → Type 0
BeginWithLongest kind.Body xs = (is : Items) × AreLongestItems true (lexeme_toks 1 xs) is (behind_items kind.Body xs)
BeginWithLongest kind.Face xs = (is : SigItems) × AreLongestSigs (lexeme_toks 1 xs) is (behind_items kind.Face xs)

abbrev pub FrontsEndLongest : Type 0
FrontsEndLongest = (k : FileKind) (xs : List Lexeme) → BeginWithLongest k xs
