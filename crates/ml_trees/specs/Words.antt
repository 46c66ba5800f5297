-- The words of a tree, which are those of its events (Events): each tree written out (the OCaml manual, "The OCaml language").
use Rattle.std.specs.Prelude.{List, [], ◌∷◌, ◌++◌}
use Rattle.rotor_base.specs.declared.token.Class.TheVariants as class
use Rattle.ml_trees.specs.declared.fixed.Fixed.TheVariants as key
use Rattle.ml_trees.specs.Tok.{Name, Tok, fixed, placed, word}
use Rattle.ml_trees.specs.Tree.{ValueName, PlainName, OperatorName, Pat, Expr, Item, Items, SigItem, SigItems, FileTree}
use Rattle.ml_trees.specs.Events.{Event, said, run_of, value, field, label, operator, minus, module_path, last_path, qualifier, pat_out, expr_out}
use Rattle.ml_trees.specs.Events.{item_out, items_out, sig_item_out, sig_items_out, file_out}

-- ---- the words of paths and names

-- module names with a `.` between them, and more names behind a `.`
abbrev pub dotted_then : List Name → List Tok → List Tok
dotted_then [] k = k
dotted_then (x ∷ xs) k = fixed key.Dot ∷ word class.Upper x ∷ dotted_then xs k

abbrev pub path_then : List Name → List Tok → List Tok
path_then [] k = k
path_then (x ∷ xs) k = word class.Upper x ∷ dotted_then xs k

-- module names, each with a `.` behind it
abbrev pub qualified_then : List Name → List Tok → List Tok
qualified_then [] k = k
qualified_then (x ∷ xs) k = word class.Upper x ∷ fixed key.Dot ∷ qualified_then xs k

abbrev pub name_then : ValueName → List Tok → List Tok
name_then (PlainName x) k = word class.Lower x ∷ k
name_then (OperatorName at t) k = placed key.LeftParen at ∷ t ∷ fixed key.RightParen ∷ k

-- the words of an event, and then more
abbrev pub add_words : Event → List Tok → List Tok
add_words (said t) k = t ∷ k
add_words (run_of ts) k = ts ++ k
add_words (value binds x) k = name_then x k
add_words (field binds x) k = word class.Lower x ∷ k
add_words (label binds x) k = word class.Label x ∷ k
add_words (operator t) k = t ∷ k
add_words (minus x) k = word class.Infix x ∷ k
add_words (module_path path) k = path_then path k
add_words (last_path path) k = path_then path k
add_words (qualifier path) k = qualified_then path k
add_words _ k = k

-- ---- the words of a tree, and then more

abbrev pub pat_then : Pat → List Tok → List Tok
pat_then = pat_out add_words

abbrev pub expr_then : Expr → List Tok → List Tok
expr_then = expr_out add_words

abbrev pub item_then : Item → List Tok → List Tok
item_then = item_out add_words

abbrev pub items_then : Items → List Tok → List Tok
items_then = items_out add_words

abbrev pub sig_item_then : SigItem → List Tok → List Tok
sig_item_then = sig_item_out add_words

abbrev pub sig_items_then : SigItems → List Tok → List Tok
sig_items_then = sig_items_out add_words

-- ---- the words of a tree

abbrev pub pat_words : Pat → List Tok
pat_words p = pat_then p []

abbrev pub expr_words : Expr → List Tok
expr_words e = expr_then e []

abbrev pub words : FileTree → List Tok
words t = file_out add_words t []
