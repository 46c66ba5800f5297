-- What the reading of a whole file promises, in the words of the trees (own; the OCaml manual, "Compilation units").
use Rattle.std.specs.Prelude.{◌≡◌, ℕ, List, Option, Some, None, Result, Err}
use Rattle.rotor_base.specs.declared.token.FormKind.{FormKind}
use Rattle.ml_trees.specs.declared.module.FileTree.{FileTree as Source}
use Rattle.ml_trees.specs.Tok.{Tok}
use Rattle.ml_trees.specs.Tree.{FileTree, Body, Face}
use Rattle.ml_trees.specs.Words.{words}
use Rattle.ml_trees.specs.WellFormed.{WfFile}
use Rattle.parse_base.specs.declared.error.ParseError.{ParseError}
use Rattle.parse_base.specs.declared.error.ParseError.TheVariants as refused
use Rattle.parse_module.specs.declared.files.FileKind.{FileKind}
use Rattle.parse_module.specs.declared.files.FileKind.TheVariants as kind

-- a body or an interface, with this number
abbrev pub IsOfFile : FileKind → ℕ → FileTree → Type 0
IsOfFile kind.Body file (Body a is) = a ≡ file
IsOfFile kind.Face file (Face a is) = a ≡ file
IsOfFile _ _ _ = ⊥

-- the tree of a file of these words: it is well-formed, has these words, and is the only one
pub record IsTreeOf (k : FileKind) (file : ℕ) (ts : List Tok) (t : FileTree) : Type 0 where
  pub of_file : IsOfFile k file t
  pub wf : WfFile t
  pub reads : ts ≡ words t
  pub only : (another : FileTree) → IsOfFile k file another → WfFile another → ts ≡ words another → another ≡ t

-- no file of this kind has these words
abbrev pub HasNoTree : FileKind → ℕ → List Tok → Type 0
HasNoTree k file ts = (t : FileTree) → IsOfFile k file t → WfFile t → ts ≡ words t → ⊥

-- the refused form that an answer names, and the token that it names as nested too deep
abbrev pub told_form : Result Source ParseError → Option (ℕ × FormKind)
told_form (Err (refused.Form token k)) = Some (token, k)
told_form _ = None

abbrev pub told_deep : Result Source ParseError → Option ℕ
told_deep (Err (refused.Deep token)) = Some token
told_deep _ = None
