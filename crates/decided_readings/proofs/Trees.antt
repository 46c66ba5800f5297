-- Tokens are the words of one file of a kind, or of none.
use Rattle.std.proofs.Common.{◌≡◌, ◌⊎◌, inl, inr, ℕ, ◌≤◌, List, [], ◌∷◌, Option, Some, None, length, refl, sym, ◌∙◌, arith}
use Rattle.ml_trees.specs.Tok.{Tok}
use Rattle.ml_trees.specs.Tree.{Items, SigItems, FileTree, Body, Face}
use Rattle.ml_trees.specs.Words.{words}
use Rattle.ml_trees.specs.WellFormed.{WfFile}
use Rattle.token_reading.proofs.Stepping.{from_some}
use Rattle.parse_module.specs.declared.files.FileKind.{FileKind}
use Rattle.parse_module.specs.declared.files.FileKind.TheVariants as kind
use Rattle.module_reading.specs.ModReading.{read_body, read_face, whole_body, whole_face}
use Rattle.parse_module.specs.Parts.{read_file}
use Rattle.module_reading.specs.OneReading.{AreOfOneKind}
use Rattle.parse_module.specs.Whole.{IsOfFile, IsTreeOf, HasNoTree}
use Rattle.module_laws.proofs.FoundMod.{body_found, face_found}
use Rattle.module_laws.proofs.LawsMod.{one_file_reading, body_none, face_none}

body_by : (file : ℕ) (m : Items × List Tok) (t : FileTree) → whole_body file m ≡ Some t → IsOfFile kind.Body file t
body_by file (is, []) t e = from_some (IsOfFile kind.Body file) e refl
body_by file (is, x ∷ xs) t e = absurd cc

face_by : (file : ℕ) (m : SigItems × List Tok) (t : FileTree) → whole_face file m ≡ Some t → IsOfFile kind.Face file t
face_by file (is, []) t e = from_some (IsOfFile kind.Face file) e refl
face_by file (is, x ∷ xs) t e = absurd cc

of_file : (k : FileKind) (file n : ℕ) (ts : List Tok) (t : FileTree) → read_file k file n ts ≡ Some t → IsOfFile k file t
unfolding read_body read_face
of_file kind.Body file n ts t e = body_by file _ t e
of_file kind.Face file n ts t e = face_by file _ t e

found : (k : FileKind) (file n : ℕ) (ts : List Tok) (t : FileTree) → read_file k file n ts ≡ Some t → WfFile t × (ts ≡ words t)
found kind.Body file n ts t e = body_found file n ts t e
found kind.Face file n ts t e = face_found file n ts t e

one_kind : (k : FileKind) (file : ℕ) (a b : FileTree) → IsOfFile k file a → IsOfFile k file b → AreOfOneKind a b
one_kind kind.Body file (Body a is) (Body b js) p q = p ∙ sym q
one_kind kind.Face file (Face a is) (Face b js) p q = p ∙ sym q
one_kind kind.Body file (Body a is) (Face b js) p q = absurd q
one_kind kind.Body file (Face a is) b p q = absurd p
one_kind kind.Face file (Face a is) (Body b js) p q = absurd q
one_kind kind.Face file (Body a is) b p q = absurd p

tree_of : (k : FileKind) (file n : ℕ) (ts : List Tok) (t : FileTree) → read_file k file n ts ≡ Some t → IsTreeOf k file ts t
tree_of k file n ts t e =
    let f = found k file n ts t e in
    let here = of_file k file n ts t e in
    record { of_file = here; wf = f.0; reads = f.1; only = λ a p w q. one_file_reading a t (one_kind k file a t p here) w f.0 (sym q ∙ f.1) }

no_tree : (k : FileKind) (file n : ℕ) (ts : List Tok) → length ts ≤ n → read_file k file n ts ≡ None → HasNoTree k file ts
no_tree kind.Body file n ts len h (Body a is) p w q = body_none file n ts len h is w q
no_tree kind.Face file n ts len h (Face a is) p w q = face_none file n ts len h is w q
no_tree kind.Body file n ts len h (Face a is) p w q = absurd p
no_tree kind.Face file n ts len h (Body a is) p w q = absurd p

-- the words of one file, or of none
pub tree_decided : (k : FileKind) (file : ℕ) (ts : List Tok) → ((t : FileTree) × IsTreeOf k file ts t) ⊎ HasNoTree k file ts
tree_decided k file ts = by (read_file k file (length ts) ts) refl where
  by : (o : Option FileTree) → read_file k file (length ts) ts ≡ o → ((t : FileTree) × IsTreeOf k file ts t) ⊎ HasNoTree k file ts
  by (Some t) e = inl (t, tree_of k file (length ts) ts t e)
  by None e = inr (no_tree k file (length ts) ts (omega arith) e)
