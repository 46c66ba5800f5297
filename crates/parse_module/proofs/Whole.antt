-- What is read of the tokens of a file is its tree, and if nothing is read, it has none.
use Rattle.std.proofs.Common.{◌≡◌, ℕ, ◌+◌, ◌≤◌, ◌<◌, List, [], ◌∷◌, length, true, Some, None, sym, ap, refl, ◌∙◌, arith}
use Rattle.rotor_base.specs.declared.token.Token.{Token}
use Rattle.ml_trees.specs.Tok.{Tok}
use Rattle.ml_trees.specs.Tree.{Items, SigItems, FileTree, Body, Face}
use Rattle.ml_trees.specs.Words.{words}
use Rattle.ml_trees.specs.WellFormed.{WfFile}
use Rattle.token_reading.specs.Tokens.{from}
use Rattle.token_reading.proofs.Ends.{from_length}
use Rattle.token_reading.proofs.Places.{from_end, from_next}
use Rattle.token_reading.proofs.Stepping.{from_some, some_is}
use Rattle.parse_module.specs.declared.files.FileKind.{FileKind}
use Rattle.parse_module.specs.declared.files.FileKind.TheVariants as kind
use Rattle.module_reading.specs.ModReading.{read_mod, read_type, items_of, sig_items, read_body, read_face, whole_body, whole_face}
use Rattle.parse_module.specs.Parts.{read_file}
use Rattle.module_reading.specs.OneReading.{AreOfOneKind}
use Rattle.parse_module.specs.Whole.{IsOfFile, IsTreeOf, HasNoTree}
use Rattle.module_laws.proofs.FoundMod.{body_found, face_found}
use Rattle.module_laws.proofs.LawsMod.{one_file_reading, body_none, face_none}

-- ---- to the end of the tokens

pub body_all : (file : ℕ) (is : Items) (ts : List Token) (at : ℕ) → length ts ≤ at → whole_body file (is, from ts at) ≡ Some (Body file is)
body_all file is ts at le = rw (from_end ts at le) refl

pub body_some : (file : ℕ) (is : Items) (ts : List Token) (at : ℕ) → at < length ts → whole_body file (is, from ts at) ≡ None
body_some file is ts at lt = rw ((from_next ts at lt).1) refl

pub face_all : (file : ℕ) (is : SigItems) (ts : List Token) (at : ℕ) → length ts ≤ at → whole_face file (is, from ts at) ≡ Some (Face file is)
face_all file is ts at le = rw (from_end ts at le) refl

pub face_some : (file : ℕ) (is : SigItems) (ts : List Token) (at : ℕ) → at < length ts → whole_face file (is, from ts at) ≡ None
face_some file is ts at lt = rw ((from_next ts at lt).1) refl

pub body_cut : (file n : ℕ) (is : Items) (ts : List Token) (at : ℕ) → Some (items_of (read_mod n) (read_type n) n n true (from ts 0)) ≡ Some
    (is, from ts at) → at < length ts → read_body file n (from ts 0) ≡ None
unfolding read_body
body_cut file n is ts at h lt = ap (whole_body file) (some_is h) ∙ body_some file is ts at lt

pub body_whole : (file n : ℕ) (is : Items) (ts : List Token) (at : ℕ) → Some (items_of (read_mod n) (read_type n) n n true (from ts 0)) ≡ Some
    (is, from ts at) → length ts ≤ at → read_body file n (from ts 0) ≡ Some (Body file is)
unfolding read_body
body_whole file n is ts at h le = ap (whole_body file) (some_is h) ∙ body_all file is ts at le

pub face_cut : (file n : ℕ) (is : SigItems) (ts : List Token) (at : ℕ) → Some (sig_items (read_mod n) (read_type n) n (from ts 0)) ≡ Some
    (is, from ts at) → at < length ts → read_face file n (from ts 0) ≡ None
unfolding read_face
face_cut file n is ts at h lt = ap (whole_face file) (some_is h) ∙ face_some file is ts at lt

pub face_whole : (file n : ℕ) (is : SigItems) (ts : List Token) (at : ℕ) → Some (sig_items (read_mod n) (read_type n) n (from ts 0)) ≡ Some
    (is, from ts at) → length ts ≤ at → read_face file n (from ts 0) ≡ Some (Face file is)
unfolding read_face
face_whole file n is ts at h le = ap (whole_face file) (some_is h) ∙ face_all file is ts at le

-- ---- what is read, and that nothing is

body_by : (file : ℕ) (m : Items × List Tok) (t : FileTree) → whole_body file m ≡ Some t → IsOfFile kind.Body file t
body_by file (is, []) t e = from_some (IsOfFile kind.Body file) e refl
body_by file (is, x ∷ xs) t e = absurd cc

face_by : (file : ℕ) (m : SigItems × List Tok) (t : FileTree) → whole_face file m ≡ Some t → IsOfFile kind.Face file t
face_by file (is, []) t e = from_some (IsOfFile kind.Face file) e refl
face_by file (is, x ∷ xs) t e = absurd cc

of_file : (k : FileKind) (file n : ℕ) (ts : List Tok) (t : FileTree) → read_file k file n ts ≡ Some t → IsOfFile k file t
unfolding read_body read_face
of_file kind.Body file n ts t e = body_by file _ t e
of_file kind.Face file n ts t e = face_by file _ t e

found : (k : FileKind) (file n : ℕ) (ts : List Tok) (t : FileTree) → read_file k file n ts ≡ Some t → WfFile t × (ts ≡ words t)
found kind.Body file n ts t e = body_found file n ts t e
found kind.Face file n ts t e = face_found file n ts t e

one_kind : (k : FileKind) (file : ℕ) (a b : FileTree) → IsOfFile k file a → IsOfFile k file b → AreOfOneKind a b
one_kind kind.Body file (Body a is) (Body b js) p q = p ∙ sym q
one_kind kind.Face file (Face a is) (Face b js) p q = p ∙ sym q
one_kind kind.Body file (Body a is) (Face b js) p q = absurd q
one_kind kind.Body file (Face a is) b p q = absurd p
one_kind kind.Face file (Face a is) (Body b js) p q = absurd q
one_kind kind.Face file (Body a is) b p q = absurd p

pub tree_of : (k : FileKind) (file n : ℕ) (ts : List Tok) (t : FileTree) → read_file k file n ts ≡ Some t → IsTreeOf k file ts t
tree_of k file n ts t e =
    let f = found k file n ts t e in
    let here = of_file k file n ts t e in
    record { of_file = here; wf = f.0; reads = f.1; only = λ a p w q. one_file_reading a t (one_kind k file a t p here) w f.0 (sym q ∙ f.1) }

pub no_tree : (k : FileKind) (file n : ℕ) (ts : List Tok) → length ts ≤ n → read_file k file n ts ≡ None → HasNoTree k file ts
no_tree kind.Body file n ts len h (Body a is) p w q = body_none file n ts len h is w q
no_tree kind.Face file n ts len h (Face a is) p w q = face_none file n ts len h is w q
no_tree kind.Body file n ts len h (Face a is) p w q = absurd p
no_tree kind.Face file n ts len h (Body a is) p w q = absurd p

-- the same of the tokens of the code
pub file_tree : (k : FileKind) (file : ℕ) (ts : List Token) (t : FileTree) → read_file k file (length ts + 1) (from ts 0) ≡ Some t
    → IsTreeOf k file (from ts 0) t
file_tree k file ts t e = tree_of k file (length ts + 1) (from ts 0) t e

pub no_file : (k : FileKind) (file : ℕ) (ts : List Token) → read_file k file (length ts + 1) (from ts 0) ≡ None → HasNoTree k file (from ts 0)
no_file k file ts h = no_tree k file (length ts + 1) (from ts 0) (omega (arith, from_length ts 0)) h
