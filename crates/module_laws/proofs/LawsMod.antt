-- The law of one reading of files, and what is read of a whole file.
use Rattle.std.proofs.Common.{◌≡◌, ℕ, ◌≤◌, List, [], length, true, Option, Some, None, sym, ap, subst, ◌∙◌, arith}
use Rattle.ml_trees.specs.Tok.{Tok}
use Rattle.ml_trees.specs.Words.{items_then, sig_items_then}
use Rattle.ml_trees.specs.WellFormed.{WfItems, WfSigItems}
use Rattle.ml_trees.specs.Tree.{Items, SigItems, FileTree, Body, Face}
use Rattle.token_reading.proofs.Stepping.{some_is}
use Rattle.module_reading.specs.ModReading.{read_body, read_face}
use Rattle.module_reading.specs.OneReading.{OneFileReading}
use Rattle.module_laws.proofs.ReachMod.{body_read, face_read}

pub one_file_reading : OneFileReading
one_file_reading (Body a is) (Body b js) k wa wb q =
    let n = length (items_then is []) in
    let one = body_read b n is wa (omega arith) in
    let two = body_read b n js wb (omega (arith, ap length q)) in
    ap (λ f. Body f is) k ∙ some_is (sym one ∙ subst (λ ts. read_body b n ts ≡ Some (Body b js)) (sym q) two)
one_file_reading (Face a is) (Face b js) k wa wb q =
    let n = length (sig_items_then is []) in
    let one = face_read b n is wa (omega arith) in
    let two = face_read b n js wb (omega (arith, ap length q)) in
    ap (λ f. Face f is) k ∙ some_is (sym one ∙ subst (λ ts. read_face b n ts ≡ Some (Face b js)) (sym q) two)
one_file_reading (Body a is) (Face b js) k wa wb q = absurd k
one_file_reading (Face a is) (Body b js) k wa wb q = absurd k

-- no body has these words
pub body_none : (file n : ℕ) (ts : List Tok) → length ts ≤ n → read_body file n ts ≡ None → (is : Items) → WfItems true is → ts ≡ items_then is [] → ⊥
body_none file n ts len h is w q =
    let e : read_body file n ts ≡ Some (Body file is) = subst (λ k. read_body file n k ≡ Some (Body file is)) (sym q)
    (body_read file n is w (omega (arith, len, ap length q))) in
    let k : ◌≡◌ {A = Option FileTree} None (Some (Body file is)) = sym h ∙ e in
    absurd cc

-- no interface has these words
pub face_none : (file n : ℕ) (ts : List Tok) → length ts ≤ n → read_face file n ts ≡ None → (is : SigItems) → WfSigItems is
    → ts ≡ sig_items_then is [] → ⊥
face_none file n ts len h is w q =
    let e : read_face file n ts ≡ Some (Face file is) = subst (λ k. read_face file n k ≡ Some (Face file is)) (sym q)
    (face_read file n is w (omega (arith, len, ap length q))) in
    let k : ◌≡◌ {A = Option FileTree} None (Some (Face file is)) = sym h ∙ e in
    absurd cc
