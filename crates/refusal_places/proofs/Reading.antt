-- Of a source that is read the front is the end.
use Rattle.std.proofs.Common.{◌≡◌, ◌≤◌, ℕ, ◌+◌, ◌-◌, List, [], ◌∷◌, Option, Some, None, cond, length, take, refl, ap, ◌∙◌, arith}
use Rattle.std.proofs.lemmas.List.{length-map}
use Rattle.std.proofs.lemmas.Option.{slice_get_past}
use Rattle.ml_lexer.specs.Lexed.{Lexeme}
use Rattle.ml_syntax.specs.RespelledFile.{lexeme_toks}
use Rattle.ml_trees.specs.Tok.{Tok}
use Rattle.ml_trees.specs.Tree.{Body, Face, FileTree, Items, SigItems}
use Rattle.parse_module.specs.declared.files.FileKind.{FileKind}
use Rattle.parse_module.specs.declared.files.FileKind.TheVariants as kind
use Rattle.module_reading.specs.ModReading.{body_start, face_start, read_body, read_face, whole_body, whole_face}
use Rattle.parse_module.specs.Parts.{read_file}
use Rattle.module_laws.proofs.LongerMod.{items_more, sig_items_more}
use Rattle.parse_module.proofs.Whole.{no_tree, tree_of}
use Rattle.refusal_places.specs.Front.{behind_items, front_of, is_in, items_end, last_let}
use Rattle.refusal_places.specs.Laws.{AreRead, FrontsDetermineReading}
use Rattle.refusal_places.proofs.Ending.{fronts_end_items}
use Rattle.refusal_places.proofs.Fronts.{toks_length}

count : (xs : List Lexeme) → length (lexeme_toks 1 xs) ≡ length xs
count xs = toks_length 1 _ ∙ length-map xs (λ (x : Lexeme). (x.class, x.bytes))

empty : {A : Type 0} (xs : List A) → length xs ≤ 0 → xs ≡ []
empty [] h = refl
empty (x ∷ xs) h = absurd (omega arith)

-- what is behind the items is no longer than all
behind_within : (k : FileKind) (xs : List Lexeme) → length (behind_items k xs) ≤ length xs
behind_within kind.Body xs =
    let f = fronts_end_items kind.Body xs in
    let more = items_more f.0 (behind_items kind.Body xs) in
    let size : length (lexeme_toks 1 xs) ≡ length _ = ap (λ (l : List Tok). length l) f.2 in
    let all = count xs in
    omega (arith, more, size, all)
behind_within kind.Face xs =
    let f = fronts_end_items kind.Face xs in
    let more = sig_items_more f.0 (behind_items kind.Face xs) in
    let size : length (lexeme_toks 1 xs) ≡ length _ = ap (λ (l : List Tok). length l) f.2 in
    let all = count xs in
    omega (arith, more, size, all)

none_behind : (k : FileKind) (xs : List Lexeme) → front_of k xs ≡ length xs → behind_items k xs ≡ []
none_behind k xs h = let le = behind_within k xs in empty (behind_items k xs) (omega (arith, h, le))

whole : (file : ℕ) (m : Items × List Tok) → m.1 ≡ [] → whole_body file m ≡ Some (Body file m.0)
whole file (is, []) h = refl
whole file (is, x ∷ r) h = absurd cc

whole_of_face : (file : ℕ) (m : SigItems × List Tok) → m.1 ≡ [] → whole_face file m ≡ Some (Face file m.0)
whole_of_face file (is, []) h = refl
whole_of_face file (is, x ∷ r) h = absurd cc

ends : (file : ℕ) (m : Items × List Tok) (t : FileTree) → whole_body file m ≡ Some t → m.1 ≡ []
ends file (is, []) t h = refl
ends file (is, x ∷ r) t h = absurd cc

ends_face : (file : ℕ) (m : SigItems × List Tok) (t : FileTree) → whole_face file m ≡ Some t → m.1 ≡ []
ends_face file (is, []) t h = refl
ends_face file (is, x ∷ r) t h = absurd cc

read_by : (k : FileKind) (file : ℕ) (xs : List Lexeme) → behind_items k xs ≡ [] → AreRead k file xs
unfolding read_body read_face
read_by kind.Body file xs h =
    let ts = lexeme_toks 1 xs in
    (Body file (body_start (length xs + 1) ts).0, tree_of kind.Body file (length xs + 1) ts _ (whole file (body_start (length xs + 1) ts) h))
read_by kind.Face file xs h =
    let ts = lexeme_toks 1 xs in
    (Face file (face_start (length xs + 1) ts).0, tree_of kind.Face file (length xs + 1) ts _ (whole_of_face file (face_start (length xs + 1) ts) h))

behind_none : (k : FileKind) (file : ℕ) (xs : List Lexeme) (t : FileTree) → read_file k file (length xs + 1) (lexeme_toks 1 xs) ≡ Some t
    → behind_items k xs ≡ []
unfolding read_body read_face
behind_none kind.Body file xs t h = ends file (body_start (length xs + 1) (lexeme_toks 1 xs)) t h
behind_none kind.Face file xs t h = ends_face file (face_start (length xs + 1) (lexeme_toks 1 xs)) t h

front_by : (k : FileKind) (xs : List Lexeme) → behind_items k xs ≡ [] → front_of k xs ≡ length xs
front_by k xs h =
    let e = ap (λ (l : List Tok). length l) h in
    ap (λ (o : Option Lexeme). items_end k xs - cond (is_in o) (last_let (take (items_end k xs) xs)) 0)
    (slice_get_past xs (items_end k xs) (omega (arith, e)))
    ∙ omega (arith, e)

read_some : (k : FileKind) (file : ℕ) (xs : List Lexeme) (r : Option FileTree) → read_file k file (length xs + 1) (lexeme_toks 1 xs) ≡ r
    → AreRead k file xs → front_of k xs ≡ length xs
read_some k file xs (Some t) h read = front_by k xs (behind_none k file xs t h)
read_some k file xs None h read =
    let all = count xs in
    absurd (no_tree k file (length xs + 1) (lexeme_toks 1 xs) (omega (arith, all)) h read.0 read.1.of_file read.1.wf read.1.reads)

pub fronts_determine_reading : FrontsDetermineReading
fronts_determine_reading k file xs =
    (λ h. read_by k file xs (none_behind k xs h), λ read. read_some k file xs (read_file k file (length xs + 1) (lexeme_toks 1 xs)) refl read)
