-- Files that are renamed back have the old bytes.
use Rattle.std.proofs.Common.{◌≡◌, ℕ, zero, suc, ◌+◌, ◌<◌, List, [], ◌∷◌, Bool, true, false, map, Some, length, get_or, refl, ap, sym, subst, ◌∙◌}
use Rattle.std.proofs.Common.{arith}
use Rattle.std.specs.Prelude.{Contains}
use Rattle.rotor_base.specs.Files as files
use Rattle.rotor_base.specs.Files.{FileSet, IsProject}
use Rattle.rotor_base.specs.Stem.{is_body_name}
use Rattle.rotor_base.specs.Unit.{unit_of}
use Rattle.rotor_base.specs.declared.source.SourceFile.{SourceFile}
use Rattle.rotor_base.specs.declared.token.Class.{Class}
use Rattle.rotor_base.specs.declared.token.Class.TheVariants as class
use Rattle.ml_lexer.specs.Lexed.{Lexeme, Lexed}
use Rattle.ml_lexer.specs.Respelled.{respelled, respelled_lexemes, respelled_lexemes_from}
use Rattle.ml_lexer.proofs.Back.{respelled_back}
use Rattle.ml_lexer.proofs.OneCutting.{one_lexed}
use Rattle.value_sites.specs.Places.{sites}
use Rattle.value_sites.specs.Respelled.{Spelling, spelled, spell_tok, spell_file}
use Rattle.ml_syntax.specs.RespelledFile.{lexeme_toks, new_words, ChangesNames}
use Rattle.ml_trees.specs.Tok.{Tok, word, tok}
use Rattle.ml_trees.specs.Tree.{FileTree, Body, Face, UnitTree}
use Rattle.ml_trees.specs.Words.{words}
use Rattle.value_sites.proofs.Spelling.{respelling_keeps_the_tree}
use Rattle.parse_module.specs.declared.files.FileKind.{FileKind}
use Rattle.parse_module.specs.declared.files.FileKind.TheVariants as kind
use Rattle.parse_module.specs.Whole.{IsOfFile}
use Rattle.shape_core.specs.Respell.{Words, over}
use Rattle.binding_model.specs.Renaming.{in_file, respell, spell_tree, spell_unit}
use Rattle.ml_syntax.specs.RespelledSource.{Spellings, IsRespelled, AreRespelled}
use Rattle.project_reading.specs.Respelled.{ChangesNamesIn}
use Rattle.project_reading.specs.Source.{kind_of_source, ReadsAs}
use Rattle.project_reading.specs.Sources.{ReadAll}
use Rattle.project_reading.specs.Units.{part_of, unit_from}
use Rattle.project_reading.proofs.Linked.{no_double, order_of_units}
use Rattle.project_reading.proofs.Soundness.{read_is_sound, source_at, IsMadeOf, made_of}
use Rattle.project_reading.proofs.Twins.{tree_at, read_at, none_doubled, own_part, unit_is_there}
use Rattle.project_reading.proofs.UnitsKept.{lexemes_kept, changes_by, changes_at}
use Rattle.respelled_reading.specs.Renamed.{renamed_words, RenamedBackAreTheFiles}
use Rattle.respelled_reading.proofs.Changed.{changes_all}
use Rattle.respelled_reading.proofs.Renamed.{changes_places}

-- ---- the words of one source

-- the words of lexemes that are respelled twice
abbrev twice : Spelling → Spelling → ℕ → List Lexeme → List (List ℕ)
twice v w at [] = []
twice v w at (x ∷ xs) = (spelled v x.class
    (record { at = at; text = (spelled w x.class (record { at = at; text = x.bytes })).text })).text ∷ twice v w (suc at) xs

respelled_twice : (v w : Spelling) (at old now : ℕ) (xs : List Lexeme)
    → new_words v at (respelled_lexemes_from old now xs (new_words w at xs)) ≡ twice v w at xs
respelled_twice v w at old now [] = refl
respelled_twice v w at old now (x ∷ xs) =
    ap (λ rest. (spelled v x.class (record { at = at; text = (spelled w x.class (record { at = at; text = x.bytes })).text })).text ∷ rest)
    (respelled_twice v w (suc at) x.end _ xs)

word_text : Tok → List ℕ
word_text (word c x) = x.text
word_text _ = []

text_back : (v w : Spelling) (c : Class) (at : ℕ) (text : List ℕ) → spell_tok v (spell_tok w (tok c at text)) ≡ tok c at text
    → (spelled v c (record { at = at; text = (spelled w c (record { at = at; text = text })).text })).text ≡ text
unfolding word_text
text_back v w class.Lower at text e = ap word_text e
text_back v w _ at text e = refl

head_same : (a b : Tok) (u v : List Tok) → a ∷ u ≡ b ∷ v → a ≡ b
head_same a b u v e = cc

tail_same : (a b : Tok) (u v : List Tok) → a ∷ u ≡ b ∷ v → u ≡ v
tail_same a b u v e = cc

words_back : (v w : Spelling) (at : ℕ) (xs : List Lexeme) → map (spell_tok v) (map (spell_tok w) (lexeme_toks at xs)) ≡ lexeme_toks at xs
    → twice v w at xs ≡ map (λ x. x.bytes) xs
words_back v w at [] e = refl
words_back v w at (x ∷ xs) e =
    let t = tok x.class at x.bytes in
    let rest = lexeme_toks (suc at) xs in
    ap (λ b. b ∷ twice v w (suc at) xs)
    (text_back v w x.class at x.bytes (head_same (spell_tok v (spell_tok w t)) t (map (spell_tok v) (map (spell_tok w) rest)) rest e))
    ∙ ap (λ bs. x.bytes ∷ bs)
    (words_back v w (suc at) xs (tail_same (spell_tok v (spell_tok w t)) t (map (spell_tok v) (map (spell_tok w) rest)) rest e))

as_many : (w : Spelling) (at : ℕ) (xs : List Lexeme) → length (new_words w at xs) ≡ length xs
as_many w at [] = refl
as_many w at (x ∷ xs) = ap suc (as_many w (suc at) xs)

source_same : (a b : SourceFile) → a.name ≡ b.name → a.bytes ≡ b.bytes → a ≡ b
source_same a b e f = ap (λ n. record { name = n; bytes = a.bytes }) e ∙ ap (λ x. record { name = b.name; bytes = x }) f

source_back : (v w : Spelling) (n : ℕ) (old new undone : SourceFile) (t : FileTree) → ReadsAs n old t → IsRespelled w old new
    → IsRespelled v new undone
    → ChangesNames w (sites t) → spell_file v (spell_file w t) ≡ t → undone ≡ old
source_back v w n old new undone t r i j changes same =
    let xs = r.lexemes in
    let ws = new_words w 1 xs in
    let ys = respelled_lexemes xs ws in
    let wf = r.parsed.wf in
    let once = respelling_keeps_the_tree w t wf in
    let again = respelling_keeps_the_tree v (spell_file w t) once.0 in
    let toks : map (spell_tok v) (map (spell_tok w) (lexeme_toks 1 xs)) ≡ lexeme_toks 1 xs =
    ap (λ ts. map (spell_tok v) (map (spell_tok w) ts)) r.parsed.reads ∙ ap (map (spell_tok v)) (sym once.1) ∙ sym again.1 ∙ ap words same
    ∙ sym r.parsed.reads
    in
    let cut : Lexed new.bytes ys = lexemes_kept w n old new t xs r i changes r.plain.cut in
    let back : new_words v 1 ys ≡ map (λ x. x.bytes) xs = respelled_twice v w 1 0 0 xs ∙ words_back v w 1 xs toks in
    let written : new.bytes ≡ respelled old.bytes xs ws = i.bytes
    ∙ ap (λ zs. respelled old.bytes zs (new_words w 1 zs)) (one_lexed i.cut r.plain.cut) in
    source_same undone old (j.name ∙ i.name)
    (j.bytes
    ∙ ap (λ zs. respelled new.bytes zs (new_words v 1 zs)) (one_lexed j.cut cut)
    ∙ ap (respelled new.bytes ys) back
    ∙ ap (λ bytes. respelled bytes ys (map (λ x. x.bytes) xs)) written
    ∙ respelled_back old.bytes xs ws r.plain.cut (as_many w 1 xs))

-- ---- all sources

all_back : (v w : Spellings) (n : ℕ) (olds news undones : List SourceFile) (ts : List FileTree) → ReadAll n olds ts → AreRespelled w n olds news
    → AreRespelled v n news undones
    → ((k : ℕ) → k < length olds → ChangesNamesIn w (Some (tree_at ts k)))
    → ((k : ℕ) → k < length olds → spell_file (v (n + k)) (spell_file (w (n + k)) (tree_at ts k)) ≡ tree_at ts k) → undones ≡ olds
all_back v w n [] [] [] ts h i j changes same = refl
all_back v w n [] [] (u ∷ undones) ts h i j changes same = absurd j
all_back v w n [] (new ∷ news) undones ts h i j changes same = absurd i
all_back v w n (old ∷ olds) [] undones ts h i j changes same = absurd i
all_back v w n (old ∷ olds) (new ∷ news) [] ts h i j changes same = absurd j
all_back v w n (old ∷ olds) (new ∷ news) (u ∷ undones) [] h i j changes same = absurd h
all_back v w n (old ∷ olds) (new ∷ news) (u ∷ undones) (t ∷ ts) h i j changes same =
    let here = subst (λ m. spell_file (v m) (spell_file (w m) t) ≡ t) (alone n) (same 0 (omega arith)) in
    ap (λ x. x ∷ undones) (source_back (v n) (w n) n old new u t h.0 i.0 j.0
    (changes_by (kind_of_source old.name) n w t h.0.parsed.of_file (changes 0 (omega arith))) here)
    ∙ ap (λ xs. old ∷ xs) (all_back v w (suc n) olds news undones ts h.1 i.1 j.1 (λ k lt. changes (suc k) (omega (arith, lt)))
    (λ k lt. subst (λ m. spell_file (v m) (spell_file (w m) (tree_at ts k)) ≡ tree_at ts k) (further n k) (same (suc k) (omega (arith, lt)))))
  where
    alone : (n : ℕ) → n + 0 ≡ n
    alone n = omega arith

    further : (n k : ℕ) → n + suc k ≡ suc n + k
    further n k = omega arith

-- ---- the trees

unit_head : (a b : UnitTree) (u v : List UnitTree) → a ∷ u ≡ b ∷ v → a ≡ b
unit_head a b u v e = cc

unit_tail : (a b : UnitTree) (u v : List UnitTree) → a ∷ u ≡ b ∷ v → u ≡ v
unit_tail a b u v e = cc

unit_back : (f g : UnitTree → UnitTree) (us : List UnitTree) (u : UnitTree) → map f (map g us) ≡ us → Contains us u → f (g u) ≡ u
unit_back f g [] u e c = absurd (omega (arith, c.1))
unit_back f g (x ∷ us) u e c = by c.0 c.1 c.2 (unit_back f g us u (unit_tail (f (g x)) x (map f (map g us)) us e))
  where
    by : (k : ℕ) → k < suc (length us) → get_or (x ∷ us) k u ≡ u → (Contains us u → f (g u) ≡ u) → f (g u) ≡ u
    by zero lt is rest = subst (λ y. f (g y) ≡ y) is (unit_head (f (g x)) x (map f (map g us)) us e)
    by (suc k) lt is rest = rest (k, omega (arith, lt), is)

some_back : (a b : FileTree) → Some a ≡ Some b → a ≡ b
some_back a b e = cc

body_back : (v w : Words) (u : UnitTree) (t : FileTree) → spell_unit v (spell_unit w u) ≡ u
    → (u.body ≡ Some t) → spell_tree v (spell_tree w t) ≡ t
body_back v w u t e is =
    some_back (spell_tree v (spell_tree w t)) t (ap (λ p. over (spell_tree v) (over (spell_tree w) p)) (sym is) ∙ ap (λ x. x.body) e ∙ is)

face_back : (v w : Words) (u : UnitTree) (t : FileTree) → spell_unit v (spell_unit w u) ≡ u → (u.face ≡ Some t) → spell_tree v (spell_tree w t) ≡ t
face_back v w u t e is =
    some_back (spell_tree v (spell_tree w t)) t (ap (λ p. over (spell_tree v) (over (spell_tree w) p)) (sym is) ∙ ap (λ x. x.face) e ∙ is)

part_back : (v w : Words) (ss : List SourceFile) (ts : List FileTree) (b : Bool) (x : List ℕ) (t : FileTree) → part_of b x ss ts ≡ Some t
    → spell_unit v (spell_unit w (unit_from ss ts x)) ≡ unit_from ss ts x → spell_tree v (spell_tree w t) ≡ t
part_back v w ss ts true x t is e = body_back v w (unit_from ss ts x) t e is
part_back v w ss ts false x t is e = face_back v w (unit_from ss ts x) t e is

by_number : (k : FileKind) (n : ℕ) (v w : Words) (t : FileTree) → IsOfFile k n t → spell_tree v (spell_tree w t) ≡ t
    → spell_file (in_file v n) (spell_file (in_file w n) t) ≡ t
by_number kind.Body n v w (Body f is) h e = subst (λ m. spell_file (in_file v m) (spell_file (in_file w m) (Body f is)) ≡ Body f is) h e
by_number kind.Face n v w (Face f is) h e = subst (λ m. spell_file (in_file v m) (spell_file (in_file w m) (Face f is)) ≡ Face f is) h e
by_number kind.Body n v w (Face f is) h e = absurd h
by_number kind.Face n v w (Body f is) h e = absurd h

-- ---- files

files_same : (a b : FileSet) → a.entries ≡ b.entries → a.manifest ≡ b.manifest → a ≡ b
files_same a b e f = ap (λ x. record { entries = x; manifest = a.manifest }) e ∙ ap (λ x. record { entries = b.entries; manifest = x }) f

pub renamed_back_are_the_files : RenamedBackAreTheFiles
renamed_back_are_the_files us r back old new undone project reads h there again same =
    let w = renamed_words us r in
    let v = renamed_words (respell us r) back in
    let ss = old.entries in
    let ts = reads.trees in
    let m = made_of old ts us project (order_of_units old ts project reads.taken) reads.linked in
    let changes = changes_all old us project reads w (changes_places us r (read_is_sound old us project reads) h) in
    files_same undone old
    (all_back (in_file v) (in_file w) 0 ss new.entries undone.entries ts reads.read there.sources again.sources
    (changes_at (in_file w) old us project reads changes)
    (λ j lt. trees_back v w old us ts project reads.read m same j lt))
    (again.manifest ∙ there.manifest)
  where
    trees_back : (v w : Words) (fs : FileSet) (us : List UnitTree) (ts : List FileTree) → IsProject fs → ReadAll 0 fs.entries ts → IsMadeOf fs ts us
        → map (spell_unit v) (map (spell_unit w) us) ≡ us → (j : ℕ) → j < length fs.entries
        → spell_file (in_file v (0 + j)) (spell_file (in_file w (0 + j)) (tree_at ts j)) ≡ tree_at ts j
    trees_back v w fs us ts project read m same j lt =
        let s = source_at fs.entries j in
        let u = unit_from fs.entries ts (unit_of s.name) in
        let is = read_at 0 fs.entries ts j read lt in
        let own = own_part 0 fs.entries ts j read (none_doubled (files.units_of fs.entries) (no_double fs project)) lt in
        let unit = unit_back (spell_unit v) (spell_unit w) us u same (unit_is_there fs ts us j m lt) in
        by_number (kind_of_source s.name) (0 + j) v w (tree_at ts j) is.parsed.of_file
        (part_back v w fs.entries ts (is_body_name s.name) (unit_of s.name) (tree_at ts j) own unit)
