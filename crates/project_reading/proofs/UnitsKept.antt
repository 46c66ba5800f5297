-- The lexemes and the units of respelled sources.
use Rattle.std.proofs.Common.{◌≡◌, ℕ, suc, ◌<◌, List, [], ◌∷◌, All, Bool, true, false, ◌&&◌, cond, Option, Some, map, length, refl, ap, sym, subst}
use Rattle.std.proofs.Common.{◌∙◌, arith}
use Rattle.std.specs.Prelude.{Contains}
use Rattle.std.specs.Bool.{beq}
use Rattle.std.specs.BTreeSet.{insert_key}
use Rattle.std.specs.Ordering.{nat_cmp}
use Rattle.std.specs.Cmp.Lexicographic.{slice_cmp}
use Rattle.std.specs.Str.{bytes_eq}
use Rattle.rotor_base.specs.Files as files
use Rattle.rotor_base.specs.Files.{FileSet, IsProject}
use Rattle.rotor_base.specs.Stem.{is_body_name}
use Rattle.rotor_base.specs.Unit.{unit_of}
use Rattle.rotor_base.specs.declared.source.SourceFile.{SourceFile}
use Rattle.ml_lexer.specs.Lexed.{Lexeme, Lexed}
use Rattle.ml_lexer.specs.Respelled.{respelled, respelled_lexemes}
use Rattle.ml_lexer.proofs.OneCutting.{one_lexed}
use Rattle.value_sites.specs.Places.{sites}
use Rattle.value_sites.specs.Respelled.{Spelling, spell_file}
use Rattle.ml_syntax.specs.RespelledFile.{lexeme_toks, new_words, ChangesNames}
use Rattle.ml_trees.specs.Tree.{FileTree, Body, Face, UnitTree}
use Rattle.ml_syntax.proofs.RespelledNames.{respelled_names_are_read}
use Rattle.parse_module.specs.declared.files.FileKind.{FileKind}
use Rattle.parse_module.specs.declared.files.FileKind.TheVariants as kind
use Rattle.parse_module.specs.Whole.{IsOfFile}
use Rattle.project_reading.specs.Reads.{Reads}
use Rattle.ml_syntax.specs.RespelledSource.{Spellings, IsRespelled, AreRespelled}
use Rattle.project_reading.specs.Respelled.{spell_tree, spell_part, spell_unit, ChangesNamesIn, respelled_lists, RespellingKeepsTheLexemes}
use Rattle.project_reading.specs.Source.{kind_of_source, ReadsAs}
use Rattle.project_reading.specs.Sources.{ReadAll, AreCut}
use Rattle.project_reading.specs.Units.{unit_names, is_part, part_of, unit_from, units_of}
use Rattle.project_reading.proofs.Linked.{no_double, order_of_units}
use Rattle.project_reading.proofs.Soundness.{source_at, made_of}
use Rattle.project_reading.proofs.Twins.{tree_at, none_doubled, own_part, unit_is_there}

-- the tree of a file with this number is respelled by the spelling of this file
pub spelled_by : (k : FileKind) (n : ℕ) (w : Spellings) (t : FileTree) → IsOfFile k n t → spell_file (w n) t ≡ spell_tree w t
spelled_by kind.Body n w (Body a is) h = ap (λ m. spell_file (w m) (Body a is)) (sym h)
spelled_by kind.Face n w (Face a is) h = ap (λ m. spell_file (w m) (Face a is)) (sym h)
spelled_by kind.Body n w (Face a is) h = absurd h
spelled_by kind.Face n w (Body a is) h = absurd h

pub changes_by : (k : FileKind) (n : ℕ) (w : Spellings) (t : FileTree) → IsOfFile k n t → ChangesNamesIn w (Some t) → ChangesNames (w n) (sites t)
changes_by kind.Body n w (Body a is) h c = subst (λ m. ChangesNames (w m) (sites (Body a is))) h c
changes_by kind.Face n w (Face a is) h c = subst (λ m. ChangesNames (w m) (sites (Face a is))) h c
changes_by kind.Body n w (Face a is) h c = absurd h
changes_by kind.Face n w (Body a is) h c = absurd h

-- ---- their units

names_kept : (w : Spellings) (n : ℕ) (olds news : List SourceFile) → AreRespelled w n olds news → unit_names news ≡ unit_names olds
names_kept w n [] [] a = refl
names_kept w n [] (new ∷ news) a = absurd a
names_kept w n (old ∷ olds) [] a = absurd a
names_kept w n (old ∷ olds) (new ∷ news) a =
    ap (λ ns. insert_key (slice_cmp nat_cmp) ns (unit_of new.name)) (names_kept w (suc n) olds news a.1)
    ∙ ap (λ name. insert_key (slice_cmp nat_cmp) (unit_names olds) (unit_of name)) a.0.name

tree_or_rest : (w : Spellings) (b : Bool) (t : FileTree) (o : Option FileTree)
    → cond b (Some (spell_tree w t)) (spell_part w o) ≡ spell_part w (cond b (Some t) o)
tree_or_rest w true t o = refl
tree_or_rest w false t o = refl

part_kept : (w : Spellings) (n : ℕ) (olds news : List SourceFile) (ts : List FileTree) (body : Bool) (name : List ℕ) → AreRespelled w n olds news
    → part_of body name news (map (spell_tree w) ts) ≡ spell_part w (part_of body name olds ts)
part_kept w n [] [] ts body name a = refl
part_kept w n [] (new ∷ news) ts body name a = absurd a
part_kept w n (old ∷ olds) [] ts body name a = absurd a
part_kept w n (old ∷ olds) (new ∷ news) [] body name a = refl
part_kept w n (old ∷ olds) (new ∷ news) (t ∷ ts) body name a =
    ap (λ x. cond (beq (is_body_name x) body && bytes_eq (unit_of x) name) (Some (spell_tree w t))
    (part_of body name news (map (spell_tree w) ts))) a.0.name
    ∙ ap (cond (is_part body name old) (Some (spell_tree w t))) (part_kept w (suc n) olds news ts body name a.1)
    ∙ tree_or_rest w (is_part body name old) t (part_of body name olds ts)

from_kept : (w : Spellings) (n : ℕ) (olds news : List SourceFile) (ts : List FileTree) (ns : List (List ℕ)) → AreRespelled w n olds news
    → map (unit_from news (map (spell_tree w) ts)) ns ≡ map (spell_unit w) (map (unit_from olds ts) ns)
from_kept w n olds news ts [] a = refl
from_kept w n olds news ts (x ∷ ns) a =
    ap (λ p. record { name = x; body = p; face = part_of false x news (map (spell_tree w) ts) } ∷ map (unit_from news (map (spell_tree w) ts)) ns)
    (part_kept w n olds news ts true x a)
    ∙ ap (λ p. record { name = x; body = spell_part w (part_of true x olds ts); face = p } ∷ map (unit_from news (map (spell_tree w) ts)) ns)
    (part_kept w n olds news ts false x a)
    ∙ ap (λ us. spell_unit w (unit_from olds ts x) ∷ us) (from_kept w n olds news ts ns a)

pub units_kept : (w : Spellings) (olds news : List SourceFile) (ts : List FileTree) → AreRespelled w 0 olds news
    → units_of news (map (spell_tree w) ts) ≡ map (spell_unit w) (units_of olds ts)
units_kept w olds news ts a = ap (map (unit_from news (map (spell_tree w) ts))) (names_kept w 0 olds news a)
    ∙ from_kept w 0 olds news ts (unit_names olds) a

-- ---- the tree of each source is in the project

changes_of : (w : Spellings) (ss : List SourceFile) (ts : List FileTree) (b : Bool) (x : List ℕ) (t : FileTree) → part_of b x ss ts ≡ Some t
    → ChangesNamesIn w (part_of true x ss ts) × ChangesNamesIn w (part_of false x ss ts) → ChangesNamesIn w (Some t)
changes_of w ss ts true x t e h = subst (ChangesNamesIn w) e h.0
changes_of w ss ts false x t e h = subst (ChangesNamesIn w) e h.1

in_all : (P : UnitTree → Type 0) (us : List UnitTree) (u : UnitTree) → All P us → Contains us u → P u
in_all P us u all c = subst P c.2 (all c.0 u c.1)

pub changes_at : (w : Spellings) (fs : FileSet) (project : List UnitTree) (h : IsProject fs) (r : Reads fs project)
    → All (λ u. ChangesNamesIn w u.body × ChangesNamesIn w u.face) project → (k : ℕ) → k < length fs.entries
    → ChangesNamesIn w (Some (tree_at r.trees k))
changes_at w fs project h r changes k lt =
    let s = source_at fs.entries k in
    let m = made_of fs r.trees project h (order_of_units fs r.trees h r.taken) r.linked in
    let u = unit_from fs.entries r.trees (unit_of s.name) in
    changes_of w fs.entries r.trees (is_body_name s.name) (unit_of s.name) (tree_at r.trees k)
    (own_part 0 fs.entries r.trees k r.read (none_doubled (files.units_of fs.entries) (no_double fs h)) lt)
    (in_all (λ v. ChangesNamesIn w v.body × ChangesNamesIn w v.face) project u changes (unit_is_there fs r.trees project k m lt))

-- ---- the lexemes

pub lexemes_kept : (w : Spelling) (n : ℕ) (old new : SourceFile) (t : FileTree) (xs : List Lexeme) → ReadsAs n old t → IsRespelled w old new
    → ChangesNames w (sites t) → Lexed old.bytes xs → Lexed new.bytes (respelled_lexemes xs (new_words w 1 xs))
lexemes_kept w n old new t xs r i changes cut =
    let reads = ap (lexeme_toks 1) (one_lexed cut r.plain.cut) ∙ r.parsed.reads in
    let written : respelled old.bytes xs (new_words w 1 xs) ≡ new.bytes =
    ap (λ zs. respelled old.bytes zs (new_words w 1 zs)) (one_lexed cut i.cut) ∙ sym i.bytes
    in
    subst (λ bytes. Lexed bytes (respelled_lexemes xs (new_words w 1 xs))) written
    (respelled_names_are_read w t old.bytes xs r.parsed.wf cut reads changes).0

all_lexemes_kept : (w : Spellings) (n : ℕ) (olds news : List SourceFile) (ts : List FileTree) (lists : List (List Lexeme))
    → ReadAll n olds ts → AreRespelled w n olds news → ((k : ℕ) → k < length olds → ChangesNamesIn w (Some (tree_at ts k)))
    → AreCut olds lists → AreCut news (respelled_lists w n lists)
all_lexemes_kept w n [] [] ts [] h a changes cut = tt
all_lexemes_kept w n [] [] ts (xs ∷ lists) h a changes cut = absurd cut
all_lexemes_kept w n [] (new ∷ news) ts lists h a changes cut = absurd a
all_lexemes_kept w n (old ∷ olds) [] ts lists h a changes cut = absurd a
all_lexemes_kept w n (old ∷ olds) (new ∷ news) [] lists h a changes cut = absurd h
all_lexemes_kept w n (old ∷ olds) (new ∷ news) (t ∷ ts) [] h a changes cut = absurd cut
all_lexemes_kept w n (old ∷ olds) (new ∷ news) (t ∷ ts) (xs ∷ lists) h a changes cut =
    let change = changes_by (kind_of_source old.name) n w t h.0.parsed.of_file (changes 0 (omega arith)) in (
      lexemes_kept (w n) n old new t xs h.0 a.0 change cut.0,
      all_lexemes_kept w (suc n) olds news ts lists h.1 a.1 (λ j lt. changes (suc j) (omega (arith, lt))) cut.1,
    )

pub respelling_keeps_the_lexemes : RespellingKeepsTheLexemes
respelling_keeps_the_lexemes w old new project lists h r changes a cut =
    all_lexemes_kept w 0 old.entries new.entries r.trees lists r.read a (changes_at w old project h r changes) cut
