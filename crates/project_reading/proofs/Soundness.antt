-- What the files of a project are read as is sound.
use Rattle.std.proofs.Common.{◌≡◌, ◌≢◌, ℕ, suc, ◌+◌, ◌<◌, ◌≤◌, List, [], ◌∷◌, ◌++◌, All, Bool, true, false, ◌&&◌, ◌||◌, cond, Option, Some, None, map}
use Rattle.std.proofs.Common.{length, get_or, refl, ap, sym, subst, ◌∙◌, arith}
use Rattle.std.specs.Bool.{beq}
use Rattle.std.specs.Str.{bytes_eq}
use Rattle.std.proofs.lemmas.Bool.{or_right}
use Rattle.std.proofs.lemmas.Slice.Eq.{bytes_eq-Decides}
use Rattle.std.proofs.lemmas.List.Elements.{All-nil, All-cons, All-append, All-head, All-tail, All-map, All-weaker}
use Rattle.rotor_base.proofs.Kept.{small_files}
use Rattle.rotor_base.specs.Files.{FileSet, IsProject}
use Rattle.rotor_base.specs.Stem.{is_body_name}
use Rattle.rotor_base.specs.Unit.{unit_of}
use Rattle.rotor_base.specs.declared.source.SourceFile.{SourceFile}
use Rattle.ml_syntax.proofs.SoundFiles.{read_files_are_sound}
use Rattle.value_sites.specs.Sound.{AreDistinct, IsSound, IsSoundFile, IsSoundUnit, IsBodyPart, IsFacePart, HasPart, part_files, unit_files}
use Rattle.ml_trees.specs.Tree.{FileTree, Body, Face, UnitTree}
use Rattle.parse_module.specs.declared.files.FileKind.{FileKind}
use Rattle.parse_module.specs.declared.files.FileKind.TheVariants as kind
use Rattle.parse_module.specs.Whole.{IsOfFile}
use Rattle.unit_heads.specs.Heads.{is_among}
use Rattle.unit_order.specs.Order.{order_of}
use Rattle.project_reading.specs.Laws.{ReadIsSound}
use Rattle.project_reading.specs.Source.{kind_of_source, ReadsAs}
use Rattle.project_reading.specs.Sources.{ReadAll}
use Rattle.project_reading.specs.Units.{unit_names, is_part, part_of, unit_from, units_of, unit_named, in_order}
use Rattle.project_reading.proofs.Names.{among_insert}
use Rattle.project_reading.proofs.Ordered.{IsOrder}
use Rattle.project_reading.proofs.Linked.{names_are, order_of_units}
use Rattle.project_reading.proofs.Parts.{itself}

-- ---- the source of a part

abbrev pub no_source : SourceFile
no_source = record { name = []; bytes = [] }

abbrev pub source_at : List SourceFile → ℕ → SourceFile
source_at ss k = get_or ss k no_source

-- this tree is the body, or the interface, of a unit: a source of this unit is read as it
pub record IsPart (body : Bool) (name : List ℕ) (number : ℕ) (ss : List SourceFile) (tree : FileTree) : Type 0 where
  pub at : ℕ
  pub inside : at < length ss
  pub kind : is_body_name (source_at ss at).name ≡ body
  pub unit : unit_of (source_at ss at).name ≡ name
  pub read : ReadsAs (number + at) (source_at ss at) tree

both_same : (a b e : Bool) → (beq a b && e) ≡ true → (a ≡ b) × (e ≡ true)
both_same true true e h = (refl, h)
both_same true false e h = cc
both_same false true e h = cc
both_same false false e h = (refl, h)

pub part_is : (body : Bool) (name : List ℕ) (number : ℕ) (ss : List SourceFile) (ts : List FileTree) (tree : FileTree) → ReadAll number ss ts
    → part_of body name ss ts ≡ Some tree → IsPart body name number ss tree
part_is body name number [] ts tree h e = cc
part_is body name number (s ∷ ss) [] tree h e = absurd h
part_is body name number (s ∷ ss) (t ∷ ts) tree h e = by (is_part body name s) refl e (part_is body name (suc number) ss ts tree h.1)
  where
    shifted : (number k : ℕ) → suc number + k ≡ number + suc k
    shifted number k = omega arith

    alone : (number : ℕ) → number ≡ number + 0
    alone number = omega arith

    by : (b : Bool) → is_part body name s ≡ b → cond b (Some t) (part_of body name ss ts) ≡ Some tree
        → (part_of body name ss ts ≡ Some tree → IsPart body name (suc number) ss tree) → IsPart body name number (s ∷ ss) tree
    by true p q rest =
        let same : t ≡ tree = cc in
        let is = both_same (is_body_name s.name) body (bytes_eq (unit_of s.name) name) p in
        record {
          at = 0;
          inside = omega arith;
          kind = is.0;
          unit = (bytes_eq-Decides (unit_of s.name) name).0 is.1;
          read = subst
              (λ n. ReadsAs n s tree) (alone number) (subst (ReadsAs number s) same h.0);
        }
    by false p q rest =
        let r = rest q in
        record {
          at = suc r.at;
          inside = omega (arith, r.inside);
          kind = r.kind;
          unit = r.unit;
          read = subst
              (λ n. ReadsAs n (source_at ss r.at) tree) (shifted number r.at) r.read;
        }

-- ---- the trees

is_sound_file : (number : ℕ) (s : SourceFile) (t : FileTree) → length s.bytes ≤ 1048576 → ReadsAs number s t → IsSoundFile t
is_sound_file number s t short r = read_files_are_sound t s.bytes r.lexemes short r.parsed.wf r.plain.cut r.parsed.reads

body_part : (number : ℕ) (t : FileTree) → IsOfFile kind.Body number t → IsSoundFile t → IsBodyPart (Some t)
body_part number (Body file is) h sound = sound
body_part number (Face file is) h sound = absurd h

face_part : (number : ℕ) (t : FileTree) → IsOfFile kind.Face number t → IsSoundFile t → IsFacePart (Some t)
face_part number (Body file is) h sound = absurd h
face_part number (Face file is) h sound = sound

file_of : (k : FileKind) (number : ℕ) (t : FileTree) → IsOfFile k number t → part_files (Some t) ≡ number ∷ []
file_of kind.Body number (Body file is) h = ap (λ n. n ∷ []) h
file_of kind.Face number (Face file is) h = ap (λ n. n ∷ []) h
file_of kind.Body number (Face file is) h = absurd h
file_of kind.Face number (Body file is) h = absurd h

kind_is : (body : Bool) (name : List ℕ) → is_body_name name ≡ body → kind_of_source name ≡ cond body kind.Body kind.Face
kind_is body name e = ap (λ b. cond b kind.Body kind.Face) e

from_zero : (k : ℕ) → 0 + k ≡ k
from_zero k = omega arith

-- ---- a unit

module _ (ss : List SourceFile) (ts : List FileTree) (small : All (λ s. length s.bytes ≤ 1048576) ss) (read : ReadAll 0 ss ts) where
  short_at : (k : ℕ) → k < length ss → length (source_at ss k).bytes ≤ 1048576
  short_at k lt = small k no_source lt

  sound_body : (name : List ℕ) (o : Option FileTree) → part_of true name ss ts ≡ o → IsBodyPart o
  sound_body name None e = tt
  sound_body name (Some t) e =
      let p = part_is true name 0 ss ts t read e in
      body_part (0 + p.at) t (subst (λ k. IsOfFile k (0 + p.at) t) (kind_is true (source_at ss p.at).name p.kind) p.read.parsed.of_file)
      (is_sound_file (0 + p.at) (source_at ss p.at) t (short_at p.at p.inside) p.read)

  sound_face : (name : List ℕ) (o : Option FileTree) → part_of false name ss ts ≡ o → IsFacePart o
  sound_face name None e = tt
  sound_face name (Some t) e =
      let p = part_is false name 0 ss ts t read e in
      face_part (0 + p.at) t (subst (λ k. IsOfFile k (0 + p.at) t) (kind_is false (source_at ss p.at).name p.kind) p.read.parsed.of_file)
      (is_sound_file (0 + p.at) (source_at ss p.at) t (short_at p.at p.inside) p.read)

  -- the source with this number is of this kind and of this unit
  abbrev Owns : Bool → List ℕ → ℕ → Type 0
  Owns body name n = (is_body_name (source_at ss n).name ≡ body) × (unit_of (source_at ss n).name ≡ name)

  owned : (body : Bool) (name : List ℕ) (o : Option FileTree) → part_of body name ss ts ≡ o → All (Owns body name) (part_files o)
  owned body name None e = All-nil (Owns body name)
  owned body name (Some t) e =
      let p = part_is body name 0 ss ts t read e in
      let number : part_files (Some t) ≡ p.at ∷ [] = file_of (kind_of_source (source_at ss p.at).name) (0 + p.at) t p.read.parsed.of_file
      ∙ ap (λ n. n ∷ []) (from_zero p.at) in
      subst (All (Owns body name)) (sym number) (All-cons (Owns body name) p.at [] (p.kind, p.unit) (All-nil (Owns body name)))

  few_files : (body : Bool) (name : List ℕ) (o : Option FileTree) → part_of body name ss ts ≡ o → AreDistinct (part_files o)
  few_files body name None e = tt
  few_files body name (Some t) e =
      let p = part_is body name 0 ss ts t read e in
      subst AreDistinct (sym (file_of (kind_of_source (source_at ss p.at).name) (0 + p.at) t p.read.parsed.of_file)) (All-nil (λ y. 0 + p.at ≢ y), tt)

  -- no file of these units is a file of the unit of another name
  others : (name : List ℕ) (ns : List (List ℕ)) → All (λ y. name ≢ y) ns
      → All (λ n. name ≢ unit_of (source_at ss n).name) (unit_files (map (unit_from ss ts) ns))
  others name [] h = All-nil (λ n. name ≢ unit_of (source_at ss n).name)
  others name (x ∷ ns) h =
      let other : name ≢ x = All-head (λ y. name ≢ y) x ns h in
      let part = λ (body : Bool). All-weaker (Owns body x) (λ n. name ≢ unit_of (source_at ss n).name) (λ n o e. other (e ∙ o.1))
      (part_files (part_of body x ss ts)) (owned body x (part_of body x ss ts) refl) in
      All-append (λ n. name ≢ unit_of (source_at ss n).name) (part_files (part_of true x ss ts))
      (part_files (part_of false x ss ts) ++ unit_files (map (unit_from ss ts) ns)) (part true)
      (All-append (λ n. name ≢ unit_of (source_at ss n).name) (part_files (part_of false x ss ts)) (unit_files (map (unit_from ss ts) ns))
      (part false) (others name ns (All-tail (λ y. name ≢ y) x ns h)))

  -- lists that differ in a fact of all their numbers have no number in common
  apart : (Q : ℕ → Type 0) (xs ys : List ℕ) → AreDistinct xs → AreDistinct ys → All Q xs → All (λ n. Q n → ⊥) ys → AreDistinct (xs ++ ys)
  apart Q [] ys h k q r = k
  apart Q (x ∷ xs) ys h k q r = (
    All-append (λ y. x ≢ y) xs ys h.0 (All-weaker (λ n. Q n → ⊥) (λ y. x ≢ y) (λ n none e. none (subst Q e (All-head Q x xs q))) ys r),
    apart Q xs ys h.1 k (All-tail Q x xs q) r,
  )

  true_or_false : (b : Bool) → b ≡ true → b ≡ false → ⊥
  true_or_false b p q = let bad : true ≡ false = sym p ∙ q in cc

  distinct_files : (ns : List (List ℕ)) → AreDistinct ns → AreDistinct (unit_files (map (unit_from ss ts) ns))
  distinct_files [] h = tt
  distinct_files (x ∷ ns) h =
      let rest = unit_files (map (unit_from ss ts) ns) in
      let faces = part_files (part_of false x ss ts) in
      let behind : AreDistinct (faces ++ rest) =
      apart (Owns false x) faces rest (few_files false x (part_of false x ss ts) refl) (distinct_files ns h.1)
      (owned false x (part_of false x ss ts) refl)
      (All-weaker (λ n. x ≢ unit_of (source_at ss n).name) (λ n. Owns false x n → ⊥) (λ n other o. other (sym o.1)) rest (others x ns h.0))
      in
      apart (Owns true x) (part_files (part_of true x ss ts)) (faces ++ rest) (few_files true x (part_of true x ss ts) refl) behind
      (owned true x (part_of true x ss ts) refl)
      (All-append (λ n. Owns true x n → ⊥) faces rest
      (All-weaker (Owns false x) (λ n. Owns true x n → ⊥) (λ n o p. true_or_false (is_body_name (source_at ss n).name) p.0 o.0) faces
      (owned false x (part_of false x ss ts) refl))
      (All-weaker (λ n. x ≢ unit_of (source_at ss n).name) (λ n. Owns true x n → ⊥) (λ n other o. other (sym o.1)) rest (others x ns h.0)))

-- ---- a unit that a source gives has a tree

some_body : (t : FileTree) (o : Option FileTree) → HasPart (Some t) o
some_body t None = tt
some_body t (Some u) = tt

some_face : (t : FileTree) (o : Option FileTree) → HasPart o (Some t)
some_face t None = tt
some_face t (Some u) = tt

pub has_part : (number : ℕ) (ss : List SourceFile) (ts : List FileTree) (x : List ℕ) → ReadAll number ss ts → is_among (unit_names ss) x ≡ true
    → HasPart (part_of true x ss ts) (part_of false x ss ts)
has_part number [] ts x h among = cc
has_part number (s ∷ ss) [] x h among = absurd h
has_part number (s ∷ ss) (t ∷ ts) x h among =
    by (is_body_name s.name) (bytes_eq (unit_of s.name) x) (sym (among_insert (unit_names ss) (unit_of s.name) x) ∙ among)
    (has_part (suc number) ss ts x h.1)
  where
    by : (b e : Bool) → (e || is_among (unit_names ss) x) ≡ true
        → (is_among (unit_names ss) x ≡ true → HasPart (part_of true x ss ts) (part_of false x ss ts))
        → HasPart (cond (beq b true && e) (Some t) (part_of true x ss ts)) (cond (beq b false && e) (Some t) (part_of false x ss ts))
    by true true p rest = some_body t (part_of false x ss ts)
    by false true p rest = some_face t (part_of true x ss ts)
    by true false p rest = rest p
    by false false p rest = rest p

sound_unit : (ss : List SourceFile) (ts : List FileTree) → All (λ s. length s.bytes ≤ 1048576) ss → ReadAll 0 ss ts → (x : List ℕ)
    → is_among (unit_names ss) x ≡ true → IsSoundUnit (unit_from ss ts x)
sound_unit ss ts small read x among = (
  sound_body ss ts small read x (part_of true x ss ts) refl,
  sound_face ss ts small read x
      (part_of false x ss ts) refl,
  has_part 0 ss ts x read among,
)

-- ---- the project

-- each of the names is among these
pub all_among : (ns order : List (List ℕ)) → ((x : List ℕ) → is_among order x ≡ true → is_among ns x ≡ true) → All (λ x. is_among ns x ≡ true) order
all_among ns [] h = All-nil (λ x. is_among ns x ≡ true)
all_among ns (y ∷ order) h =
    All-cons (λ x. is_among ns x ≡ true) y order (h y (ap (λ b. b || is_among order y) (itself y)))
    (all_among ns order (λ x e. h x (or_right (bytes_eq y x) (is_among order x) e)))

named_from : (ss : List SourceFile) (ts : List FileTree) (ns : List (List ℕ)) (x : List ℕ) → is_among ns x ≡ true
    → unit_named (map (unit_from ss ts) ns) x ≡ unit_from ss ts x
named_from ss ts [] x h = cc
named_from ss ts (n ∷ ns) x h = by (bytes_eq n x) refl h (named_from ss ts ns x)
  where
    by : (b : Bool) → bytes_eq n x ≡ b → (b || is_among ns x) ≡ true
        → (is_among ns x ≡ true → unit_named (map (unit_from ss ts) ns) x ≡ unit_from ss ts x)
        → cond b (unit_from ss ts n) (unit_named (map (unit_from ss ts) ns) x) ≡ unit_from ss ts x
    by true p q rest = ap (unit_from ss ts) ((bytes_eq-Decides n x).0 p)
    by false p q rest = rest q

in_order_from : (ss : List SourceFile) (ts : List FileTree) (order : List (List ℕ)) → All (λ x. is_among (unit_names ss) x ≡ true) order
    → in_order (units_of ss ts) order ≡ map (unit_from ss ts) order
in_order_from ss ts [] h = refl
in_order_from ss ts (x ∷ order) h =
    ap (λ u. u ∷ in_order (units_of ss ts) order) (named_from ss ts (unit_names ss) x (All-head (λ y. is_among (unit_names ss) y ≡ true) x order h))
    ∙ ap (λ us. unit_from ss ts x ∷ us) (in_order_from ss ts order (All-tail (λ y. is_among (unit_names ss) y ≡ true) x order h))

-- the project is the units of these names, each once: those of the units of the sources
pub record IsMadeOf (fs : FileSet) (ts : List FileTree) (project : List UnitTree) : Type 0 where
  pub order : List (List ℕ)
  pub made : project ≡ map (unit_from fs.entries ts) order
  pub is_order : IsOrder (units_of fs.entries ts) order

units_among : (fs : FileSet) (ts : List FileTree) (order : List (List ℕ)) → IsOrder (units_of fs.entries ts) order
    → All (λ x. is_among (unit_names fs.entries) x ≡ true) order
units_among fs ts order h = all_among (unit_names fs.entries) order
    (λ x e. ap (λ ns. is_among ns x) (sym (names_are fs.entries ts)) ∙ sym (h.same x) ∙ e)

pub made_of : (fs : FileSet) (ts : List FileTree) (project : List UnitTree) → IsProject fs
    → IsOrder (units_of fs.entries ts) (order_of (units_of fs.entries ts) fs.manifest)
    → project ≡ in_order (units_of fs.entries ts) (order_of (units_of fs.entries ts) fs.manifest) → IsMadeOf fs ts project
made_of fs ts project h is linked = record {
  order = order_of (units_of fs.entries ts) fs.manifest;
  made = linked ∙ in_order_from fs.entries ts (order_of (units_of fs.entries ts) fs.manifest)
      (units_among fs ts (order_of (units_of fs.entries ts) fs.manifest) is);
  is_order = is;
}

names_made : (ss : List SourceFile) (ts : List FileTree) (order : List (List ℕ)) → map (λ u. u.name) (map (unit_from ss ts) order) ≡ order
names_made ss ts [] = refl
names_made ss ts (x ∷ order) = ap (λ xs. x ∷ xs) (names_made ss ts order)

pub made_is_sound : (fs : FileSet) (ts : List FileTree) (project : List UnitTree) → IsProject fs → ReadAll 0 fs.entries ts → IsMadeOf fs ts project
    → IsSound project
made_is_sound fs ts project h read m =
    let small = small_files fs h in
    subst IsSound (sym m.made) (
      All-map IsSoundUnit (unit_from fs.entries ts) m.order
          (All-weaker (λ x. is_among (unit_names fs.entries) x ≡ true) (λ x. IsSoundUnit (unit_from fs.entries ts x))
          (sound_unit fs.entries ts small read) m.order (units_among fs ts m.order m.is_order)),
      distinct_files fs.entries ts small read m.order m.is_order.once,
      subst AreDistinct (sym (names_made fs.entries ts m.order)) m.is_order.once,
    )

pub read_is_sound : ReadIsSound
read_is_sound fs project h r = made_is_sound fs r.trees project h r.read (made_of fs r.trees project h (order_of_units fs r.trees h r.taken) r.linked)
