-- The place of a binder is the place of a token of a source, and the source's name gives its file.
use Rattle.std.proofs.Common.{◌≡◌, ◌⊎◌, inl, inr, ℕ, zero, suc, ◌+◌, ◌<◌, ◌≤◌, List, [], ◌∷◌, ◌++◌, Bool, true, false, cond, length, get_or}
use Rattle.std.proofs.Common.{Option, Some, None, option_map, Contains, refl, ap, sym, subst, ◌∙◌, slice_get, bytes_eq, arith}
use Rattle.std.specs.List.{list_all}
use Rattle.std.specs.Cmp.Lexicographic.{slice_cmp}
use Rattle.std.specs.List.Sorted.{IsStrictlySortedBy}
use Rattle.std.specs.Ordering.{nat_cmp}
use Rattle.std.proofs.lemmas.Bool.{and_parts}
use Rattle.std.proofs.lemmas.Slice.Eq.{bytes_eq-Decides}
use Rattle.rotor_base.specs.declared.place.Place.{Place}
use Rattle.rotor_base.specs.declared.source.SourceFile.{SourceFile}
use Rattle.rotor_base.specs.declared.token.Class.{Class}
use Rattle.rotor_base.specs.declared.token.Class.TheVariants as class
use Rattle.rotor_base.specs.Files.{names_of}
use Rattle.rotor_base.proofs.Rising.{some_is, not_named}
use Rattle.ml_lexer.specs.Lexed.{Lexeme}
use Rattle.value_sites.specs.Places.{Site, sites}
use Rattle.ml_syntax.specs.RespelledFile.{lexeme_toks}
use Rattle.ml_trees.specs.Tok.{Name, Tok, word, fixed_of, tok}
use Rattle.ml_trees.specs.Tree.{FileTree, Body, Face, UnitTree}
use Rattle.value_sites.specs.Each.{Each}
use Rattle.binding_model.specs.Renaming.{placed_sites, file_places, places}
use Rattle.binding_model.specs.Scopes.{here}
use Rattle.binding_model.proofs.Sounds.{each_joined}
use Rattle.value_places.specs.Placed as table
use Rattle.renamed_sources.proofs.ValueNames.{no_keyword, no_mark, same_word}
use Rattle.ml_trees.specs.Words.{words}
use Rattle.value_sites.specs.Sound.{AreNumbered, IsSoundUnit, IsBodyPart, IsFacePart}
use Rattle.ml_syntax.proofs.RespelledNames.{lexemes_are_numbered}
use Rattle.ml_syntax.proofs.SiteWords.{sites_are_words}
use Rattle.binding_model.specs.Renaming.{at_place}
use Rattle.binding_model.proofs.Leasts.{place_in}
use Rattle.parse_module.specs.declared.files.FileKind.{FileKind}
use Rattle.parse_module.specs.declared.files.FileKind.TheVariants as kind
use Rattle.parse_module.specs.Whole.{IsOfFile}
use Rattle.rotor_base.specs.Files.{FileSet, IsProject}
use Rattle.rotor_base.specs.Stem.{is_source_name}
use Rattle.project_reading.specs.Reads.{Reads}
use Rattle.project_reading.proofs.Soundness.{read_is_sound}
use Rattle.project_reading.proofs.Twins.{parts_are_trees}
use Rattle.rename_model.specs.Target.{first_at, number_of}

-- ---- the number of a source by its name

pub number_at : (fs : List SourceFile) → IsStrictlySortedBy (slice_cmp nat_cmp) (names_of fs) → (k : ℕ) (s : SourceFile) → slice_get fs k ≡ Some s
    → number_of fs s.name ≡ Some k
unfolding IsStrictlySortedBy
number_at [] h k s e = cc
number_at (x ∷ fs) h zero s e = ap (λ b. cond b (Some 0) (option_map suc (number_of fs s.name)))
    ((bytes_eq-Decides x.name s.name).1 (ap (λ (y : SourceFile). y.name) (some_is x s e)))
number_at (x ∷ fs) h (suc k) s e = by (bytes_eq x.name s.name) refl (number_at fs h.1 k s e) where
  by : (b : Bool) → bytes_eq x.name s.name ≡ b → number_of fs s.name ≡ Some k → cond b (Some 0) (option_map suc (number_of fs s.name)) ≡ Some (suc k)
  by true t r = absurd (not_named x.name fs k s h.0 e ((bytes_eq-Decides x.name s.name).0 t))
  by false t r = ap (option_map suc) r

-- ---- the number of a token

lower_at : (c : Class) (at : ℕ) (text : List ℕ) (y : Name) → tok c at text ≡ word class.Lower y → at ≡ y.at
lower_at class.Keyword at text y e = absurd (no_keyword (fixed_of text) at (record { at = at; text = text }) y e)
lower_at class.Mark at text y e = absurd (no_mark (fixed_of text) at (record { at = at; text = text }) y e)
lower_at c at text y e = let x : Name = record { at = at; text = text } in ap (λ (z : Name). z.at) (same_word c class.Lower x y e)

pub token_at : (at : ℕ) (xs : List Lexeme) (y : Name) (k : ℕ) → k < length (lexeme_toks at xs)
    → get_or (lexeme_toks at xs) k (word class.Lower y) ≡ word class.Lower y → y.at ≡ at + k
token_at at [] y k lt e = absurd (omega (arith, lt))
token_at at (x ∷ xs) y zero lt e = let z : at ≡ y.at = lower_at x.class at x.bytes y e in omega (arith, z)
token_at at (x ∷ xs) y (suc k) lt e = let z : y.at ≡ suc at + k = token_at (suc at) xs y k (omega (arith, lt)) e in omega (arith, z)

-- ---- the tree of a place, with its number

module _ (us : List UnitTree) where
  abbrev pub IsTreeIn : FileTree → Type 0
  IsTreeIn t = (u : UnitTree) × Contains us u × ((u.body ≡ Some t) ⊎ (u.face ≡ Some t))

  abbrev pub IsFrom : Place × Site → Type 0
  IsFrom e = (t : FileTree) × IsTreeIn t × Contains (sites t) e.1 × (e.0 ≡ here (table.number_of t) e.1.at)

  of_tree : (t : FileTree) → IsTreeIn t → (f : ℕ) (xs : List Site) → table.number_of t ≡ f → ((x : Site) → Contains xs x → Contains (sites t) x)
      → Each IsFrom (placed_sites f xs)
  of_tree t is f [] e inc = tt
  of_tree t is f (x ∷ xs) e inc =
      ((t, is, inc x (0, omega arith, refl), ap (λ n. here n x.at) (sym e)), of_tree t is f xs e (λ y c. inc y (suc c.0, omega (arith, c.1), c.2)))

  of_part : (o : Option FileTree) → ((t : FileTree) → o ≡ Some t → IsTreeIn t) → Each IsFrom (file_places o)
  of_part None h = tt
  of_part (Some (Body f js)) h = of_tree (Body f js) (h (Body f js) refl) f (sites (Body f js)) refl (λ x c. c)
  of_part (Some (Face f js)) h = of_tree (Face f js) (h (Face f js) refl) f (sites (Face f js)) refl (λ x c. c)

  pub of_units : (vs : List UnitTree) → ((v : UnitTree) → Contains vs v → Contains us v) → Each IsFrom (places vs)
  of_units [] inc = tt
  of_units (v ∷ vs) inc =
      let own = inc v (0, omega arith, refl) in
      each_joined IsFrom (file_places v.body) (file_places v.face ++ places vs) (of_part v.body (λ t e. (v, own, inl e)))
      (each_joined IsFrom (file_places v.face) (places vs) (of_part v.face (λ t e. (v, own, inr e)))
      (of_units vs (λ u c. inc u (suc c.0, omega (arith, c.1), c.2))))

-- ---- the source of a place

name_at : (fs : List SourceFile) (k : ℕ) (s : SourceFile) → slice_get fs k ≡ Some s → slice_get (names_of fs) k ≡ Some s.name
name_at [] k s e = cc
name_at (x ∷ fs) zero s e = ap (λ (y : SourceFile). Some y.name) (some_is x s e)
name_at (x ∷ fs) (suc k) s e = name_at fs k s e

all_at : (test : List ℕ → Bool) (ns : List (List ℕ)) (k : ℕ) (n : List ℕ) → list_all test ns ≡ true → slice_get ns k ≡ Some n → test n ≡ true
all_at test [] k n h e = cc
all_at test (x ∷ ns) zero n h e = ap test (sym (some_is x n e)) ∙ (and_parts (test x) (list_all test ns) h).0
all_at test (x ∷ ns) (suc k) n h e = all_at test ns k n (and_parts (test x) (list_all test ns) h).1 e

by_names : (fs : List SourceFile) (n : List ℕ) → number_of fs n ≡ first_at (λ m. bytes_eq m n) (names_of fs)
by_names [] n = refl
by_names (x ∷ fs) n = ap (λ o. cond (bytes_eq x.name n) (Some 0) (option_map suc o)) (by_names fs n)

pub same_number : (fs gs : List SourceFile) (n : List ℕ) → names_of gs ≡ names_of fs → number_of gs n ≡ number_of fs n
same_number fs gs n e = by_names gs n ∙ (ap (first_at (λ m. bytes_eq m n)) e ∙ sym (by_names fs n))

file_is : (k : FileKind) (n : ℕ) (t : FileTree) → IsOfFile k n t → table.number_of t ≡ n
file_is kind.Body n (Body a is) h = h
file_is kind.Body n (Face a is) h = absurd h
file_is kind.Face n (Face a is) h = h
file_is kind.Face n (Body a is) h = absurd h

body_length : (t : FileTree) → IsBodyPart (Some t) → length (words t) ≤ 1048576
body_length (Body f is) h = h.2
body_length (Face f is) h = absurd h

face_length : (t : FileTree) → IsFacePart (Some t) → length (words t) ≤ 1048576
face_length (Face f is) h = h.2
face_length (Body f is) h = absurd h

-- the source of a place, and the number of its token
pub record IsPlaced (files : FileSet) (d : Place) : Type 0 where
  pub source : SourceFile
  pub here_it_is : slice_get files.entries d.file ≡ Some source
  pub named : slice_get (names_of files.entries) d.file ≡ Some source.name
  pub is_source : is_source_name source.name ≡ true
  pub number : number_of files.entries source.name ≡ Some d.file
  pub above : 0 < d.token
  pub below : d.token ≤ 1048576

pub placed : (files : FileSet) (us : List UnitTree) (d : Place) (x : Site) → IsProject files → Reads files us → at_place (places us) d ≡ Some x
    → x.operator ≡ false → x.pun ≡ false → IsPlaced files d
placed files us d x project reads at operator pun =
    let has = place_in (IsFrom us) (places us) d x (of_units us us (λ v c. c)) at in
    let t = has.0 in
    let u = has.1.0 in
    let from = parts_are_trees files us project reads u t has.1.1 has.1.2 in
    let r = from.3 in
    let file : d.file ≡ from.0 = ap (λ (q : Place). q.file) has.3 ∙ file_is _ from.0 t r.parsed.of_file in
    let token : d.token ≡ x.at = ap (λ (q : Place). q.token) has.3 in
    let there : slice_get files.entries d.file ≡ Some from.1 = ap (slice_get files.entries) file ∙ from.2 in
    let same : lexeme_toks 1 r.lexemes ≡ words t = r.parsed.reads in
    let numbered = subst (AreNumbered 1) same (lexemes_are_numbered from.1.bytes r.lexemes r.plain.cut) in
    let own = sites_are_words t r.parsed.wf numbered x has.2 pun operator in
    let y : Name = record { at = x.at; text = x.name } in
    let c = subst (λ (ts : List Tok). Contains ts (word class.Lower y)) (sym same) own in
    let at_is : x.at ≡ 1 + c.0 = token_at 1 r.lexemes y c.0 c.1 c.2 in
    let unit : IsSoundUnit u = subst IsSoundUnit has.1.1.2 ((read_is_sound files us project reads).0 has.1.1.0 u has.1.1.1) in
    let few : length (words t) ≤ 1048576 =
    elim has.1.2 [ inl e ↦ body_length t (subst IsBodyPart e unit.0) | inr e ↦ face_length t (subst IsFacePart e unit.1) ] in
    let less : c.0 < length (words t) = subst (λ (ts : List Tok). c.0 < length ts) same c.1 in
    record {
      source = from.1;
      here_it_is = there;
      named = name_at files.entries d.file from.1 there;
      is_source = all_at is_source_name (names_of files.entries) d.file from.1.name project.sources.named (name_at files.entries d.file from.1 there);
      number = number_at files.entries project.sources.ordered d.file from.1 there;
      above = omega (arith, token, at_is);
      below = omega (arith, token, at_is, less, few);
    }
