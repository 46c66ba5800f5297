-- Respelled bytes are those of renamed sources.
use Rattle.std.proofs.Common.{◌≡◌, ◌||◌, ℕ, suc, ◌+◌, ◌<◌, inl, inr, List, [], ◌∷◌, ◌++◌, Some, map, length, ap, sym, subst, ◌∙◌, arith}
use Rattle.std.specs.Prelude.{Contains, IsTrue}
use Rattle.std.proofs.lemmas.Option.{slice_get-get_or}
use Rattle.rotor_base.specs.Files.{FileSet, IsProject, names_of}
use Rattle.rotor_base.specs.declared.place.Place.{Place}
use Rattle.rotor_base.specs.declared.source.SourceFile.{SourceFile}
use Rattle.ml_lexer.specs.Respelled.{respelled}
use Rattle.ml_lexer.proofs.OneCutting.{one_lexed}
use Rattle.value_sites.specs.Each.{Each}
use Rattle.value_sites.specs.Places.{Site, sites}
use Rattle.ml_syntax.specs.RespelledFile.{lexeme_toks, ChangesNames}
use Rattle.ml_syntax.specs.RespelledSource.{IsRespelled, AreRespelled}
use Rattle.ml_trees.specs.Tree.{FileTree, Body, Face, UnitTree}
use Rattle.ml_trees.specs.Words.{words}
use Rattle.parse_module.specs.declared.files.FileKind.{FileKind}
use Rattle.parse_module.specs.declared.files.FileKind.TheVariants as kind
use Rattle.parse_module.specs.Whole.{IsOfFile}
use Rattle.shape_core.specs.Respell.{Words}
use Rattle.binding_model.specs.Laws.{KeepsFixed}
use Rattle.binding_model.specs.Renaming.{places, placed_sites, file_places, in_file}
use Rattle.project_reading.specs.Reads.{Reads}
use Rattle.project_reading.specs.Source.{kind_of_source, ReadsAs}
use Rattle.project_reading.specs.Sources.{ReadAll}
use Rattle.project_reading.proofs.Soundness.{source_at}
use Rattle.project_reading.proofs.Twins.{tree_at, read_at, trees_are_parts}
use Rattle.project_reading.proofs.UnitsKept.{changes_at, changes_by}
use Rattle.respelled_reading.proofs.Changed.{ChangesPlaces, changes_all}
use Rattle.rename_respell.specs.Respelled.{IsRespelledBytes, AreRespelledBytes}
use Rattle.rename_verify.proofs.Alone.{split_in}
use Rattle.rename_verify.proofs.Texts.{KeepsOwn, tree_texts}

-- ---- the places of a tree

each_parted : {A : Type 0} (P : A → Type 0) (xs ys : List A) → Each P (xs ++ ys) → Each P xs × Each P ys
each_parted P [] ys h = (tt, h)
each_parted P (x ∷ xs) ys h = let k = each_parted P xs ys h.1 in ((h.0, k.0), k.1)

module _ (w : Words) where
  abbrev Kept : Place × Site → Type 0
  Kept e = IsTrue (e.1.pun || e.1.operator) → w e.0 e.1.name ≡ e.1.name

  unit_kept : (us : List UnitTree) (u : UnitTree) → Each Kept (places us) → Contains us u → Each Kept (file_places u.body)
      × Each Kept (file_places u.face)
  unit_kept [] u h c = absurd (omega (arith, c.1))
  unit_kept (v ∷ us) u h c =
      let a = each_parted Kept (file_places v.body) (file_places v.face ++ places us) h in
      let b = each_parted Kept (file_places v.face) (places us) a.1 in
      elim (split_in v us u c) [
        | inl e ↦ subst (λ x. Each Kept (file_places x.body) × Each Kept (file_places x.face)) e (a.0, b.0)
        | inr k ↦ unit_kept us u b.1 k
      ]

  placed_kept : (f : ℕ) (xs : List Site) → Each Kept (placed_sites f xs) → Each (KeepsOwn (in_file w f)) xs
  placed_kept f [] h = tt
  placed_kept f (x ∷ xs) h = (h.0, placed_kept f xs h.1)

  tree_kept : (k : FileKind) (n : ℕ) (t : FileTree) → IsOfFile k n t → Each Kept (file_places (Some t)) → Each (KeepsOwn (in_file w n)) (sites t)
  tree_kept kind.Body n (Body f is) h e = subst (λ m. Each (KeepsOwn (in_file w m)) (sites (Body f is))) h (placed_kept f (sites (Body f is)) e)
  tree_kept kind.Face n (Face f is) h e = subst (λ m. Each (KeepsOwn (in_file w m)) (sites (Face f is))) h (placed_kept f (sites (Face f is)) e)
  tree_kept kind.Body n (Face f is) h e = absurd h
  tree_kept kind.Face n (Body f is) h e = absurd h

  -- ---- one source

  -- the conditions on a tree's places
  pub record IsApt (n : ℕ) (t : FileTree) : Type 0 where
    pub changes : ChangesNames (in_file w n) (sites t)
    pub keeps : Each (KeepsOwn (in_file w n)) (sites t)

  one_source : (n : ℕ) (old new : SourceFile) (t : FileTree) → ReadsAs n old t → IsApt n t → IsRespelledBytes w n old.bytes new.bytes
      → new.name ≡ old.name → IsRespelled (in_file w n) old new
  one_source n old new t r a i name =
      let same : lexeme_toks 1 i.lexemes ≡ words t = ap (lexeme_toks 1) (one_lexed i.cut r.plain.cut) ∙ r.parsed.reads in
      record {
        lexemes = i.lexemes;
        cut = i.cut;
        name = name;
        bytes = i.bytes ∙ ap (respelled old.bytes i.lexemes)
            (tree_texts (in_file w n) t old.bytes i.lexemes r.parsed.wf i.cut same a.changes a.keeps);
      }

  -- ---- all sources

  name_head : (a b : List ℕ) (u v : List (List ℕ)) → a ∷ u ≡ b ∷ v → a ≡ b
  name_head a b u v e = cc

  name_tail : (a b : List ℕ) (u v : List (List ℕ)) → a ∷ u ≡ b ∷ v → u ≡ v
  name_tail a b u v e = cc

  alone : (n : ℕ) → n + 0 ≡ n
  alone n = omega arith

  further : (n k : ℕ) → n + suc k ≡ suc n + k
  further n k = omega arith

  all_sources : (n : ℕ) (olds news : List SourceFile) (ts : List FileTree) → ReadAll n olds ts
      → ((k : ℕ) → k < length olds → IsApt (n + k) (tree_at ts k))
      → AreRespelledBytes w n olds (map (λ s. s.bytes) news) → names_of olds ≡ names_of news → AreRespelled (in_file w) n olds news
  all_sources n [] [] ts h a i names = tt
  all_sources n [] (x ∷ news) ts h a i names = absurd i
  all_sources n (o ∷ olds) [] ts h a i names = absurd i
  all_sources n (o ∷ olds) (x ∷ news) [] h a i names = absurd h
  all_sources n (o ∷ olds) (x ∷ news) (t ∷ ts) h a i names = (
    one_source n o x t h.0 (subst (λ m. IsApt m t) (alone n) (a 0 (omega arith))) i.0
        (sym (name_head o.name x.name (names_of olds) (names_of news) names)),
    all_sources (suc n) olds news ts h.1 (λ k less. subst (λ m. IsApt m (tree_at ts k)) (further n k) (a (suc k) (omega (arith, less)))) i.1
        (name_tail o.name x.name (names_of olds) (names_of news) names),
  )

module _ (old : FileSet) (us : List UnitTree) (p : IsProject old) (reads : Reads old us) (w : Words) (changes : ChangesPlaces us w)
    (keeps : KeepsFixed w us) where
  from_zero : (k : ℕ) → 0 + k ≡ k
  from_zero k = omega arith

  apt : (k : ℕ) → k < length old.entries → IsApt w k (tree_at reads.trees k)
  apt k less =
      let s = source_at old.entries k in
      let t = tree_at reads.trees k in
      let read : ReadsAs k s t = subst (λ n. ReadsAs n s t) (from_zero k) (read_at 0 old.entries reads.trees k reads.read less) in
      let part = trees_are_parts old us p reads k s t (slice_get-get_or old.entries k _ less) read in
      let kept = unit_kept w us part.0 keeps part.1 in
      record {
        changes = changes_by (kind_of_source s.name) k (in_file w) t read.parsed.of_file
            (changes_at (in_file w) old us p reads (changes_all old us p reads w changes) k less);
        keeps = tree_kept w (kind_of_source s.name) k t read.parsed.of_file (elim part.2 [
          | inl e ↦ subst (λ o. Each (Kept w) (file_places o)) e kept.0
          | inr e ↦ subst (λ o. Each (Kept w) (file_places o)) e kept.1
        ]);
      }

  pub sources_are_renamed : (news : List SourceFile) → AreRespelledBytes w 0 old.entries (map (λ s. s.bytes) news)
      → names_of old.entries ≡ names_of news → AreRespelled (in_file w) 0 old.entries news
  sources_are_renamed news i names =
      all_sources w 0 old.entries news reads.trees reads.read
      (λ k less. subst (λ n. IsApt w n (tree_at reads.trees k)) (sym (from_zero k)) (apt k less)) i names
