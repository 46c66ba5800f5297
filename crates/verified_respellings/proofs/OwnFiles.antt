-- Two maps of words that give the name of each place of a project the same word respell its sources alike.
use Rattle.std.proofs.Common.{◌≡◌, ◌⊎◌, inl, inr, ℕ, suc, ◌<◌, List, [], ◌∷◌, Bool, true, false, Some, Contains, length, ap, sym, subst, ◌∙◌, arith}
use Rattle.rotor_base.specs.Files.{FileSet, IsProject}
use Rattle.rotor_base.specs.Files as files
use Rattle.rotor_base.specs.Stem.{is_body_name}
use Rattle.rotor_base.specs.Unit.{unit_of}
use Rattle.rotor_base.specs.declared.place.Place.{Place}
use Rattle.rotor_base.specs.declared.source.SourceFile.{SourceFile}
use Rattle.ml_lexer.specs.Respelled.{respelled}
use Rattle.ml_lexer.proofs.OneCutting.{one_lexed}
use Rattle.value_sites.specs.Places.{Site, sites}
use Rattle.ml_syntax.specs.RespelledFile.{lexeme_toks}
use Rattle.ml_syntax.specs.RespelledSource.{IsRespelled, AreRespelled}
use Rattle.ml_trees.specs.Tree.{FileTree, UnitTree}
use Rattle.shape_core.specs.Respell.{Words}
use Rattle.shape_core.specs.Shape.{Name}
use Rattle.binding_model.specs.Renaming.{places, at_place, in_file}
use Rattle.binding_model.specs.Scopes.{here}
use Rattle.project_reading.specs.Reads.{Reads}
use Rattle.project_reading.specs.Source.{kind_of_source, ReadsAs}
use Rattle.project_reading.specs.Sources.{ReadAll}
use Rattle.project_reading.specs.Units.{part_of, unit_from}
use Rattle.project_reading.proofs.Linked.{no_double, order_of_units}
use Rattle.project_reading.proofs.Soundness.{source_at, made_of}
use Rattle.project_reading.proofs.Twins.{tree_at, none_doubled, own_part, unit_is_there}
use Rattle.respelled_reading.proofs.Changed.{IsIn, number_is, number_of, place_is_own}
use Rattle.verified_respellings.proofs.OwnWords.{AreAlike, tree_words}

-- a word becomes the same by both; or it is at a place that is no operator, and becomes the same if it is the place's name
abbrev pub AreAlikeIn : List UnitTree → Words → Words → Type 0
AreAlikeIn us v w = (q : Place) (x : Name)
    → (v q x ≡ w q x) ⊎ ((s : Site) × (at_place (places us) q ≡ Some s) × (s.operator ≡ false) × (s.name ≡ x → v q x ≡ w q x))

part_in : (us : List UnitTree) (ss : List SourceFile) (ts : List FileTree) (b : Bool) (x : List ℕ) (t : FileTree) → part_of b x ss ts ≡ Some t
    → Contains us (unit_from ss ts x) → IsIn us t
part_in us ss ts true x t e c = (unit_from ss ts x, c, inl e)
part_in us ss ts false x t e c = (unit_from ss ts x, c, inr e)

module _ (old : FileSet) (us : List UnitTree) (project : IsProject old) (reads : Reads old us) (v w : Words) (alike : AreAlikeIn us v w) where
  -- each tree is a part of a unit of the project
  pub tree_in : (k : ℕ) → k < length old.entries → IsIn us (tree_at reads.trees k)
  tree_in k lt =
      let s = source_at old.entries k in
      let m = made_of old reads.trees us project (order_of_units old reads.trees project reads.taken) reads.linked in
      part_in us old.entries reads.trees (is_body_name s.name) (unit_of s.name) (tree_at reads.trees k)
      (own_part 0 old.entries reads.trees k reads.read (none_doubled (files.units_of old.entries) (no_double old project)) lt)
      (unit_is_there old reads.trees us k m lt)

  pub alike_in : (n : ℕ) (t : FileTree) → IsIn us t → number_of t ≡ n → AreAlike (in_file v n) (in_file w n) (sites t)
  alike_in n t is_in number at text = elim (alike (here n at) text) [
    | inl e ↦ inl e
    | inr k ↦
        let there = subst (λ m. at_place (places us) (here m at) ≡ Some k.0) (sym number) k.1 in
        let own = place_is_own old us project reads t is_in at k.0 there in
        inr (k.0, own.0, own.1, k.2, k.3)
  ]

  one_source : (n : ℕ) (s new : SourceFile) (t : FileTree) → ReadsAs n s t → IsIn us t → IsRespelled (in_file v n) s new
      → IsRespelled (in_file w n) s new
  one_source n s new t r is_in i =
      let toks = ap (lexeme_toks 1) (one_lexed i.cut r.plain.cut) ∙ r.parsed.reads in
      let number = number_is (kind_of_source s.name) n t r.parsed.of_file in
      let same = tree_words (in_file v n) (in_file w n) t s.bytes i.lexemes r.parsed.wf i.cut toks (alike_in n t is_in number) in
      record { lexemes = i.lexemes; cut = i.cut; name = i.name; bytes = i.bytes ∙ ap (respelled s.bytes i.lexemes) same }

  all_sources : (n : ℕ) (olds news : List SourceFile) (ts : List FileTree) → ReadAll n olds ts
      → ((k : ℕ) → k < length olds → IsIn us (tree_at ts k)) → AreRespelled (in_file v) n olds news → AreRespelled (in_file w) n olds news
  all_sources n [] [] ts h is_in i = tt
  all_sources n [] (new ∷ news) ts h is_in i = absurd i
  all_sources n (s ∷ olds) [] ts h is_in i = absurd i
  all_sources n (s ∷ olds) (new ∷ news) [] h is_in i = absurd h
  all_sources n (s ∷ olds) (new ∷ news) (t ∷ ts) h is_in i = (
    one_source n s new t h.0 (is_in 0 (omega arith)) i.0,
    all_sources (suc n) olds news ts h.1 (λ k lt. is_in (suc k) (omega (arith, lt))) i.1,
  )

  pub sources_alike : (news : List SourceFile) → AreRespelled (in_file v) 0 old.entries news → AreRespelled (in_file w) 0 old.entries news
  sources_alike news i = all_sources 0 old.entries news reads.trees reads.read tree_in i
