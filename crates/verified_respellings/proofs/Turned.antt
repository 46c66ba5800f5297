-- Sources that are respelled, and back.
use Rattle.std.proofs.Common.{◌≡◌, ℕ, suc, ◌+◌, ◌-◌, ◌<◌, List, [], ◌∷◌, Some, map, length, refl, ap, sym, ◌∙◌, arith}
use Rattle.rotor_base.specs.Files.{FileSet, IsProject}
use Rattle.rotor_base.specs.declared.source.SourceFile.{SourceFile}
use Rattle.rotor_base.specs.declared.token.Class.{Class}
use Rattle.rotor_base.specs.declared.token.Class.TheVariants as class
use Rattle.ml_lexer.specs.Lexed.{Lexeme}
use Rattle.ml_lexer.specs.Respelled.{respelled, respelled_lexemes, respelled_lexemes_from}
use Rattle.ml_lexer.proofs.Back.{respelled_back}
use Rattle.ml_lexer.proofs.OneCutting.{one_lexed}
use Rattle.value_sites.specs.Places.{sites}
use Rattle.value_sites.specs.Respelled.{Spelling, spelled}
use Rattle.ml_syntax.specs.RespelledFile.{lexeme_toks, new_words, ChangesNames}
use Rattle.ml_syntax.specs.RespelledSource.{IsRespelled, AreRespelled}
use Rattle.ml_trees.specs.Tree.{FileTree, UnitTree}
use Rattle.shape_core.specs.Respell.{Words}
use Rattle.binding_model.specs.Renaming.{in_file}
use Rattle.project_reading.specs.Reads.{Reads}
use Rattle.project_reading.specs.Respelled.{ChangesNamesIn}
use Rattle.project_reading.specs.Source.{kind_of_source, ReadsAs}
use Rattle.project_reading.specs.Sources.{ReadAll}
use Rattle.project_reading.proofs.Twins.{tree_at}
use Rattle.project_reading.proofs.UnitsKept.{changes_at, changes_by, lexemes_kept}
use Rattle.respelled_reading.proofs.Changed.{ChangesPlaces, IsIn, changes_all, number_is}
use Rattle.verified_respellings.proofs.OwnFiles.{AreAlikeIn, alike_in, tree_in}
use Rattle.verified_respellings.proofs.OwnWords.{AreAlike, tree_words}
use Rattle.verified_respellings.proofs.Same.{own, own_words}

-- one spelling after another
abbrev after : Spelling → Spelling → Spelling
after b w at x = b at (w at x)

word_twice : (b w : Spelling) (c : Class) (at : ℕ) (text : List ℕ)
    → (spelled b c (record { at = at; text = (spelled w c (record { at = at; text = text })).text })).text
    ≡ (spelled (after b w) c (record { at = at; text = text })).text
word_twice b w class.Lower at text = refl
word_twice b w _ at text = refl

words_twice : (b w : Spelling) (at from now : ℕ) (xs : List Lexeme)
    → new_words b at (respelled_lexemes_from from now xs (new_words w at xs)) ≡ new_words (after b w) at xs
words_twice b w at from now [] = refl
words_twice b w at from now (x ∷ xs) =
    let end : ℕ = (now + (x.start - from)) + length (spelled w x.class (record { at = at; text = x.bytes })).text in
    ap (λ y. y ∷ new_words b (suc at) (respelled_lexemes_from x.end end xs (new_words w (suc at) xs))) (word_twice b w x.class at x.bytes)
    ∙ ap (λ ys. (spelled (after b w) x.class (record { at = at; text = x.bytes })).text ∷ ys) (words_twice b w (suc at) x.end end xs)

as_many : (w : Spelling) (at : ℕ) (xs : List Lexeme) → length (new_words w at xs) ≡ length xs
as_many w at [] = refl
as_many w at (x ∷ xs) = ap suc (as_many w (suc at) xs)

source_back : (b w : Spelling) (n : ℕ) (s new : SourceFile) (t : FileTree) → ReadsAs n s t → IsRespelled w s new → ChangesNames w (sites t)
    → AreAlike (after b w) own (sites t)
    → IsRespelled b new s
source_back b w n s new t r i changes alike =
    let xs = i.lexemes in
    let ws = new_words w 1 xs in
    let ys = respelled_lexemes xs ws in
    let toks = ap (lexeme_toks 1) (one_lexed i.cut r.plain.cut) ∙ r.parsed.reads in
    let same = tree_words (after b w) own t s.bytes xs r.parsed.wf i.cut toks alike in
    let back : new_words b 1 ys ≡ map (λ x. x.bytes) xs = words_twice b w 1 0 0 xs ∙ same ∙ own_words 1 xs in
    record {
      lexemes = ys;
      cut = lexemes_kept w n s new t xs r i changes i.cut;
      name = sym i.name;
      bytes = sym (respelled_back s.bytes xs ws i.cut (as_many w 1 xs))
          ∙ ap (λ bytes. respelled bytes ys (map (λ x. x.bytes) xs)) (sym i.bytes)
          ∙ ap (respelled new.bytes ys) (sym back);
    }

module _ (old : FileSet) (us : List UnitTree) (project : IsProject old) (reads : Reads old us) (b w : Words) (changes : ChangesPlaces us w)
    (alike : AreAlikeIn us (λ q x. b q (w q x)) (λ q x. x)) where
  all_back : (n : ℕ) (olds news : List SourceFile) (ts : List FileTree) → ReadAll n olds ts
      → ((k : ℕ) → k < length olds → IsIn us (tree_at ts k)) → ((k : ℕ) → k < length olds → ChangesNamesIn (in_file w) (Some (tree_at ts k)))
      → AreRespelled (in_file w) n olds news → AreRespelled (in_file b) n news olds
  all_back n [] [] ts h is_in c i = tt
  all_back n [] (new ∷ news) ts h is_in c i = absurd i
  all_back n (s ∷ olds) [] ts h is_in c i = absurd i
  all_back n (s ∷ olds) (new ∷ news) [] h is_in c i = absurd h
  all_back n (s ∷ olds) (new ∷ news) (t ∷ ts) h is_in c i =
      let kind = kind_of_source s.name in
      let number = number_is kind n t h.0.parsed.of_file in (
        source_back (in_file b n) (in_file w n) n s new t h.0 i.0
            (changes_by kind n (in_file w) t h.0.parsed.of_file (c 0 (omega arith)))
            (alike_in old us project reads (λ q x. b q (w q x)) (λ q x. x) alike n t (is_in 0 (omega arith)) number),
        all_back (suc n) olds news ts h.1 (λ k lt. is_in (suc k) (omega (arith, lt))) (λ k lt. c (suc k) (omega (arith, lt))) i.1,
      )

  pub sources_back : (news : List SourceFile) → AreRespelled (in_file w) 0 old.entries news → AreRespelled (in_file b) 0 news old.entries
  sources_back news i =
      all_back 0 old.entries news reads.trees reads.read (tree_in old us project reads (λ q x. b q (w q x)) (λ q x. x) alike)
      (changes_at (in_file w) old us project reads (changes_all old us project reads w changes)) i
