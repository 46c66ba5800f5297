-- Respelled files are read as the respelled project.
use Rattle.std.proofs.Common.{◌≡◌, ℕ, suc, ◌<◌, List, [], ◌∷◌, Some, map, length, ap, sym, subst, ◌∙◌, arith}
use Rattle.rotor_base.specs.declared.source.SourceFile.{SourceFile}
use Rattle.ml_lexer.specs.Lexed.{Lexed, view_tokens}
use Rattle.ml_lexer.specs.Respelled.{respelled, respelled_lexemes}
use Rattle.ml_lexer.proofs.OneCutting.{one_lexed}
use Rattle.value_sites.specs.Places.{sites}
use Rattle.value_sites.specs.Respelled.{Spelling, spell_file}
use Rattle.ml_syntax.specs.RespelledFile.{lexeme_toks, new_words, ChangesNames}
use Rattle.ml_trees.specs.Tree.{FileTree, Body, Face}
use Rattle.ml_syntax.proofs.RespelledNames.{respelled_names_are_read}
use Rattle.respelled_tokens.proofs.TokensKept as tokens
use Rattle.parse_module.specs.declared.files.FileKind.{FileKind}
use Rattle.parse_module.specs.declared.files.FileKind.TheVariants as kind
use Rattle.module_reading.specs.OneReading.{AreOfOneKind, OneFileReading}
use Rattle.parse_module.specs.Whole.{IsOfFile}
use Rattle.unit_order.specs.Order.{order_of, takes_all}
use Rattle.ml_syntax.specs.RespelledSource.{Spellings, IsRespelled, AreRespelled}
use Rattle.project_reading.specs.Respelled.{spell_tree, spell_unit, ChangesNamesIn, RespellingKeepsTheReading}
use Rattle.project_reading.specs.Source.{kind_of_source, tokens_of, ReadsAs}
use Rattle.project_reading.specs.Sources.{ReadAll}
use Rattle.project_reading.specs.Units.{units_of, in_order}
use Rattle.project_reading.proofs.OrderKept.{takes_all_kept, order_kept, in_order_kept}
use Rattle.project_reading.proofs.Tokens.{toks_same, lexemes_back}
use Rattle.project_reading.proofs.UnitsKept.{spelled_by, changes_by, units_kept, changes_at}
use Rattle.project_reading.proofs.Twins.{tree_at}

-- ---- one source

one_kind : (k : FileKind) (n : ℕ) (a b : FileTree) → IsOfFile k n a → IsOfFile k n b → AreOfOneKind a b
one_kind kind.Body n (Body a is) (Body b js) h e = h ∙ sym e
one_kind kind.Face n (Face a is) (Face b js) h e = h ∙ sym e
one_kind kind.Body n (Face a is) b h e = absurd h
one_kind kind.Body n (Body a is) (Face b js) h e = absurd e
one_kind kind.Face n (Body a is) b h e = absurd h
one_kind kind.Face n (Face a is) (Body b js) h e = absurd e

spelled_kind : (k : FileKind) (n : ℕ) (w : Spelling) (t : FileTree) → IsOfFile k n t → IsOfFile k n (spell_file w t)
spelled_kind kind.Body n w (Body a is) h = h
spelled_kind kind.Face n w (Face a is) h = h
spelled_kind kind.Body n w (Face a is) h = absurd h
spelled_kind kind.Face n w (Body a is) h = absurd h

module _ (one : OneFileReading) where
  source_kept : (w : Spelling) (n : ℕ) (old new : SourceFile) (t : FileTree) → ReadsAs n old t → IsRespelled w old new → ChangesNames w (sites t)
      → ReadsAs n new (spell_file w t)
  source_kept w n old new t r i changes =
      let xs = r.lexemes in
      let ys = respelled_lexemes xs (new_words w 1 xs) in
      let back : view_tokens (tokens_of xs) ≡ xs = lexemes_back xs in
      let read = respelled_names_are_read w t old.bytes xs r.parsed.wf r.plain.cut r.parsed.reads changes in
      let cut' = subst (λ zs. Lexed (respelled old.bytes zs (new_words w 1 zs)) (view_tokens (tokens_of ys))) (sym back)
      (subst (Lexed (respelled old.bytes xs (new_words w 1 xs))) (sym (lexemes_back ys)) read.0) in
      let kept = tokens.respelling_keeps_the_reading w t old.bytes (tokens_of xs) (tokens_of ys) r.parsed.wf
      (subst (Lexed old.bytes) (sym back) r.plain.cut)
      (toks_same (tokens_of xs) ∙ ap (lexeme_toks 1) back ∙ r.parsed.reads) r.plain.no_form r.plain.shallow changes cut' in
      let written : respelled old.bytes xs (new_words w 1 xs) ≡ new.bytes = ap (λ zs. respelled old.bytes zs (new_words w 1 zs))
      (one_lexed r.plain.cut i.cut) ∙ sym i.bytes in
      let kind : kind_of_source old.name ≡ kind_of_source new.name = ap kind_of_source (sym i.name) in
      let of_file : IsOfFile (kind_of_source new.name) n (spell_file w t) = subst (λ k. IsOfFile k n (spell_file w t)) kind
      (spelled_kind (kind_of_source old.name) n w t r.parsed.of_file) in
      record {
        lexemes = ys;
        plain = record { cut = subst (λ bytes. Lexed bytes ys) written read.0; no_form = kept.2; shallow = kept.3 };
        parsed = record {
          of_file = of_file;
          wf = kept.0;
          reads = read.2;
          only = λ another h wf e. one another (spell_file w t) (one_kind (kind_of_source new.name) n another (spell_file w t) h of_file) wf kept.0
              (sym e ∙ read.2);
        };
      }

  -- ---- all sources

  all_kept : (w : Spellings) (n : ℕ) (olds news : List SourceFile) (ts : List FileTree) → ReadAll n olds ts → AreRespelled w n olds news
      → ((k : ℕ) → k < length olds → ChangesNamesIn w (Some (tree_at ts k))) → ReadAll n news (map (spell_tree w) ts)
  all_kept w n [] [] [] h a changes = tt
  all_kept w n [] [] (t ∷ ts) h a changes = absurd h
  all_kept w n [] (new ∷ news) ts h a changes = absurd a
  all_kept w n (old ∷ olds) [] ts h a changes = absurd a
  all_kept w n (old ∷ olds) (new ∷ news) [] h a changes = absurd h
  all_kept w n (old ∷ olds) (new ∷ news) (t ∷ ts) h a changes =
      let k = kind_of_source old.name in
      let of_file = h.0.parsed.of_file in (
        subst (ReadsAs n new) (spelled_by k n w t of_file)
            (source_kept (w n) n old new t h.0 a.0 (changes_by k n w t of_file (changes 0 (omega arith)))),
        all_kept w (suc n) olds news ts h.1 a.1 (λ j lt. changes (suc j) (omega (arith, lt))),
      )

  -- ---- files

  pub reading_kept : RespellingKeepsTheReading
  reading_kept w old new project h r changes a given =
      let us = units_of old.entries r.trees in
      let ts = map (spell_tree w) r.trees in
      let same : units_of new.entries ts ≡ map (spell_unit w) us = units_kept w old.entries new.entries r.trees a in
      record {
        trees = ts;
        read = all_kept w 0 old.entries new.entries r.trees r.read a (changes_at w old project h r changes);
        taken = λ none. ap takes_all same ∙ takes_all_kept w us ∙ r.taken (sym given ∙ none);
        linked =
            ap (map (spell_unit w)) r.linked
            ∙ sym (in_order_kept w us (order_of us old.manifest))
            ∙ ap (in_order (map (spell_unit w) us)) (sym (order_kept w us old.manifest) ∙ ap (λ m. order_of (map (spell_unit w) us) m) (sym given))
            ∙ ap (λ vs. in_order vs (order_of vs new.manifest)) (sym same);
      }
