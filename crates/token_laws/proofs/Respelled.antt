-- Respelled files of the same tokens have the same tokens again.
use Rattle.std.proofs.Common.{◌≡◌, ℕ, suc, List, [], ◌∷◌, None, refl, ap, sym, ◌∙◌}
use Rattle.rotor_base.specs.Files.{FileSet, IsProject}
use Rattle.rotor_base.specs.declared.source.SourceFile.{SourceFile}
use Rattle.rotor_base.specs.declared.token.Class.{Class}
use Rattle.ml_lexer.specs.Lexed.{Lexeme, Lexed}
use Rattle.ml_lexer.specs.Respelled.{respelled_lexemes, respelled_lexemes_from}
use Rattle.ml_lexer.proofs.OneCutting.{one_lexed}
use Rattle.value_sites.specs.Respelled.{Spelling, spelled}
use Rattle.ml_syntax.specs.RespelledFile.{new_words}
use Rattle.ml_syntax.specs.RespelledSource.{Spellings, AreRespelled}
use Rattle.ml_trees.specs.Tree.{FileTree, UnitTree}
use Rattle.binding_model.specs.Renaming.{Renaming, in_file}
use Rattle.project_reading.specs.Reads.{Reads}
use Rattle.project_reading.specs.Respelled.{respelled_lists}
use Rattle.project_reading.specs.Source.{form_among}
use Rattle.project_reading.specs.Sources.{AreCut, ReadAll}
use Rattle.project_reading.proofs.RespellingKept.{respelling_keeps_the_reading}
use Rattle.respelled_reading.specs.Renamed.{AreRenamed, GivesValueNames, renamed_words}
use Rattle.respelled_reading.proofs.Renamed.{renamed_files_are_cut, renamed_files_are_read}
use Rattle.token_laws.specs.Tokens.{AllHaveSameTokens, DifferInBlanks, HaveSameTokens, texts_of}
use Rattle.token_laws.proofs.Forms.{no_joins, none_joined}

-- the texts of tokens, respelled
abbrev new_texts : Spelling → ℕ → List (Class × List ℕ) → List (Class × List ℕ)
new_texts w at [] = []
new_texts w at (x ∷ xs) = (x.0, (spelled w x.0 (record { at = at; text = x.1 })).text) ∷ new_texts w (suc at) xs

texts_from : (w : Spelling) (n at now : ℕ) (xs : List Lexeme) → texts_of (respelled_lexemes_from at now xs (new_words w n xs)) ≡ new_texts w n
    (texts_of xs)
texts_from w n at now [] = refl
texts_from w n at now (x ∷ xs) =
    ap (λ l. (x.class, (spelled w x.class (record { at = n; text = x.bytes })).text) ∷ l) (texts_from w (suc n) x.end _ xs)

texts_respelled : (w : Spelling) (xs : List Lexeme) → texts_of (respelled_lexemes xs (new_words w 1 xs)) ≡ new_texts w 1 (texts_of xs)
texts_respelled w xs = texts_from w 1 0 0 xs

-- ---- sources that are cut so, and have no refused form

abbrev ArePlain : List SourceFile → List (List Lexeme) → Type 0
ArePlain [] [] = Unit {0}
ArePlain [] (xs ∷ lists) = ⊥
ArePlain (source ∷ sources) [] = ⊥
ArePlain (source ∷ sources) (xs ∷ lists) = Lexed source.bytes xs × (form_among xs ≡ None) × ArePlain sources lists

are_plain : (n : ℕ) (ss : List SourceFile) (lists : List (List Lexeme)) (ts : List FileTree) → AreCut ss lists → ReadAll n ss ts → ArePlain ss lists
are_plain n [] [] ts c r = tt
are_plain n [] (xs ∷ lists) ts c r = absurd c
are_plain n (s ∷ ss) [] ts c r = absurd c
are_plain n (s ∷ ss) (xs ∷ lists) [] c r = absurd r
are_plain n (s ∷ ss) (xs ∷ lists) (t ∷ ts) c r =
    (c.0, ap form_among (one_lexed c.0 r.0.plain.cut) ∙ r.0.plain.no_form, are_plain (suc n) ss lists ts c.1 r.1)

-- ---- the lexemes of sources of the same tokens

abbrev lists_one : (ones others : List SourceFile) → AllHaveSameTokens ones others → List (List Lexeme)
lists_one [] [] h = []
lists_one [] (b ∷ others) h = absurd h
lists_one (a ∷ ones) [] h = absurd h
lists_one (a ∷ ones) (b ∷ others) h = h.0.ones ∷ lists_one ones others h.1

abbrev lists_other : (ones others : List SourceFile) → AllHaveSameTokens ones others → List (List Lexeme)
lists_other [] [] h = []
lists_other [] (b ∷ others) h = absurd h
lists_other (a ∷ ones) [] h = absurd h
lists_other (a ∷ ones) (b ∷ others) h = h.0.others ∷ lists_other ones others h.1

cut_one : (ones others : List SourceFile) (h : AllHaveSameTokens ones others) → AreCut ones (lists_one ones others h)
cut_one [] [] h = tt
cut_one [] (b ∷ others) h = absurd h
cut_one (a ∷ ones) [] h = absurd h
cut_one (a ∷ ones) (b ∷ others) h = (h.0.cut_one, cut_one ones others h.1)

cut_other : (ones others : List SourceFile) (h : AllHaveSameTokens ones others) → AreCut others (lists_other ones others h)
cut_other [] [] h = tt
cut_other [] (b ∷ others) h = absurd h
cut_other (a ∷ ones) [] h = absurd h
cut_other (a ∷ ones) (b ∷ others) h = (h.0.cut_other, cut_other ones others h.1)

-- ---- respelled, they have the same tokens again

one_again : (w : Spelling) (one other new again : SourceFile) (s : HaveSameTokens one other) → new.name ≡ one.name → again.name ≡ other.name
    → Lexed new.bytes (respelled_lexemes s.ones (new_words w 1 s.ones))
    → form_among (respelled_lexemes s.ones (new_words w 1 s.ones)) ≡ None
    → Lexed again.bytes (respelled_lexemes s.others (new_words w 1 s.others))
    → form_among (respelled_lexemes s.others (new_words w 1 s.others)) ≡ None
    → HaveSameTokens new again
one_again w one other new again s named called cut form cuts forms =
    let xs = respelled_lexemes s.ones (new_words w 1 s.ones) in
    let ys = respelled_lexemes s.others (new_words w 1 s.others) in
    let texts : texts_of xs ≡ texts_of ys = texts_respelled w s.ones ∙ (ap (new_texts w 1) s.texts ∙ sym (texts_respelled w s.others)) in
    record {
      ones = xs;
      others = ys;
      name = named ∙ (s.name ∙ sym called);
      cut_one = cut;
      cut_other = cuts;
      texts = texts;
      joins = none_joined 1 xs form ∙ (ap no_joins texts ∙ sym (none_joined 1 ys forms));
    }

all_again : (w : Spellings) (n : ℕ) (ones others news agains : List SourceFile) (h : AllHaveSameTokens ones others)
    → AreRespelled w n ones news → AreRespelled w n others agains
    → ArePlain news (respelled_lists w n (lists_one ones others h)) → ArePlain agains (respelled_lists w n (lists_other ones others h))
    → AllHaveSameTokens news agains
all_again w n [] [] [] [] h r q p k = tt
all_again w n [] [] [] (y ∷ agains) h r q p k = absurd k
all_again w n [] [] (x ∷ news) agains h r q p k = absurd p
all_again w n [] (b ∷ others) news agains h r q p k = absurd h
all_again w n (a ∷ ones) [] news agains h r q p k = absurd h
all_again w n (a ∷ ones) (b ∷ others) [] agains h r q p k = absurd p
all_again w n (a ∷ ones) (b ∷ others) (x ∷ news) [] h r q p k = absurd k
all_again w n (a ∷ ones) (b ∷ others) (x ∷ news) (y ∷ agains) h r q p k = (
  one_again (w n) a b x y h.0 r.0.name q.0.name p.0 p.1 k.0 k.1,
  all_again w (suc n) ones others news agains h.1 r.1 q.1 p.2 k.2,
)

-- the renamed files of a project
pub renamed_again : (one other new again : FileSet) (us : List UnitTree) (r : Renaming) → IsProject one → IsProject other
    → (d : DifferInBlanks one other) → Reads one us → Reads other us → GivesValueNames us r → AreRenamed us r one new → AreRenamed us r other again
    → DifferInBlanks new again
renamed_again one other new again us r p q d reads reread gives to back =
    let w : Spellings = in_file (renamed_words us r) in
    let L = lists_one one.entries other.entries d.sources in
    let M = lists_other one.entries other.entries d.sources in
    let cut = renamed_files_are_cut us r one new L p reads gives to (cut_one one.entries other.entries d.sources) in
    let cuts = renamed_files_are_cut us r other again M q reread gives back (cut_other one.entries other.entries d.sources) in
    let still = renamed_files_are_read respelling_keeps_the_reading us r one new p reads gives to in
    let stays = renamed_files_are_read respelling_keeps_the_reading us r other again q reread gives back in
    record {
      sources = all_again w 0 one.entries other.entries new.entries again.entries d.sources to.sources back.sources
          (are_plain 0 new.entries (respelled_lists w 0 L) still.trees cut still.read)
          (are_plain 0 again.entries (respelled_lists w 0 M) stays.trees cuts stays.read);
      manifest = to.manifest ∙ (d.manifest ∙ sym back.manifest);
    }
