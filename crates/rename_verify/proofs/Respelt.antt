-- The word at a place of renamed sources is its new word.
use Rattle.std.proofs.Common.{◌≡◌, ℕ, zero, suc, ◌+◌, ◌<◌, inl, List, [], ◌∷◌, false, Some, None, length, get_or, slice_get, unwrap_or, Contains, ap}
use Rattle.std.proofs.Common.{sym, subst, ◌∙◌, arith}
use Rattle.rotor_base.specs.Files.{FileSet, IsProject}
use Rattle.rotor_base.specs.declared.place.Place.{Place}
use Rattle.rotor_base.specs.declared.source.SourceFile.{SourceFile}
use Rattle.rotor_base.specs.declared.token.Class.{Class}
use Rattle.rotor_base.specs.declared.token.Class.TheVariants as class
use Rattle.rotor_base.proofs.Rising.{some_is}
use Rattle.ml_lexer.specs.Lexed.{Lexeme, Lexed}
use Rattle.ml_lexer.specs.Respelled.{respelled_lexemes_from, respelled_lexemes}
use Rattle.ml_lexer.proofs.OneCutting.{one_lexed}
use Rattle.value_sites.specs.Places.{Site}
use Rattle.value_sites.specs.Respelled.{Spelling, spelled}
use Rattle.ml_syntax.specs.RespelledFile.{lexeme_toks, new_words}
use Rattle.ml_syntax.specs.RespelledSource.{Spellings}
use Rattle.value_sites.specs.Sound.{AreNumbered}
use Rattle.ml_trees.specs.Tok.{Name, Tok, word, fixed_of, tok}
use Rattle.ml_trees.specs.Tree.{FileTree, UnitTree}
use Rattle.ml_trees.specs.Words.{words}
use Rattle.ml_syntax.proofs.RespelledNames.{lexemes_are_numbered}
use Rattle.ml_syntax.proofs.SiteWords.{sites_are_words}
use Rattle.binding_model.specs.Renaming.{Renaming, places, at_place, in_file}
use Rattle.binding_model.proofs.Leasts.{place_in}
use Rattle.parse_module.specs.declared.files.FileKind.{FileKind}
use Rattle.parse_module.specs.declared.files.FileKind.TheVariants as kind
use Rattle.parse_module.specs.Whole.{IsOfFile}
use Rattle.value_places.specs.Placed as table
use Rattle.ml_trees.specs.Tree.{Body, Face}
use Rattle.project_reading.specs.Reads.{Reads}
use Rattle.project_reading.specs.Respelled.{respelled_lists}
use Rattle.project_reading.specs.Sources.{AreCut, ReadAll}
use Rattle.project_reading.proofs.Twins.{parts_are_trees}
use Rattle.renamed_sources.proofs.ValueNames.{no_keyword, no_mark, same_word}
use Rattle.respelled_reading.specs.Renamed.{AreRenamed, GivesValueNames, renamed_words}
use Rattle.respelled_reading.proofs.Renamed.{renamed_files_are_cut}
use Rattle.rename_laws.proofs.Placed.{IsFrom, of_units, token_at}
use Rattle.rename_verify.specs.Candidate.{AreLexemesOf, lexeme_at, lower_word, word_at}
use Rattle.rename_verify.proofs.Cutting.{one_lexemes}

-- ---- lists of lexemes

pub lists_of : (n : ℕ) (ss : List SourceFile) (ts : List FileTree) → ReadAll n ss ts → (lists : List (List Lexeme)) × AreCut ss lists
lists_of n [] [] h = ([], tt)
lists_of n [] (t ∷ ts) h = absurd h
lists_of n (s ∷ ss) [] h = absurd h
lists_of n (s ∷ ss) (t ∷ ts) h = let k = lists_of (suc n) ss ts h.1 in (h.0.lexemes ∷ k.0, (h.0.plain.cut, k.1))

pub cut_is : (ss : List SourceFile) (lists : List (List Lexeme)) → AreCut ss lists → AreLexemesOf ss lists
cut_is [] [] h = tt
cut_is [] (xs ∷ lists) h = absurd h
cut_is (s ∷ ss) [] h = absurd h
cut_is (s ∷ ss) (xs ∷ lists) h = (inl h.0, cut_is ss lists h.1)

cut_at : (ss : List SourceFile) (lists : List (List Lexeme)) (k : ℕ) (s : SourceFile) (xs : List Lexeme) → AreCut ss lists → slice_get ss k ≡ Some s
    → Lexed s.bytes xs → slice_get lists k ≡ Some xs
cut_at [] [] k s xs h e cut = let wrong : None ≡ Some s = e in absurd cc
cut_at [] (ys ∷ lists) k s xs h e cut = absurd h
cut_at (x ∷ ss) [] k s xs h e cut = absurd h
cut_at (x ∷ ss) (ys ∷ lists) zero s xs h e cut =
    let same : x ≡ s = some_is x s e in
    ap (λ (l : List Lexeme). Some l) (one_lexed h.0 (subst (λ (f : SourceFile). Lexed f.bytes xs) (sym same) cut))
cut_at (x ∷ ss) (ys ∷ lists) (suc k) s xs h e cut = cut_at ss lists k s xs h.1 e cut

respelled_at : (w : Spellings) (n : ℕ) (lists : List (List Lexeme)) (k : ℕ) (xs : List Lexeme) → slice_get lists k ≡ Some xs
    → slice_get (respelled_lists w n lists) k ≡ Some (respelled_lexemes xs (new_words (w (n + k)) 1 xs))
respelled_at w n [] k xs e = let wrong : None ≡ Some xs = e in absurd cc
respelled_at w n (ys ∷ lists) zero xs e =
    let same : ys ≡ xs = some_is ys xs e in
    let here : n ≡ n + 0 = omega arith in
    ap (λ m. Some (respelled_lexemes ys (new_words (w m) 1 ys))) here ∙ ap (λ l. Some (respelled_lexemes l (new_words (w (n + 0)) 1 l))) same
respelled_at w n (ys ∷ lists) (suc k) xs e =
    let next : suc n + k ≡ n + suc k = omega arith in
    respelled_at w (suc n) lists k xs e ∙ ap (λ m. Some (respelled_lexemes xs (new_words (w m) 1 xs))) next

-- ---- one lexeme

lower_tok : (c : Class) (at : ℕ) (text : List ℕ) (y : Name) → tok c at text ≡ word class.Lower y → (c ≡ class.Lower) × (text ≡ y.text)
lower_tok class.Keyword at text y e = absurd (no_keyword (fixed_of text) at (record { at = at; text = text }) y e)
lower_tok class.Mark at text y e = absurd (no_mark (fixed_of text) at (record { at = at; text = text }) y e)
lower_tok c at text y e =
    let x : Name = record { at = at; text = text } in
    (same_class c class.Lower x y e, ap (λ (z : Name). z.text) (same_word c class.Lower x y e))
  where
    same_class : (c k : Class) (x y : Name) → word c x ≡ word k y → c ≡ k
    same_class c k x y e = cc

-- the new word of a lower-case lexeme
new_lower : (v : Spelling) (at old now : ℕ) (xs : List Lexeme) (y : Name) (k : ℕ) → k < length (lexeme_toks at xs)
    → get_or (lexeme_toks at xs) k (word class.Lower y) ≡ word class.Lower y
    → lower_word (slice_get (respelled_lexemes_from old now xs (new_words v at xs)) k) ≡ Some (v (at + k) y.text)
new_lower v at old now [] y k less e = absurd (omega (arith, less))
new_lower v at old now (x ∷ xs) y zero less e =
    let is = lower_tok x.class at x.bytes y e in
    let here : at ≡ at + 0 = omega arith in
    ap (λ c. lower_word (Some (record { class = c; start = 0; end = 0; bytes = (spelled v c (record { at = at; text = x.bytes })).text }))) is.0
    ∙ (ap (λ t. Some (v at t)) is.1 ∙ ap (λ n. Some (v n y.text)) here)
new_lower v at old now (x ∷ xs) y (suc k) less e =
    let next : suc at + k ≡ at + suc k = omega arith in
    new_lower v (suc at) x.end _ xs y k (omega (arith, less)) e ∙ ap (λ n. Some (v n y.text)) next

-- ---- the word at a place

file_is : (k : FileKind) (n : ℕ) (t : FileTree) → IsOfFile k n t → table.number_of t ≡ n
file_is kind.Body n (Body a is) h = h
file_is kind.Body n (Face a is) h = absurd h
file_is kind.Face n (Face a is) h = h
file_is kind.Face n (Body a is) h = absurd h

word_there : (w : Spellings) (lists : List (List Lexeme)) (d : Place) (f k : ℕ) (xs : List Lexeme) (y : Name)
    → slice_get lists d.file ≡ Some (respelled_lexemes xs (new_words (w f) 1 xs)) → d.token ≡ suc k → f ≡ d.file
    → k < length (lexeme_toks 1 xs) → get_or (lexeme_toks 1 xs) k (word class.Lower y) ≡ word class.Lower y
    → word_at lists d ≡ Some (w d.file d.token y.text)
word_there w lists d f k xs y got number file less e =
    let out = respelled_lexemes xs (new_words (w f) 1 xs) in
    let place : 1 + k ≡ d.token = omega (arith, number) in
    ap (λ o. lower_word (lexeme_at (unwrap_or o []) d.token)) got
    ∙ (ap (λ n. lower_word (lexeme_at out n)) number
    ∙ (new_lower (w f) 1 0 0 xs y k less e ∙ (ap (λ n. Some (w n (1 + k) y.text)) file ∙ ap (λ n. Some (w d.file n y.text)) place)))

module _ (old new : FileSet) (us : List UnitTree) (r : Renaming) (p : IsProject old) (reads : Reads old us) (gives : GivesValueNames us r)
    (renamed : AreRenamed us r old new) (lists : List (List Lexeme)) (cut : AreLexemesOf new.entries lists) where
  pub word_is : (d : Place) (x : Site) → at_place (places us) d ≡ Some x → x.operator ≡ false → x.pun ≡ false
      → word_at lists d ≡ Some (renamed_words us r d x.name)
  word_is d x at operator pun =
      let w : Spellings = in_file (renamed_words us r) in
      let olds = lists_of 0 old.entries reads.trees reads.read in
      let news = respelled_lists w 0 olds.0 in
      let same_lists : news ≡ lists = one_lexemes new.entries news lists
      (cut_is new.entries news (renamed_files_are_cut us r old new olds.0 p reads gives renamed olds.1)) cut in
      let has = place_in (IsFrom us) (places us) d x (of_units us us (λ v c. c)) at in
      let t = has.0 in
      let from = parts_are_trees old us p reads has.1.0 t has.1.1 has.1.2 in
      let s = from.1 in
      let read = from.3 in
      let xs = read.lexemes in
      let file : d.file ≡ from.0 = ap (λ (q : Place). q.file) has.3 ∙ file_is _ from.0 t read.parsed.of_file in
      let token : d.token ≡ x.at = ap (λ (q : Place). q.token) has.3 in
      let same : lexeme_toks 1 xs ≡ words t = read.parsed.reads in
      let numbered = subst (AreNumbered 1) same (lexemes_are_numbered s.bytes xs read.plain.cut) in
      let own = sites_are_words t read.parsed.wf numbered x has.2 pun operator in
      let y : Name = record { at = x.at; text = x.name } in
      let c = subst (λ (ts : List Tok). Contains ts (word class.Lower y)) (sym same) own in
      let at_is : x.at ≡ 1 + c.0 = token_at 1 xs y c.0 c.1 c.2 in
      let number : d.token ≡ suc c.0 = omega (arith, token, at_is) in
      let zeroed : 0 + from.0 ≡ d.file = omega (arith, file) in
      let there : slice_get news from.0 ≡ Some (respelled_lexemes xs (new_words (w (0 + from.0)) 1 xs)) =
      respelled_at w 0 olds.0 from.0 xs (cut_at old.entries olds.0 from.0 s xs olds.1 from.2 read.plain.cut) in
      let out = respelled_lexemes xs (new_words (w (0 + from.0)) 1 xs) in
      let got : slice_get lists d.file ≡ Some out = ap (λ l. slice_get l d.file) (sym same_lists) ∙ (ap (slice_get news) file ∙ there) in
      word_there w lists d (0 + from.0) c.0 xs y got number zeroed c.1 c.2
