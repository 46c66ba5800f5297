-- The steps back, as the report prints them, are read again.
use Rattle.std.proofs.Common.{◌≡◌, ◌≢◌, ◌∙◌, ℕ, ◌+◌, ◌-◌, ◌%◌, ◌^◌, ◌<◌, ◌≤◌, ◌==◌, ◌&&◌, Bool, true, false, List, [], ◌∷◌, ◌++◌, Option, length, map}
use Rattle.std.proofs.Common.{suc, if◌then◌else◌, flat_map, take, drop, unwrap_or, nat_le, codes, refl, sym, ap, subst, take-append-drop, arith}
use Rattle.std.specs.Char.{is_ascii_alphabetic}
use Rattle.std.specs.Fmt.{decimal}
use Rattle.std.specs.List.{AllByRecursion, list_all, list_any, onto_first}
use Rattle.std.specs.Str.{IsAscii, bytes_eq}
use Rattle.std.proofs.lemmas.Bool.Decides.{nat_tests}
use Rattle.std.proofs.lemmas.Fmt.{decimal_by_steps}
use Rattle.std.proofs.lemmas.List.{append-nil, length-map, length-reverse, map-append, reverse-append}
use Rattle.std.proofs.lemmas.Str.{IsUtf8-from_ascii}
use Rattle.std.proofs.lemmas.Str.Ascii.{IsAscii-cons, IsAscii-nil}
use Rattle.rotor_base.specs.Spaces.{IsWhole}
use Rattle.rotor_base.proofs.SpaceCuts.{free}
use Rattle.rotor_base.specs.Files.{FileSet, IsProject, names_of}
use Rattle.rotor_base.specs.Limits.{max_batch_lines}
use Rattle.rotor_base.specs.Lines.{feed_lines}
use Rattle.rotor_base.specs.Name.{is_identifier_byte, is_value_name}
use Rattle.rotor_base.specs.Stem.{ends_stem, is_body_name, is_source_name, is_stem_byte, is_stem_word}
use Rattle.cli_words.specs.Words.{is_value}
use Rattle.cli_words.proofs.Places.{place_read, source_begins}
use Rattle.cli_words.proofs.Shapes.{both, named}
use Rattle.report.specs.Pieces.{Word, file_of}
use Rattle.report.specs.Text.{ended}
use Rattle.rename_laws.specs.Laws.{RenamingsRewrite, UndosHavePlaces}
use Rattle.rename_batch.specs.declared.step.Step.{Step}
use Rattle.rename_batch.specs.declared.step.Change.{Change}
use Rattle.rename_batch.specs.declared.step.Undo.{Undo}
use Rattle.rename_batch.specs.Batch.{Answers, Runs, change_of, undo_of, undo_step, undo_steps, undos_of}
use Rattle.rename_batch.specs.Laws.{UndosAreRead}
use Rattle.rename_batch.specs.Reading.{AreSteps, IsBatch, IsStep, IsWord}
use Rattle.rename_batch.specs.Text.{undo_text, undo_words}
use Rattle.rename_batch.proofs.Backwards.{is_project}
use Rattle.rename_batch.proofs.Readings.{one_more}
use Rattle.rename_batch.proofs.Rewritten.{kept}

-- ---- bytes below 128 that are no space and no LF

abbrev IsPlainByte : ℕ → Type 0
IsPlainByte b = (b < 128) × ((b == 32) ≡ false) × ((b == 10) ≡ false)

abbrev IsPlain : Word → Type 0
IsPlain = AllByRecursion IsPlainByte

plain-append : (xs ys : Word) → IsPlain xs → IsPlain ys → IsPlain (xs ++ ys)
plain-append [] ys p q = q
plain-append (x ∷ xs) ys p q = (p.0, plain-append xs ys p.1 q)

is_ascii : (w : Word) → IsPlain w → IsAscii w
is_ascii [] p = IsAscii-nil
is_ascii (b ∷ bs) p = IsAscii-cons b bs p.0.0 (is_ascii bs p.1)

without_space : (w : Word) → IsPlain w → IsWhole w
without_space [] p = refl
without_space (b ∷ bs) p = free (b == 32) (list_any (λ b. b == 32) bs) p.0.1 (without_space bs p.1)

is_word : (w : Word) → IsPlain w → w ≢ [] → IsWord w
is_word w p some = record { text = IsUtf8-from_ascii w (is_ascii w p); some = some; whole = without_space w p }

-- ---- lines

-- a line contains no LF
abbrev IsLine : Word → Type 0
IsLine = AllByRecursion (λ b. (b == 10) ≡ false)

line-append : (xs ys : Word) → IsPlain xs → IsLine ys → IsLine (xs ++ ys)
line-append [] ys p q = q
line-append (x ∷ xs) ys p q = (p.0.2, line-append xs ys p.1 q)

-- a line with its end is cut off
cut_line : (line rest : Word) → IsLine line → feed_lines (ended line ++ rest) ≡ line ∷ feed_lines rest
cut_line [] rest p = refl
cut_line (b ∷ bs) rest p =
    let more = ended bs ++ rest in
    ap (λ (t : Bool). if t then [] ∷ feed_lines more else onto_first b (feed_lines more)) p.0 ∙ ap (onto_first b) (cut_line bs rest p.1)

cut_lines : (lines : List Word) → AllByRecursion IsLine lines → feed_lines (flat_map ended lines) ≡ lines
cut_lines [] p = refl
cut_lines (line ∷ lines) p = cut_line line (flat_map ended lines) p.0 ∙ ap (λ (ls : List Word). line ∷ ls) (cut_lines lines p.1)

lines-append : (xs : List Word) (y : Word) → AllByRecursion IsLine xs → IsLine y → AllByRecursion IsLine (xs ++ y ∷ [])
lines-append [] y p q = (q, tt)
lines-append (x ∷ xs) y p q = (p.0, lines-append xs y p.1 q)

-- ---- value names

name_byte : (b : ℕ) → is_identifier_byte b ≡ true → IsPlainByte b
name_byte b h = (grind (arith, nat_tests), grind (arith, nat_tests), grind (arith, nat_tests))

name_bytes : (w : Word) → list_all is_identifier_byte w ≡ true → IsPlain w
name_bytes [] h = tt
name_bytes (b ∷ bs) h =
    let p = both (is_identifier_byte b) (list_all is_identifier_byte bs) h in
    (name_byte b p.0, name_bytes bs p.1)

name_some : (w : Word) → is_value_name w ≡ true → w ≢ []
name_some [] h = let bad : false ≡ true = h in absurd cc
name_some (b ∷ bs) h = λ e. cc

name_word : (w : Word) → is_value_name w ≡ true → IsWord w
name_word w h = is_word w (name_bytes w (both _ _ h).1) (name_some w h)

-- ---- sources

stem_byte : (b : ℕ) → is_stem_byte b ≡ true → IsPlainByte b
stem_byte b h = (grind (arith, nat_tests), grind (arith, nat_tests), grind (arith, nat_tests))

stem_bytes : (w : Word) → list_all is_stem_byte w ≡ true → IsPlain w
stem_bytes [] h = tt
stem_bytes (b ∷ bs) h =
    let p = both (is_stem_byte b) (list_all is_stem_byte bs) h in
    (stem_byte b p.0, stem_bytes bs p.1)

stem_plain : (w : Word) → is_stem_word w ≡ true → IsPlain w
stem_plain [] h = tt
stem_plain (b ∷ bs) h = stem_bytes (b ∷ bs) (both (is_ascii_alphabetic b && nat_le (length (b ∷ bs)) 255) (list_all is_stem_byte (b ∷ bs)) h).1

ending_plain : (ending name : Word) → IsPlain ending → ends_stem ending name ≡ true → IsPlain name
unfolding ends_stem
ending_plain ending name e h =
    let k = length name - length ending in
    let p = both (bytes_eq (drop k name) ending) (is_stem_word (take k name)) h in
    subst IsPlain (take-append-drop k name) (plain-append (take k name) (drop k name) (stem_plain (take k name) p.1)
    (subst IsPlain (sym (named (drop k name) ending p.0)) e))

source_plain : (file : Word) → is_source_name file ≡ true → IsPlain file
source_plain file h = by_body (is_body_name file) refl where
  by_body : (t : Bool) → is_body_name file ≡ t → IsPlain file
  by_body true g = ending_plain (codes ".ml") file ((omega arith, refl, refl), ((omega arith, refl, refl), ((omega arith, refl, refl), tt))) g
  by_body false g = ending_plain (codes ".mli") file
      ((omega arith, refl, refl), ((omega arith, refl, refl), ((omega arith, refl, refl), ((omega arith, refl, refl), tt)))) (rw g at h)

-- ---- numbers

digit_byte : (d : ℕ) → d < 10 → IsPlainByte (48 + d)
digit_byte d h = (omega (arith, h), grind (arith, nat_tests), grind (arith, nat_tests))

number_plain : (n : ℕ) → n < 2 ^ 64 → IsPlain (decimal n)
number_plain = decimal_by_steps (λ m ds. IsPlain ds) (λ m l. (digit_byte m l, tt))
    (λ m ds l h. plain-append ds ((48 + m % 10) ∷ []) h (digit_byte (m % 10) (omega arith), tt))

-- ---- places

value_some : (w : Word) → is_value w ≡ true → w ≢ []
value_some [] h = let bad : false ≡ true = h in absurd cc
value_some (b ∷ bs) h = λ e. cc

-- what a step back is printed of
record IsPrintable (names : List Word) (undo : Undo) : Type 0 where
  source : is_source_name (file_of names undo.at.file) ≡ true
  above : 0 < undo.at.token
  below : undo.at.token ≤ 1048576
  named : is_value_name undo.old ≡ true

line_read : (names : List Word) (undo : Undo) → IsPrintable names undo → IsStep (undo_words names undo) (undo_step names undo)
line_read names undo p =
    let file = file_of names undo.at.file in
    let behind = codes "#" ++ decimal undo.at.token in
    let begins = source_begins file behind p.source in
    let mark : IsPlain (codes "#") = ((omega arith, refl, refl), tt) in
    let plain = plain-append file behind (source_plain file p.source) (plain-append (codes "#") (decimal undo.at.token) mark
    (number_plain undo.at.token (omega (arith, p.below)))) in
    record {
      word = file ++ behind;
      words = record {
        split = refl;
        first = is_word (file ++ behind) plain (value_some (file ++ behind) begins);
        second = name_word undo.old
            p.named;
        plain = begins;
      };
      target = sym (place_read file undo.at.token p.source p.above (omega (arith, p.below)));
    }

line_whole : (names : List Word) (undo : Undo) → IsPrintable names undo → IsLine (undo_words names undo)
line_whole names undo p =
    let file = file_of names undo.at.file in
    let behind = codes "#" ++ decimal undo.at.token in
    let mark : IsPlain (codes "#") = ((omega arith, refl, refl), tt) in
    let plain = plain-append file behind (source_plain file p.source) (plain-append (codes "#") (decimal undo.at.token) mark
    (number_plain undo.at.token (omega (arith, p.below)))) in
    let name = subst IsLine (append-nil undo.old) (line-append undo.old [] (name_bytes undo.old (both _ _ p.named).1) tt) in
    line-append (file ++ behind) (32 ∷ undo.old) plain (refl, name)

lines_whole : (names : List Word) (changes : List Change) → AllByRecursion (λ change. IsPrintable names (undo_of change)) changes
    → AllByRecursion IsLine (map (undo_words names) (undos_of changes))
lines_whole names [] p = tt
lines_whole names (change ∷ changes) p =
    let undos = undos_of changes in
    let undo = undo_of change in
    let back : undos_of (change ∷ changes) ≡ undos ++ undo ∷ [] = reverse-append (undo ∷ []) (map undo_of changes) in
    let more = lines-append (map (undo_words names) undos) (undo_words names undo) (lines_whole names changes p.1) (line_whole names undo p.0) in
    subst (λ (us : List Undo). AllByRecursion IsLine (map (undo_words names) us)) (sym back)
    (subst (AllByRecursion IsLine) (sym (map-append (undo_words names) undos (undo ∷ []))) more)

abbrev AreRead : List Word → List Undo → Type 0
AreRead names undos = AreSteps (map (undo_words names) undos) (undo_steps names undos)

lines_read : (names : List Word) (changes : List Change) → AllByRecursion (λ change. IsPrintable names (undo_of change)) changes
    → AreRead names (undos_of changes)
lines_read names [] p = tt
lines_read names (change ∷ changes) p =
    let undos = undos_of changes in
    let undo = undo_of change in
    let back : undos_of (change ∷ changes) ≡ undos ++ undo ∷ [] = reverse-append (undo ∷ []) (map undo_of changes) in
    let more = one_more (map (undo_words names) undos) (undo_steps names undos) (undo_words names undo) (undo_step names undo)
    (lines_read names changes p.1) (line_read names undo p.0) in
    let lines = subst (λ (ls : List Word). AreSteps ls (undo_steps names undos ++ undo_step names undo ∷ []))
    (sym (map-append (undo_words names) undos (undo ∷ []))) more in
    let steps = subst (AreSteps (map (undo_words names) (undos ++ undo ∷ []))) (sym (map-append (undo_step names) undos (undo ∷ []))) lines in
    subst (AreRead names) (sym back) steps

-- ---- numbers of lines and of steps

lines_counted : (lines : List Word) (steps : List Step) → AreSteps lines steps → length lines ≡ length steps
lines_counted [] [] h = refl
lines_counted (line ∷ lines) (step ∷ steps) h = ap suc (lines_counted lines steps h.1)
lines_counted [] (step ∷ steps) h = absurd h
lines_counted (line ∷ lines) [] h = absurd h

changes_counted : (files : FileSet) (steps : List Step) (last : FileSet) (changes : List Change) → Runs files steps last changes
    → length changes ≡ length steps
changes_counted files [] last [] r = refl
changes_counted files (step ∷ steps) last (change ∷ changes) r = ap suc (changes_counted r.0.files steps last changes r.3)
changes_counted files [] last (change ∷ changes) r = absurd r
changes_counted files (step ∷ steps) last [] r = absurd r

undos_counted : (names : List Word) (changes : List Change) → length (map (undo_words names) (undos_of changes)) ≡ length changes
undos_counted names changes =
    length-map (undos_of changes) (undo_words names) ∙ length-reverse (map undo_of changes) ∙ length-map changes undo_of

-- what is printed of these steps back
abbrev AsPrinted : List Step → List Word → List Undo → Type 0
AsPrinted steps names undos = AreSteps (feed_lines (undo_text names undos)) (undo_steps names undos)
    × ((lines : List (List ℕ)) → IsBatch lines steps → IsBatch (feed_lines (undo_text names undos)) (undo_steps names undos))

module _ (rewrite : RenamingsRewrite) (places : UndosHavePlaces) where
  printable : (files : FileSet) (steps : List Step) (last : FileSet) (changes : List Change) → IsProject files → Runs files steps last changes
      → AllByRecursion (λ change. IsPrintable (names_of files.entries) (undo_of change)) changes
  unfolding Answers
  printable files steps last [] p r = tt
  printable files [] last (change ∷ changes) p r = absurd r
  printable files (step ∷ steps) last (change ∷ changes) p r =
      let done = r.0 in
      let place = places files step.target step.name done p r.1 in
      let source : file_of (names_of files.entries) done.undo_at.file ≡ place.source = ap (λ (o : Option Word). unwrap_or o []) place.source_at in
      let first : IsPrintable (names_of files.entries) (undo_of (change_of done)) = record {
        source = ap is_source_name source ∙ place.is_source;
        above = place.above;
        below = place.below;
        named = place.named;
      } in
      let names = (rewrite files step.target step.name done p r.1).names in
      let rest = printable done.files steps last changes (is_project rewrite files step done p r.1) r.3 in (
        subst (λ (c : Change). IsPrintable (names_of files.entries) (undo_of c)) (sym r.2) first,
        subst (λ (ns : List Word). AllByRecursion (λ c. IsPrintable ns (undo_of c)) changes) names rest,
      )

  pub undos_are_read : UndosAreRead
  undos_are_read files steps done p h =
      let names = names_of files.entries in
      let undos = undos_of done.done in
      let same = (kept rewrite files steps done.files done.done p h.run).names in
      let all = printable files steps done.files done.done p h.run in
      let cut : feed_lines (undo_text names undos) ≡ map (undo_words names) undos =
      cut_lines (map (undo_words names) undos) (lines_whole names done.done all) in
      let each : AreSteps (feed_lines (undo_text names undos)) (undo_steps names undos) =
      subst (λ (ls : List Word). AreSteps ls (undo_steps names undos)) (sym cut) (lines_read names done.done all) in
      let counted : length (feed_lines (undo_text names undos)) ≡ length steps =
      ap (λ (ls : List Word). length ls) cut ∙ undos_counted names done.done ∙ changes_counted files steps done.files done.done h.run in
      let back : AsPrinted steps names undos = (
        each,
        λ lines is. record {
          each = each;
          few = subst (λ (k : ℕ). k ≤ max_batch_lines) (sym (counted ∙ sym (lines_counted lines steps is.each))) is.few;
        },
      ) in
      subst (λ (ns : List Word). AsPrinted steps ns done.undo) (sym same) (subst (AsPrinted steps names) (sym h.undo) back)
