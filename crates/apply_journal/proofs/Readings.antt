-- The pieces of a plan: where bytes are cut, and that each piece is read in one way.
use Rattle.std.proofs.Common.{◌≡◌, ℕ, zero, suc, ◌+◌, ◌-◌, ◌^◌, ◌<◌, ◌≤◌, ◌==◌, ◌||◌, ◌&&◌, List, [], ◌∷◌, ◌++◌, Bool, true, false, cond, Option}
use Rattle.std.proofs.Common.{Some, None, length, take, drop, get_or, flat_map, nat_lt, codes, IfNone, IsTrue, ◌↔◌, All, not, sum_by, refl, sym, ap}
use Rattle.std.proofs.Common.{subst, ◌∙◌, append_assoc, length-drop, take-append-drop, arith}
use Rattle.std.specs.List.{list_any, list_all, position, position_or_len, AllByRecursion, IsAllAdjacentAnswer}
use Rattle.std.specs.Str.{bytes_eq, IsUtf8, IsAscii}
use Rattle.std.specs.declared.cmp.Ordering.{Ordering}
use Rattle.std.specs.declared.cmp.Ordering.TheVariants.{Less, Equal, Greater}
use Rattle.std.specs.List.Sorted.{IsStrictlySortedBy}
use Rattle.std.specs.Fmt.{decimal}
use Rattle.std.specs.Ordering.{nat_cmp, is_lt}
use Rattle.std.specs.Cmp.Lexicographic.{slice_cmp, nat_list_cmp_total, bytes_decides}
use Rattle.std.proofs.lemmas.Bool.Decides.{nat_tests}
use Rattle.std.proofs.lemmas.Fmt.{decimal_injective, IsAscii-decimal}
use Rattle.std.proofs.lemmas.List.{take_all, drop-drop, append_cancel_left, get_or-map, length-map}
use Rattle.std.proofs.lemmas.List.Elements.{All-from_recursion}
use Rattle.std.proofs.lemmas.Map.Keys.{sorted_from_all_adjacent, Less-from_sorted}
use Rattle.std.proofs.lemmas.Str.{IsUtf8-from_ascii, IsAscii-append}
use Rattle.std.proofs.lemmas.Str.Ascii.{IsAscii-nil, IsAscii-cons}
use Rattle.std.proofs.lemmas.List.Quantifiers.{position-Some}
use Rattle.std.proofs.lemmas.List.Sums.{fails_before_first}
use Rattle.rotor_base.specs.Files.{names_of}
use Rattle.rotor_base.specs.Stem.{is_source_name, is_body_name, is_face_name, is_stem_word, is_stem_byte, ends_stem}
use Rattle.rotor_base.specs.declared.source.SourceFile.{SourceFile}
use Rattle.rotor_base.proofs.Kept.{keep_limits, few_of}
use Rattle.apply_journal.specs.Plan.{line, file_of, plan_entry, IsPlan}
use Rattle.apply_journal.specs.Reading.{IsWithout, IsCut, IsNumber, IsHead, IsEntry, AreEntries}
use Rattle.apply_journal.proofs.Plans.{both_free, both_true, cut, entry_one, decimal_free, source_free}
use Rattle.apply_journal.proofs.Texts.{not_many, not_large}

-- ---- the first byte of a kind

is_itself : (c : ℕ) → (c == c) ≡ true
is_itself c = grind (arith, nat_tests)

pub is_equal : (b c : ℕ) → (b == c) ≡ true → b ≡ c
is_equal b c e = grind (arith, nat_tests)

-- a word that ends with a byte has it
pub has_end : (c : ℕ) (word rest : List ℕ) → IsWithout c ((word ++ c ∷ []) ++ rest) → ⊥
has_end c [] rest h = let bad : true ≡ false = sym (is_itself c) ∙ (both_free _ _ h).0 in cc
has_end c (b ∷ word) rest h = has_end c word rest (both_free _ _ h).1

none_met : (c : ℕ) (bs : List ℕ) → ((k : ℕ) → k < length bs → (get_or bs k 0 == c) ≡ false) → IsWithout c bs
none_met c [] h = refl
none_met c (b ∷ bs) h = both (b == c) (h 0 (omega arith)) (none_met c bs (λ k l. h (suc k) (omega arith))) where
  both : (t : Bool) → t ≡ false → IsWithout c bs → (t || list_any (λ b. b == c) bs) ≡ false
  both true e rest = cc
  both false e rest = rest

-- no position is found
pub is_without : (c : ℕ) (bs : List ℕ) → position (λ b. b == c) bs ≡ None → IsWithout c bs
is_without c bs e = none_met c bs
    (λ k l. fails_before_first (λ b. b == c) bs k 0 (below k l (nat_lt (position_or_len (λ b. b == c) bs) (length bs)) refl e)) where
      below : (k : ℕ) → k < length bs → (t : Bool) → nat_lt (position_or_len (λ b. b == c) bs) (length bs) ≡ t
          → cond t (Some (position_or_len (λ b. b == c) bs)) None ≡ None → k < position_or_len (λ b. b == c) bs
      below k l true f g = cc
      below k l false f g = grind arith

at_here : (c : ℕ) (bs : List ℕ) (i : ℕ) → i < length bs → (get_or bs i 0 == c) ≡ true → ((k : ℕ) → k < i → (get_or bs k 0 == c) ≡ false)
    → (bs ≡ (take i bs ++ c ∷ []) ++ drop (i + 1) bs) × IsWithout c (take i bs)
at_here c [] i l h none = absurd (omega arith)
at_here c (b ∷ bs) zero l h none = (ap (λ (v : ℕ). v ∷ bs) (is_equal b c h), refl)
at_here c (b ∷ bs) (suc i) l h none =
    let rest = at_here c bs i (omega arith) h (λ k m. none (suc k) (omega arith)) in (
      ap (λ (v : List ℕ). b ∷ v) rest.0 ∙ ap (λ (k : ℕ). (take (suc i) (b ∷ bs) ++ c ∷ []) ++ drop k (b ∷ bs)) next,
      both (b == c)
          (none 0 (omega arith)) rest.1,
    ) where
      next : suc (i + 1) ≡ suc i + 1
      next = omega arith

      both : (t : Bool) → t ≡ false → IsWithout c (take i bs) → (t || list_any (λ b. b == c) (take i bs)) ≡ false
      both true e rest = cc
      both false e rest = rest

-- a position is found, and the bytes are split there
pub is_cut : (c : ℕ) (bs word rest : List ℕ) (i : ℕ) → Some i ≡ position (λ b. b == c) bs → word ≡ take i bs → rest ≡ drop i bs
    → IsCut c bs word (take (length rest - 1) (drop 1 rest))
is_cut c bs word rest i e w r =
    let found = position-Some (λ b. b == c) bs i 0 (sym e) in
    let here = at_here c bs i found.0 found.1 found.2 in
    let tail : take (length rest - 1) (drop 1 rest) ≡ drop 1 rest = take_all (length rest - 1) (drop 1 rest) (omega (arith, length-drop 1 rest)) in
    let later : drop 1 rest ≡ drop (i + 1) bs = rw r (drop-drop 1 i bs) in
    record {
      split = here.0 ∙ ap (λ (v : List ℕ). (v ++ c ∷ []) ++ drop (i + 1) bs) (sym w)
          ∙ ap (λ (v : List ℕ). (word ++ c ∷ []) ++ v) (sym later ∙ sym tail);
      without = subst (IsWithout c) (sym w) here.1;
    }

pub if_none : {A : Type 0} (r : Option A) (P : Type 0) → P → IfNone r P
if_none None P p = p
if_none (Some x) P p = tt

-- bytes are cut in one way
pub one_cut : (c : ℕ) (bs word rest w r : List ℕ) → IsCut c bs word rest → bs ≡ (w ++ c ∷ []) ++ r → IsWithout c w → (word ≡ w) × (rest ≡ r)
one_cut c bs word rest w r h e f = cut c word w rest r h.without f (sym h.split ∙ e)

-- ---- words

pub unlike : (a b : List ℕ) (r : Bool) → r ≡ not (bytes_eq a b) → r ≡ true → a ≡ b → ⊥
unlike a b r e t s =
    let same : bytes_eq a b ≡ true = (bytes_decides a b).1 s in
    let bad : true ≡ false = sym t ∙ e ∙ ap not same in
    cc

pub alike : (a b : List ℕ) (r : Bool) → r ≡ not (bytes_eq a b) → r ≡ false → a ≡ b
alike a b r e f = (bytes_decides a b).0 (turned (bytes_eq a b) (sym e ∙ f)) where
  turned : (t : Bool) → not t ≡ false → t ≡ true
  turned true g = refl
  turned false g = cc

-- ---- numbers

pub number_cut : (limit : ℕ) (bs word rest : List ℕ) (n : ℕ) (r : List ℕ) → limit < 2 ^ 64 → IsCut 10 bs word rest → IsNumber limit bs n r
    → (word ≡ decimal n) × (rest ≡ r)
number_cut limit bs word rest n r l h k = one_cut 10 bs word rest (decimal n) r h k.split (decimal_free n (omega (arith, k.within)))

pub is_number : (limit : ℕ) (bs word rest : List ℕ) (n : ℕ) → IsCut 10 bs word rest → word ≡ decimal n → n ≤ limit → IsNumber limit bs n rest
is_number limit bs word rest n h w l = record { split = h.split ∙ ap (λ (v : List ℕ). line v ++ rest) w; within = l }

-- no line, so no number
pub no_number : (limit : ℕ) (bs : List ℕ) → IsWithout 10 bs → (n : ℕ) → (r : List ℕ) → IsNumber limit bs n r → ⊥
no_number limit bs h n r k = has_end 10 (decimal n) r (subst (IsWithout 10) k.split h)

one_number : (m n : ℕ) (xs ys : List ℕ) → m < 2 ^ 64 → n < 2 ^ 64 → line (decimal m) ++ xs ≡ line (decimal n) ++ ys → (m ≡ n) × (xs ≡ ys)
one_number m n xs ys l k e =
    let parts = cut 10 (decimal m) (decimal n) xs ys (decimal_free m l) (decimal_free n k) e in
    (decimal_injective m n l k parts.0, parts.1)

-- the word is no number
pub no_read_number : (limit : ℕ) (bs word rest : List ℕ) → limit < 2 ^ 32 → IsCut 10 bs word rest → ((n : ℕ) → n < 2 ^ 32 → word ≡ decimal n → ⊥)
    → (n : ℕ) → (r : List ℕ) → IsNumber limit bs n r → ⊥
no_read_number limit bs word rest l h none n r k =
    let most = k.within in
    none n (omega (arith, l, most)) (number_cut limit bs word rest n r (omega (arith, l)) h k).0

-- the number is too great
pub too_great : (limit : ℕ) (bs word rest : List ℕ) (m : ℕ) → limit < 2 ^ 32 → IsCut 10 bs word rest → word ≡ decimal m → m < 2 ^ 32 → limit < m
    → (n : ℕ) → (r : List ℕ) → IsNumber limit bs n r → ⊥
too_great limit bs word rest m l h e b g n r k =
    let most = k.within in
    let same : m ≡ n = decimal_injective m n (omega (arith, b)) (omega (arith, l, most))
    (sym e ∙ (number_cut limit bs word rest n r (omega (arith, l)) h k).0) in
    absurd (omega (arith, same, g, most))

-- ---- texts

pub decimal_utf8 : (n : ℕ) (word : List ℕ) → n < 2 ^ 32 → word ≡ decimal n → IsUtf8 word
decimal_utf8 n word l e = subst IsUtf8 (sym e) (IsUtf8-from_ascii (decimal n) (IsAscii-decimal n (omega arith)))

stem_small : (b : ℕ) → is_stem_byte b ≡ true → b < 128
stem_small b e = grind (arith, nat_tests)

stem_ascii : (xs : List ℕ) → list_all is_stem_byte xs ≡ true → IsAscii xs
stem_ascii [] h = IsAscii-nil
stem_ascii (x ∷ xs) h = IsAscii-cons x xs (stem_small x (both_true _ _ h).0) (stem_ascii xs (both_true _ _ h).1)

word_ascii : (xs : List ℕ) → is_stem_word xs ≡ true → IsAscii xs
word_ascii [] h = cc
word_ascii (x ∷ xs) h = stem_ascii (x ∷ xs) (both_true _ _ h).1

ended_ascii : (ending name : List ℕ) → IsAscii ending → ends_stem ending name ≡ true → IsAscii name
unfolding ends_stem
ended_ascii ending name f h =
    let n = length name - length ending in
    let t = both_true _ _ h in
    let end : drop n name ≡ ending = (bytes_decides (drop n name) ending).0 t.0 in
    let whole : IsAscii (take n name ++ drop n name) = IsAscii-append (take n name) (drop n name) (word_ascii (take n name) t.1)
    (subst IsAscii (sym end) f) in
    subst IsAscii (take-append-drop n name) whole

ml_ascii : IsAscii (codes ".ml")
ml_ascii = IsAscii-cons 46 (109 ∷ 108 ∷ []) (omega arith) (IsAscii-cons 109 (108 ∷ []) (omega arith) (IsAscii-cons 108 [] (omega arith) IsAscii-nil))

mli_ascii : IsAscii (codes ".mli")
mli_ascii =
    IsAscii-cons 46 (109 ∷ 108 ∷ 105 ∷ []) (omega arith)
    (IsAscii-cons 109 (108 ∷ 105 ∷ []) (omega arith) (IsAscii-cons 108 (105 ∷ []) (omega arith) (IsAscii-cons 105 [] (omega arith) IsAscii-nil)))

-- the name of a source is a text
pub source_utf8 : (name : List ℕ) → is_source_name name ≡ true → IsUtf8 name
source_utf8 name h = IsUtf8-from_ascii name (by (is_body_name name) refl h) where
  by : (b : Bool) → is_body_name name ≡ b → (b || is_face_name name) ≡ true → IsAscii name
  by true e t = ended_ascii (codes ".ml") name ml_ascii e
  by false e t = ended_ascii (codes ".mli") name mli_ascii t

-- ---- a file

-- the name of a source in a plan, and what follows the space
pub entry_cut : (bs name rest : List ℕ) (f : SourceFile) (r : List ℕ) → IsCut 32 bs name rest → IsEntry bs f r
    → (name ≡ f.name) × (rest ≡ line (decimal (length f.bytes)) ++ (line f.bytes ++ r))
entry_cut bs name rest f r h k =
    let all : bs ≡ (f.name ++ 32 ∷ []) ++ ((line (decimal (length f.bytes)) ++ line f.bytes) ++ r) = k.split
    ∙ append_assoc (f.name ++ 32 ∷ []) (line (decimal (length f.bytes)) ++ line f.bytes) r in
    let parts = one_cut 32 bs name rest f.name ((line (decimal (length f.bytes)) ++ line f.bytes) ++ r) h all (source_free f.name k.named) in
    (parts.0, parts.1 ∙ append_assoc (line (decimal (length f.bytes))) (line f.bytes) r)

pub is_entry : (bs name after_name after_len content rest : List ℕ) (len : ℕ) → IsCut 32 bs name after_name → is_source_name name ≡ true
    → IsNumber 1048576 after_name len after_len
    → length content ≡ len → after_len ≡ line content ++ rest → IsEntry bs (file_of name content) rest
is_entry bs name after_name after_len content rest len h s n l e =
    let body : after_name ≡ (line (decimal (length content)) ++ line content) ++ rest =
    n.split ∙ ap (λ (k : ℕ). line (decimal k) ++ after_len) (sym l) ∙ ap (λ (v : List ℕ). line (decimal (length content)) ++ v) e
    ∙ sym (append_assoc (line (decimal (length content))) (line content) rest) in
    record {
      split = h.split ∙ ap (λ (v : List ℕ). (name ++ 32 ∷ []) ++ v) body
          ∙ sym (append_assoc (name ++ 32 ∷ []) (line (decimal (length content)) ++ line content) rest);
      named = s;
      small = omega (arith, l, n.within);
    }

-- no space, so no file
pub no_entry : (bs : List ℕ) → IsWithout 32 bs → (f : SourceFile) → (r : List ℕ) → IsEntry bs f r → ⊥
no_entry bs h f r k =
    has_end 32 f.name ((line (decimal (length f.bytes)) ++ line f.bytes) ++ r)
    (subst (IsWithout 32) (k.split ∙ append_assoc (f.name ++ 32 ∷ []) (line (decimal (length f.bytes)) ++ line f.bytes) r) h)

-- the name is no text, or not that of a source
pub no_text : (bs name rest : List ℕ) → IsCut 32 bs name rest → (IsUtf8 name → ⊥) → (f : SourceFile) → (r : List ℕ) → IsEntry bs f r → ⊥
no_text bs name rest h none f r k = none (subst IsUtf8 (sym (entry_cut bs name rest f r h k).0) (source_utf8 f.name k.named))

pub no_source : (bs name rest text : List ℕ) (t : Bool) → IsCut 32 bs name rest → text ≡ name → t ≡ is_source_name text → t ≡ false → (f : SourceFile)
    → (r : List ℕ) → IsEntry bs f r → ⊥
no_source bs name rest text t h s e g f r k =
    let bad : false ≡ true = sym g ∙ e ∙ ap is_source_name (s ∙ (entry_cut bs name rest f r h k).0) ∙ k.named in
    cc

-- no number behind the name
pub no_length : (bs name rest : List ℕ) → IsCut 32 bs name rest → ((n : ℕ) → (r : List ℕ) → IsNumber 1048576 rest n r → ⊥) → (f : SourceFile)
    → (r : List ℕ) → IsEntry bs f r → ⊥
no_length bs name rest h none f r k =
    none (length f.bytes) (line f.bytes ++ r) (record { split = (entry_cut bs name rest f r h k).1; within = k.small })

-- the length that is read is the file's
pub no_content : (bs name rest : List ℕ) (len : ℕ) (behind : List ℕ) → IsCut 32 bs name rest → IsNumber 1048576 rest len behind
    → ((word : List ℕ) → (r : List ℕ) → length word ≡ len → behind ≡ line word ++ r → ⊥) → (f : SourceFile) → (r : List ℕ) → IsEntry bs f r → ⊥
no_content bs name rest len behind h n none f r k =
    let small = k.small in
    let parts = one_number len (length f.bytes) behind (line f.bytes ++ r) (omega (arith, n.within)) (omega (arith, small))
    (sym n.split ∙ (entry_cut bs name rest f r h k).1) in
    none f.bytes r (sym parts.0) parts.1

-- a file is read in one way
pub one_entry : (bs : List ℕ) (f g : SourceFile) (xs ys : List ℕ) → IsEntry bs f xs → IsEntry bs g ys → (f ≡ g) × (xs ≡ ys)
one_entry bs f g xs ys h k =
    let small = h.small in
    let little = k.small in
    entry_one f g xs ys h.named k.named (omega (arith, small)) (omega (arith, little)) (sym h.split ∙ k.split)

-- ---- files

pub entries_push : (bs : List ℕ) (fs : List SourceFile) (f : SourceFile) (mid rest : List ℕ) → AreEntries bs fs mid → IsEntry mid f rest
    → AreEntries bs (fs ++ f ∷ []) rest
entries_push bs [] f mid rest h k = (rest, subst (λ (v : List ℕ). IsEntry v f rest) (sym h) k, refl)
entries_push bs (g ∷ fs) f mid rest h k = (h.0, h.1, entries_push h.0 fs f mid rest h.2 k)

-- if fewer files are read than there are, one more is read
pub entries_go_on : (bs : List ℕ) (fs gs : List SourceFile) (mid rest : List ℕ) → AreEntries bs fs mid → AreEntries bs gs rest → length fs < length gs
    → (f : SourceFile) × (r : List ℕ) × IsEntry mid f r
entries_go_on bs [] [] mid rest h k l = absurd (omega arith)
entries_go_on bs [] (g ∷ gs) mid rest h k l = (g, k.0, subst (λ (v : List ℕ). IsEntry v g k.0) h k.1)
entries_go_on bs (f ∷ fs) [] mid rest h k l = absurd (omega arith)
entries_go_on bs (f ∷ fs) (g ∷ gs) mid rest h k l =
    let one = one_entry bs f g h.0 k.0 h.1 k.1 in
    entries_go_on k.0 fs gs mid rest (subst (λ (v : List ℕ). AreEntries v fs mid) one.1 h.2) k.2 (omega arith)

pub no_more_entries : (bs : List ℕ) (fs : List SourceFile) (mid : List ℕ) (count : ℕ) → AreEntries bs fs mid → length fs < count
    → ((f : SourceFile) → (r : List ℕ) → IsEntry mid f r → ⊥)
    → (gs : List SourceFile) → (rest : List ℕ) → length gs ≡ count → AreEntries bs gs rest → ⊥
no_more_entries bs fs mid count h l none gs rest e k = let more = entries_go_on bs fs gs mid rest h k (omega (arith, l, e)) in
    none more.0 more.1 more.2

-- as many files are read in one way
pub one_entries : (bs : List ℕ) (fs gs : List SourceFile) (xs ys : List ℕ) → AreEntries bs fs xs → AreEntries bs gs ys → length fs ≡ length gs
    → (fs ≡ gs) × (xs ≡ ys)
one_entries bs [] [] xs ys h k l = (refl, sym h ∙ k)
one_entries bs [] (g ∷ gs) xs ys h k l = absurd (omega (arith, l))
one_entries bs (f ∷ fs) [] xs ys h k l = absurd (omega (arith, l))
one_entries bs (f ∷ fs) (g ∷ gs) xs ys h k l =
    let one = one_entry bs f g h.0 k.0 h.1 k.1 in
    let rest = one_entries k.0 fs gs xs ys (subst (λ (v : List ℕ). AreEntries v fs xs) one.1 h.2) k.2 (omega (arith, l)) in
    (ap (λ (v : SourceFile). v ∷ fs) one.0 ∙ ap (λ (vs : List SourceFile). g ∷ vs) rest.0, rest.1)

-- the text of files that are read
pub entries_text : (bs : List ℕ) (fs : List SourceFile) (rest : List ℕ) → AreEntries bs fs rest → bs ≡ flat_map plan_entry fs ++ rest
entries_text bs [] rest h = h
entries_text bs (f ∷ fs) rest h =
    let one = h.1 in
    one.split ∙ ap (λ (v : List ℕ). plan_entry f ++ v) (entries_text h.0 fs rest h.2)
    ∙ sym (append_assoc (plan_entry f) (flat_map plan_entry fs) rest)

pub entries_named : (bs : List ℕ) (fs : List SourceFile) (rest : List ℕ) → AreEntries bs fs rest → list_all is_source_name (names_of fs) ≡ true
entries_named bs [] rest h = refl
entries_named bs (f ∷ fs) rest h = let one = h.1 in all (is_source_name f.name) one.named (entries_named h.0 fs rest h.2) where
  all : (t : Bool) → t ≡ true → list_all is_source_name (names_of fs) ≡ true → (t && list_all is_source_name (names_of fs)) ≡ true
  all true e rest = rest
  all false e rest = cc

at_most : (m n : ℕ) → nat_lt m n ≡ false → n ≤ m
at_most m n e = grind arith

-- the files of a plan are read
pub entries_of_plan : (fs : List SourceFile) (rest : List ℕ) → list_all is_source_name (names_of fs) ≡ true
    → list_any (λ file. nat_lt 1048576 (length file.bytes)) fs ≡ false
    → AreEntries (flat_map plan_entry fs ++ rest) fs rest
entries_of_plan [] rest n s = refl
entries_of_plan (f ∷ fs) rest n s =
    let one : IsEntry (flat_map plan_entry (f ∷ fs) ++ rest) f (flat_map plan_entry fs ++ rest) = record {
      split = append_assoc (plan_entry f) (flat_map plan_entry fs) rest;
      named = (both_true _ _ n).0;
      small = at_most 1048576 (length f.bytes) (both_free _ _ s).0;
    } in
    (flat_map plan_entry fs ++ rest, one, entries_of_plan fs rest (both_true _ _ n).1 (both_free _ _ s).1)

-- ---- the lines above the files

abbrev title : List ℕ
title = codes "rotor-plan 1"

abbrev counted : List ℕ
counted = codes "files"

pub head_cut : (bs first rest : List ℕ) (n : ℕ) (r : List ℕ) → IsCut 10 bs first rest → IsHead bs n r
    → (first ≡ title) × (rest ≡ (codes "files " ++ line (decimal n)) ++ r)
head_cut bs first rest n r h k = one_cut 10 bs first rest title ((codes "files " ++ line (decimal n)) ++ r) h k.split refl

pub no_title : (bs : List ℕ) → IsWithout 10 bs → (n : ℕ) → (r : List ℕ) → IsHead bs n r → ⊥
no_title bs h n r k = has_end 10 title ((codes "files " ++ line (decimal n)) ++ r) (subst (IsWithout 10) k.split h)

pub count_cut : (bs first rest word behind : List ℕ) (n : ℕ) (r : List ℕ) → IsCut 10 bs first rest → IsCut 32 rest word behind → IsHead bs n r
    → (word ≡ counted) × (behind ≡ line (decimal n) ++ r)
count_cut bs first rest word behind n r h c k = one_cut 32 rest word behind counted (line (decimal n) ++ r) c (head_cut bs first rest n r h k).1 refl

pub no_count : (bs first rest : List ℕ) → IsCut 10 bs first rest → IsWithout 32 rest → (n : ℕ) → (r : List ℕ) → IsHead bs n r → ⊥
no_count bs first rest h f n r k = has_end 32 counted (line (decimal n) ++ r) (subst (IsWithout 32) (head_cut bs first rest n r h k).1 f)

pub no_head_number : (bs first rest word behind : List ℕ) → IsCut 10 bs first rest → IsCut 32 rest word behind
    → ((n : ℕ) → (r : List ℕ) → IsNumber 2000 behind n r → ⊥)
    → (n : ℕ) → (r : List ℕ) → IsHead bs n r → ⊥
no_head_number bs first rest word behind h c none n r k =
    none n r (record { split = (count_cut bs first rest word behind n r h c k).1; within = k.few })

pub is_head : (bs first rest word behind : List ℕ) (n : ℕ) (r : List ℕ) → IsCut 10 bs first rest → IsCut 32 rest word behind → first ≡ title
    → word ≡ counted → IsNumber 2000 behind n r → IsHead bs n r
is_head bs first rest word behind n r h c f w k = record {
  split = h.split ∙ ap (λ (v : List ℕ). line v ++ rest) f
      ∙ ap (λ (v : List ℕ). line title ++ v)
      (c.split ∙ ap (λ (v : List ℕ). (v ++ 32 ∷ []) ++ behind) w ∙ ap (λ (v : List ℕ). (counted ++ 32 ∷ []) ++ v) k.split);
  few = k.within;
}

one_head : (bs : List ℕ) (m n : ℕ) (xs ys : List ℕ) → IsHead bs m xs → IsHead bs n ys → (m ≡ n) × (xs ≡ ys)
one_head bs m n xs ys h k =
    let few = h.few in
    let little = k.few in
    one_number m n xs ys (omega (arith, few)) (omega (arith, little))
    (append_cancel_left (line title ++ codes "files ") (line (decimal m) ++ xs) (line (decimal n) ++ ys) (sym h.split ∙ k.split))

pub wrong_title : (bs first rest : List ℕ) (r : Bool) → IsCut 10 bs first rest → r ≡ not (bytes_eq first (codes "rotor-plan 1")) → r ≡ true → (n : ℕ)
    → (behind : List ℕ) → IsHead bs n behind → ⊥
wrong_title bs first rest r h e t n behind k = unlike first title r e t (head_cut bs first rest n behind h k).0

pub wrong_count : (bs first rest word behind : List ℕ) (r : Bool) → IsCut 10 bs first rest → IsCut 32 rest word behind
    → r ≡ not (bytes_eq word (codes "files")) → r ≡ true
    → (n : ℕ) → (more : List ℕ) → IsHead bs n more → ⊥
wrong_count bs first rest word behind r h c e t n more k = unlike word counted r e t (count_cut bs first rest word behind n more h c k).0

-- ---- the whole plan

pub plan_head : (bs : List ℕ) (fs : List SourceFile) → IsPlan bs fs → IsHead bs (length fs) (flat_map plan_entry fs ++ line (codes "end"))
plan_head bs fs h = record { split = h.written; few = few_of fs h.few }

plan_files : (bs : List ℕ) (fs : List SourceFile) → IsPlan bs fs → AreEntries (flat_map plan_entry fs ++ line (codes "end")) fs (line (codes "end"))
plan_files bs fs h = entries_of_plan fs (line (codes "end")) h.sources.named (both_free _ _ (keep_limits fs h.small)).0

-- the number that is read is that of the plan, and so are the files
pub plan_rest : (bs : List ℕ) (fs : List SourceFile) (count : ℕ) (rest : List ℕ) → IsPlan bs fs → IsHead bs count rest
    → (count ≡ length fs) × AreEntries rest fs (line (codes "end"))
plan_rest bs fs count rest h k =
    let one = one_head bs count (length fs) rest (flat_map plan_entry fs ++ line (codes "end")) k (plan_head bs fs h) in
    (one.0, subst (λ (v : List ℕ). AreEntries v fs (line (codes "end"))) (sym one.1) (plan_files bs fs h))

pub plan_read : (bs : List ℕ) (fs gs : List SourceFile) (count : ℕ) (rest end : List ℕ) → IsHead bs count rest → length gs ≡ count
    → AreEntries rest gs end → IsPlan bs fs → (gs ≡ fs) × (end ≡ line (codes "end"))
plan_read bs fs gs count rest end h l e p =
    let found = plan_rest bs fs count rest p h in
    one_entries rest gs fs end (line (codes "end")) e found.1 (l ∙ found.0)

pub no_head : (bs : List ℕ) → ((n : ℕ) → (r : List ℕ) → IsHead bs n r → ⊥) → (fs : List SourceFile) → IsPlan bs fs → ⊥
no_head bs none fs p = none (length fs) (flat_map plan_entry fs ++ line (codes "end")) (plan_head bs fs p)

pub wrong_end : (bs : List ℕ) (gs : List SourceFile) (count : ℕ) (rest end : List ℕ) (r : Bool) → IsHead bs count rest → length gs ≡ count
    → AreEntries rest gs end
    → r ≡ not (bytes_eq end (line (codes "end"))) → r ≡ true → (fs : List SourceFile) → IsPlan bs fs → ⊥
wrong_end bs gs count rest end r h l e d t fs p = unlike end (line (codes "end")) r d t (plan_read bs fs gs count rest end h l e p).1

pub no_files : (bs : List ℕ) (count : ℕ) (rest : List ℕ) → IsHead bs count rest
    → ((fs : List SourceFile) → (r : List ℕ) → length fs ≡ count → AreEntries rest fs r → ⊥) → (fs : List SourceFile) → IsPlan bs fs → ⊥
no_files bs count rest h none fs p = let found = plan_rest bs fs count rest p h in none fs (line (codes "end")) (sym found.0) found.1

entries_small : (bs : List ℕ) (fs : List SourceFile) (rest : List ℕ) → AreEntries bs fs rest
    → list_any (λ file. nat_lt 1048576 (length file.bytes)) fs ≡ false
entries_small bs [] rest h = refl
entries_small bs (f ∷ fs) rest h = let one = h.1 in none (nat_lt 1048576 (length f.bytes)) (fits (length f.bytes) one.small)
    (entries_small h.0 fs rest h.2) where
      fits : (n : ℕ) → n ≤ 1048576 → nat_lt 1048576 n ≡ false
      fits n l = grind (arith, nat_tests)

      none : (t : Bool) → t ≡ false → list_any (λ file. nat_lt 1048576 (length file.bytes)) fs ≡ false
          → (t || list_any (λ file. nat_lt 1048576 (length file.bytes)) fs) ≡ false
      none true e rest = cc
      none false e rest = rest

each_small : (bs : List ℕ) (fs : List SourceFile) (rest : List ℕ) → AreEntries bs fs rest → AllByRecursion (λ file. length file.bytes ≤ 1048576) fs
each_small bs [] rest h = tt
each_small bs (f ∷ fs) rest h = let one = h.1 in (one.small, each_small h.0 fs rest h.2)

-- each file that is read keeps the limit on its bytes
pub all_small : (bs : List ℕ) (fs : List SourceFile) (rest : List ℕ) → AreEntries bs fs rest → All (λ file. length file.bytes ≤ 1048576) fs
all_small bs fs rest h = All-from_recursion (λ file. length file.bytes ≤ 1048576) fs (each_small bs fs rest h)

plan_total : (bs : List ℕ) (fs : List SourceFile) → IsPlan bs fs → sum_by (λ file. length file.bytes) fs ≤ 8388608
plan_total bs fs h = at_most 8388608 (sum_by (λ file. length file.bytes) fs) (both_free _ _ (keep_limits fs h.small)).1

-- files that are not in order, or that are too large together, are no plan's
pub no_order : (bs : List ℕ) (gs : List SourceFile) (count : ℕ) (rest end : List ℕ) (r : Bool) → IsHead bs count rest → length gs ≡ count
    → AreEntries rest gs end
    → (IsTrue r ↔ IsStrictlySortedBy (slice_cmp nat_cmp) (names_of gs)) → r ≡ false → (fs : List SourceFile) → IsPlan bs fs → ⊥
no_order bs gs count rest end r h l e d f fs p =
    let sources = p.sources in
    let same = (plan_read bs fs gs count rest end h l e p).0 in
    let bad : false ≡ true = sym f
    ∙ d.1 (subst (λ (v : List SourceFile). IsStrictlySortedBy (slice_cmp nat_cmp) (names_of v)) (sym same) sources.ordered) in
    cc

pub no_total : (bs : List ℕ) (gs : List SourceFile) (count : ℕ) (rest end : List ℕ) (r : Bool) → IsHead bs count rest → length gs ≡ count
    → AreEntries rest gs end
    → (IsTrue r ↔ (sum_by (λ file. length file.bytes) gs ≤ 8388608)) → r ≡ false → (fs : List SourceFile) → IsPlan bs fs → ⊥
no_total bs gs count rest end r h l e d f fs p =
    let same = (plan_read bs fs gs count rest end h l e p).0 in
    let bad : false ≡ true = sym f
    ∙ d.1 (subst (λ (v : List SourceFile). sum_by (λ file. length file.bytes) v ≤ 8388608) (sym same) (plan_total bs fs p)) in
    cc

pub is_plan : (bs : List ℕ) (fs : List SourceFile) (count : ℕ) (rest end : List ℕ) → length bs ≤ 16777216 → IsHead bs count rest → length fs ≡ count
    → AreEntries rest fs end → end ≡ line (codes "end")
    → IsStrictlySortedBy (slice_cmp nat_cmp) (names_of fs) → sum_by (λ file. length file.bytes) fs ≤ 8388608 → IsPlan bs fs
is_plan bs fs count rest end s h l e last order total =
    let few = h.few in
    record {
      written = h.split ∙ ap (λ (k : ℕ). line title ++ ((codes "files " ++ line (decimal k)) ++ rest)) (sym l)
          ∙ ap (λ (v : List ℕ). line title ++ ((codes "files " ++ line (decimal (length fs))) ++ v))
          (entries_text rest fs end e ∙ ap (λ (v : List ℕ). flat_map plan_entry fs ++ v) last);
      sources = record { named = entries_named rest fs end e; ordered = order };
      few = not_many fs (omega (arith, l, few));
      small = not_large fs (entries_small rest fs end e) total;
      short = s;
    }

-- ---- the order of the files

order_by : (fs : List SourceFile)
    → ((k : ℕ) → (d : SourceFile) → k + 1 < length fs → true ≡ is_lt (slice_cmp nat_cmp (get_or fs k d).name (get_or fs (k + 1) d).name))
    → IsStrictlySortedBy (slice_cmp nat_cmp) (names_of fs)
order_by fs h = sorted_from_all_adjacent nat_list_cmp_total (names_of fs) []
    (λ k l. step k (omega (arith, l, length-map fs (λ (f : SourceFile). f.name)))) where
      none : SourceFile
      none = file_of [] []

      less : (o : Ordering) → true ≡ is_lt o → o ≡ Less
      less Less e = refl
      less Equal e = cc
      less Greater e = cc

      step : (k : ℕ) → k + 1 < length fs → slice_cmp nat_cmp (get_or (names_of fs) k []) (get_or (names_of fs) (k + 1) []) ≡ Less
      step k l =
          ap (λ (v : List ℕ). slice_cmp nat_cmp v (get_or (names_of fs) (k + 1) []))
          (get_or-map (λ (f : SourceFile). f.name) fs k none [] (omega (arith, l)))
          ∙ ap (λ (v : List ℕ). slice_cmp nat_cmp (get_or fs k none).name v) (get_or-map (λ (f : SourceFile). f.name) fs (k + 1) none [] l)
          ∙ less _ (h k none l)

order_at : (fs : List SourceFile) (k : ℕ) → k + 1 < length fs → IsStrictlySortedBy (slice_cmp nat_cmp) (names_of fs)
    → is_lt (slice_cmp nat_cmp (get_or fs k (file_of [] [])).name (get_or fs (k + 1) (file_of [] [])).name) ≡ true
order_at fs k l s =
    let none = file_of [] [] in
    let count = length-map fs (λ (f : SourceFile). f.name) in
    let less : slice_cmp nat_cmp (get_or (names_of fs) k []) (get_or (names_of fs) (k + 1) []) ≡ Less =
    Less-from_sorted (slice_cmp nat_cmp) (names_of fs) k (k + 1) [] s (omega arith) (omega (arith, l, count)) in
    ap is_lt (sym (ap (λ (v : List ℕ). slice_cmp nat_cmp v (get_or (names_of fs) (k + 1) []))
    (get_or-map (λ (f : SourceFile). f.name) fs k none [] (omega (arith, l)))
    ∙ ap (λ (v : List ℕ). slice_cmp nat_cmp (get_or fs k none).name v) (get_or-map (λ (f : SourceFile). f.name) fs (k + 1) none [] l)) ∙ less)

pub order_decided : (fs : List SourceFile) (r : Bool) → IsAllAdjacentAnswer (λ x y b. b ≡ is_lt (slice_cmp nat_cmp x.name y.name)) fs r → IsTrue r
    ↔ IsStrictlySortedBy (slice_cmp nat_cmp) (names_of fs)
order_decided fs true h = (λ t. order_by fs h, λ s. refl)
order_decided fs false h = (λ t. cc, λ s. let bad : false ≡ true = h.2 (file_of [] []) ∙ order_at fs h.0 h.1 s in cc)
