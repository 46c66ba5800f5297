-- The bytes of a plan are the plan of one list of files at most.
use Rattle.std.proofs.Common.{◌≡◌, ℕ, ◌+◌, ◌-◌, ◌%◌, ◌^◌, ◌<◌, ◌≤◌, ◌==◌, ◌&&◌, ◌||◌, List, [], ◌∷◌, ◌++◌, Bool, true, false, length, take, drop}
use Rattle.std.proofs.Common.{flat_map, nat_lt, codes, refl, sym, ap, subst, ◌∙◌, append_assoc, arith, take-append-drop}
use Rattle.std.specs.Fmt.{decimal}
use Rattle.std.specs.List.{list_any, list_all}
use Rattle.std.specs.Cmp.Lexicographic.{bytes_decides}
use Rattle.std.proofs.lemmas.Fmt.{decimal_by_steps, decimal_injective}
use Rattle.std.proofs.lemmas.List.{append_cancel_left}
use Rattle.std.proofs.lemmas.Bool.Decides.{nat_tests}
use Rattle.rotor_base.specs.Files.{names_of}
use Rattle.rotor_base.specs.Stem.{is_source_name, is_body_name, is_face_name, is_stem_word, is_stem_byte, ends_stem}
use Rattle.rotor_base.specs.declared.source.SourceFile.{SourceFile}
use Rattle.rotor_base.proofs.Kept.{keep_limits, few_of}
use Rattle.apply_journal.specs.Plan.{line, plan_entry, plan_text, IsPlan}

-- ---- words without a byte

-- no byte of the word is c
abbrev pub Free : ℕ → List ℕ → Type 0
Free c word = list_any (λ b. b == c) word ≡ false

pub both_free : (a b : Bool) → (a || b) ≡ false → (a ≡ false) × (b ≡ false)
both_free true b e = cc
both_free false b e = (refl, e)

pub both_true : (a b : Bool) → (a && b) ≡ true → (a ≡ true) × (b ≡ true)
both_true true b e = (refl, e)
both_true false b e = cc

pub free-append : (c : ℕ) (xs ys : List ℕ) → Free c xs → Free c ys → Free c (xs ++ ys)
free-append c [] ys f g = g
free-append c (x ∷ xs) ys f g = by (x == c) f (free-append c xs ys) where
  by : (b : Bool) → (b || list_any (λ b. b == c) xs) ≡ false → (Free c xs → Free c ys → Free c (xs ++ ys))
      → (b || list_any (λ b. b == c) (xs ++ ys)) ≡ false
  by true e rest = cc
  by false e rest = rest e g

not_itself : (c x : ℕ) → c ≡ x → (x == c) ≡ false → ⊥
not_itself c x e f = grind (arith, nat_tests)

-- the first c ends a word
pub cut : (c : ℕ) (xs zs ys ws : List ℕ) → Free c xs → Free c zs → (xs ++ c ∷ []) ++ ys ≡ (zs ++ c ∷ []) ++ ws → (xs ≡ zs) × (ys ≡ ws)
cut c [] [] ys ws f g e = (refl, ap (drop 1) e)
cut c [] (z ∷ zs) ys ws f g e = let same : c ≡ z = cc in absurd (not_itself c z same (both_free _ _ g).0)
cut c (x ∷ xs) [] ys ws f g e = let same : c ≡ x = cc in absurd (not_itself c x same (both_free _ _ f).0)
cut c (x ∷ xs) (z ∷ zs) ys ws f g e =
    let same : x ≡ z = cc in
    let rest = cut c xs zs ys ws (both_free _ _ f).1 (both_free _ _ g).1 (ap (drop 1) e) in
    (ap (λ (v : ℕ). v ∷ xs) same ∙ ap (λ (vs : List ℕ). z ∷ vs) rest.0, rest.1)

-- words of one length
pub split_same : (xs zs ys ws : List ℕ) → length xs ≡ length zs → xs ++ ys ≡ zs ++ ws → (xs ≡ zs) × (ys ≡ ws)
split_same [] [] ys ws l e = (refl, e)
split_same [] (z ∷ zs) ys ws l e = absurd (omega (arith, l))
split_same (x ∷ xs) [] ys ws l e = absurd (omega (arith, l))
split_same (x ∷ xs) (z ∷ zs) ys ws l e =
    let same : x ≡ z = cc in
    let rest = split_same xs zs ys ws (omega (arith, l)) (ap (drop 1) e) in
    (ap (λ (v : ℕ). v ∷ xs) same ∙ ap (λ (vs : List ℕ). z ∷ vs) rest.0, rest.1)

digit_free : (d : ℕ) → d < 10 → Free 10 ((48 + d) ∷ [])
digit_free d h = grind (arith, nat_tests)

-- a number has no LF
pub decimal_free : (n : ℕ) → n < 2 ^ 64 → Free 10 (decimal n)
decimal_free = decimal_by_steps (λ m ds. Free 10 ds) (λ m l. digit_free m l)
    (λ m ds l h. free-append 10 ds ((48 + m % 10) ∷ []) h (digit_free (m % 10) (omega arith)))

-- ---- the name of a source has no space

stem_free : (xs : List ℕ) → list_all is_stem_byte xs ≡ true → Free 32 xs
stem_free [] h = refl
stem_free (x ∷ xs) h = let t = both_true _ _ h in by (x == 32) refl (stem_free xs t.1) where
  other : x ≡ 32 → is_stem_byte x ≡ true → ⊥
  other e t = let bad : false ≡ true = ap is_stem_byte (sym e) ∙ t in cc

  space : (x == 32) ≡ true → x ≡ 32
  space e = grind (arith, nat_tests)

  by : (b : Bool) → (x == 32) ≡ b → Free 32 xs → (b || list_any (λ b. b == 32) xs) ≡ false
  by true e rest = absurd (other (space e) (both_true _ _ h).0)
  by false e rest = rest

word_free : (xs : List ℕ) → is_stem_word xs ≡ true → Free 32 xs
word_free [] h = cc
word_free (x ∷ xs) h = stem_free (x ∷ xs) (both_true _ _ h).1

ended_free : (ending name : List ℕ) → Free 32 ending → ends_stem ending name ≡ true → Free 32 name
unfolding ends_stem
ended_free ending name f h =
    let n = length name - length ending in
    let t = both_true _ _ h in
    let end : drop n name ≡ ending = (bytes_decides (drop n name) ending).0 t.0 in
    let whole : Free 32 (take n name ++ drop n name) = free-append 32 (take n name) (drop n name) (word_free (take n name) t.1)
    (subst (Free 32) (sym end) f) in
    subst (Free 32) (take-append-drop n name) whole

pub source_free : (name : List ℕ) → is_source_name name ≡ true → Free 32 name
source_free name h = by (is_body_name name) refl h where
  by : (b : Bool) → is_body_name name ≡ b → (b || is_face_name name) ≡ true → Free 32 name
  by true e t = ended_free (codes ".ml") name refl e
  by false e t = ended_free (codes ".mli") name refl t

-- ---- the files of a plan

at_most : (m n : ℕ) → nat_lt m n ≡ false → n ≤ m
at_most m n e = grind arith

-- sources that a plan can list
abbrev pub Entries : List SourceFile → Type 0
Entries [] = Unit {0}
Entries (f ∷ fs) = (is_source_name f.name ≡ true) × (length f.bytes < 2 ^ 64) × Entries fs

entries_by : (fs : List SourceFile) → list_all is_source_name (names_of fs) ≡ true → list_any (λ file. nat_lt 1048576 (length file.bytes)) fs ≡ false
    → Entries fs
entries_by [] n s = tt
entries_by (f ∷ fs) n s =
    let t = both_true _ _ n in
    let u = both_free _ _ s in
    let small = at_most 1048576 (length f.bytes) u.0 in
    (t.0, omega (arith, small), entries_by fs t.1 u.1)

pub plan_entries : (bytes : List ℕ) (fs : List SourceFile) → IsPlan bytes fs → Entries fs
plan_entries bytes fs h = entries_by fs h.sources.named (both_free _ _ (keep_limits fs h.small)).0

pub plan_few : (bytes : List ℕ) (fs : List SourceFile) → IsPlan bytes fs → length fs < 2 ^ 64
plan_few bytes fs h = let few = few_of fs h.few in omega (arith, few)

-- one file in front
pub entry_one : (f g : SourceFile) (xs ys : List ℕ) → is_source_name f.name ≡ true → is_source_name g.name ≡ true → length f.bytes < 2 ^ 64
    → length g.bytes < 2 ^ 64
    → plan_entry f ++ xs ≡ plan_entry g ++ ys → (f ≡ g) × (xs ≡ ys)
entry_one f g xs ys nf ng lf lg e =
    let names = cut 32 f.name g.name ((line (decimal (length f.bytes)) ++ line f.bytes) ++ xs)
    ((line (decimal (length g.bytes)) ++ line g.bytes) ++ ys) (source_free f.name nf) (source_free g.name ng)
    (sym (append_assoc (f.name ++ 32 ∷ []) (line (decimal (length f.bytes)) ++ line f.bytes) xs) ∙ e
    ∙ append_assoc (g.name ++ 32 ∷ []) (line (decimal (length g.bytes)) ++ line g.bytes) ys) in
    let lengths = cut 10 (decimal (length f.bytes)) (decimal (length g.bytes)) (line f.bytes ++ xs) (line g.bytes ++ ys)
    (decimal_free (length f.bytes) lf) (decimal_free (length g.bytes) lg)
    (sym (append_assoc (line (decimal (length f.bytes))) (line f.bytes) xs) ∙ names.1
    ∙ append_assoc (line (decimal (length g.bytes))) (line g.bytes) ys) in
    let long : length f.bytes ≡ length g.bytes = decimal_injective (length f.bytes) (length g.bytes) lf lg lengths.0 in
    let bytes = split_same f.bytes g.bytes (10 ∷ xs) (10 ∷ ys) long
    (sym (append_assoc f.bytes (10 ∷ []) xs) ∙ lengths.1 ∙ append_assoc g.bytes (10 ∷ []) ys) in
    ((λ i. record { name = names.0 i; bytes = bytes.0 i }), ap (drop 1) bytes.1)

entries_one : (fs gs : List SourceFile) (xs ys : List ℕ) → length fs ≡ length gs → Entries fs → Entries gs
    → flat_map plan_entry fs ++ xs ≡ flat_map plan_entry gs ++ ys → fs ≡ gs
entries_one [] [] xs ys l f g e = refl
entries_one [] (y ∷ gs) xs ys l f g e = absurd (omega (arith, l))
entries_one (x ∷ fs) [] xs ys l f g e = absurd (omega (arith, l))
entries_one (x ∷ fs) (y ∷ gs) xs ys l f g e =
    let one = entry_one x y (flat_map plan_entry fs ++ xs) (flat_map plan_entry gs ++ ys) f.0 g.0 f.1 g.1
    (sym (append_assoc (plan_entry x) (flat_map plan_entry fs) xs) ∙ e ∙ append_assoc (plan_entry y) (flat_map plan_entry gs) ys) in
    let rest = entries_one fs gs xs ys (omega (arith, l)) f.2 g.2 one.1 in
    ap (λ (v : SourceFile). v ∷ fs) one.0 ∙ ap (λ (vs : List SourceFile). y ∷ vs) rest

text_one : (fs gs : List SourceFile) → length fs < 2 ^ 64 → length gs < 2 ^ 64 → Entries fs → Entries gs → plan_text fs ≡ plan_text gs → fs ≡ gs
text_one fs gs lf lg f g e =
    let body = λ (hs : List SourceFile). flat_map plan_entry hs ++ line (codes "end") in
    let counted : line (decimal (length fs)) ++ body fs ≡ line (decimal (length gs)) ++ body gs =
    append_cancel_left (line (codes "rotor-plan 1") ++ codes "files ") _ _ e in
    let numbers = cut 10 (decimal (length fs)) (decimal (length gs)) (body fs) (body gs) (decimal_free (length fs) lf)
    (decimal_free (length gs) lg) counted in
    entries_one fs gs (line (codes "end")) (line (codes "end")) (decimal_injective (length fs) (length gs) lf lg numbers.0) f g numbers.1

-- bytes are the plan of one list of files at most
pub plans_one : (bytes : List ℕ) (one other : List SourceFile) → IsPlan bytes one → IsPlan bytes other → one ≡ other
plans_one bytes one other h k = text_one one other (plan_few bytes one h) (plan_few bytes other k) (plan_entries bytes one h)
    (plan_entries bytes other k) (sym h.written ∙ k.written)
