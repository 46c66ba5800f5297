-- The lines of a text: none is longer than the text, and where one begins.
use Rattle.std.proofs.Common.{◌≡◌, ℕ, zero, suc, ◌+◌, ◌-◌, ◌<◌, ◌≤◌, ◌==◌, if◌then◌else◌, Bool, true, false, cond, get_or, nat_lt, ne_eqb, not}
use Rattle.std.proofs.Common.{◌⊎◌, inl, inr, Option, Some, None, Result, Ok, Err, IfOk, Bor, List, [], ◌∷◌, map, option_map, refl, sym, ap, ◌∙◌}
use Rattle.std.proofs.Common.{arith}
use Rattle.std.proofs.Common.{length, take, drop, slice_get, slice_index, eqb}
use Rattle.std.specs.List.{position_or_len}
use Rattle.std.specs.Str.Lines.{lines, strip_carriage_return}
use Rattle.std.proofs.lemmas.List.Sums.{prefix_len-le-length}
use Rattle.std.proofs.lemmas.Grind.{common_steps}
use Rattle.std.proofs.lemmas.List.{drop_more}
use Rattle.std.proofs.lemmas.Option.{slice_get-map, slice_get_cases}
use Rattle.std.proofs.Math.ListN.{drop_of_length-le}
use Rattle.rotor_base.proofs.LineCuts.{lines_ended, lines_open}
use Rattle.messages.specs.declared.parts.Message.{Message}
use Rattle.folder_messages.specs.Folder.{line_message, line_or_missing, manifest_message, missing_message, start_of}

stripped_by : (l : List ℕ) (t : Bool) → length (cond t (take (length l - 1) l) l) ≤ length l
stripped_by l true = grind (arith, common_steps)
stripped_by l false = omega arith

stripped : (l : List ℕ) → length (strip_carriage_return l) ≤ length l
stripped l = stripped_by l (eqb (slice_index l (length l - 1)) 13)

-- each line of a text is no longer than the text
abbrev pub Short : List ℕ → Type 0
Short bs = (k : ℕ) (w : List ℕ) → slice_get (lines bs) k ≡ Some w → length w ≤ length bs

-- a text whose first line an LF ends
ended : (bs : List ℕ) (at : ℕ) → at ≡ position_or_len (λ b. eqb b 10) bs → at < length bs → Short (drop (at + 1) bs) → (k : ℕ) (w : List ℕ)
    → slice_get (strip_carriage_return (take at bs) ∷ lines (drop (at + 1) bs)) k ≡ Some w → length w ≤ length bs
ended bs at is lt rest zero w f =
    let same : strip_carriage_return (take at bs) ≡ w = cc in
    let short = stripped (take at bs) in
    let long = ap (λ (v : List ℕ). length v) same in
    grind (arith, common_steps, short, long)
ended bs at is lt rest (suc j) w f = let short = rest j w f in grind (arith, common_steps, short)

-- a text that is one line
alone : (bs : List ℕ) (k : ℕ) (w : List ℕ) → slice_get (bs ∷ []) k ≡ Some w → length w ≤ length bs
alone bs zero w f = let same : bs ≡ w = cc in let long = ap (λ (v : List ℕ). length v) same in omega (arith, long)
alone bs (suc j) w f = cc

less : (a b : ℕ) → nat_lt a b ≡ true → a < b
less a b t = grind arith

not_less : (a b : ℕ) → nat_lt a b ≡ false → a ≤ b → a ≡ b
not_less a b t le = grind arith

by_end : (b : ℕ) (bs : List ℕ) (t : Bool) → nat_lt (position_or_len (λ b. eqb b 10) (b ∷ bs)) (length (b ∷ bs)) ≡ t
    → (position_or_len (λ b. eqb b 10) (b ∷ bs) < length (b ∷ bs) → Short (drop (position_or_len (λ b. eqb b 10) (b ∷ bs) + 1) (b ∷ bs)))
    → Short (b ∷ bs)
by_end b bs true t rest = λ k w e.
    let lt : position_or_len (λ b. eqb b 10) (b ∷ bs) < length (b ∷ bs) = less _ _ t in
    ended (b ∷ bs) (position_or_len (λ b. eqb b 10) (b ∷ bs)) refl lt (rest lt) k w (rw (lines_ended (b ∷ bs) lt) at e)
by_end b bs false t rest = λ k w e.
    let within = prefix_len-le-length (λ (c : ℕ). not (eqb c 10)) (b ∷ bs) in
    let all : position_or_len (λ b. eqb b 10) (b ∷ bs) ≡ length (b ∷ bs) = not_less _ _ t within in
    alone (b ∷ bs) k w (rw (lines_open (b ∷ bs) (omega arith) all) at e)

pub lines_short : (n : ℕ) (bs : List ℕ) → length bs ≤ n → Short bs
lines_short n [] le = λ k w e. cc
lines_short zero (b ∷ bs) le = absurd (omega arith)
lines_short (suc n) (b ∷ bs) le =
    by_end b bs (nat_lt (position_or_len (λ b. eqb b 10) (b ∷ bs)) (length (b ∷ bs))) refl
    (λ lt. lines_short n (drop (position_or_len (λ b. eqb b 10) (b ∷ bs) + 1) (b ∷ bs)) (grind (arith, common_steps)))

-- ---- where a line begins

pub start_nothing : (n : ℕ) → start_of n [] ≡ 0
start_nothing zero = refl
start_nothing (suc n) = refl

pub at_end : (n at : ℕ) (bytes : List ℕ) → length bytes ≤ at → at + start_of n (drop at bytes) ≡ at
at_end n at bytes le = rw (drop_of_length-le bytes le, start_nothing n) (omega arith)

-- a byte more, of a line that is left
pub start_more : (n at d : ℕ) (bytes : List ℕ) → at < length bytes
    → start_of (suc n) (drop at bytes)
    ≡ suc (if get_or bytes at d == 10 then start_of n (drop (at + 1) bytes) else start_of (suc n) (drop (at + 1) bytes))
start_more n at d bytes lt = ap (start_of (suc n)) (drop_more bytes at d lt)

-- one more byte is an LF, so one line fewer is left
pub feed_step : (before left next at : ℕ) (bytes : List ℕ) → at < length bytes → (left ≡ 0 → ⊥) → get_or bytes at 0 ≡ 10 → next ≡ left - 1
    → at + start_of left (drop at bytes) ≡ start_of before bytes → (at + 1) + start_of next (drop (at + 1) bytes) ≡ start_of before bytes
feed_step before zero next at bytes lt some is gone inv = absurd (some refl)
feed_step before (suc n) next at bytes lt some is gone inv =
    let more : start_of (suc n) (drop at bytes) ≡ suc (start_of n (drop (at + 1) bytes)) = rw is at (start_more n at 0 bytes lt) in
    let fewer : next ≡ n = omega (arith, gone) in
    rw fewer (omega (arith, more, inv))

-- or it is another byte
pub plain_step : (before left next at : ℕ) (bytes : List ℕ) → at < length bytes → (left ≡ 0 → ⊥) → (get_or bytes at 0 ≡ 10 → ⊥) → next ≡ left
    → at + start_of left (drop at bytes) ≡ start_of before bytes → (at + 1) + start_of next (drop (at + 1) bytes) ≡ start_of before bytes
plain_step before zero next at bytes lt some not same inv = absurd (some refl)
plain_step before (suc n) next at bytes lt some not same inv =
    let more : start_of (suc n) (drop at bytes) ≡ suc (start_of (suc n) (drop (at + 1) bytes)) =
    rw (ne_eqb (get_or bytes at 0) 10 not) at (start_more n at 0 bytes lt) in
    rw same (omega (arith, more, inv))

-- ---- the line of a number

pub beyond : {X : Type 0} (xs : List X) (k : ℕ) → length xs ≤ k → slice_get xs k ≡ None
beyond {X = X} xs k le = by (slice_get_cases xs k).1 where
  by : ((x : X) × (k < length xs) × (slice_get xs k ≡ Some x) × (get_or xs k x ≡ x)) ⊎ ((length xs ≤ k) × (slice_get xs k ≡ None))
      → slice_get xs k ≡ None
  by (inl there) = absurd (omega (arith, le, there.1))
  by (inr past) = past.1

pub word_there : (list items : List (Bor (List ℕ))) (bytes : List ℕ) (k : ℕ) (word : Bor (List ℕ)) → list ≡ items
    → map (λ line. line.now) items ≡ lines bytes → slice_get list k ≡ Some word → slice_get (lines bytes) k ≡ Some word.now
word_there list items bytes k word same mapped there =
    ap (λ ls. slice_get ls k) (sym mapped) ∙ slice_get-map (λ (line : Bor (List ℕ)). line.now) items k
    ∙ ap (option_map (λ (line : Bor (List ℕ)). line.now)) (ap (λ (l : List (Bor (List ℕ))). slice_get l k) (sym same) ∙ there)

pub none_there : (list items : List (Bor (List ℕ))) (bytes : List ℕ) (k : ℕ) → list ≡ items → map (λ line. line.now) items ≡ lines bytes
    → slice_get list k ≡ None → ◌≡◌ {A = Option (List ℕ)} (slice_get (lines bytes) k) None
none_there list items bytes k same mapped there =
    ap (λ ls. slice_get ls k) (sym mapped) ∙ slice_get-map (λ (line : Bor (List ℕ)). line.now) items k
    ∙ ap (option_map (λ (line : Bor (List ℕ)). line.now)) (ap (λ (l : List (Bor (List ℕ))). slice_get l k) (sym same) ∙ there)

pub line_explained : (bytes : List ℕ) (names : List (List ℕ)) (line before : ℕ) (word : List ℕ) (message : Message) → before ≡ line - 1
    → slice_get (lines bytes) before ≡ Some word → message ≡ line_message bytes names before word
    → ◌≡◌ {A = Option Message} (Some message) (manifest_message bytes names line)
line_explained bytes names line before word message same there is =
    ap (λ (m : Message). Some m) is ∙ ap (line_or_missing bytes names before) (sym there)
    ∙ ap (λ k. line_or_missing bytes names k (slice_get (lines bytes) k)) same

pub missing_explained : {E : Type 0} (result : Result (Option Message) E) (list : List (List ℕ)) (bytes : List ℕ) (names : List (List ℕ))
    (line before : ℕ) → before ≡ line - 1 → list ≡ lines bytes → ◌≡◌ {A = Option (List ℕ)} (slice_get (lines bytes) before) None
    → IfOk result (λ message. message ≡ missing_message list names) → IfOk result (λ message. message ≡ manifest_message bytes names line)
missing_explained (Ok message) list bytes names line before same mapped there is =
    is ∙ ap (λ ls. missing_message ls names) mapped ∙ ap (line_or_missing bytes names before) (sym there)
    ∙ ap (λ k. line_or_missing bytes names k (slice_get (lines bytes) k)) same
missing_explained (Err error) list bytes names line before same mapped there is = is
