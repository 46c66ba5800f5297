-- Walking along a text: the marks from a stop on.
use Rattle.std.proofs.Common.{◌≡◌, ℕ, zero, suc, ◌+◌, ◌-◌, ◌<◌, ◌≤◌, List, [], ◌∷◌, length, drop, refl, ap, sym, ◌∙◌, arith, add-zero, drop-drop}
use Rattle.std.proofs.Common.{Bool, cond, true, false, Some, nat_le}
use Rattle.std.proofs.lemmas.List.{length-drop, drop_all}
use Rattle.std.proofs.lemmas.Bool.Decides.{nat_tests}
use Rattle.std.specs.List.{find}
use Rattle.std.specs.Option.{option_map}
use Rattle.text_places.specs.declared.counting.Counting.{Counting}
use Rattle.text_places.specs.declared.counting.Counting.TheVariants.{People, Utf16, Utf8}
use Rattle.text_places.specs.declared.counting.Position.{Position}
use Rattle.text_places.specs.declared.front.Front.{Front}
use Rattle.text_places.specs.declared.walk.Stop.{Stop}
use Rattle.text_places.specs.Fronts.{origin_of, front_of, behind}
use Rattle.text_places.specs.Marks.{Mark, marks_from, names, last_upto}
use Rattle.text_places.specs.Stops.{IsWithin, marks_at, start_of, stop_behind}

-- if bytes belong to what began before, the marks are those behind them
marks_skip : (c : Counting) (k at : ℕ) (here : Position) (bs : List ℕ) → k ≤ length bs
    → marks_from c k at here bs ≡ marks_from c 0 (at + k) here (drop k bs)
marks_skip c zero at here bs le = ap (λ n. marks_from c 0 n here bs) (sym (add-zero at))
marks_skip c (suc k) at here [] le = absurd (omega arith)
marks_skip c (suc k) at here (b ∷ bs) le =
    let sum : suc at + k ≡ at + suc k = omega arith in
    marks_skip c k (suc at) here bs (omega arith) ∙ ap (λ n. marks_from c 0 n here (drop k bs)) sum

-- what begins at an offset is a mark, and the others are those behind it
abbrev pub mark_of : ℕ → Position → Front → Mark
mark_of at here front = record { offset = at; position = here; ends_line = front.ends_line }

pub marks_next : (c : Counting) (at : ℕ) (here : Position) (bs : List ℕ) (front : Front) → front ≡ front_of c bs → 0 < front.len
    → front.len ≤ length bs
    → marks_from c 0 at here bs ≡ mark_of at here front ∷ marks_from c 0 (at + front.len) (behind c here front) (drop front.len bs)
marks_next c at here [] front is some within = absurd (omega arith)
marks_next c at here (b ∷ bs) front is some within =
    let one : front.len ≡ suc (front.len - 1) = omega arith in
    let sum : suc at + (front.len - 1) ≡ at + front.len = omega arith in
    ap (λ (f : Front). mark_of at here f ∷ marks_from c (f.len - 1) (suc at) (behind c here f) bs) (sym is)
    ∙ ap (λ (ms : List Mark). mark_of at here front ∷ ms)
    (marks_skip c (front.len - 1) (suc at) (behind c here front) bs (omega arith)
    ∙ ap (λ n. marks_from c 0 n (behind c here front) (drop (front.len - 1) bs)) sum
    ∙ ap (λ n. marks_from c 0 (at + front.len) (behind c here front) (drop n (b ∷ bs))) (sym one))

-- the same of a stop
pub marks_at_next : (c : Counting) (bytes : List ℕ) (stop : Stop) (front : Front) → front ≡ front_of c (drop stop.at bytes) → 0 < front.len
    → stop.at + front.len ≤ length bytes → marks_at c bytes stop ≡ mark_of stop.at stop.here front ∷ marks_at c bytes (stop_behind c stop front)
marks_at_next c bytes stop front is some within =
    let fits : front.len ≤ length (drop stop.at bytes) = omega (arith, length-drop stop.at bytes) in
    marks_next c stop.at stop.here (drop stop.at bytes) front is some fits
    ∙ ap (λ bs. mark_of stop.at stop.here front ∷ marks_from c 0 (stop.at + front.len) (behind c stop.here front) bs)
    (drop-drop front.len stop.at bytes)

-- ---- looking for a position

-- the marks from a stop at the end are the end
pub marks_at_end : (c : Counting) (bytes : List ℕ) (stop : Stop) → length bytes ≤ stop.at
    → marks_at c bytes stop ≡ record { offset = stop.at; position = stop.here; ends_line = true } ∷ []
marks_at_end c bytes stop end = ap (λ bs. marks_from c 0 stop.at stop.here bs) (drop_all stop.at bytes end)

pub find_named : (p : Position) (m : Mark) (ms : List Mark) → names p m ≡ true → option_map (λ m. m.offset) (find (names p) (m ∷ ms)) ≡ Some m.offset
find_named p m ms same = ap (λ b. option_map (λ (m : Mark). m.offset) (cond b (Some m) (find (names p) ms))) same

pub find_on : (p : Position) (m : Mark) (ms : List Mark) → names p m ≡ false → find (names p) (m ∷ ms) ≡ find (names p) ms
find_on p m ms other = ap (λ b. cond b (Some m) (find (names p) ms)) other

-- ---- looking for an offset

-- the first mark of a stop is its own
pub front_mark : (c : Counting) (at : ℕ) (here : Position) (bs : List ℕ)
    → (m : Mark) × (ms : List Mark) × (marks_from c 0 at here bs ≡ m ∷ ms) × (m.offset ≡ at) × (m.position ≡ here)
front_mark c at here [] = (record { offset = at; position = here; ends_line = true }, [], refl, refl, refl)
front_mark c at here (b ∷ bs) = (
  mark_of at here (front_of c (b ∷ bs)),
  marks_from c ((front_of c (b ∷ bs)).len - 1) (suc at) (behind c here (front_of c (b ∷ bs))) bs,
  refl,
  refl,
  refl,
)

pub last_with : (o : ℕ) (p : Position) (m : Mark) (ms : List Mark) → m.offset ≤ o → last_upto o p (m ∷ ms) ≡ last_upto o m.position ms
last_with o p m ms le = let yes : nat_le m.offset o ≡ true = grind (arith, nat_tests) in ap (λ b. cond b (last_upto o m.position ms) p) yes

pub last_before : (o : ℕ) (p : Position) (m : Mark) (ms : List Mark) → o < m.offset → last_upto o p (m ∷ ms) ≡ p
last_before o p m ms lt = let none : nat_le m.offset o ≡ false = grind (arith, nat_tests) in ap (λ b. cond b (last_upto o m.position ms) p) none

-- a stop at the offset or before it: its position counts, whatever came before
pub last_again : (c : Counting) (bytes : List ℕ) (stop : Stop) (o : ℕ) (p : Position) → stop.at ≤ o
    → last_upto o p (marks_at c bytes stop) ≡ last_upto o stop.here (marks_at c bytes stop)
last_again c bytes stop o p le =
    let k = front_mark c stop.at stop.here (drop stop.at bytes) in
    let low : k.0.offset ≤ o = omega (arith, k.3) in
    ap (last_upto o p) k.2 ∙ last_with o p k.0 k.1 low ∙ sym (last_with o stop.here k.0 k.1 low) ∙ sym (ap (last_upto o stop.here) k.2)

-- a stop behind the offset does not count
pub last_none : (c : Counting) (bytes : List ℕ) (stop : Stop) (o : ℕ) (p : Position) → o < stop.at → last_upto o p (marks_at c bytes stop) ≡ p
last_none c bytes stop o p lt =
    let k = front_mark c stop.at stop.here (drop stop.at bytes) in
    ap (last_upto o p) k.2 ∙ last_before o p k.0 k.1 (omega (arith, k.3))

-- a step, where the stop behind is not behind the offset
pub last_next : (c : Counting) (bytes : List ℕ) (stop : Stop) (front : Front) (o : ℕ) → front ≡ front_of c (drop stop.at bytes) → 0 < front.len
    → stop.at + front.len ≤ length bytes → stop.at + front.len ≤ o
    → last_upto o stop.here (marks_at c bytes stop) ≡ last_upto o (behind c stop.here front) (marks_at c bytes (stop_behind c stop front))
last_next c bytes stop front o is some within le =
    ap (last_upto o stop.here) (marks_at_next c bytes stop front is some within)
    ∙ last_with o stop.here (mark_of stop.at stop.here front) (marks_at c bytes (stop_behind c stop front)) (omega arith)
    ∙ last_again c bytes (stop_behind c stop front) o stop.here le

-- no step, where the stop behind is behind the offset
pub last_here : (c : Counting) (bytes : List ℕ) (stop : Stop) (front : Front) (o : ℕ) → front ≡ front_of c (drop stop.at bytes) → 0 < front.len
    → stop.at + front.len ≤ length bytes → stop.at ≤ o → o < stop.at + front.len → last_upto o stop.here (marks_at c bytes stop) ≡ stop.here
last_here c bytes stop front o is some within le lt =
    ap (last_upto o stop.here) (marks_at_next c bytes stop front is some within)
    ∙ last_with o stop.here (mark_of stop.at stop.here front) (marks_at c bytes (stop_behind c stop front)) le
    ∙ last_none c bytes (stop_behind c stop front) o stop.here lt

-- at the end
pub last_end : (c : Counting) (bytes : List ℕ) (stop : Stop) (o : ℕ) → length bytes ≤ stop.at → stop.at ≤ o
    → last_upto o stop.here (marks_at c bytes stop) ≡ stop.here
last_end c bytes stop o end le =
    ap (last_upto o stop.here) (marks_at_end c bytes stop end)
    ∙ last_with o stop.here (record { offset = stop.at; position = stop.here; ends_line = true }) [] le

-- ---- lines and columns stay small

origin_low : (c : Counting) → (origin_of c).column ≤ 1
origin_low People = omega arith
origin_low Utf16 = omega arith
origin_low Utf8 = omega arith

low_behind : (c : Counting) (stop : Stop) (front : Front) (t : Bool) → front.ends_line ≡ t → stop.here.line ≤ stop.at + 1
    → stop.here.column ≤ stop.at + 1
    → 0 < front.len → front.columns ≤ front.len
    → ((behind c stop.here front).line ≤ stop.at + front.len + 1) × ((behind c stop.here front).column ≤ stop.at + front.len + 1)
low_behind c stop front true e line column some narrow = rw e (omega arith, omega (arith, origin_low c))
low_behind c stop front false e line column some narrow = rw e (omega arith, omega arith)

pub within_behind : (c : Counting) (bytes : List ℕ) (stop : Stop) (front : Front) → IsWithin bytes stop → 0 < front.len
    → stop.at + front.len ≤ length bytes → front.columns ≤ front.len → IsWithin bytes (stop_behind c stop front)
within_behind c bytes stop front w some within narrow =
    let low = low_behind c stop front front.ends_line refl w.line w.column some narrow in record { at = within; line = low.0; column = low.1 }

pub within_start : (c : Counting) (bytes : List ℕ) → IsWithin bytes (start_of c)
within_start People bytes = record { at = omega arith; line = omega arith; column = omega arith }
within_start Utf16 bytes = record { at = omega arith; line = omega arith; column = omega arith }
within_start Utf8 bytes = record { at = omega arith; line = omega arith; column = omega arith }
