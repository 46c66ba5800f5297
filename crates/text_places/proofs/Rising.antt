-- The marks of a text rise, so a position names one byte.
use Rattle.std.proofs.Common.{◌≡◌, ◌⊎◌, inl, inr, ℕ, zero, suc, ◌+◌, ◌-◌, ◌<◌, ◌≤◌, List, [], ◌∷◌, length, map, get_or, refl, ap, sym, ◌∙◌, arith}
use Rattle.std.proofs.Common.{Bool, true, false, cond, Some, take, ◌==◌, nat_le, add-zero, zero-add}
use Rattle.std.specs.Option.{option_map}
use Rattle.std.specs.Prelude.{Contains}
use Rattle.std.specs.List.{find}
use Rattle.std.specs.Str.{is_utf8}
use Rattle.std.proofs.lemmas.Bool.Decides.{nat_tests}
use Rattle.text_places.specs.declared.counting.Counting.{Counting}
use Rattle.text_places.specs.declared.counting.Counting.TheVariants.{People, Utf16, Utf8}
use Rattle.text_places.specs.declared.counting.Position.{Position}
use Rattle.text_places.specs.declared.front.Front.{Front}
use Rattle.text_places.specs.Fronts.{origin_of, char_len, columns_of, character, line_end, front_of, begins_with_feed, behind, protocol_front}
use Rattle.text_places.specs.Marks.{Mark, marks_from, names, last_upto}
use Rattle.text_places.specs.Laws.{ComesBack, EachByteBegins}

-- a position is behind that of a mark: on a later line, or behind it on its line, which does not end there
abbrev IsBehind : Mark → Position → Type 0
IsBehind m p =
    (m.position.line < p.line)
    ⊎ ((m.position.line ≡ p.line) × (m.position.column < p.column) × (m.ends_line ≡ false))

-- each mark is behind those before it
abbrev Rises : Mark → List Mark → Type 0
Rises m [] = Unit {0}
Rises m (n ∷ ns) = (m.offset < n.offset) × IsBehind m n.position × Rises n ns

behind_trans : (m n : Mark) (p : Position) → IsBehind m n.position → IsBehind n p → IsBehind m p
behind_trans m n p (inl h) (inl k) = inl (omega arith)
behind_trans m n p (inl h) (inr k) = inl (omega arith)
behind_trans m n p (inr h) (inl k) = inl (omega arith)
behind_trans m n p (inr h) (inr k) = inr (h.0 ∙ k.0, omega arith, h.2)

-- a position behind a mark does not name it
not_named : (m : Mark) (p : Position) → IsBehind m p → names p m ≡ false
not_named m p (inl h) = grind (arith, nat_tests)
not_named m p (inr h) = let e : m.ends_line ≡ false = h.2 in grind (arith, nat_tests, e)

-- its own does
named : (m : Mark) → names m.position m ≡ true
named m = grind (arith, nat_tests)

-- one of some marks
data IsOne (q : Mark) : List Mark → Type 0 where
  first : {ms : List Mark} → IsOne q (q ∷ ms)
  later : {m : Mark} {ms : List Mark} → IsOne q ms → IsOne q (m ∷ ms)

-- those behind a mark have greater offsets and positions
all_behind : (q m : Mark) {ms : List Mark} → Rises m ms → IsOne q ms → (m.offset < q.offset) × IsBehind m q.position
all_behind q m r first = (r.0, r.1)
all_behind q m r (later {m = n} {ms = ns} o) =
    let k = all_behind q n r.2 o in (omega arith, behind_trans m n q.position r.1 k.1)

-- so the position of a mark names that mark first
find_one : (q m : Mark) (ms : List Mark) → Rises m ms → IsOne q (m ∷ ms) → find (names q.position) (m ∷ ms) ≡ Some q
find_one q m ms r first = ap (λ b. cond b (Some m) (find (names m.position) ms)) (named m)
find_one q m [] r (later o) = elim o [ ]
find_one q m (n ∷ ns) r (later o) =
    let k = all_behind q m r o in
    ap (λ b. cond b (Some m) (find (names q.position) (n ∷ ns))) (not_named m q.position k.1) ∙ find_one q n ns r.2 o

-- and it is the position of the last mark that is not behind its offset
last_own : (m : Mark) (ms : List Mark) → Rises m ms → last_upto m.offset m.position ms ≡ m.position
last_own m [] r = refl
last_own m (n ∷ ns) r = let lt : m.offset < n.offset = r.0 in grind (arith, nat_tests)

last_one : (q m : Mark) (p : Position) (ms : List Mark) → Rises m ms → IsOne q (m ∷ ms) → last_upto q.offset p (m ∷ ms) ≡ q.position
last_one q m p ms r first =
    let yes : nat_le m.offset m.offset ≡ true = grind (arith, nat_tests) in
    ap (λ b. cond b (last_upto m.offset m.position ms) p) yes ∙ last_own m ms r
last_one q m p [] r (later o) = elim o [ ]
last_one q m p (n ∷ ns) r (later o) =
    let k = all_behind q m r o in
    let lt : m.offset < q.offset = k.0 in
    let yes : nat_le m.offset q.offset ≡ true = grind (arith, nat_tests) in
    ap (λ b. cond b (last_upto q.offset m.position (n ∷ ns)) p) yes ∙ last_one q n m.position ns r.2 o

-- ---- the marks of a text rise

char_some : (bs : List ℕ) → 0 < char_len bs
char_some bs =
    elim (is_utf8 (take 1 bs)) as (λ t. 0 < cond t 1 (cond (is_utf8 (take 2 bs)) 2 (cond (is_utf8 (take 3 bs)) 3 (cond (is_utf8 (take 4 bs)) 4 1)))) [
      | true ↦ omega arith
      | false ↦ elim (is_utf8 (take 2 bs)) as (λ t. 0 < cond t 2 (cond (is_utf8 (take 3 bs)) 3 (cond (is_utf8 (take 4 bs)) 4 1))) [
        | true ↦ omega arith
        | false ↦ elim (is_utf8 (take 3 bs)) as (λ t. 0 < cond t 3 (cond (is_utf8 (take 4 bs)) 4 1)) [
          | true ↦ omega arith
          | false ↦ elim (is_utf8 (take 4 bs)) as (λ t. 0 < cond t 4 1) [ true ↦ omega arith | false ↦ omega arith ]
        ]
      ]
    ]

columns_some : (c : Counting) (len : ℕ) → 0 < len → 0 < columns_of c len
columns_some People len some = some
columns_some Utf8 len some = some
columns_some Utf16 len some = grind (arith, nat_tests)

-- what ends no line has columns
HasColumns : Front → Type 0
HasColumns front = front.ends_line ≡ false → 0 < front.columns

end_has : (len : ℕ) → HasColumns (line_end len)
unfolding HasColumns
end_has len e = cc

char_has : (c : Counting) (len : ℕ) → 0 < len → HasColumns (character c len)
unfolding HasColumns
char_has c len some e = columns_some c len some

protocol_has : (c : Counting) (b : ℕ) (bs : List ℕ) → HasColumns (protocol_front c b bs)
protocol_has c b bs =
    elim (b == 10) as (λ t. HasColumns (cond t (line_end 1) (cond (b == 13) (cond (begins_with_feed bs) (line_end 2) (line_end 1))
    (character c (char_len (b ∷ bs)))))) [
      | true ↦ end_has 1
      | false ↦
          elim (b == 13) as (λ t. HasColumns (cond t (cond (begins_with_feed bs) (line_end 2) (line_end 1)) (character c (char_len (b ∷ bs))))) [
            | true ↦ elim (begins_with_feed bs) as (λ t. HasColumns (cond t (line_end 2) (line_end 1))) [ true ↦ end_has 2 | false ↦ end_has 1 ]
            | false ↦ char_has c (char_len (b ∷ bs)) (char_some (b ∷ bs))
          ]
    ]

front_has : (c : Counting) (b : ℕ) (bs : List ℕ) → HasColumns (front_of c (b ∷ bs))
front_has People b bs =
    elim (b == 10) as (λ t. HasColumns (cond t (line_end 1) (character People 1))) [ true ↦ end_has 1 | false ↦ char_has People 1 (omega arith) ]
front_has Utf16 b bs = protocol_has Utf16 b bs
front_has Utf8 b bs = protocol_has Utf8 b bs

-- the position behind what begins at a mark is behind the mark
goes_behind : (c : Counting) (at : ℕ) (here : Position) (front : Front) → HasColumns front
    → IsBehind (record { offset = at; position = here; ends_line = front.ends_line }) (behind c here front)
unfolding HasColumns
goes_behind c at here front has = goes c at here front front.ends_line refl has
  where
    goes : (c : Counting) (at : ℕ) (here : Position) (front : Front) (t : Bool) → front.ends_line ≡ t → (front.ends_line ≡ false → 0 < front.columns)
        → IsBehind (record { offset = at; position = here; ends_line = front.ends_line }) (behind c here front)
    goes c at here front true e has = rw e (inl (omega arith))
    goes c at here front false e has = let some : 0 < front.columns = has e in rw e (inr (refl, omega arith, refl))

rises_from : (c : Counting) (k at : ℕ) (here : Position) (bs : List ℕ) (m : Mark) → m.offset < at → IsBehind m here
    → Rises m (marks_from c k at here bs)
rises_from c k at here [] m lt h = (lt, h, tt)
rises_from c (suc k) at here (b ∷ bs) m lt h = rises_from c k (suc at) here bs m (omega arith) h
rises_from c zero at here (b ∷ bs) m lt h = (
  lt,
  h,
  rises_from c ((front_of c (b ∷ bs)).len - 1) (suc at) (behind c here (front_of c (b ∷ bs))) bs
      (record { offset = at; position = here; ends_line = (front_of c (b ∷ bs)).ends_line }) (omega arith)
      (goes_behind c at here (front_of c (b ∷ bs)) (front_has c b bs)),
)

-- ---- the laws

-- a mark of an offset
some_mark : (ms : List Mark) (o k : ℕ) → k < length (map (λ m. m.offset) ms) → get_or (map (λ m. m.offset) ms) k o ≡ o
    → (m : Mark) × IsOne m ms × (m.offset ≡ o)
some_mark [] o k lt e = absurd (omega arith)
some_mark (m ∷ ms) o zero lt e = (m, first, e)
some_mark (m ∷ ms) o (suc k) lt e = let found = some_mark ms o k (omega arith) e in (found.0, later found.1, found.2)

back_among : (m : Mark) (ms : List Mark) (p : Position) (o : ℕ) → Rises m ms → Contains (map (λ m. m.offset) (m ∷ ms)) o
    → option_map (λ m. m.offset) (find (names (last_upto o p (m ∷ ms))) (m ∷ ms)) ≡ Some o
back_among m ms p o r has =
    let found = some_mark (m ∷ ms) o has.0 has.1 has.2 in
    let q : Mark = found.0 in
    let at : last_upto o p (m ∷ ms) ≡ q.position = ap (λ n. last_upto n p (m ∷ ms)) (sym found.2) ∙ last_one q m p ms r found.1 in
    ap (λ (x : Position). option_map (λ (y : Mark). y.offset) (find (names x) (m ∷ ms))) at
    ∙ ap (λ x. option_map (λ (y : Mark). y.offset) x) (find_one q m ms r found.1) ∙ ap Some found.2

pub comes_back : ComesBack
comes_back c [] o has = back_among (record { offset = 0; position = origin_of c; ends_line = true }) [] (origin_of c) o tt has
comes_back c (b ∷ bs) o has =
    let front : Front = front_of c (b ∷ bs) in
    let m : Mark = record { offset = 0; position = origin_of c; ends_line = front.ends_line } in
    back_among m (marks_from c (front.len - 1) 1 (behind c (origin_of c) front) bs) (origin_of c) o
    (rises_from c (front.len - 1) 1 (behind c (origin_of c) front) bs m (omega arith) (goes_behind c 0 (origin_of c) front (front_has c b bs))) has

-- ---- as people count

pub one_byte : (b : ℕ) (bs : List ℕ) → (front_of People (b ∷ bs)).len ≡ 1
one_byte b bs = elim (b == 10) as (λ t. (cond t (line_end 1) (character People 1)).len ≡ 1) [ true ↦ refl | false ↦ refl ]

abbrev Offsets : List Mark → List ℕ
Offsets ms = map (λ m. m.offset) ms

each_begins : (at o : ℕ) (here : Position) (bs : List ℕ) (d : ℕ) → o ≤ length bs
    → (o < length (Offsets (marks_from People 0 at here bs))) × (get_or (Offsets (marks_from People 0 at here bs)) o d ≡ at + o)
each_begins at zero here [] d le = (omega arith, sym (add-zero at))
each_begins at (suc o) here [] d le = absurd (omega arith)
each_begins at zero here (b ∷ bs) d le = (omega arith, sym (add-zero at))
each_begins at (suc o) here (b ∷ bs) d le =
    let front : Front = front_of People (b ∷ bs) in
    let next : List ℕ = Offsets (marks_from People 0 (suc at) (behind People here front) bs) in
    let same : Offsets (marks_from People (front.len - 1) (suc at) (behind People here front) bs) ≡ next
    = ap (λ n. Offsets (marks_from People (n - 1) (suc at) (behind People here front) bs)) (one_byte b bs) in
    let k = each_begins (suc at) o (behind People here front) bs d (omega arith) in
    (omega (arith, ap length same), ap (λ xs. get_or xs o d) same ∙ k.1 ∙ omega arith)

pub each_byte_begins : EachByteBegins
each_byte_begins bytes o le =
    let k = each_begins 0 o (origin_of People) bytes o le in (o, k.0, k.1 ∙ zero-add o)
