-- What changes of a slot do to the files and to the room.
use Rattle.std.proofs.Common.{◌≡◌, ℕ, zero, suc, ◌+◌, ◌<◌, ◌≤◌, Bool, true, false, cond, not, ◌&&◌, ◌||◌, List, [], ◌∷◌, ◌++◌, map, length, get_or}
use Rattle.std.proofs.Common.{set, take, add-one, refl, sym, ◌∙◌, ap, subst, arith, vec_capacity, nat_lt, Option, Some, None, IfNone, IsSome, IsNone}
use Rattle.std.proofs.Common.{is_some, Bor}
use Rattle.std.proofs.lemmas.Bool.Decides.{nat_tests}
use Rattle.std.proofs.lemmas.List.Sorted.{IsPermutation-refl, IsPermutation-cons, IsPermutation-trans, IsPermutation-middle}
use Rattle.std.specs.List.Sorted.{IsPermutation}
use Rattle.std.specs.List.{list_any, position, position_or_len}
use Rattle.std.specs.Str.{bytes_eq}
use Rattle.std.specs.Ordering.{nat_cmp, eq_by_cmp, is_eq}
use Rattle.std.specs.Cmp.{both_ways}
use Rattle.std.proofs.lemmas.List.Quantifiers.{position-Some}
use Rattle.std.specs.declared.cmp.Ordering.{Ordering}
use Rattle.std.specs.declared.cmp.Ordering.TheVariants.{Less, Equal, Greater}
use Rattle.std.specs.Cmp.Lexicographic.{slice_cmp, bytes_decides, nat_list_cmp_total, texts_ties}
use Rattle.std.specs.FinMap.{nat_cmp-IsAntisymmetric, slice_cmp-IsAntisymmetric, get, keys, insert, entries, from_entries, find, put, same_map}
use Rattle.std.specs.FinMap.{get-from_entries, get-insert, get-entries, entries-insert, empty, len-entries, len-empty}
use Rattle.std.specs.FinMap.Entries.{by_order}
use Rattle.tree_io.specs.declared.slot.Slot.{Slot}
use Rattle.tree_io.specs.Outside.{FileMap}
use Rattle.tree_io.specs.Slots.{are_distinct, is_named, files_in, room_in}

-- the first slot of the name is at this index
abbrev pub IsSpot : List ℕ → List Slot → ℕ → Type 0
IsSpot name [] at = ⊥
IsSpot name (slot ∷ slots) zero = is_named name slot ≡ true
IsSpot name (slot ∷ slots) (suc at) = (is_named name slot ≡ false) × IsSpot name slots at

-- no slot has the name
abbrev pub NoSpot : List ℕ → List Slot → Type 0
NoSpot name slots = list_any (is_named name) slots ≡ false

abbrev same : List ℕ → List ℕ → Bool
same = eq_by_cmp (slice_cmp nat_cmp)

abbrev look : List ℕ → List (List ℕ × List ℕ) → Option (List ℕ)
look = find (slice_cmp nat_cmp)

bytes_same : (a b : List ℕ) → bytes_eq a b ≡ true → a ≡ b
bytes_same a b e = (bytes_decides a b).0 e

bytes_self : (a b : List ℕ) → a ≡ b → bytes_eq a b ≡ true
bytes_self a b e = (bytes_decides a b).1 e

same_is : (a b : List ℕ) → same a b ≡ true → a ≡ b
same_is a b e = bytes_same a b (texts_ties a b ∙ e)

same_self : (a b : List ℕ) → a ≡ b → same a b ≡ true
same_self a b e = sym (texts_ties a b) ∙ bytes_self a b e

-- ---- the first slot of a name

pub spot_at : (name : List ℕ) (slots : List Slot) (at : ℕ) (d : Slot) → at < length slots → is_named name (get_or slots at d) ≡ true
    → ((k : ℕ) → k < at → is_named name (get_or slots k d) ≡ false) → IsSpot name slots at
spot_at name [] at d within here before = absurd (omega arith)
spot_at name (x ∷ xs) zero d within here before = here
spot_at name (x ∷ xs) (suc at) d within here before =
    (before 0 (omega arith), spot_at name xs at d (omega arith) here (λ k h. before (suc k) (omega arith)))

pub spot_within : (name : List ℕ) (slots : List Slot) (at : ℕ) → IsSpot name slots at → at < length slots
spot_within name [] at spot = absurd spot
spot_within name (x ∷ xs) zero spot = omega arith
spot_within name (x ∷ xs) (suc at) spot = let rest = spot_within name xs at spot.1 in omega arith

pub spot_name : (name : List ℕ) (slots : List Slot) (at : ℕ) (d : Slot) → IsSpot name slots at → (get_or slots at d).name ≡ name
spot_name name [] at d spot = absurd spot
spot_name name (x ∷ xs) zero d spot = bytes_same x.name name spot
spot_name name (x ∷ xs) (suc at) d spot = spot_name name xs at d spot.1

none_named : (p : Slot → Bool) (x : Slot) (xs : List Slot) (b : Bool) → p x ≡ b → length (x ∷ xs) ≤ cond (not b) (1 + position_or_len p xs) 0
    → (length xs ≤ position_or_len p xs → list_any p xs ≡ false) → (b || list_any p xs) ≡ false
none_named p x xs true is far rest = absurd (omega arith)
none_named p x xs false is far rest = rest (omega arith)

pub no_spot : (p : Slot → Bool) (slots : List Slot) → length slots ≤ position_or_len p slots → list_any p slots ≡ false
no_spot p [] far = refl
no_spot p (x ∷ xs) far = none_named p x xs (p x) refl far (no_spot p xs)

far_if : (a b : ℕ) → None ≡ cond (nat_lt a b) (Some a) None → b ≤ a
far_if a b e = grind (arith, nat_tests)

-- what the search for a name found
pub spot_of : (name : List ℕ) (slots seen : List Slot) (r : Option ℕ) (at : ℕ) → seen ≡ slots → r ≡ position (is_named name) seen
    → r ≡ Some at → IsSpot name slots at
spot_of name [] seen r at same_list e is = absurd (cc (e, ap (position (is_named name)) same_list))
spot_of name (x ∷ xs) seen r at same_list e is =
    let facts = position-Some (is_named name) (x ∷ xs) at x (ap (position (is_named name)) (sym same_list) ∙ sym e ∙ is) in
    spot_at name (x ∷ xs) at x facts.0 facts.1 facts.2

pub absent_of : (name : List ℕ) (slots seen : List Slot) (r : Option ℕ) → seen ≡ slots → r ≡ position (is_named name) seen → r ≡ None
    → NoSpot name slots
absent_of name slots seen r same_list e is =
    no_spot (is_named name) slots
    (far_if (position_or_len (is_named name) slots) (length slots) (sym is ∙ e ∙ ap (position (is_named name)) same_list))

-- ---- the files

look_if : (q : List ℕ) (there : Bool) (e : List ℕ × List ℕ) (fs : List (List ℕ × List ℕ))
    → look q (cond there (e ∷ fs) fs) ≡ cond there (cond (same q e.0) (Some e.1) (look q fs)) (look q fs)
look_if q true e fs = refl
look_if q false e fs = refl

here : (there tied : Bool) (new old rest : Option (List ℕ)) → cond tied new rest ≡ cond tied new (cond there (cond tied old rest) rest)
here true true new old rest = refl
here true false new old rest = refl
here false true new old rest = refl
here false false new old rest = refl

past : (there tied other : Bool) (new old rest : Option (List ℕ)) → (tied ≡ true → other ≡ true → ⊥)
    → cond there (cond other old (cond tied new rest)) (cond tied new rest) ≡ cond tied new (cond there (cond other old rest) rest)
past true true true new old rest apart = absurd (apart refl refl)
past true true false new old rest apart = refl
past true false true new old rest apart = refl
past true false false new old rest apart = refl
past false true other new old rest apart = refl
past false false other new old rest apart = refl

apart_names : (q name : List ℕ) (x : Slot) → is_named name x ≡ false → same q name ≡ true → same q x.name ≡ true → ⊥
apart_names q name x other_name tied other =
    let is : x.name ≡ name = sym (same_is q x.name other) ∙ same_is q name tied in
    let yes : is_named name x ≡ true = bytes_self x.name name is in
    cc

look_set : (name q : List ℕ) (slots : List Slot) (at : ℕ) (s : Slot) → IsSpot name slots at → s.name ≡ name → s.there ≡ true
    → look q (files_in (set slots at s)) ≡ cond (same q name) (Some s.bytes.items) (look q (files_in slots))
look_set name q [] at s spot is there = absurd spot
look_set name q (x ∷ xs) zero s spot is there =
    let rest = look q (files_in xs) in
    let was : x.name ≡ name = bytes_same x.name name spot in
    look_if q s.there (s.name, s.bytes.items) (files_in xs)
    ∙ ap (λ b. cond b (cond (same q s.name) (Some s.bytes.items) rest) rest) there
    ∙ ap (λ n. cond (same q n) (Some s.bytes.items) rest) is
    ∙ here x.there (same q name) (Some s.bytes.items) (Some x.bytes.items) rest
    ∙ ap (λ n. cond (same q name) (Some s.bytes.items) (cond x.there (cond (same q n) (Some x.bytes.items) rest) rest)) (sym was)
    ∙ ap (cond (same q name) (Some s.bytes.items)) (sym (look_if q x.there (x.name, x.bytes.items) (files_in xs)))
look_set name q (x ∷ xs) (suc at) s spot is there =
    let rest = look q (files_in xs) in
    look_if q x.there (x.name, x.bytes.items) (files_in (set xs at s))
    ∙ ap (λ r. cond x.there (cond (same q x.name) (Some x.bytes.items) r) r) (look_set name q xs at s spot.1 is there)
    ∙ past x.there (same q name) (same q x.name) (Some s.bytes.items) (Some x.bytes.items) rest (apart_names q name x spot.0)
    ∙ ap (cond (same q name) (Some s.bytes.items)) (sym (look_if q x.there (x.name, x.bytes.items) (files_in xs)))

-- a slot that is filled puts its bytes into the map
pub files_filled : (name bytes : List ℕ) (slots : List Slot) (at : ℕ) (s : Slot) → IsSpot name slots at → s.name ≡ name → s.there ≡ true
    → s.bytes.items ≡ bytes → from_entries {R = slice_cmp nat_cmp} (files_in (set slots at s)) ≡ insert (from_entries (files_in slots)) name bytes
files_filled name bytes slots at s spot is there holds =
    same_map nat_list_cmp_total (slice_cmp-IsAntisymmetric nat_cmp-IsAntisymmetric) _ _ (λ q.
    get-from_entries nat_list_cmp_total (files_in (set slots at s)) q
    ∙ look_set name q slots at s spot is there
    ∙ ap (λ b. cond (same q name) (Some b) (look q (files_in slots))) holds
    ∙ ap (cond (same q name) (Some bytes)) (sym (get-from_entries nat_list_cmp_total (files_in slots) q))
    ∙ sym (get-insert nat_list_cmp_total (from_entries (files_in slots)) name bytes q))

-- a slot that keeps its name and its bytes leaves the files as they were
pub files_kept : (name : List ℕ) (slots : List Slot) (at : ℕ) (s d : Slot) → IsSpot name slots at → s.name ≡ (get_or slots at d).name
    → s.there ≡ (get_or slots at d).there → s.bytes.items ≡ (get_or slots at d).bytes.items → files_in (set slots at s) ≡ files_in slots
files_kept name [] at s d spot n t b = refl
files_kept name (x ∷ xs) zero s d spot n t b = λ i. cond (t i) ((n i, b i) ∷ files_in xs) (files_in xs)
files_kept name (x ∷ xs) (suc at) s d spot n t b = ap (λ fs. cond x.there ((x.name, x.bytes.items) ∷ fs) fs) (files_kept name xs at s d spot.1 n t b)

pub names_kept : (slots : List Slot) (at : ℕ) (s d : Slot) → s.name ≡ (get_or slots at d).name
    → map (λ slot. slot.name) (set slots at s) ≡ map (λ (slot : Slot). slot.name) slots
names_kept [] at s d n = refl
names_kept (x ∷ xs) zero s d n = λ i. n i ∷ map (λ (slot : Slot). slot.name) xs
names_kept (x ∷ xs) (suc at) s d n = ap (λ ns. x.name ∷ ns) (names_kept xs at s d n)

-- ---- the room

pub room_at : (name : List ℕ) (slots : List Slot) (at : ℕ) (d : Slot)
    → IsSpot name slots at → room_in slots name ≡ vec_capacity (get_or slots at d).bytes
room_at name [] at d spot = absurd spot
room_at name (x ∷ xs) zero d spot = ap (λ b. cond b (vec_capacity x.bytes) (room_in xs name)) spot
room_at name (x ∷ xs) (suc at) d spot = ap (λ b. cond b (vec_capacity x.bytes) (room_in xs name)) spot.0 ∙ room_at name xs at d spot.1

more_room : (b : Bool) (a c x : ℕ) → a ≤ c → cond b a x ≤ cond b c x
more_room true a c x h = h
more_room false a c x h = omega arith

more_behind : (b : Bool) (a x y : ℕ) → x ≤ y → cond b a x ≤ cond b a y
more_behind true a x y h = omega arith
more_behind false a x y h = h

pub room_kept : (q : List ℕ) (slots : List Slot) (at : ℕ) (s d : Slot) → s.name ≡ (get_or slots at d).name
    → vec_capacity (get_or slots at d).bytes ≤ vec_capacity s.bytes → room_in slots q ≤ room_in (set slots at s) q
room_kept q [] at s d n more = omega arith
room_kept q (x ∷ xs) zero s d n more =
    subst (λ m. cond (bytes_eq x.name q) (vec_capacity x.bytes) (room_in xs q) ≤ cond (bytes_eq m q) (vec_capacity s.bytes) (room_in xs q)) (sym n)
    (more_room (bytes_eq x.name q) (vec_capacity x.bytes) (vec_capacity s.bytes) (room_in xs q) more)
room_kept q (x ∷ xs) (suc at) s d n more = more_behind (is_named q x) (vec_capacity x.bytes) (room_in xs q) (room_in (set xs at s) q)
    (room_kept q xs at s d n more)

pub room_made : (name : List ℕ) (slots : List Slot) (at : ℕ) (s : Slot) → IsSpot name slots at → s.name ≡ name
    → room_in (set slots at s) name ≡ vec_capacity s.bytes
room_made name [] at s spot is = absurd spot
room_made name (x ∷ xs) zero s spot is = ap (λ b. cond b (vec_capacity s.bytes) (room_in xs name)) (bytes_self s.name name is)
room_made name (x ∷ xs) (suc at) s spot is = ap (λ b. cond b (vec_capacity x.bytes) (room_in (set xs at s) name)) spot.0
    ∙ room_made name xs at s spot.1 is

-- ---- what a name has

or_false : (a b : Bool) → (a || b) ≡ false → (a ≡ false) × (b ≡ false)
or_false true b e = absurd (cc)
or_false false b e = (refl, e)

and_true : (a b : Bool) → (not a && b) ≡ true → (a ≡ false) × (b ≡ true)
and_true true b e = absurd (cc)
and_true false b e = (refl, e)

bytes_sym : (a b : List ℕ) → bytes_eq a b ≡ bytes_eq b a
bytes_sym a b = both_ways _ _ (λ e. bytes_self b a (sym (bytes_same a b e))) (λ e. bytes_self a b (sym (bytes_same b a e)))

apart_same : (a b : List ℕ) → bytes_eq a b ≡ false → same b a ≡ false
apart_same a b e = sym (texts_ties b a) ∙ bytes_sym b a ∙ e

cond_alike : (b : Bool) (x : Option (List ℕ)) → cond b x x ≡ x
cond_alike true x = refl
cond_alike false x = refl

look_past : (name : List ℕ) (x : Slot) (fs : List (List ℕ × List ℕ)) → is_named name x ≡ false
    → look name (cond x.there ((x.name, x.bytes.items) ∷ fs) fs) ≡ look name fs
look_past name x fs e =
    look_if name x.there (x.name, x.bytes.items) fs
    ∙ ap (λ b. cond x.there (cond b (Some x.bytes.items) (look name fs)) (look name fs)) (apart_same x.name name e)
    ∙ cond_alike x.there (look name fs)

-- a name with no slot has no file
pub look_absent : (name : List ℕ) (slots : List Slot) → NoSpot name slots → look name (files_in slots) ≡ None
look_absent name [] e = refl
look_absent name (x ∷ xs) e =
    let parts = or_false (is_named name x) (list_any (is_named name) xs) e in
    look_past name x (files_in xs) parts.0 ∙ look_absent name xs parts.1

any_names : (name : List ℕ) (slots : List Slot) → list_any (bytes_eq name) (map (λ slot. slot.name) slots) ≡ list_any (is_named name) slots
any_names name [] = refl
any_names name (x ∷ xs) = λ i. bytes_sym name x.name i || any_names name xs i

look_spot : (name : List ℕ) (slots : List Slot) (at : ℕ) (d : Slot) → are_distinct (map (λ slot. slot.name) slots) ≡ true
    → IsSpot name slots at → look name (files_in slots) ≡ cond (get_or slots at d).there (Some (get_or slots at d).bytes.items) None
look_spot name [] at d apart spot = absurd spot
look_spot name (x ∷ xs) zero d apart spot =
    let was : x.name ≡ name = bytes_same x.name name spot in
    let fresh = (and_true (list_any (bytes_eq x.name) (map (λ (slot : Slot). slot.name) xs)) (are_distinct (map (λ (slot : Slot). slot.name) xs))
    apart).0 in
    let none : look name (files_in xs) ≡ None =
    look_absent name xs (sym (any_names name xs) ∙ ap (λ n. list_any (bytes_eq n) (map (λ (slot : Slot). slot.name) xs)) (sym was) ∙ fresh) in
    look_if name x.there (x.name, x.bytes.items) (files_in xs)
    ∙ ap (λ b. cond x.there (cond b (Some x.bytes.items) (look name (files_in xs))) (look name (files_in xs))) (same_self name x.name (sym was))
    ∙ ap (λ r. cond x.there (Some x.bytes.items) r) none
look_spot name (x ∷ xs) (suc at) d apart spot =
    let others = (and_true (list_any (bytes_eq x.name) (map (λ (slot : Slot). slot.name) xs)) (are_distinct (map (λ (slot : Slot). slot.name) xs))
    apart).1 in
    look_past name x (files_in xs) spot.0 ∙ look_spot name xs at d others spot.1

pub get_spot : (name : List ℕ) (slots : List Slot) (at : ℕ) (d : Slot) → are_distinct (map (λ slot. slot.name) slots) ≡ true
    → IsSpot name slots at → get (from_entries {R = slice_cmp nat_cmp} (files_in slots)) name ≡ cond (get_or slots at d).there
    (Some (get_or slots at d).bytes.items) None
get_spot name slots at d apart spot = get-from_entries nat_list_cmp_total (files_in slots) name ∙ look_spot name slots at d apart spot

pub get_absent : (name : List ℕ) (slots : List Slot) → NoSpot name slots → get (from_entries {R = slice_cmp nat_cmp} (files_in slots)) name ≡ None
get_absent name slots e = get-from_entries nat_list_cmp_total (files_in slots) name ∙ look_absent name slots e

pub room_absent : (name : List ℕ) (slots : List Slot) → NoSpot name slots → room_in slots name ≡ 0
room_absent name [] e = refl
room_absent name (x ∷ xs) e =
    let parts = or_false (is_named name x) (list_any (is_named name) xs) e in
    ap (λ b. cond b (vec_capacity x.bytes) (room_in xs name)) parts.0 ∙ room_absent name xs parts.1

pub if_none : {P : Type 0} (o : Option (Bor (List ℕ))) → P → IfNone o P
if_none None p = p
if_none (Some x) p = tt

-- if there is room for a new name, there is a slot
pub has_spot : (name : List ℕ) (slots seen : List Slot) (r : Option ℕ) → seen ≡ slots → r ≡ position (is_named name) seen
    → (IsNone (get (from_entries {R = slice_cmp nat_cmp} (files_in slots)) name) → 1 ≤ room_in slots name) → IsSome r
has_spot name slots seen None same_list e placed =
    let absent = absent_of name slots seen None same_list e refl in
    let no_file : IsNone (get (from_entries {R = slice_cmp nat_cmp} (files_in slots)) name) = ap is_some (get_absent name slots absent) in
    let some_room = placed no_file in
    absurd (omega (arith, room_absent name slots absent))
has_spot name slots seen (Some at) same_list e placed = refl

-- ---- one more slot

any_pushed : (name : List ℕ) (slots : List Slot) (s : Slot)
    → list_any (bytes_eq name) (map (λ slot. slot.name) (slots ++ s ∷ []))
    ≡ (list_any (bytes_eq name) (map (λ slot. slot.name) slots) || bytes_eq name s.name)
any_pushed name [] s = either (bytes_eq name s.name) where
  either : (b : Bool) → (b || false) ≡ b
  either true = refl
  either false = refl
any_pushed name (x ∷ xs) s = ap (λ b. bytes_eq name x.name || b) (any_pushed name xs s)
    ∙ assoc (bytes_eq name x.name) (list_any (bytes_eq name) (map (λ slot. slot.name) xs)) (bytes_eq name s.name) where
      assoc : (a b c : Bool) → (a || (b || c)) ≡ ((a || b) || c)
      assoc true b c = refl
      assoc false b c = refl

pub distinct_pushed : (slots : List Slot) (s : Slot) → are_distinct (map (λ slot. slot.name) slots) ≡ true → NoSpot s.name slots
    → are_distinct (map (λ slot. slot.name) (slots ++ s ∷ [])) ≡ true
distinct_pushed [] s apart e = refl
distinct_pushed (x ∷ xs) s apart e =
    let parts = or_false (is_named s.name x) (list_any (is_named s.name) xs) e in
    let was = and_true (list_any (bytes_eq x.name) (map (λ (slot : Slot). slot.name) xs)) (are_distinct (map (λ (slot : Slot). slot.name) xs))
    apart in
    λ i. not ((any_pushed x.name xs s ∙ (λ j. was.0 j || parts.0 j)) i) && distinct_pushed xs s was.1 parts.1 i

pub files_kept_pushed : (slots : List Slot) (s : Slot) → s.there ≡ false → files_in (slots ++ s ∷ []) ≡ files_in slots
files_kept_pushed [] s e = ap (λ b. cond b ((s.name, s.bytes.items) ∷ []) []) e
files_kept_pushed (x ∷ xs) s e = ap (λ fs. cond x.there ((x.name, x.bytes.items) ∷ fs) fs) (files_kept_pushed xs s e)

behind : {A : Type 0} (b : Bool) (x : A) (fs gs : List A) → cond b (x ∷ (fs ++ gs)) (fs ++ gs) ≡ cond b (x ∷ fs) fs ++ gs
behind true x fs gs = refl
behind false x fs gs = refl

pub files_pushed : (slots : List Slot) (s : Slot) → s.there ≡ true → files_in (slots ++ s ∷ []) ≡ files_in slots ++ (s.name, s.bytes.items) ∷ []
files_pushed [] s e = ap (λ b. cond b ((s.name, s.bytes.items) ∷ []) []) e
files_pushed (x ∷ xs) s e = ap (λ fs. cond x.there ((x.name, x.bytes.items) ∷ fs) fs) (files_pushed xs s e)
    ∙ behind x.there (x.name, x.bytes.items) (files_in xs) ((s.name, s.bytes.items) ∷ [])

pub room_kept_pushed : (q : List ℕ) (slots : List Slot) (s : Slot) → room_in slots q ≤ room_in (slots ++ s ∷ []) q
room_kept_pushed q [] s = omega arith
room_kept_pushed q (x ∷ xs) s = more_behind (is_named q x) (vec_capacity x.bytes) (room_in xs q) (room_in (xs ++ s ∷ []) q) (room_kept_pushed q xs s)

pub room_pushed : (slots : List Slot) (s : Slot) → NoSpot s.name slots → room_in (slots ++ s ∷ []) s.name ≡ vec_capacity s.bytes
room_pushed [] s e = ap (λ b. cond b (vec_capacity s.bytes) 0) (bytes_self s.name s.name refl)
room_pushed (x ∷ xs) s e =
    let parts = or_false (is_named s.name x) (list_any (is_named s.name) xs) e in
    ap (λ b. cond b (vec_capacity x.bytes) (room_in (xs ++ s ∷ []) s.name)) parts.0 ∙ room_pushed xs s parts.1

pub distinct_tried : (slots tried : List Slot) (s : Slot) (b : Bool) → tried ≡ cond b (slots ++ s ∷ []) slots
    → are_distinct (map (λ slot. slot.name) slots) ≡ true → NoSpot s.name slots → are_distinct (map (λ slot. slot.name) tried) ≡ true
distinct_tried slots tried s true e apart absent = ap (λ xs. are_distinct (map (λ (slot : Slot). slot.name) xs)) e
    ∙ distinct_pushed slots s apart absent
distinct_tried slots tried s false e apart absent = ap (λ xs. are_distinct (map (λ (slot : Slot). slot.name) xs)) e ∙ apart

pub made_pushed : (name : List ℕ) (slots pushed : List Slot) (s : Slot) (len : ℕ) → pushed ≡ slots ++ s ∷ [] → s.name ≡ name → NoSpot name slots
    → vec_capacity s.bytes ≡ len → len ≤ room_in pushed name
made_pushed name slots pushed s len e is absent exact =
    let room = ap (λ xs. room_in xs name) e ∙ ap (room_in (slots ++ s ∷ [])) (sym is)
    ∙ room_pushed slots s (subst (λ n. NoSpot n slots) (sym is) absent) ∙ exact in
    omega arith

pub rooms_pushed : (slots pushed : List Slot) (s : Slot) → pushed ≡ slots ++ s ∷ [] → (q : List ℕ) → room_in slots q ≤ room_in pushed q
rooms_pushed slots pushed s e q = subst (λ xs. room_in slots q ≤ room_in xs q) (sym e) (room_kept_pushed q slots s)

-- ---- the names

abbrev pub name_of : List ℕ × List ℕ → List ℕ
name_of f = f.0

abbrev pub names_in : List Slot → List (List ℕ)
names_in slots = map name_of (files_in slots)

pub names_more : (slots : List Slot) (i : ℕ) (d : Slot) → i < length slots → names_in (take (suc i) slots) ≡ names_in (take i slots) ++ cond
    (get_or slots i d).there ((get_or slots i d).name ∷ []) []
names_more [] i d h = absurd (omega arith)
names_more (x ∷ xs) zero d h = first x.there where
  first : (b : Bool) → map name_of (cond b ((x.name, x.bytes.items) ∷ []) []) ≡ cond b (x.name ∷ []) []
  first true = refl
  first false = refl
names_more (x ∷ xs) (suc i) d h = next x.there (names_more xs i d (omega arith)) where
  next : (b : Bool) → names_in (take (suc i) xs) ≡ names_in (take i xs) ++ cond (get_or xs i d).there ((get_or xs i d).name ∷ []) []
      → map name_of (cond b ((x.name, x.bytes.items) ∷ files_in (take (suc i) xs)) (files_in (take (suc i) xs))) ≡ map name_of
      (cond b ((x.name, x.bytes.items) ∷ files_in (take i xs)) (files_in (take i xs))) ++ cond (get_or xs i d).there ((get_or xs i d).name ∷ []) []
  next true e = ap (λ ns. x.name ∷ ns) e
  next false e = e

tied : (r : Ordering) → is_eq r ≡ false → r ≡ Equal → ⊥
tied r e is = let yes : is_eq r ≡ true = ap is_eq is in cc

none_both : (b : Bool) (v : List ℕ) (r : Option (List ℕ)) → cond b (Some v) r ≡ None → (b ≡ false) × (r ≡ None)
none_both true v r e = absurd (cc)
none_both false v r e = (refl, e)

put_moves : (k v : List ℕ) (es : List (List ℕ × List ℕ)) → look k es ≡ None → IsPermutation (map name_of (put (slice_cmp nat_cmp) k v es))
    (k ∷ map name_of es)
put_moves k v [] none = IsPermutation-refl (k ∷ [])
put_moves k v (e ∷ es) none =
    let parts = none_both (same k e.0) e.1 (look k es) none in
    let behind_it = put_moves k v es parts.1 in
    elim (slice_cmp nat_cmp k e.0)
    as (λ r. slice_cmp nat_cmp k e.0 ≡ r
    → IsPermutation (map name_of (by_order r ((k, v) ∷ e ∷ es) ((e.0, v) ∷ es) (e ∷ put (slice_cmp nat_cmp) k v es))) (k ∷ e.0 ∷ map name_of es)) [
      | Less ↦ λ _. IsPermutation-refl (k ∷ e.0 ∷ map name_of es)
      | Equal ↦ λ is. absurd (tied (slice_cmp nat_cmp k e.0) parts.0 is)
      | Greater ↦ λ _. IsPermutation-trans (e.0 ∷ map name_of (put (slice_cmp nat_cmp) k v es)) (e.0 ∷ k ∷ map name_of es) (k ∷ e.0 ∷ map name_of es)
          (IsPermutation-cons e.0 _ _ behind_it) (IsPermutation-middle (e.0 ∷ []) k (map name_of es))
    ] refl

no_length : (es : List (List ℕ × List ℕ)) → length es ≡ 0 → es ≡ []
no_length [] e = refl
no_length (x ∷ es) e = absurd (omega arith)

no_entries : entries (empty {X = List ℕ} {R = slice_cmp nat_cmp}) ≡ []
no_entries = no_length (entries empty) (sym (len-entries (empty {X = List ℕ} {R = slice_cmp nat_cmp})) ∙ len-empty (slice_cmp nat_cmp) (List ℕ))

-- the keys of the map are the names of the slots that are there
pub keys_listed : (slots : List Slot) → are_distinct (map (λ slot. slot.name) slots) ≡ true
    → IsPermutation (keys (from_entries {R = slice_cmp nat_cmp} (files_in slots))) (names_in slots)
keys_listed [] apart = subst (λ es. IsPermutation (map name_of es) []) (sym no_entries) (IsPermutation-refl [])
keys_listed (x ∷ xs) apart =
    let was = and_true (list_any (bytes_eq x.name) (map (λ (slot : Slot). slot.name) xs)) (are_distinct (map (λ (slot : Slot). slot.name) xs))
    apart in
    let rest = keys_listed xs was.1 in
    let m : FileMap = from_entries (files_in xs) in
    let none : look x.name (entries m) ≡ None = sym (get-entries m x.name) ∙ get_absent x.name xs (sym (any_names x.name xs) ∙ was.0) in
    let more : IsPermutation (keys (insert m x.name x.bytes.items)) (x.name ∷ names_in xs) =
    subst (λ es. IsPermutation (map name_of es) (x.name ∷ names_in xs)) (sym (entries-insert nat_list_cmp_total m x.name x.bytes.items))
    (IsPermutation-trans _ (x.name ∷ keys m) _ (put_moves x.name x.bytes.items (entries m) none) (IsPermutation-cons x.name _ _ rest)) in
    elim x.there as (λ b. IsPermutation (keys (from_entries {R = slice_cmp nat_cmp} (cond b ((x.name, x.bytes.items) ∷ files_in xs) (files_in xs))))
    (map name_of (cond b ((x.name, x.bytes.items) ∷ files_in xs) (files_in xs)))) [ true ↦ more | false ↦ rest ]

pub names_step : (slots seen : List Slot) (i : ℕ) (d : Slot) (before after : List (List ℕ)) → seen ≡ slots → i < length seen → d ≡ get_or seen i d
    → before ≡ names_in (take i slots) → after ≡ before ++ cond d.there (d.name ∷ []) [] → after ≡ names_in (take (i + 1) slots)
names_step slots seen i d before after same_list within is so_far e =
    let slot : d ≡ get_or slots i d = is ∙ ap (λ xs. get_or xs i d) same_list in
    rw add-one (e ∙ (λ j. so_far j ++ cond (slot j).there ((slot j).name ∷ []) []) ∙ sym (names_more slots i d (omega (arith, ap length same_list))))
