-- Tables after one entry more or less.
use Rattle.std.proofs.Common.{◌≡◌, ℕ, suc, ◌+◌, ◌<◌, ◌≤◌, ◌-◌, Bool, true, false, List, [], ◌∷◌, ◌++◌, length, take, drop, get_or, slice_get, Option}
use Rattle.std.proofs.Common.{Some, None, refl, sym, ap, subst, ◌∙◌, arith, length-append, length-drop, true≢false}
use Rattle.std.proofs.lemmas.Slice.Eq.{bytes_eq-Decides}
use Rattle.std.proofs.Math.Seq.{take-append_seam}
use Rattle.std.proofs.lemmas.List.{append-nil, drop_all, take_more}
use Rattle.std.specs.Prelude.{vec_len, max}
use Rattle.std.specs.Prelude.{bytes_eq, if◌then◌else◌, IsSome}
use Rattle.std.specs.Global.{Vec}
use Rattle.rotor_base.specs.declared.place.Place.{Place}
use Rattle.rotor_base.specs.declared.place.Goal.{Goal}
use Rattle.shape_core.specs.declared.shared.SharedEntry.{SharedEntry}
use Rattle.shape_core.specs.declared.shared.SharedEntry.TheVariants as e
use Rattle.shape_core.specs.declared.index.Spot.{Spot}
use Rattle.shape_core.specs.declared.index.Tables.{Tables}
use Rattle.shape_core.specs.declared.index.Before.{Before}
use Rattle.name_tables.specs.declared.names.Names.{Names}
use Rattle.shape_core.specs.declared.shape.Seen.{Seen}
use Rattle.shape_core.specs.View.{Sees, entries, view_then}
use Rattle.shape_core.specs.declared.shape.Entry.{Entry}
use Rattle.shape_core.proofs.Views.{entries_more}
use Rattle.std.proofs.Common.{append_assoc}
use Rattle.name_tables.specs.Names.{at}
use Rattle.shape_core.specs.Node.{and_then, entries_of}
use Rattle.shape_core.specs.Index.{last_spot, is_mod, is_mty, last_at, before_of, befores_from, Tells}
use Rattle.shape_core.specs.Shape.{Name, Shape, Entries, none, a_val, a_mod, a_mty, a_dark, ◌⊕◌, or_else, some_if, darks, passed, vals, last_of}
use Rattle.shape_core.specs.Shape.{last_place, find_val, seen, values_from, weights, depths}
use Rattle.shape_core.proofs.Lists.{darks-append, weights-append, depths-append}
use Rattle.shape_core.proofs.Shown.{number, spot, number_of, entries_of-append, spot_val, spot_still, last_at-push, befores-push, length-befores}
use Rattle.shape_core.proofs.Shown.{told, Told, last_drop, last_get}

or_if : {V : Type 0} (b : Bool) (v : V) (o : Option V) → (if b then Some v else o) ≡ or_else (some_if b v) o
or_if true v o = refl
or_if false v o = refl

abbrev made : Names Spot → Names ℕ → Names ℕ → Vec Place → Tables
made v m s d = record { vals = v; mods = m; mtys = s; darks = d }

-- the change that each entry makes in the parts of the tables
spot_more : (list : List SharedEntry) (d : SharedEntry) (x : Name) → last_spot (and_then d none) x ≡ None
    → last_spot (entries_of (list ++ d ∷ [])) x ≡ last_spot (entries_of list) x
spot_more list d x h = ap (λ l. last_spot l x) (entries_of-append list (d ∷ [])) ∙ spot_still (entries_of list) (and_then d none) x h

darks_more : (list : List SharedEntry) (d : SharedEntry) → darks (entries_of (list ++ d ∷ [])) ≡ darks (entries_of list) ++ darks (and_then d none)
darks_more list d = ap darks (entries_of-append list (d ∷ [])) ∙ darks-append (entries_of list) (and_then d none)

darks_still : (list : List SharedEntry) (d : SharedEntry) → darks (and_then d none) ≡ []
    → darks (entries_of (list ++ d ∷ [])) ≡ darks (entries_of list)
darks_still list d h = darks_more list d ∙ ap (λ l. darks (entries_of list) ++ l) h ∙ append-nil (darks (entries_of list))

at_still : (test : SharedEntry → Bool) (list : List SharedEntry) (d : SharedEntry) → test d ≡ false
    → last_at test (list ++ d ∷ []) ≡ last_at test list
at_still test list d h = last_at-push test list d ∙ ap (λ b. or_else (some_if {V = ℕ} b (length list)) (last_at test list)) h

spot_here : (list : List SharedEntry) (x y : Name) (g : Goal) → last_spot (entries_of (list ++ e.Val y g ∷ [])) x ≡ or_else
    (some_if (bytes_eq y x) (spot g (length list) (length (darks (entries_of list))))) (last_spot (entries_of list) x)
spot_here list x y g =
    ap (λ l. last_spot l x) (entries_of-append list (e.Val y g ∷ [])) ∙ spot_val (entries_of list) x y g
    ∙ ap (λ n. or_else (some_if (bytes_eq y x) (spot g n (length (darks (entries_of list))))) (last_spot (entries_of list) x)) (number_of list)

-- one entry more
pub tells_val : (v v' : Names Spot) (m s : Names ℕ) (d : Vec Place) (list : List SharedEntry) (y : Name) (g : Goal) (p n : ℕ) → length list ≡ p
    → n ≡ length d.items
    → ((x : Name) → at v' x ≡ (if bytes_eq y x then Some (spot g p n) else at v x)) → Tells (made v m s d) list
    → Tells (made v' m s d) (list ++ e.Val y g ∷ [])
tells_val v v' m s d list y g p n l k put t = record {
  vals = λ x. put x ∙ or_if (bytes_eq y x) (spot g p n) (at v x) ∙ ap (λ c. or_else (some_if (bytes_eq y x) (spot g p c)) (at v x))
      (k ∙ ap length t.darks)
      ∙ ap (λ c. or_else (some_if (bytes_eq y x) (spot g c (length (darks (entries_of list))))) (at v x)) (sym l)
      ∙ ap (or_else (some_if (bytes_eq y x) (spot g (length list) (length (darks (entries_of list)))))) (t.vals x) ∙ sym (spot_here list x y g);
  mods = λ x. t.mods x ∙ sym (at_still (is_mod x) list (e.Val y g) refl);
  mtys = λ x. t.mtys x ∙ sym (at_still (is_mty x) list (e.Val y g) refl);
  darks = t.darks ∙ sym (darks_still list (e.Val y g) refl);
}

pub tells_mod : (v : Names Spot) (m m' s : Names ℕ) (d : Vec Place) (list : List SharedEntry) (y : Name) (u : Shape) (n : ℕ) → length list ≡ n
    → ((x : Name) → at m' x ≡ (if bytes_eq y x then Some n else at m x)) → Tells (made v m s d) list → Tells (made v m' s d) (list ++ e.Mod y u ∷ [])
tells_mod v m m' s d list y u n k put t = record {
  vals = λ x. t.vals x ∙ sym (spot_more list (e.Mod y u) x refl);
  mods = λ x. put x ∙ or_if (bytes_eq y x) n (at m x) ∙ ap (λ c. or_else (some_if (bytes_eq y x) c) (at m x)) (sym k)
      ∙ ap (or_else (some_if (bytes_eq y x) (length list))) (t.mods x) ∙ sym (last_at-push (is_mod x) list (e.Mod y u));
  mtys = λ x. t.mtys x ∙ sym (at_still (is_mty x) list (e.Mod y u) refl);
  darks = t.darks ∙ sym (darks_still list (e.Mod y u) refl);
}

pub tells_mty : (v : Names Spot) (m s s' : Names ℕ) (d : Vec Place) (list : List SharedEntry) (y : Name) (u : Shape) (n : ℕ) → length list ≡ n
    → ((x : Name) → at s' x ≡ (if bytes_eq y x then Some n else at s x)) → Tells (made v m s d) list → Tells (made v m s' d) (list ++ e.Mty y u ∷ [])
tells_mty v m s s' d list y u n k put t = record {
  vals = λ x. t.vals x ∙ sym (spot_more list (e.Mty y u) x refl);
  mods = λ x. t.mods x ∙ sym (at_still (is_mod x) list (e.Mty y u) refl);
  mtys = λ x. put x ∙ or_if (bytes_eq y x) n (at s x) ∙ ap (λ c. or_else (some_if (bytes_eq y x) c) (at s x)) (sym k)
      ∙ ap (or_else (some_if (bytes_eq y x) (length list))) (t.mtys x) ∙ sym (last_at-push (is_mty x) list (e.Mty y u));
  darks = t.darks ∙ sym (darks_still list (e.Mty y u) refl);
}

pub tells_dark : (v : Names Spot) (m s : Names ℕ) (d d' : Vec Place) (list : List SharedEntry) (p : Place) → d'.items ≡ d.items ++ p ∷ []
    → Tells (made v m s d) list → Tells (made v m s d') (list ++ e.Dark p ∷ [])
tells_dark v m s d d' list p k t = record {
  vals = λ x. t.vals x ∙ sym (spot_more list (e.Dark p) x refl);
  mods = λ x. t.mods x ∙ sym (at_still (is_mod x) list (e.Dark p) refl);
  mtys = λ x. t.mtys x ∙ sym (at_still (is_mty x) list (e.Dark p) refl);
  darks = k ∙ ap (λ l. l ++ p ∷ []) t.darks ∙ sym (darks_more list (e.Dark p));
}

-- a value put back
back : {V : Type 0} (b : Bool) (v : V) (o p : Option V) → (b ≡ true → o ≡ p) → (if b then o else or_else (some_if b v) p) ≡ p
back true v o p h = h refl
back false v o p h = refl

-- one entry less
pub untells_val : (v v' : Names Spot) (m s : Names ℕ) (d : Vec Place) (list : List SharedEntry) (y : Name) (g : Goal) (o : Option Spot)
    → o ≡ last_spot (entries_of list) y
    → ((x : Name) → at v' x ≡ (if bytes_eq y x then o else at v x)) → Tells (made v m s d) (list ++ e.Val y g ∷ []) → Tells (made v' m s d) list
untells_val v v' m s d list y g o k put t = record {
  vals = λ x. put x ∙ ap (λ z. if bytes_eq y x then o else z) (t.vals x ∙ spot_here list x y g)
      ∙ back (bytes_eq y x) _ o (last_spot (entries_of list) x) (λ h. k ∙ ap (last_spot (entries_of list)) ((bytes_eq-Decides y x).0 h));
  mods = λ x. t.mods x ∙ at_still (is_mod x) list (e.Val y g) refl;
  mtys = λ x. t.mtys x ∙ at_still (is_mty x) list (e.Val y g) refl;
  darks = t.darks ∙ darks_still list (e.Val y g) refl;
}

pub untells_mod : (v : Names Spot) (m m' s : Names ℕ) (d : Vec Place) (list : List SharedEntry) (y : Name) (u : Shape) (o : Option ℕ)
    → o ≡ last_at (is_mod y) list
    → ((x : Name) → at m' x ≡ (if bytes_eq y x then o else at m x)) → Tells (made v m s d) (list ++ e.Mod y u ∷ []) → Tells (made v m' s d) list
untells_mod v m m' s d list y u o k put t = record {
  vals = λ x. t.vals x ∙ spot_more list (e.Mod y u) x refl;
  mods = λ x. put x ∙ ap (λ z. if bytes_eq y x then o else z) (t.mods x ∙ last_at-push (is_mod x) list (e.Mod y u))
      ∙ back (bytes_eq y x) _ o (last_at (is_mod x) list) (λ h. k ∙ ap (λ z. last_at (is_mod z) list) ((bytes_eq-Decides y x).0 h));
  mtys = λ x. t.mtys x ∙ at_still (is_mty x) list (e.Mod y u) refl;
  darks = t.darks ∙ darks_still list (e.Mod y u) refl;
}

pub untells_mty : (v : Names Spot) (m s s' : Names ℕ) (d : Vec Place) (list : List SharedEntry) (y : Name) (u : Shape) (o : Option ℕ)
    → o ≡ last_at (is_mty y) list
    → ((x : Name) → at s' x ≡ (if bytes_eq y x then o else at s x)) → Tells (made v m s d) (list ++ e.Mty y u ∷ []) → Tells (made v m s' d) list
untells_mty v m s s' d list y u o k put t = record {
  vals = λ x. t.vals x ∙ spot_more list (e.Mty y u) x refl;
  mods = λ x. t.mods x ∙ at_still (is_mod x) list (e.Mty y u) refl;
  mtys = λ x. put x ∙ ap (λ z. if bytes_eq y x then o else z) (t.mtys x ∙ last_at-push (is_mty x) list (e.Mty y u))
      ∙ back (bytes_eq y x) _ o (last_at (is_mty x) list) (λ h. k ∙ ap (λ z. last_at (is_mty z) list) ((bytes_eq-Decides y x).0 h));
  darks = t.darks ∙ darks_still list (e.Mty y u) refl;
}

pub untells_dark : (v : Names Spot) (m s : Names ℕ) (d d' : Vec Place) (list : List SharedEntry) (p : Place)
    → (d.items ≡ darks (entries_of list) ++ p ∷ [] → d'.items ≡ darks (entries_of list))
    → Tells (made v m s d) (list ++ e.Dark p ∷ []) → Tells (made v m s d') list
untells_dark v m s d d' list p k t = record {
  vals = λ x. t.vals x ∙ spot_more list (e.Dark p) x refl;
  mods = λ x. t.mods x ∙ at_still (is_mod x) list (e.Dark p) refl;
  mtys = λ x. t.mtys x ∙ at_still (is_mty x) list (e.Dark p) refl;
  darks = k (t.darks ∙ darks_more list (e.Dark p));
}

-- the name of the last entry is in its table
some_first : {V : Type 0} (b : Bool) (v : V) (o : Option V) → b ≡ true → IsSome (or_else (some_if b v) o)
some_first true v o h = refl
some_first false v o h = absurd (true≢false (sym h))

pub has_val : (t : Tables) (list : List SharedEntry) (y : Name) (g : Goal) → Tells t (list ++ e.Val y g ∷ []) → IsSome (at t.vals y)
has_val t list y g h = subst IsSome (sym (h.vals y ∙ spot_here list y y g))
    (some_first (bytes_eq y y) _ (last_spot (entries_of list) y) ((bytes_eq-Decides y y).1 refl))

pub has_mod : (t : Tables) (list : List SharedEntry) (y : Name) (u : Shape) → Tells t (list ++ e.Mod y u ∷ []) → IsSome (at t.mods y)
has_mod t list y u h = subst IsSome (sym (h.mods y ∙ last_at-push (is_mod y) list (e.Mod y u)))
    (some_first (bytes_eq y y) _ (last_at (is_mod y) list) ((bytes_eq-Decides y y).1 refl))

pub has_mty : (t : Tables) (list : List SharedEntry) (y : Name) (u : Shape) → Tells t (list ++ e.Mty y u ∷ []) → IsSome (at t.mtys y)
has_mty t list y u h = subst IsSome (sym (h.mtys y ∙ last_at-push (is_mty y) list (e.Mty y u)))
    (some_first (bytes_eq y y) _ (last_at (is_mty y) list) ((bytes_eq-Decides y y).1 refl))

-- for an entry and a name of the program
pub at_entry : (t : Tables) (list : List SharedEntry) (d c : SharedEntry) → d ≡ c → Tells t (list ++ d ∷ []) → Tells t (list ++ c ∷ [])
at_entry t list d c k h = subst (λ (z : SharedEntry). Tells t (list ++ z ∷ [])) k h

pub by_name : {V : Type 0} (n n' : Names V) (z y : Name) (o : Option V) → z ≡ y → ((x : Name) → at n' x ≡ (if bytes_eq z x then o else at n x))
    → (x : Name) → at n' x ≡ (if bytes_eq y x then o else at n x)
by_name n n' z y o k put = subst (λ (w : Name). (x : Name) → at n' x ≡ (if bytes_eq w x then o else at n x)) k put

pub len_of : {A : Type 0} (v : Vec A) → vec_len v ≡ length v.items
len_of v = v.ok.0

-- the front of a list with one more at its end
pub front_of : {A : Type 0} (v : Vec A) (xs : List A) (p : A) → v.items ≡ xs ++ p ∷ [] → take (vec_len v - 1) v.items ≡ xs
front_of v xs p k =
    let n : vec_len v - 1 ≡ length xs = let l = len_of v ∙ ap length k ∙ length-append xs (p ∷ []) in omega (arith, l) in
    ap (λ m. take m v.items) n ∙ ap (take (length xs)) k ∙ take-append_seam xs (p ∷ [])

-- the changes of entries, after one more
pub befores_more : (bs : List Before) (cs : List Before) (list : List SharedEntry) (d : SharedEntry) (b : Before) → cs ≡ bs ++ b ∷ []
    → bs ≡ befores_from [] list → b ≡ before_of list d → cs ≡ befores_from [] (list ++ d ∷ [])
befores_more bs cs list d b k h e = k ∙ ap (λ l. l ++ b ∷ []) h ∙ ap (λ z. befores_from [] list ++ z ∷ []) e ∙ sym (befores-push [] list d)

pub befores_length : (bs : Vec Before) (list : List SharedEntry) → bs.items ≡ befores_from [] list → length list ≡ vec_len bs
befores_length bs list h = sym (len_of bs ∙ ap length h ∙ length-befores [] list)

-- the ends of lists that are equal
front_same : {A : Type 0} (xs ys : List A) (a b : A) → xs ++ a ∷ [] ≡ ys ++ b ∷ [] → (xs ≡ ys) × (a ≡ b)
front_same [] [] a b k = (refl, cc)
front_same [] (y ∷ []) a b k = absurd cc
front_same [] (y ∷ z ∷ ys) a b k = absurd cc
front_same (x ∷ []) [] a b k = absurd cc
front_same (x ∷ z ∷ xs) [] a b k = absurd cc
front_same (x ∷ xs) (y ∷ ys) a b k =
    let h : x ≡ y = cc in
    let t : xs ++ a ∷ [] ≡ ys ++ b ∷ [] = cc in
    let r = front_same xs ys a b t in
    (ap (λ z. z ∷ xs) h ∙ ap (λ l. y ∷ l) r.0, r.1)

pub befores_less : (bs cs : List Before) (list : List SharedEntry) (d : SharedEntry) (b : Before) → bs ≡ cs ++ b ∷ []
    → bs ≡ befores_from [] (list ++ d ∷ []) → (cs ≡ befores_from [] list) × (b ≡ before_of list d)
befores_less bs cs list d b k h = front_same cs (befores_from [] list) b (before_of list d) (sym k ∙ h ∙ befores-push [] list d)

pub some_before : (bs : Vec Before) (list : List SharedEntry) (d : SharedEntry) → bs.items ≡ befores_from [] (list ++ d ∷ []) → 0 < vec_len bs
some_before bs list d h =
    let n = len_of bs ∙ ap length h ∙ length-befores [] (list ++ d ∷ []) ∙ length-append list (d ∷ []) in omega (arith, n)

-- the positions of values, after one entry more or less
pub values-append : (n : ℕ) (a b : Entries) → values_from n (a ⊕ b) ≡ values_from n a ++ values_from (n + number a) b
values-append n none b = let e : n ≡ n + 0 = omega arith in ap (λ m. values_from m b) e
values-append n (a_val x g a) b =
    let e : suc n + number a ≡ n + suc (number a) = omega arith in
    ap (λ l. n ∷ l) (values-append (suc n) a b ∙ ap (λ m. values_from (suc n) a ++ values_from m b) e)
values-append n (a_mod x s a) b =
    let e : suc n + number a ≡ n + suc (number a) = omega arith in
    values-append (suc n) a b ∙ ap (λ m. values_from (suc n) a ++ values_from m b) e
values-append n (a_mty x s a) b =
    let e : suc n + number a ≡ n + suc (number a) = omega arith in
    values-append (suc n) a b ∙ ap (λ m. values_from (suc n) a ++ values_from m b) e
values-append n (a_dark at a) b =
    let e : suc n + number a ≡ n + suc (number a) = omega arith in
    values-append (suc n) a b ∙ ap (λ m. values_from (suc n) a ++ values_from m b) e

pub values-split : (list : List SharedEntry) (d : SharedEntry) → values_from 0 (entries_of (list ++ d ∷ [])) ≡ values_from 0
    (entries_of list) ++ values_from (length list) (and_then d none)
values-split list d =
    let e : 0 + number (entries_of list) ≡ length list = omega (arith, number_of list) in
    ap (values_from 0) (entries_of-append list (d ∷ [])) ∙ values-append 0 (entries_of list) (and_then d none)
    ∙ ap (λ m. values_from 0 (entries_of list) ++ values_from m (and_then d none)) e

pub values_more : (vs ws : List ℕ) (list : List SharedEntry) (d : SharedEntry) (p : ℕ) → ws ≡ vs ++ values_from p (and_then d none)
    → vs ≡ values_from 0 (entries_of list) → length list ≡ p → ws ≡ values_from 0 (entries_of (list ++ d ∷ []))
values_more vs ws list d p k h e =
    k ∙ ap (λ l. l ++ values_from p (and_then d none)) h ∙ ap (λ m. values_from 0 (entries_of list) ++ values_from m (and_then d none)) (sym e)
    ∙ sym (values-split list d)

-- the position of an entry taken out
pub value_left : (ws front : List ℕ) (d : SharedEntry) (n : ℕ) → values_from n (and_then d none) ≡ [] → ws ≡ front ++ values_from n (and_then d none)
    → ws ≡ front
value_left ws front d n h k = k ∙ ap (λ l. front ++ l) h ∙ append-nil front

-- what a look-up of a value has seen
pub sees_none : (es : Entries) (x : Name) (s : Seen) → last_spot es x ≡ None → s.found ≡ None → s.by ≡ last_place (darks es)
    → s.passed ≡ length (darks es) → Sees es x s
sees_none es x s h f b n =
    let t = subst (Told (last_of (vals es) x) (passed es x) (darks es)) h (told es x) in
    record { found = f ∙ sym t.0; by = b ∙ ap last_place (sym t.1); passed = n ∙ ap length (sym t.1) }

pub sees_some : (es : Entries) (x : Name) (s : Seen) (p : Spot) → last_spot es x ≡ Some p → s.found ≡ Some p.goal
    → s.by ≡ last_place (drop p.darks (darks es)) → s.passed ≡ length (darks es) - p.darks → Sees es x s
sees_some es x s p h f b n =
    let t = subst (Told (last_of (vals es) x) (passed es x) (darks es)) h (told es x) in
    record { found = f ∙ sym t.0; by = b ∙ ap last_place (sym t.1); passed = n ∙ sym (length-drop p.darks (darks es)) ∙ ap length (sym t.1) }

pub none_left : (n : ℕ) (ats : List Place) → length ats - n ≡ 0 → last_place (drop n ats) ≡ None
none_left n ats h = ap last_place (drop_all n ats (omega (arith, h)))

pub some_left : (n : ℕ) (ats : List Place) → 0 < length ats - n → last_place (drop n ats) ≡ slice_get ats (length ats - 1)
some_left n ats h = last_drop n ats (omega (arith, h)) ∙ sym (last_get ats)

pub sees_val : (es : Entries) (x : Name) (s : Seen) → Sees es x s → seen s.found s.by s.passed ≡ find_val es x
sees_val es x s h = ap (λ z. seen z s.by s.passed) h.found ∙ ap (λ z. seen (last_of (vals es) x) z s.passed) h.by
    ∙ ap (λ z. seen (last_of (vals es) x) (last_place (passed es x)) z) h.passed

-- a list of entries of which one more is taken
pub taken : (list : List SharedEntry) (i : ℕ) (d : SharedEntry) → i < length list → d ≡ get_or list i d → take (i + 1) list ≡ take i list ++ d ∷ []
taken list i d h k = take_more list i d h ∙ ap (λ (z : SharedEntry). take i list ++ z ∷ []) (sym k)

pub weights_taken : (list : List SharedEntry) (i : ℕ) (d : SharedEntry) → i < length list → d ≡ get_or list i d
    → weights (entries_of (take (i + 1) list)) ≡ weights (entries_of (take i list)) + weights (and_then d none)
weights_taken list i d h k = ap (λ l. weights (entries_of l)) (taken list i d h k) ∙ ap weights (entries_of-append (take i list) (d ∷ []))
    ∙ weights-append (entries_of (take i list)) (and_then d none)

pub depths_taken : (list : List SharedEntry) (i : ℕ) (d : SharedEntry) → i < length list → d ≡ get_or list i d
    → depths (entries_of (take (i + 1) list)) ≡ max (depths (entries_of (take i list))) (depths (and_then d none))
depths_taken list i d h k = ap (λ l. depths (entries_of l)) (taken list i d h k) ∙ ap depths (entries_of-append (take i list) (d ∷ []))
    ∙ depths-append (entries_of (take i list)) (and_then d none)

-- shared entries made of plain ones
pub shared_more : (xs : List SharedEntry) (ys : List Entry) (i : ℕ) (d : SharedEntry) (e : Entry) → i < length ys → e ≡ get_or ys i e
    → entries_of xs ≡ entries (take i ys) → and_then d none ≡ view_then e none → entries_of (xs ++ d ∷ []) ≡ entries (take (i + 1) ys)
shared_more xs ys i d e h is k v =
    entries_of-append xs (d ∷ []) ∙ ap (λ l. l ⊕ and_then d none) k ∙ ap (λ l. entries (take i ys) ⊕ l) (v ∙ ap (λ z. view_then z none) is)
    ∙ sym (entries_more ys i e h)

-- a list that is cut
pub cut_more : (whole xs ys : List SharedEntry) (d : SharedEntry) → xs ≡ ys ++ d ∷ [] → ((rest : List SharedEntry) × (whole ≡ xs ++ rest))
    → (rest : List SharedEntry) × (whole ≡ ys ++ rest)
cut_more whole xs ys d k h = (d ∷ h.0, h.1 ∙ ap (λ l. l ++ h.0) k ∙ append_assoc ys (d ∷ []) h.0)

pub cut_done : (whole : List SharedEntry) (v : Vec SharedEntry) (n : ℕ) → ((rest : List SharedEntry) × (whole ≡ v.items ++ rest)) → n ≤ vec_len v
    → vec_len v ≤ n → v.items ≡ take n whole
cut_done whole v n h lo hi =
    let k : n ≡ length v.items = let l = len_of v in omega (arith, l) in
    sym (ap (λ m. take m whole) k ∙ ap (take (length v.items)) h.1 ∙ take-append_seam v.items h.0)
