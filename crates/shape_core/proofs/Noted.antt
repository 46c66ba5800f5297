-- The members of a footprint in a list that grows at its end and is cut back.
use Rattle.std.proofs.Common.{◌≡◌, ℕ, suc, ◌+◌, ◌-◌, ◌<◌, ◌≤◌, ◌==◌, List, [], ◌∷◌, ◌++◌, Bool, true, false, cond, Option, Some, None, map, take}
use Rattle.std.proofs.Common.{length, get_or, slice_get, refl, ap, sym, subst, ◌∙◌, arith, length-append}
use Rattle.std.proofs.Math.Seq.{take-length}
use Rattle.std.proofs.lemmas.List.{append-nil, length-take-le, map-append, take-append-le}
use Rattle.std.proofs.lemmas.Bool.{eq-eqb, eqb-true}
use Rattle.rotor_base.specs.declared.place.Place.{Place}
use Rattle.rotor_base.specs.declared.place.Goal.{Goal}
use Rattle.rotor_base.specs.declared.looks.Watch.{Watch}
use Rattle.shape_core.specs.declared.shared.SharedEntry.{SharedEntry}
use Rattle.shape_core.specs.declared.shared.SharedEntry.TheVariants as e
use Rattle.shape_core.specs.declared.index.Spot.{Spot}
use Rattle.shape_core.specs.declared.members.Members.{Members}
use Rattle.shape_core.specs.Index.{moved, one_more, position_is, position_of}
use Rattle.shape_core.specs.Members.{HasMembers, behind, behind_dark, dark_of, final, spot_at, spots_of}
use Rattle.shape_core.specs.Places.{is_among}
use Rattle.shape_core.specs.Looks as looks
use Rattle.shape_core.specs.Looks.{last_where, in_foot, some_place}
use Rattle.shape_core.specs.Node.{entries_of}
use Rattle.shape_core.specs.Shape.{or_else, some_if, darks, decl_of}
use Rattle.shape_core.proofs.Lists.{or_else_none}
use Rattle.shape_core.proofs.Looked.{looked, past_value, past_module, past_dark}
use Rattle.shape_core.proofs.Telling.{taken}

-- ---- one entry more at the end

spot_behind : (ds : List Place) (n k : ℕ) (d : SharedEntry) → map behind (spot_at ds n k d) ≡ spot_at ds (suc n) k d
spot_behind ds n k (e.Val x g) = by (is_among ds g)
  where
    by : (b : Bool) → map behind (cond b (record { goal = g; position = n; darks = k } ∷ []) [])
        ≡ cond b (record { goal = g; position = suc n; darks = k } ∷ []) []
    by true = refl
    by false = refl
spot_behind ds n k (e.Mod x s) = refl
spot_behind ds n k (e.Mty x s) = refl
spot_behind ds n k (e.Dark at) = refl

spot_behind_dark : (ds : List Place) (n k : ℕ) (d : SharedEntry) → map behind_dark (spot_at ds n k d) ≡ spot_at ds (suc n) (suc k) d
spot_behind_dark ds n k (e.Val x g) = by (is_among ds g)
  where
    by : (b : Bool) → map behind_dark (cond b (record { goal = g; position = n; darks = k } ∷ []) [])
        ≡ cond b (record { goal = g; position = suc n; darks = suc k } ∷ []) []
    by true = refl
    by false = refl
spot_behind_dark ds n k (e.Mod x s) = refl
spot_behind_dark ds n k (e.Mty x s) = refl
spot_behind_dark ds n k (e.Dark at) = refl

first_spot : (b : Bool) (s : Spot) → cond b (s ∷ []) [] ≡ [] ++ cond b (s ∷ []) []
first_spot true s = refl
first_spot false s = refl

in_front : (b : Bool) (s : Spot) (xs ys : List Spot) → cond b (s ∷ (xs ++ ys)) (xs ++ ys) ≡ cond b (s ∷ xs) xs ++ ys
in_front true s xs ys = refl
in_front false s xs ys = refl

pub spots_more : (ds : List Place) (es : List SharedEntry) (d : SharedEntry)
    → spots_of ds (es ++ d ∷ []) ≡ spots_of ds es ++ spot_at ds (length es) (length (darks (entries_of es))) d
spots_more ds [] (e.Val x g) = refl
spots_more ds [] (e.Mod x s) = refl
spots_more ds [] (e.Mty x s) = refl
spots_more ds [] (e.Dark at) = refl
spots_more ds (e.Val x g ∷ es) d =
    let n = length es in
    let k = length (darks (entries_of es)) in
    let rest : map behind (spots_of ds (es ++ d ∷ [])) ≡ map behind (spots_of ds es) ++ spot_at ds (suc n) k d =
    ap (map behind) (spots_more ds es d) ∙ map-append behind (spots_of ds es) (spot_at ds n k d)
    ∙ ap (λ l. map behind (spots_of ds es) ++ l) (spot_behind ds n k d) in
    ap (λ l. cond (is_among ds g) (record { goal = g; position = 0; darks = 0 } ∷ l) l) rest
    ∙ in_front (is_among ds g) (record { goal = g; position = 0; darks = 0 }) (map behind (spots_of ds es)) (spot_at ds (suc n) k d)
spots_more ds (e.Mod x s ∷ es) d =
    let n = length es in
    let k = length (darks (entries_of es)) in
    ap (map behind) (spots_more ds es d) ∙ map-append behind (spots_of ds es) (spot_at ds n k d)
    ∙ ap (λ l. map behind (spots_of ds es) ++ l) (spot_behind ds n k d)
spots_more ds (e.Mty x s ∷ es) d =
    let n = length es in
    let k = length (darks (entries_of es)) in
    ap (map behind) (spots_more ds es d) ∙ map-append behind (spots_of ds es) (spot_at ds n k d)
    ∙ ap (λ l. map behind (spots_of ds es) ++ l) (spot_behind ds n k d)
spots_more ds (e.Dark at ∷ es) d =
    let n = length es in
    let k = length (darks (entries_of es)) in
    ap (map behind_dark) (spots_more ds es d) ∙ map-append behind_dark (spots_of ds es) (spot_at ds n k d)
    ∙ ap (λ l. map behind_dark (spots_of ds es) ++ l) (spot_behind_dark ds n k d)

pub darks_step : (es : List SharedEntry) (d : SharedEntry) → length (darks (entries_of (es ++ d ∷ []))) ≡ length (darks (entries_of es)) + dark_of d
darks_step [] (e.Val x g) = refl
darks_step [] (e.Mod x s) = refl
darks_step [] (e.Mty x s) = refl
darks_step [] (e.Dark at) = refl
darks_step (e.Val x g ∷ es) d = darks_step es d
darks_step (e.Mod x s ∷ es) d = darks_step es d
darks_step (e.Mty x s ∷ es) d = darks_step es d
darks_step (e.Dark at ∷ es) d = omega (arith, darks_step es d)

-- ---- the last one

final_moved : (ss : List Spot) → final (map behind ss) ≡ moved (final ss)
final_moved [] = refl
final_moved (s ∷ ss) = ap (λ o. or_else o (Some (behind s))) (final_moved ss) ∙ by (final ss)
  where
    by : (o : Option Spot) → or_else (moved o) (Some (behind s)) ≡ moved (or_else o (Some s))
    by None = refl
    by (Some t) = refl

final_dark : (ss : List Spot) → final (map behind_dark ss) ≡ one_more (final ss)
final_dark [] = refl
final_dark (s ∷ ss) = ap (λ o. or_else o (Some (behind_dark s))) (final_dark ss) ∙ by (final ss)
  where
    by : (o : Option Spot) → or_else (one_more o) (Some (behind_dark s)) ≡ one_more (or_else o (Some s))
    by None = refl
    by (Some t) = refl

final_first : (b : Bool) (s : Spot) (ss : List Spot) → final (cond b (s ∷ ss) ss) ≡ or_else (final ss) (some_if b s)
final_first true s ss = refl
final_first false s ss = sym (or_else_none (final ss))

pub last_noted : (w : Watch) (es : List SharedEntry)
    → last_where (in_foot w) (entries_of es) ≡ looked (length (darks (entries_of es))) (final (spots_of w.foot.decls es))
last_noted w [] = refl
last_noted w (e.Val x g ∷ es) =
    let ds = w.foot.decls in
    let n = length (darks (entries_of es)) in
    let ss = spots_of ds es in
    let here : Spot = record { goal = g; position = 0; darks = 0 } in
    ap (λ o. or_else (looks.moved o) (some_if (is_among ds g) (0, some_place (decl_of g), n))) (last_noted w es)
    ∙ past_value n (final ss) (is_among ds g) g
    ∙ ap (λ o. looked n (or_else o (some_if (is_among ds g) here))) (sym (final_moved ss))
    ∙ ap (looked n) (sym (final_first (is_among ds g) here (map behind ss)))
last_noted w (e.Mod x s ∷ es) =
    let n = length (darks (entries_of es)) in
    let ss = spots_of w.foot.decls es in
    ap looks.moved (last_noted w es) ∙ past_module n (final ss) ∙ ap (looked n) (sym (final_moved ss))
last_noted w (e.Mty x s ∷ es) =
    let n = length (darks (entries_of es)) in
    let ss = spots_of w.foot.decls es in
    ap looks.moved (last_noted w es) ∙ past_module n (final ss) ∙ ap (looked n) (sym (final_moved ss))
last_noted w (e.Dark at ∷ es) =
    let n = length (darks (entries_of es)) in
    let ss = spots_of w.foot.decls es in
    ap looks.moved (last_noted w es) ∙ past_dark n (final ss) ∙ ap (looked (suc n)) (sym (final_dark ss))

or_some : (o : Option Spot) (a b : Spot) → or_else (or_else o (Some b)) (Some a) ≡ or_else o (Some b)
or_some None a b = refl
or_some (Some c) a b = refl

pub final_get : (ss : List Spot) → slice_get ss (length ss - 1) ≡ final ss
final_get [] = refl
final_get (a ∷ []) = refl
final_get (a ∷ b ∷ ss) =
    let e : length (a ∷ b ∷ ss) - 1 ≡ suc (length (b ∷ ss) - 1) = omega arith in
    ap (slice_get (a ∷ b ∷ ss)) e ∙ final_get (b ∷ ss) ∙ sym (or_some (final ss) a b)

pub final_more : (ss : List Spot) (s : Spot) → final (ss ++ s ∷ []) ≡ Some s
final_more [] s = refl
final_more (a ∷ ss) s = ap (λ o. or_else o (Some a)) (final_more ss s)

-- ---- one entry less at the end

-- each is at a position below
abbrev Below : ℕ → List Spot → Type 0
Below n [] = Unit {0}
Below n (s ∷ ss) = (s.position < n) × Below n ss

below_behind : (n : ℕ) (ss : List Spot) → Below n ss → Below (suc n) (map behind ss)
below_behind n [] h = tt
below_behind n (s ∷ ss) h = (omega (arith, h.0), below_behind n ss h.1)

below_dark : (n : ℕ) (ss : List Spot) → Below n ss → Below (suc n) (map behind_dark ss)
below_dark n [] h = tt
below_dark n (s ∷ ss) h = (omega (arith, h.0), below_dark n ss h.1)

below_first : (n : ℕ) (b : Bool) (s : Spot) (ss : List Spot) → s.position < n → Below n ss → Below n (cond b (s ∷ ss) ss)
below_first n true s ss l h = (l, h)
below_first n false s ss l h = h

all_below : (ds : List Place) (es : List SharedEntry) → Below (length es) (spots_of ds es)
all_below ds [] = tt
all_below ds (e.Val x g ∷ es) =
    below_first (suc (length es)) (is_among ds g) (record { goal = g; position = 0; darks = 0 }) (map behind (spots_of ds es)) (omega arith)
    (below_behind (length es) (spots_of ds es) (all_below ds es))
all_below ds (e.Mod x s ∷ es) = below_behind (length es) (spots_of ds es) (all_below ds es)
all_below ds (e.Mty x s ∷ es) = below_behind (length es) (spots_of ds es) (all_below ds es)
all_below ds (e.Dark at ∷ es) = below_dark (length es) (spots_of ds es) (all_below ds es)

final_below : (n : ℕ) (ss : List Spot) → Below n ss → position_is n (position_of (final ss)) ≡ false
final_below n [] h = refl
final_below n (s ∷ ss) h = by (final ss) (final_below n ss h.1)
  where
    by : (o : Option Spot) → position_is n (position_of o) ≡ false → position_is n (position_of (or_else o (Some s))) ≡ false
    by None k = apart (s.position == n) refl
      where
        apart : (b : Bool) → (s.position == n) ≡ b → (s.position == n) ≡ false
        apart true q = absurd (omega (arith, eqb-true s.position n q, h.0))
        apart false q = q
    by (Some t) k = k

-- ---- what is noted

pub members_last : (m : Members) (list : List SharedEntry) (w : Watch) → w.foot.decls ≡ m.decls.items → HasMembers m list → m.noted ≡ length list
    → last_where (in_foot w) (entries_of list) ≡ looked (length (darks (entries_of list))) (final m.spots.items)
members_last m list w e h n =
    let whole : take m.noted list ≡ list = ap (λ k. take k list) n ∙ take-length list in
    let spots : spots_of w.foot.decls list ≡ m.spots.items = ap (λ ds. spots_of ds list) e ∙ ap (spots_of m.decls.items) (sym whole) ∙ sym h.spots in
    last_noted w list ∙ ap (λ ss. looked (length (darks (entries_of list))) (final ss)) spots

-- one more entry is noted
pub noted_more : (ds : List Place) (list : List SharedEntry) (n k k' : ℕ) (d : SharedEntry) (old new : List Spot) → n < length list
    → d ≡ get_or list n d → old ≡ spots_of ds (take n list) → k ≡ length (darks (entries_of (take n list))) → new ≡ old ++ spot_at ds n k d
    → k' ≡ k + dark_of d → (new ≡ spots_of ds (take (n + 1) list)) × (k' ≡ length (darks (entries_of (take (n + 1) list))))
noted_more ds list n k k' d old new lt is h i j l =
    let front = take n list in
    let more : take (n + 1) list ≡ front ++ d ∷ [] = taken list n d lt is in
    let len : length front ≡ n = length-take-le n list (omega (arith, lt)) in
    let spots : spots_of ds (take (n + 1) list) ≡ spots_of ds front ++ spot_at ds n k d = ap (spots_of ds) more ∙ spots_more ds front d
    ∙ ap (λ m. spots_of ds front ++ spot_at ds m (length (darks (entries_of front))) d) len
    ∙ ap (λ m. spots_of ds front ++ spot_at ds n m d) (sym i) in
    let count : length (darks (entries_of (take (n + 1) list))) ≡ length (darks (entries_of front)) + dark_of d =
    ap (λ (xs : List SharedEntry). length (darks (entries_of xs))) more ∙ darks_step front d in
    (j ∙ ap (λ ss. ss ++ spot_at ds n k d) h ∙ sym spots, l ∙ ap (λ m. m + dark_of d) i ∙ sym count)

-- an entry at the end that was not noted goes
pub unnoted : (m : Members) (list : List SharedEntry) (d : SharedEntry) → HasMembers m (list ++ d ∷ []) → m.noted ≤ length list → HasMembers m list
unnoted m list d h le =
    let same : take m.noted (list ++ d ∷ []) ≡ take m.noted list = take-append-le m.noted list (d ∷ []) le in
    record {
      few = le;
      spots = h.spots ∙ ap (spots_of m.decls.items) same;
      darks = h.darks ∙ ap (λ (xs : List SharedEntry). length (darks (entries_of xs))) same;
    }

-- an entry at the end that was noted: what it had added
pub was_noted : (m : Members) (list : List SharedEntry) (d : SharedEntry) → HasMembers m (list ++ d ∷ []) → length list < m.noted
    → (m.spots.items ≡ spots_of m.decls.items list ++ spot_at m.decls.items (length list) (length (darks (entries_of list))) d)
    × (m.darks ≡ length (darks (entries_of list)) + dark_of d)
was_noted m list d h lt =
    let len : length (list ++ d ∷ []) ≡ length list + 1 = length-append list (d ∷ []) in
    let all : m.noted ≡ length (list ++ d ∷ []) = omega (arith, h.few, len, lt) in
    let whole : take m.noted (list ++ d ∷ []) ≡ list ++ d ∷ [] = ap (λ k. take k (list ++ d ∷ [])) all ∙ take-length (list ++ d ∷ []) in (
      h.spots ∙ ap (spots_of m.decls.items) whole ∙ spots_more m.decls.items list d,
      h.darks ∙ ap (λ (xs : List SharedEntry). length (darks (entries_of xs))) whole ∙ darks_step list d,
    )

-- all of a list is noted
pub noted_all : (m : Members) (list : List SharedEntry) → m.noted ≡ length list → m.spots.items ≡ spots_of m.decls.items list
    → m.darks ≡ length (darks (entries_of list)) → HasMembers m list
noted_all m list n h k =
    let whole : take m.noted list ≡ list = ap (λ i. take i list) n ∙ take-length list in
    record {
      few = omega (arith, n);
      spots = h ∙ ap (spots_of m.decls.items) (sym whole);
      darks = k ∙ ap (λ (xs : List SharedEntry). length (darks (entries_of xs))) (sym whole);
    }

-- whether the last spot is that of a value at the end
pub ends_so : (ds : List Place) (list : List SharedEntry) (n k : ℕ) (x : List ℕ) (g : Goal) (ss : List Spot) → n ≡ length list
    → ss ≡ spots_of ds list ++ spot_at ds n k (e.Val x g) → (found : Bool) → found ≡ position_is n (position_of (final ss))
    → cond found ((s : Spot) × (ss ≡ spots_of ds list ++ s ∷ [])) (ss ≡ spots_of ds list)
ends_so ds list n k x g ss e h found is = by (is_among ds g) refl found is
  where
    none_there : position_is n (position_of (final (spots_of ds list))) ≡ false
    none_there = final_below n (spots_of ds list) (subst (λ m. Below m (spots_of ds list)) (sym e) (all_below ds list))

    by : (b : Bool) → is_among ds g ≡ b → (found : Bool) → found ≡ position_is n (position_of (final ss))
        → cond found ((s : Spot) × (ss ≡ spots_of ds list ++ s ∷ [])) (ss ≡ spots_of ds list)
    by true q true is = (
      record { goal = g; position = n; darks = k },
      h
          ∙ ap (λ b. spots_of ds list ++ cond b (record { goal = g; position = n; darks = k } ∷ []) []) q,
    )
    by true q false is =
        let s : Spot = record { goal = g; position = n; darks = k } in
        let there : position_is n (position_of (final ss)) ≡ true = ap (λ xs. position_is n (position_of (final xs)))
        (h ∙ ap (λ b. spots_of ds list ++ cond b (s ∷ []) []) q) ∙ ap (λ o. position_is n (position_of o)) (final_more (spots_of ds list) s)
        ∙ eq-eqb n n refl in
        absurd (let wrong : false ≡ true = is ∙ there in cc)
    by false q true is =
        let here : ss ≡ spots_of ds list = h ∙ ap (λ b. spots_of ds list ++ cond b (record { goal = g; position = n; darks = k } ∷ []) []) q
        ∙ append-nil (spots_of ds list) in
        absurd (let wrong : true ≡ false = is ∙ ap (λ xs. position_is n (position_of (final xs))) here ∙ none_there in cc)
    by false q false is =
        h ∙ ap (λ b. spots_of ds list ++ cond b (record { goal = g; position = n; darks = k } ∷ []) []) q ∙ append-nil (spots_of ds list)

-- a module, a module type or a value that is no member goes
pub gone : (m : Members) (list : List SharedEntry) (d : SharedEntry) (left : ℕ) → HasMembers m (list ++ d ∷ []) → length list ≡ left → left < m.noted
    → spot_at m.decls.items (length list) (length (darks (entries_of list))) d ≡ [] → dark_of d ≡ 0
    → HasMembers (record { decls = m.decls; noted = left; spots = m.spots; darks = m.darks }) list
gone m list d left h e lt none light =
    let two = was_noted m list d h (omega (arith, e, lt)) in
    noted_all (record { decls = m.decls; noted = left; spots = m.spots; darks = m.darks }) list (sym e)
    (two.0 ∙ ap (λ ss. spots_of m.decls.items list ++ ss) none ∙ append-nil (spots_of m.decls.items list)) (omega (arith, two.1, light))

-- a Dark entry goes
pub dark_gone : (m : Members) (list : List SharedEntry) (d : SharedEntry) (left k : ℕ) → HasMembers m (list ++ d ∷ []) → length list ≡ left
    → left < m.noted → spot_at m.decls.items (length list) (length (darks (entries_of list))) d ≡ [] → dark_of d ≡ 1 → k ≡ m.darks - 1
    → HasMembers (record { decls = m.decls; noted = left; spots = m.spots; darks = k }) list
dark_gone m list d left k h e lt none dark less =
    let two = was_noted m list d h (omega (arith, e, lt)) in
    noted_all (record { decls = m.decls; noted = left; spots = m.spots; darks = k }) list (sym e)
    (two.0 ∙ ap (λ ss. spots_of m.decls.items list ++ ss) none ∙ append-nil (spots_of m.decls.items list)) (omega (arith, two.1, dark, less))

-- a value goes, whose spot was the last one if that is at its position
pub value_gone : (m : Members) (list : List SharedEntry) (x : List ℕ) (g : Goal) (left : ℕ) (found : Bool) → HasMembers m (list ++ e.Val x g ∷ [])
    → length list ≡ left → left < m.noted → found ≡ position_is left (position_of (final m.spots.items))
    → cond found ((s : Spot) × (m.spots.items ≡ spots_of m.decls.items list ++ s ∷ [])) (m.spots.items ≡ spots_of m.decls.items list)
value_gone m list x g left found h len lt is =
    let two = was_noted m list (e.Val x g) h (omega (arith, len, lt)) in
    ends_so m.decls.items list (length list) (length (darks (entries_of list))) x g m.spots.items refl two.0 found
    (is ∙ ap (λ i. position_is i (position_of (final m.spots.items))) (sym len))

pub value_darks : (m : Members) (list : List SharedEntry) (x : List ℕ) (g : Goal) (left : ℕ) → HasMembers m (list ++ e.Val x g ∷ [])
    → length list ≡ left
    → left < m.noted → m.darks ≡ length (darks (entries_of list))
value_darks m list x g left h len lt = let two = was_noted m list (e.Val x g) h (omega (arith, len, lt)) in omega (arith, two.1)

pub entry_is : (m : Members) (list : List SharedEntry) (d c : SharedEntry) → d ≡ c → HasMembers m (list ++ d ∷ []) → HasMembers m (list ++ c ∷ [])
entry_is m list d c e h = subst (λ (z : SharedEntry). HasMembers m (list ++ z ∷ [])) e h
