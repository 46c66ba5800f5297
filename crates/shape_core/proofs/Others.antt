-- The last value of a name that is no member of a footprint, by what a list held for the name before each entry.
use Rattle.std.proofs.Common.{◌≡◌, ℕ, suc, ◌+◌, ◌-◌, ◌<◌, ◌≤◌, ◌&&◌, not, Bool, true, false, List, [], ◌∷◌, ◌++◌, Option, Some, None, length, take}
use Rattle.std.proofs.Common.{drop, slice_get, refl, ap, sym, subst, ◌∙◌, arith, length-append, append-nil}
use Rattle.std.proofs.Math.Seq.{drop-append_seam, take-append_seam, take-length}
use Rattle.std.proofs.lemmas.List.{append_assoc, drop_all, length-take-le, take-append-drop}
use Rattle.std.proofs.lemmas.Slice.Eq.{bytes_eq-Decides}
use Rattle.std.specs.BTreeSet.{BTreeSet}
use Rattle.std.specs.Prelude.{bytes_eq}
use Rattle.rotor_base.specs.declared.place.Place.{Place}
use Rattle.rotor_base.specs.declared.place.Goal.{Goal}
use Rattle.rotor_base.specs.declared.looks.Watch.{Watch}
use Rattle.shape_core.specs.declared.shared.SharedEntry.{SharedEntry}
use Rattle.shape_core.specs.declared.shared.SharedEntry.TheVariants as e
use Rattle.shape_core.specs.declared.index.Spot.{Spot}
use Rattle.shape_core.specs.declared.index.Before.{Before}
use Rattle.shape_core.specs.Index.{before_of, befores_from, last_spot, moved, one_more, spot_in}
use Rattle.shape_core.specs.Looks as looks
use Rattle.shape_core.specs.Looks.{is_member, last_where, other_old, some_place}
use Rattle.shape_core.specs.Node.{entries_of}
use Rattle.shape_core.specs.Places.{HasPlaces, is_among}
use Rattle.shape_core.specs.Shape.{Name, Entries, none, a_val, a_mod, a_mty, a_dark, or_else, some_if, darks, decl_of}
use Rattle.shape_core.proofs.Lasts.{behind, passing}
use Rattle.shape_core.proofs.Lists.{darks-append}
use Rattle.shape_core.proofs.Shown.{entries_of-append}

-- ---- no value

spot_parts : (o : Option Spot) (b : Bool) (s : Spot) → or_else (moved o) (some_if b s) ≡ None → (o ≡ None) × (b ≡ false)
spot_parts None true s h = absurd cc
spot_parts None false s h = (refl, refl)
spot_parts (Some t) b s h = absurd cc

unmoved : (o : Option Spot) → moved o ≡ None → o ≡ None
unmoved None h = refl
unmoved (Some s) h = absurd cc

undarkened : (o : Option Spot) → one_more o ≡ None → o ≡ None
undarkened None h = refl
undarkened (Some s) h = absurd cc

-- no value of the old name, so no other one
none_other : (w : Watch) (x : Name) → w.old ≡ x → (es : Entries) → last_spot es x ≡ None → last_where (other_old w) es ≡ None
none_other w x old none h = refl
none_other w x old (a_val y g es) h =
    let p = spot_parts (last_spot es x) (bytes_eq y x) (record { goal = g; position = 0; darks = 0 }) h in
    let here : looks.Spot = (0, some_place (decl_of g), length (darks es)) in
    let apart : bytes_eq y w.old ≡ false = ap (bytes_eq y) old ∙ p.1 in
    ap (λ o. or_else (looks.moved o) (some_if (bytes_eq y w.old && not (is_member w g)) here)) (none_other w x old es p.0)
    ∙ ap (λ b. some_if (b && not (is_member w g)) here) apart
none_other w x old (a_mod Y s es) h = ap looks.moved (none_other w x old es (unmoved (last_spot es x) h))
none_other w x old (a_mty Y s es) h = ap looks.moved (none_other w x old es (unmoved (last_spot es x) h))
none_other w x old (a_dark at es) h = ap looks.moved (none_other w x old es (undarkened (last_spot es x) h))

look_parts : (o : Option looks.Spot) (b : Bool) (s : looks.Spot) → or_else (looks.moved o) (some_if b s) ≡ None → (o ≡ None) × (b ≡ false)
look_parts None true s h = absurd cc
look_parts None false s h = (refl, refl)
look_parts (Some t) b s h = absurd cc

look_unmoved : (o : Option looks.Spot) → looks.moved o ≡ None → o ≡ None
look_unmoved None h = refl
look_unmoved (Some s) h = absurd cc

none_both : (t : looks.Test) (a b : List SharedEntry) → last_where t (entries_of a) ≡ None → last_where t (entries_of b) ≡ None
    → last_where t (entries_of (a ++ b)) ≡ None
none_both t [] b h k = k
none_both t (e.Val x g ∷ a) b h k =
    let p = look_parts (last_where t (entries_of a)) (t x g) (0, some_place (decl_of g), length (darks (entries_of a))) h in
    let here : looks.Spot = (0, some_place (decl_of g), length (darks (entries_of (a ++ b)))) in
    ap (λ o. or_else (looks.moved o) (some_if (t x g) here)) (none_both t a b p.0 k) ∙ ap (λ c. some_if c here) p.1
none_both t (e.Mod x s ∷ a) b h k = ap looks.moved (none_both t a b (look_unmoved (last_where t (entries_of a)) h) k)
none_both t (e.Mty x s ∷ a) b h k = ap looks.moved (none_both t a b (look_unmoved (last_where t (entries_of a)) h) k)
none_both t (e.Dark at ∷ a) b h k = ap looks.moved (none_both t a b (look_unmoved (last_where t (entries_of a)) h) k)

-- a member is no other value
none_here : (w : Watch) (y : Name) (g : Goal) (rest : List SharedEntry) → is_member w g ≡ true → last_where (other_old w) (entries_of rest) ≡ None
    → last_where (other_old w) (entries_of (e.Val y g ∷ rest)) ≡ None
none_here w y g rest m h =
    let here : looks.Spot = (0, some_place (decl_of g), length (darks (entries_of rest))) in
    ap (λ o. or_else (looks.moved o) (some_if (bytes_eq y w.old && not (is_member w g)) here)) h
    ∙ ap (λ b. some_if (bytes_eq y w.old && not b) here) m ∙ by (bytes_eq y w.old)
  where
    by : (b : Bool) → some_if {V = looks.Spot} (b && false) (0, some_place (decl_of g), length (darks (entries_of rest))) ≡ None
    by true = refl
    by false = refl

-- ---- the list around the last value of a name

record Around (xs : List SharedEntry) (x : Name) (s : Spot) : Type 0 where
  front : List SharedEntry
  back : List SharedEntry
  whole : xs ≡ front ++ e.Val x s.goal ∷ back
  at : length front ≡ s.position
  before : length (darks (entries_of front)) ≡ s.darks
  none : last_spot (entries_of back) x ≡ None

-- with one entry more in front
around_val : (ys : List SharedEntry) (x y : Name) (g : Goal) (s t : Spot) → s ≡ record t { position = suc t.position } → Around ys x t
    → Around (e.Val y g ∷ ys) x s
around_val ys x y g s t is a = subst (Around (e.Val y g ∷ ys) x) (sym is) (record {
  front = e.Val y g ∷ a.front;
  back = a.back;
  whole = ap (λ l. e.Val y g ∷ l) a.whole;
  at = ap suc a.at;
  before = a.before;
  none = a.none;
})

around_first : (ys : List SharedEntry) (x y : Name) (g : Goal) (s : Spot) → s ≡ record { goal = g; position = 0; darks = 0 } → y ≡ x
    → last_spot (entries_of ys) x ≡ None → Around (e.Val y g ∷ ys) x s
around_first ys x y g s is same h = subst (Around (e.Val y g ∷ ys) x) (sym is) (record {
  front = [];
  back = ys;
  whole = ap (λ z. e.Val z g ∷ ys) same;
  at = refl;
  before = refl;
  none = h;
})

around : (xs : List SharedEntry) (x : Name) (s : Spot) → last_spot (entries_of xs) x ≡ Some s → Around xs x s
around [] x s h = absurd cc
around (e.Val y g ∷ ys) x s h = by (last_spot (entries_of ys) x) refl (around ys x) (bytes_eq y x) refl h
  where
    by : (o : Option Spot) → last_spot (entries_of ys) x ≡ o → ((t : Spot) → o ≡ Some t → Around ys x t) → (b : Bool) → bytes_eq y x ≡ b
        → or_else (moved o) (some_if b (record { goal = g; position = 0; darks = 0 })) ≡ Some s → Around (e.Val y g ∷ ys) x s
    by None n k true q r =
        let is : s ≡ record { goal = g; position = 0; darks = 0 } = cc in
        around_first ys x y g s is ((bytes_eq-Decides y x).0 q) n
    by None n k false q r = absurd cc
    by (Some t) n k b q r = around_val ys x y g s t (let is : s ≡ record t { position = suc t.position } = cc in is) (k t refl)
around (e.Mod y u ∷ ys) x s h = by (last_spot (entries_of ys) x) (around ys x) h
  where
    by : (o : Option Spot) → ((t : Spot) → o ≡ Some t → Around ys x t) → moved o ≡ Some s → Around (e.Mod y u ∷ ys) x s
    by None k r = absurd cc
    by (Some t) k r =
        let a = k t refl in
        let is : s ≡ record t { position = suc t.position } = cc in
        subst (Around (e.Mod y u ∷ ys) x) (sym is) (record {
          front = e.Mod y u ∷ a.front;
          back = a.back;
          whole = ap (λ l. e.Mod y u ∷ l) a.whole;
          at = ap suc a.at;
          before = a.before;
          none = a.none;
        })
around (e.Mty y u ∷ ys) x s h = by (last_spot (entries_of ys) x) (around ys x) h
  where
    by : (o : Option Spot) → ((t : Spot) → o ≡ Some t → Around ys x t) → moved o ≡ Some s → Around (e.Mty y u ∷ ys) x s
    by None k r = absurd cc
    by (Some t) k r =
        let a = k t refl in
        let is : s ≡ record t { position = suc t.position } = cc in
        subst (Around (e.Mty y u ∷ ys) x) (sym is) (record {
          front = e.Mty y u ∷ a.front;
          back = a.back;
          whole = ap (λ l. e.Mty y u ∷ l) a.whole;
          at = ap suc a.at;
          before = a.before;
          none = a.none;
        })
around (e.Dark p ∷ ys) x s h = by (last_spot (entries_of ys) x) (around ys x) h
  where
    by : (o : Option Spot) → ((t : Spot) → o ≡ Some t → Around ys x t) → one_more o ≡ Some s → Around (e.Dark p ∷ ys) x s
    by None k r = absurd cc
    by (Some t) k r =
        let a = k t refl in
        let is : s ≡ record t { position = suc t.position; darks = suc t.darks } = cc in
        subst (Around (e.Dark p ∷ ys) x) (sym is) (record {
          front = e.Dark p ∷ a.front;
          back = a.back;
          whole = ap (λ l. e.Dark p ∷ l) a.whole;
          at = ap suc a.at;
          before = ap suc a.before;
          none = a.none;
        })

-- ---- what the list held before an entry

befores_at : (done front rest : List SharedEntry) (d : SharedEntry)
    → slice_get (befores_from done (front ++ d ∷ rest)) (length front) ≡ Some (before_of (done ++ front) d)
befores_at done [] rest d = ap (λ l. Some (before_of l d)) (sym (append-nil done))
befores_at done (c ∷ front) rest d =
    befores_at (done ++ c ∷ []) front rest d ∙ ap (λ l. Some (before_of l d)) (append_assoc done (c ∷ []) front)

-- ---- a walk back over the values of a name

-- no other value is from a position on, and this is the last value of the name before the position
pub record Backwards (name : Name) (set : BTreeSet Place) (list : List SharedEntry) (left : ℕ) (last : Option Spot) : Type 0 where
  pub within : left ≤ length list
  pub last_is : last ≡ last_spot (entries_of (take left list)) name
  pub none_after : (w : Watch) → w.old ≡ name → HasPlaces w.foot.decls set → last_where (other_old w) (entries_of (drop left list)) ≡ None

pub begins : (name : Name) (set : BTreeSet Place) (list : List SharedEntry) (last : Option Spot) → last ≡ last_spot (entries_of list) name
    → Backwards name set list (length list) last
begins name set list last is = record {
  within = omega arith;
  last_is = is ∙ ap (λ l. last_spot (entries_of l) name) (sym (take-length list));
  none_after = λ w old has. ap (λ l. last_where (other_old w) (entries_of l)) (drop_all (length list) list (omega arith));
}

-- the whole list around the value
record Divided (list : List SharedEntry) (left : ℕ) (x : Name) (s : Spot) : Type 0 where
  front : List SharedEntry
  back : List SharedEntry
  front_is : take s.position list ≡ front
  rest_is : drop s.position list ≡ e.Val x s.goal ∷ (back ++ drop left list)
  whole : list ≡ front ++ e.Val x s.goal ∷ (back ++ drop left list)
  at : length front ≡ s.position
  before : length (darks (entries_of front)) ≡ s.darks
  none : last_spot (entries_of back) x ≡ None
  earlier : s.position < left

divided : (list : List SharedEntry) (left : ℕ) (x : Name) (s : Spot) → left ≤ length list → Some s ≡ last_spot (entries_of (take left list)) x
    → Divided list left x s
divided list left x s within is =
    let a = around (take left list) x s (sym is) in
    let d : SharedEntry = e.Val x s.goal in
    let rest = a.back ++ drop left list in
    let whole : list ≡ a.front ++ d ∷ rest = sym (take-append-drop left list) ∙ ap (λ l. l ++ drop left list) a.whole
    ∙ append_assoc a.front (d ∷ a.back) (drop left list) in
    let long = length-take-le left list within in
    let parts = ap length a.whole ∙ length-append a.front (d ∷ a.back) in
    record {
      front = a.front;
      back = a.back;
      front_is = ap (λ n. take n list) (sym a.at) ∙ ap (take (length a.front)) whole ∙ take-append_seam a.front (d ∷ rest);
      rest_is = ap (λ n. drop n list) (sym a.at) ∙ ap (drop (length a.front)) whole ∙ drop-append_seam a.front (d ∷ rest);
      whole = whole;
      at = a.at;
      before = a.before;
      none = a.none;
      earlier = omega (arith, long, parts, a.at);
    }

pub earlier : (name : Name) (set : BTreeSet Place) (list : List SharedEntry) (left : ℕ) (s : Spot) → Backwards name set list left (Some s)
    → s.position < left
earlier name set list left s b = (divided list left name s b.within b.last_is).earlier

-- behind the value there is no other one
none_behind : (name : Name) (set : BTreeSet Place) (list : List SharedEntry) (left : ℕ) (s : Spot) (b : Backwards name set list left (Some s))
    (d : Divided list left name s) (w : Watch) → w.old ≡ name → HasPlaces w.foot.decls set
    → last_where (other_old w) (entries_of (d.back ++ drop left list)) ≡ None
none_behind name set list left s b d w old has =
    none_both (other_old w) d.back (drop left list) (none_other w name old (entries_of d.back) d.none) (b.none_after w old has)

-- the value is a member, and the one of the name before it is next
pub goes_back : (name : Name) (set : BTreeSet Place) (list : List SharedEntry) (left : ℕ) (s : Spot) (bs : List Before) (o : Option Spot)
    → Backwards name set list left (Some s) → bs ≡ befores_from [] list
    → ((places : List Place) → HasPlaces places set → true ≡ is_among places s.goal) → o ≡ spot_in (slice_get bs s.position)
    → Backwards name set list s.position o
goes_back name set list left s bs o b held member is =
    let d = divided list left name s b.within b.last_is in
    let it : SharedEntry = e.Val name s.goal in
    let rest = d.back ++ drop left list in
    let there : slice_get bs s.position ≡ Some (before_of d.front it) =
    ap (λ l. slice_get l s.position) held ∙ ap (λ n. slice_get (befores_from [] list) n) (sym d.at)
    ∙ ap (λ l. slice_get (befores_from [] l) (length d.front)) d.whole ∙ befores_at [] d.front rest it in
    record {
      within = omega (arith, d.earlier, b.within);
      last_is = is ∙ ap spot_in there ∙ ap (λ l. last_spot (entries_of l) name) (sym d.front_is);
      none_after = λ w old has. ap (λ l. last_where (other_old w) (entries_of l)) d.rest_is
          ∙ none_here w name s.goal rest (sym (member w.foot.decls has)) (none_behind name set list left s b d w old has);
    }

-- the value is no member
pub other_found : (name : Name) (set : BTreeSet Place) (list : List SharedEntry) (left : ℕ) (s : Spot) (p : Place) (n k : ℕ)
    → Backwards name set list left (Some s) → ((places : List Place) → HasPlaces places set → false ≡ is_among places s.goal)
    → p ≡ some_place (decl_of s.goal) → n ≡ length (darks (entries_of list)) → k ≡ n - s.darks → (w : Watch) → w.old ≡ name
    → HasPlaces w.foot.decls set → Some (s.position, p, k) ≡ last_where (other_old w) (entries_of list)
other_found name set list left s p n k b member place count after w old has =
    let d = divided list left name s b.within b.last_is in
    let it : SharedEntry = e.Val name s.goal in
    let rest = d.back ++ drop left list in
    let passes : other_old w name s.goal ≡ true = ap (λ c. c && not (is_member w s.goal)) ((bytes_eq-Decides name w.old).1 (sym old))
    ∙ ap not (sym (member w.foot.decls has)) in
    let here = passing (other_old w) name s.goal rest (none_behind name set list left s b d w old has) passes in
    let moved_on = behind (other_old w) d.front (it ∷ rest) (some_place (decl_of s.goal)) (length (darks (entries_of rest))) here in
    let sum : length (darks (entries_of list)) ≡ length (darks (entries_of d.front)) + length (darks (entries_of rest)) =
    ap (λ (l : List SharedEntry). length (darks (entries_of l))) d.whole ∙ ap (λ l. length (darks l)) (entries_of-append d.front (it ∷ rest))
    ∙ ap length (darks-append (entries_of d.front) (entries_of (it ∷ rest)))
    ∙ length-append (darks (entries_of d.front)) (darks (entries_of (it ∷ rest))) in
    let left_over : k ≡ length (darks (entries_of rest)) = omega (arith, after, count, sum, d.before) in
    let made : ℕ → Place → ℕ → Option looks.Spot = λ i q m. Some (i, q, m) in
    ap (λ q. made s.position q k) place ∙ ap (made s.position (some_place (decl_of s.goal))) left_over
    ∙ ap (λ i. made i (some_place (decl_of s.goal)) (length (darks (entries_of rest)))) (sym d.at) ∙ sym moved_on
    ∙ ap (λ l. last_where (other_old w) (entries_of l)) (sym d.whole)

-- no value of the name is left
no_spot : (o : Option Spot) → ((s : Spot) → o ≡ Some s → ⊥) → o ≡ None
no_spot None h = refl
no_spot (Some s) h = absurd (h s refl)

pub no_other : (name : Name) (set : BTreeSet Place) (list : List SharedEntry) (left : ℕ) (last : Option Spot) → Backwards name set list left last
    → ((s : Spot) → last ≡ Some s → ⊥) → (w : Watch) → w.old ≡ name → HasPlaces w.foot.decls set
    → None ≡ last_where (other_old w) (entries_of list)
no_other name set list left last b h w old has =
    sym (none_both (other_old w) (take left list) (drop left list)
    (none_other w name old (entries_of (take left list)) (sym b.last_is ∙ no_spot last h)) (b.none_after w old has))
    ∙ ap (λ l. last_where (other_old w) (entries_of l)) (take-append-drop left list)
