-- The bad line of a manifest is the line of its meaning.
use Rattle.std.proofs.Common.{◌≡◌, ◌≢◌, ◌⊎◌, ℕ, zero, suc, ◌+◌, ◌<◌, List, [], ◌∷◌, ◌++◌, Contains, Bool, true, false, ◌&&◌, ◌||◌, not, cond, Option}
use Rattle.std.proofs.Common.{Some, None, option_map, filter, length, get_or, refl, ap, sym, subst, ◌∙◌, inl, inr, arith}
use Rattle.std.specs.List.{list_any}
use Rattle.std.specs.Str.{bytes_eq}
use Rattle.std.proofs.lemmas.Bool.{or_cases, or_left, or_right}
use Rattle.std.proofs.lemmas.Slice.Eq.{bytes_eq-Decides}
use Rattle.rotor_base.specs.Files.{bad_line}
use Rattle.rotor_base.specs.Manifest.{unit_names, IsGood, AreGood, HasLine, IsFirstBad, IsShort, IsBadLine, AnswersBadLine, DependsOnNames}
use Rattle.rotor_base.specs.declared.unit.SourceUnit.{SourceUnit}

-- ---- names

abbrev pub is_named : List ℕ → SourceUnit → Bool
is_named x u = bytes_eq u.name x

pub and_false : (b : Bool) → (b && false) ≡ false
and_false true = refl
and_false false = refl

or_and : (a b c : Bool) → (c ≡ true → a ≡ false) → (a || (b && not c)) ≡ ((a || b) && not c)
or_and true b true h = let bad : true ≡ false = h refl in cc
or_and true b false h = refl
or_and false b c h = refl

and_none : (a b c : Bool) → (a ≡ true → c ≡ true) → (b && not c) ≡ ((a || b) && not c)
and_none true b true h = and_false b
and_none true b false h = let bad : false ≡ true = h refl in cc
and_none false b c h = refl

-- a unit named x is left exactly if there was one and x is not the name y that is taken
pub left_named : (us : List SourceUnit) (x y : List ℕ)
    → list_any (is_named x) (filter (λ u. not (bytes_eq u.name y)) us) ≡ (list_any (is_named x) us && not (bytes_eq y x))
left_named [] x y = refl
left_named (u ∷ us) x y = by (bytes_eq u.name y) refl (left_named us x y)
  where
    by : (b : Bool) → bytes_eq u.name y ≡ b
        → list_any (is_named x) (filter (λ v. not (bytes_eq v.name y)) us) ≡ (list_any (is_named x) us && not (bytes_eq y x))
        → list_any (is_named x) (cond (not b) (u ∷ filter (λ v. not (bytes_eq v.name y)) us) (filter (λ v. not (bytes_eq v.name y)) us)) ≡
        ((bytes_eq u.name x || list_any (is_named x) us) && not (bytes_eq y x))
    by true p rest =
        let same : u.name ≡ y = (bytes_eq-Decides u.name y).0 p in
        rest ∙ and_none (bytes_eq u.name x) (list_any (is_named x) us) (bytes_eq y x) (λ e. ap (λ z. bytes_eq z x) (sym same) ∙ e)
    by false p rest =
        ap (λ b. bytes_eq u.name x || b) rest
        ∙ or_and (bytes_eq u.name x) (list_any (is_named x) us) (bytes_eq y x) (λ e. ap (bytes_eq u.name) (sym ((bytes_eq-Decides y x).0 e)) ∙ p)

itself : (name : List ℕ) → bytes_eq name name ≡ true
itself name = (bytes_eq-Decides name name).1 refl

pub both_true : (a b : Bool) → (a ≡ true → b ≡ true) → (b ≡ true → a ≡ true) → a ≡ b
both_true true b f g = sym (f refl)
both_true false true f g = g refl
both_true false false f g = refl

-- ---- the names of the units alone

pub names_alone : (ls : List (List ℕ)) (us vs : List SourceUnit) → ((x : List ℕ) → list_any (is_named x) us ≡ list_any (is_named x) vs)
    → bad_line ls us ≡ bad_line ls vs
names_alone [] [] [] h = refl
names_alone [] [] (v ∷ vs) h = let bad : false ≡ true = h v.name ∙ ap (λ b. b || list_any (is_named v.name) vs) (itself v.name) in cc
names_alone [] (u ∷ us) [] h = let bad : false ≡ true = sym (h u.name) ∙ ap (λ b. b || list_any (is_named u.name) us) (itself u.name) in cc
names_alone [] (u ∷ us) (v ∷ vs) h = refl
names_alone ([] ∷ ls) us vs h = ap (option_map suc) (names_alone ls us vs h)
names_alone ((b ∷ bs) ∷ ls) us vs h =
    ap (λ t. cond t (option_map suc (bad_line ls (filter (λ u. not (bytes_eq u.name (b ∷ bs))) us))) (Some 1)) (h (b ∷ bs))
    ∙ ap (λ o. cond (list_any (is_named (b ∷ bs)) vs) (option_map suc o) (Some 1))
    (names_alone ls (filter (λ u. not (bytes_eq u.name (b ∷ bs))) us) (filter (λ u. not (bytes_eq u.name (b ∷ bs))) vs)
    (λ x. left_named us x (b ∷ bs) ∙ ap (λ t. t && not (bytes_eq (b ∷ bs) x)) (h x) ∙ sym (left_named vs x (b ∷ bs))))

-- ---- what a list contains

at_head : {X : Type 0} (x : X) (xs : List X) → Contains (x ∷ xs) x
at_head x xs = (0, omega arith, refl)

in_tail : {X : Type 0} (x y : X) (xs : List X) → Contains xs y → Contains (x ∷ xs) y
in_tail x y xs h = let below : h.0 < length xs = h.1 in (suc h.0, omega arith, h.2)

head_or_tail : {X : Type 0} (x y : X) (xs : List X) → Contains (x ∷ xs) y → (x ≡ y) ⊎ Contains xs y
head_or_tail x y xs h = go h.0 h.1 h.2 where
  go : (k : ℕ) → k < length (x ∷ xs) → get_or (x ∷ xs) k y ≡ y → (x ≡ y) ⊎ Contains xs y
  go zero below is = inl is
  go (suc k) below is = inr (k, omega arith, is)

in_none : {X : Type 0} (x : X) → Contains [] x → ⊥
in_none x h = let below : h.0 < 0 = h.1 in omega arith

-- a unit has the name, as a test and as a relation
named_in : (units : List SourceUnit) (x : List ℕ) → list_any (is_named x) units ≡ true → Contains (unit_names units) x
named_in [] x h = cc
named_in (u ∷ us) x h =
    elim (or_cases (is_named x u) (list_any (is_named x) us) h) [
      | inl e ↦ subst (λ name. Contains (u.name ∷ unit_names us) name) ((bytes_eq-Decides u.name x).0 e) (at_head u.name (unit_names us))
      | inr e ↦ in_tail u.name x (unit_names us) (named_in us x e)
    ]

in_named : (units : List SourceUnit) (x : List ℕ) → Contains (unit_names units) x → list_any (is_named x) units ≡ true
in_named [] x h = absurd (in_none x h)
in_named (u ∷ us) x h =
    elim (head_or_tail u.name x (unit_names us) h) [
      | inl e ↦ or_left (is_named x u) (list_any (is_named x) us) ((bytes_eq-Decides u.name x).1 e)
      | inr m ↦ or_right (is_named x u) (list_any (is_named x) us) (in_named us x m)
    ]

pub depends_on_names : DependsOnNames
depends_on_names ls us vs h =
    names_alone ls us vs (λ x. both_true (list_any (is_named x) us) (list_any (is_named x) vs)
    (λ e. in_named vs x ((h x).0 (named_in us x e)))
    (λ e. in_named us x ((h x).1 (named_in vs x e))))

-- ---- one line more

-- the line y is good at the front, and leaves these units to the lines behind it
record Leaves (units left : List SourceUnit) (y : List ℕ) : Type 0 where
  here : (y ≡ []) ⊎ Contains (unit_names units) y
  down : (x : List ℕ) → Contains (unit_names units) x → ((y ≢ []) × (x ≡ y)) ⊎ Contains (unit_names left) x
  up : (x : List ℕ) → Contains (unit_names left) x → Contains (unit_names units) x × ((x ≡ []) ⊎ (x ≢ y))

leaves_all : (units : List SourceUnit) → Leaves units units []
leaves_all units = record { here = inl refl; down = λ x m. inr m; up = λ x m. (m, by x) }
  where
    by : (x : List ℕ) → (x ≡ []) ⊎ (x ≢ [])
    by [] = inl refl
    by (c ∷ cs) = inr (λ e. cc)

left_has : (a b : Bool) → a ≡ true → b ≡ false → (a && not b) ≡ true
left_has true true h k = cc
left_has true false h k = refl
left_has false b h k = cc

left_parts : (a b : Bool) → (a && not b) ≡ true → (a ≡ true) × (b ≡ false)
left_parts true true h = cc
left_parts true false h = (refl, refl)
left_parts false b h = cc

leaves_others : (units : List SourceUnit) (y : List ℕ) → y ≢ [] → list_any (is_named y) units ≡ true
    → Leaves units (filter (λ u. not (bytes_eq u.name y)) units) y
leaves_others units y filled is = record { here = inr (named_in units y is); down = λ x m. down x m (bytes_eq y x) refl; up = up }
  where
    left : List SourceUnit
    left = filter (λ u. not (bytes_eq u.name y)) units

    down : (x : List ℕ) → Contains (unit_names units) x → (t : Bool) → bytes_eq y x ≡ t → ((y ≢ []) × (x ≡ y)) ⊎ Contains (unit_names left) x
    down x m true e = inl (filled, sym ((bytes_eq-Decides y x).0 e))
    down x m false e = inr (named_in left x (left_named units x y ∙ left_has (list_any (is_named x) units) (bytes_eq y x) (in_named units x m) e))

    up : (x : List ℕ) → Contains (unit_names left) x → Contains (unit_names units) x × ((x ≡ []) ⊎ (x ≢ y))
    up x m =
        let parts = left_parts (list_any (is_named x) units) (bytes_eq y x) (sym (left_named units x y) ∙ in_named left x m) in
        (named_in units x parts.0, inr (λ e. let same : bytes_eq y x ≡ true = (bytes_eq-Decides y x).1 (sym e) in cc (parts.1, same)))

one_more : (n k : ℕ) → n ≡ k + 1 → suc n ≡ suc k + 1
one_more n k e = omega (arith, e)

module _ (units left : List SourceUnit) (y : List ℕ) (h : Leaves units left y) where
  good_up : (before : List (List ℕ)) (line : List ℕ) → IsGood left before line → IsGood units (y ∷ before) line
  good_up before [] g = inl refl
  good_up before (c ∷ cs) (inl e) = cc
  good_up before (c ∷ cs) (inr g) = inr ((h.up (c ∷ cs) g.0).0, λ m. other (h.up (c ∷ cs) g.0).1 (head_or_tail y (c ∷ cs) before m))
    where
      other : ((c ∷ cs ≡ []) ⊎ (c ∷ cs ≢ y)) → ((y ≡ c ∷ cs) ⊎ Contains before (c ∷ cs)) → ⊥
      other (inl e) m = cc
      other (inr n) (inl e) = n (sym e)
      other (inr n) (inr m) = g.1 m

  good_down : (before : List (List ℕ)) (line : List ℕ) → IsGood units (y ∷ before) line → IsGood left before line
  good_down before line (inl e) = inl e
  good_down before line (inr g) =
      elim (h.down line g.0) [
        | inl same ↦ absurd (g.1 (subst (Contains (y ∷ before)) (sym same.1) (at_head y before)))
        | inr m ↦ inr (m, λ k. g.1 (in_tail y line before k))
      ]

  all_up : (ls : List (List ℕ)) → AreGood left ls → AreGood units (y ∷ ls)
  all_up ls g [] after line e = let same : y ≡ line = cc in first same h.here
    where
      first : y ≡ line → ((y ≡ []) ⊎ Contains (unit_names units) y) → IsGood units [] line
      first same (inl none) = inl (sym same ∙ none)
      first same (inr m) = inr (subst (Contains (unit_names units)) same m, in_none line)
  all_up ls g (b ∷ before) after line e =
      let same : y ≡ b = cc in
      let rest : ls ≡ before ++ line ∷ after = cc in
      subst (λ z. IsGood units (z ∷ before) line) same (good_up before line (g before after line rest))

  has_up : (ls : List (List ℕ)) (x : List ℕ) → HasLine ls x → HasLine (y ∷ ls) x
  has_up ls x k = (k.0, in_tail y x ls k.1)

  lines_up : (ls : List (List ℕ)) → ((x : List ℕ) → Contains (unit_names left) x → HasLine ls x)
      → (x : List ℕ) → Contains (unit_names units) x → HasLine (y ∷ ls) x
  lines_up ls all x m =
      elim (h.down x m) [
        | inl same ↦ subst (HasLine (y ∷ ls)) (sym same.1) (same.0, at_head y ls)
        | inr k ↦ has_up ls x (all x k)
      ]

  first_up : (ls : List (List ℕ)) (n : ℕ) → IsFirstBad left ls n → IsFirstBad units (y ∷ ls) (suc n)
  first_up ls n f = record {
    before = y ∷ f.before;
    line = f.line;
    after = f.after;
    split = ap (λ zs. y ∷ zs) f.split;
    counted = one_more n (length f.before) f.counted;
    good = all_up f.before f.good;
    bad = λ g. f.bad (good_down f.before f.line g);
  }

  short_up : (ls : List (List ℕ)) (n : ℕ) → IsShort left ls n → IsShort units (y ∷ ls) (suc n)
  short_up ls n s = record {
    counted = one_more n (length ls) s.counted;
    good = all_up ls s.good;
    name = s.name;
    named = (h.up s.name s.named).0;
    without = λ k. other k (h.up s.name s.named).1 (head_or_tail y s.name ls k.1);
  }
    where
      other : HasLine (y ∷ ls) s.name → ((s.name ≡ []) ⊎ (s.name ≢ y)) → ((y ≡ s.name) ⊎ Contains ls s.name) → ⊥
      other k (inl e) m = k.0 e
      other k (inr n) (inl e) = n (sym e)
      other k (inr n) (inr m) = s.without (k.0, m)

  bad_up : (ls : List (List ℕ)) (o : Option ℕ) → IsBadLine left ls o → IsBadLine units (y ∷ ls) (option_map suc o)
  bad_up ls None b = (all_up ls b.0, lines_up ls b.1)
  bad_up ls (Some n) (inl f) = inl (first_up ls n f)
  bad_up ls (Some n) (inr s) = inr (short_up ls n s)

-- ---- what the answer says

none_good : (units : List SourceUnit) → AreGood units []
none_good units [] after line e = cc
none_good units (b ∷ before) after line e = cc

is_bad_line : (ls : List (List ℕ)) (units : List SourceUnit) → IsBadLine units ls (bad_line ls units)
is_bad_line [] [] = (none_good [], λ x m. absurd (in_none x m))
is_bad_line [] (u ∷ us) =
    inr (record {
      counted = refl;
      good = none_good (u ∷ us);
      name = u.name;
      named = at_head u.name (unit_names us);
      without = λ k. in_none u.name k.1;
    })
is_bad_line ([] ∷ ls) units = bad_up units units [] (leaves_all units) ls (bad_line ls units) (is_bad_line ls units)
is_bad_line ((b ∷ bs) ∷ ls) units = by (list_any (is_named (b ∷ bs)) units) refl (is_bad_line ls left)
  where
    left : List SourceUnit
    left = filter (λ u. not (bytes_eq u.name (b ∷ bs))) units

    by : (t : Bool) → list_any (is_named (b ∷ bs)) units ≡ t → IsBadLine left ls (bad_line ls left)
        → IsBadLine units ((b ∷ bs) ∷ ls) (cond t (option_map suc (bad_line ls left)) (Some 1))
    by true e rest = bad_up units left (b ∷ bs) (leaves_others units (b ∷ bs) (λ z. cc) e) ls (bad_line ls left) rest
    by false e rest =
        inl (record {
          before = [];
          line = b ∷ bs;
          after = ls;
          split = refl;
          counted = refl;
          good = none_good units;
          bad = λ g. elim g [ inl z ↦ cc | inr m ↦ (let yes : list_any (is_named (b ∷ bs)) units ≡ true = in_named units (b ∷ bs) m.0 in cc) ];
        })

-- b ends in front of x, and c goes on behind it
abbrev Behind : List (List ℕ) → List ℕ → List (List ℕ) → Type 0
Behind b x c = (r : List (List ℕ)) × (c ≡ b ++ x ∷ r)

-- two places in one list: they are one, or one is behind the other
splits : (b c : List (List ℕ)) (x y : List ℕ) (d e : List (List ℕ)) → b ++ x ∷ d ≡ c ++ y ∷ e
    → (b ≡ c) ⊎ (Behind b x c ⊎ Behind c y b)
splits [] [] x y d e h = inl refl
splits [] (z ∷ c) x y d e h = let same : z ≡ x = cc in inr (inl (c, ap (λ w. w ∷ c) same))
splits (z ∷ b) [] x y d e h = let same : z ≡ y = cc in inr (inr (b, ap (λ w. w ∷ b) same))
splits (z ∷ b) (w ∷ c) x y d e h = more (splits b c x y d e rest)
  where
    same : z ≡ w
    same = cc

    rest : b ++ x ∷ d ≡ c ++ y ∷ e
    rest = cc

    more : ((b ≡ c) ⊎ (Behind b x c ⊎ Behind c y b))
        → (z ∷ b ≡ w ∷ c) ⊎ (Behind (z ∷ b) x (w ∷ c) ⊎ Behind (w ∷ c) y (z ∷ b))
    more (inl k) = inl (ap (λ v. v ∷ b) same ∙ ap (λ vs. w ∷ vs) k)
    more (inr (inl k)) = inr (inl (k.0, ap (λ v. v ∷ c) (sym same) ∙ ap (λ vs. z ∷ vs) k.1))
    more (inr (inr k)) = inr (inr (k.0, ap (λ v. v ∷ b) same ∙ ap (λ vs. w ∷ vs) k.1))

one_first : (units : List SourceUnit) (ls : List (List ℕ)) (m n : ℕ) → IsFirstBad units ls m → IsFirstBad units ls n → m ≡ n
one_first units ls m n f g = by (splits f.before g.before f.line g.line f.after g.after (sym f.split ∙ g.split))
  where
    by : ((f.before ≡ g.before) ⊎ (Behind f.before f.line g.before ⊎ Behind g.before g.line f.before)) → m ≡ n
    by (inl e) = f.counted ∙ ap (λ before. length before + 1) e ∙ sym g.counted
    by (inr (inl k)) = absurd (f.bad (g.good f.before k.0 f.line k.1))
    by (inr (inr k)) = absurd (g.bad (f.good g.before k.0 g.line k.1))

never_both : (units : List SourceUnit) (ls : List (List ℕ)) (n : ℕ) → IsBadLine units ls None → IsBadLine units ls (Some n) → ⊥
never_both units ls n b (inl f) = f.bad (b.0 f.before f.after f.line f.split)
never_both units ls n b (inr s) = s.without (b.1 s.name s.named)

one_bad_line : (units : List SourceUnit) (ls : List (List ℕ)) (a b : Option ℕ) → IsBadLine units ls a → IsBadLine units ls b → a ≡ b
one_bad_line units ls None None h k = refl
one_bad_line units ls None (Some n) h k = absurd (never_both units ls n h k)
one_bad_line units ls (Some n) None h k = absurd (never_both units ls n k h)
one_bad_line units ls (Some m) (Some n) (inl f) (inl g) = ap Some (one_first units ls m n f g)
one_bad_line units ls (Some m) (Some n) (inl f) (inr s) = absurd (f.bad (s.good f.before f.after f.line f.split))
one_bad_line units ls (Some m) (Some n) (inr s) (inl f) = absurd (f.bad (s.good f.before f.after f.line f.split))
one_bad_line units ls (Some m) (Some n) (inr s) (inr t) = ap Some (s.counted ∙ sym t.counted)

pub answers_bad_line : AnswersBadLine
answers_bad_line ls units o = (
  λ e. subst (IsBadLine units ls) e (is_bad_line ls units),
  λ h. one_bad_line units ls (bad_line ls units) o (is_bad_line ls units) h,
)
