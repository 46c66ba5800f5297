-- The stack of marks, whose last mark is last in the code and first in the rules.
use Rattle.std.proofs.Common.{◌≡◌, ℕ, zero, suc, ◌+◌, ◌-◌, ◌<◌, ◌≤◌, List, [], ◌∷◌, ◌++◌, length, take, get_or, reverse, Bool, true, false, cond}
use Rattle.std.proofs.Common.{refl, sym, ap, ◌∙◌, arith, eqb}
use Rattle.std.proofs.lemmas.List.{reverse-append, take_more, take_all, length-reverse}
use Rattle.std.proofs.lemmas.Bool.{eqb-true, eqb-false}
use Rattle.rotor_base.specs.declared.token.Token.{Token}
use Rattle.parse_base.specs.declared.depth.Mark.{Mark}
use Rattle.parse_base.specs.declared.depth.Role.{Role}
use Rattle.parse_base.specs.Nesting.{down_to, after, marks, nesting, role_at, role_before}

pub reversed_push : (xs : List Mark) (x : Mark) → reverse (xs ++ x ∷ []) ≡ x ∷ reverse xs
reversed_push xs x = reverse-append xs (x ∷ [])

-- the first n marks, the last of them first
pub reversed_take : (xs : List Mark) (n : ℕ) (d : Mark) → 0 < n → n ≤ length xs
    → reverse (take n xs) ≡ get_or xs (n - 1) d ∷ reverse (take (n - 1) xs)
reversed_take xs n d some le =
    let e : n ≡ n - 1 + 1 = omega arith in
    ap (λ (k : ℕ). reverse (take k xs)) e
    ∙ ap reverse (take_more xs (n - 1) d (omega arith))
    ∙ reversed_push (take (n - 1) xs) (get_or xs (n - 1) d)

down_by : (q : Mark → Bool) (m : Mark) (ms : List Mark) (b : Bool) → q m ≡ b → down_to q (m ∷ ms) ≡ cond b (m ∷ ms) (down_to q ms)
down_by q m ms b e = rw e refl

-- it stops at the last of the first n
pub stops_there : (q : Mark → Bool) (xs whole : List Mark) (n : ℕ) (d : Mark) → 0 < n → n ≤ length xs → q (get_or xs (n - 1) d) ≡ true
    → down_to q (reverse (take n xs)) ≡ whole → reverse (take n xs) ≡ whole
stops_there q xs whole n d some le h e =
    let s = reversed_take xs n d some le in
    s ∙ sym (down_by q (get_or xs (n - 1) d) (reverse (take (n - 1) xs)) true h) ∙ sym (ap (down_to q) s) ∙ e

-- it goes on below it
pub goes_below : (q : Mark → Bool) (xs whole : List Mark) (n : ℕ) (d : Mark) → 0 < n → n ≤ length xs → q (get_or xs (n - 1) d) ≡ false
    → down_to q (reverse (take n xs)) ≡ whole → down_to q (reverse (take (n - 1) xs)) ≡ whole
goes_below q xs whole n d some le h e =
    let s = reversed_take xs n d some le in
    sym (down_by q (get_or xs (n - 1) d) (reverse (take (n - 1) xs)) false h) ∙ sym (ap (down_to q) s) ∙ e

-- nothing is left
pub none_left : (q : Mark → Bool) (xs whole : List Mark) (n : ℕ) → n ≡ 0 → down_to q (reverse (take n xs)) ≡ whole → reverse (take n xs) ≡ whole
none_left q xs whole n z e = let p : take n xs ≡ [] = ap (λ (k : ℕ). take k xs) z in ap reverse p
    ∙ sym (ap (λ (l : List Mark). down_to q (reverse l)) p) ∙ e

pub all_taken : (q : Mark → Bool) (xs : List Mark) → down_to q (reverse (take (length xs) xs)) ≡ down_to q (reverse xs)
all_taken q xs = ap (λ (l : List Mark). down_to q (reverse l)) (take_all (length xs) xs (omega arith))

-- one more token
pub one_more_token : (ts : List Token) (at : ℕ) (before here next : Role) (old new : List Mark) → new ≡ after before here next old
    → old ≡ marks ts at → before ≡ role_before ts at → here ≡ role_at ts at → next ≡ role_at ts (at + 1) → new ≡ marks ts (at + 1)
unfolding marks
one_more_token ts at before here next old new e o b h n =
    let s : at + 1 ≡ suc at = omega arith in
    let n' : next ≡ role_at ts (suc at) = n ∙ ap (role_at ts) s in
    e ∙ rw (o, b, h, n') refl ∙ ap (marks ts) (sym s)

pub behind_next : (ts : List Token) (at : ℕ) → role_at ts at ≡ role_before ts (at + 1)
behind_next ts at = let s : at + 1 ≡ suc at = omega arith in sym (ap (role_before ts) s)

pub no_marks : (ts : List Token) (xs : List Mark) → xs ≡ [] → reverse xs ≡ marks ts 0
unfolding marks
no_marks ts xs e = ap reverse e

pub shallow_none : (ts : List Token) (k : ℕ) → k ≤ 0 → nesting ts k ≤ 256
unfolding marks
shallow_none ts zero h = omega arith
shallow_none ts (suc k) h = absurd (omega (arith, h))

pub nesting_is : (ts : List Token) (n : ℕ) (xs : List Mark) → reverse xs ≡ marks ts n → nesting ts n ≡ length xs
nesting_is ts n xs e = ap length (sym e) ∙ length-reverse xs

pub shallow_more : (ts : List Token) (at : ℕ) → ((k : ℕ) → k ≤ at → nesting ts k ≤ 256) → nesting ts (at + 1) ≤ 256 → (k : ℕ) → k ≤ at + 1
    → nesting ts k ≤ 256
shallow_more ts at h last k le = by (eqb k (at + 1)) refl
  where
    by : (b : Bool) → eqb k (at + 1) ≡ b → nesting ts k ≤ 256
    by true e = let q = eqb-true k (at + 1) e in rw q last
    by false e = h k (omega (arith, le, eqb-false k (at + 1) e))
