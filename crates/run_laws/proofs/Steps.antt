-- Steps of two runs, of which the second has no less fuel.
use Rattle.std.proofs.Common.{◌≡◌, ◌≤◌, ℕ, zero, suc, Bool, true, false, List, [], ◌++◌, Option, Some, None, refl, sym, ap, ◌∙◌, arith}
use Rattle.std.specs.Prelude.{◌-◌, nat_le}
use Rattle.std.proofs.lemmas.List.{append-nil, append_assoc}
use Rattle.std.proofs.lemmas.Bool.{leb-true, le-leb}
use Rattle.module_meaning.specs.Values.{Val}
use Rattle.module_meaning.specs.Acts.{State, Stop, Raised, Fuel, OutsideAt, UnrunAt, WrongAt, Outcome, Done, Halt, Act, give, halt, go_on, ◌>>=◌}
use Rattle.module_meaning.specs.Acts.{rescued, rescue, spend, paid, spend_if, paid_by, or_halt, chosen, raised, print, new_cell, held, put_cell}
use Rattle.run_laws.specs.Laws.{IsBeginningOf}

-- ---- beginnings

pub begins_self : (xs : List ℕ) → IsBeginningOf xs xs
begins_self xs = record { rest = []; is = sym (append-nil xs) }

pub begins_more : (xs ys : List ℕ) → IsBeginningOf xs (xs ++ ys)
begins_more xs ys = record { rest = ys; is = refl }

pub begins_on : {xs ys zs : List ℕ} → IsBeginningOf xs ys → IsBeginningOf ys zs → IsBeginningOf xs zs
begins_on {xs} {ys} {zs} h k = record { rest = h.rest ++ k.rest; is = k.is ∙ (ap (λ (l : List ℕ). l ++ k.rest) h.is ∙ append_assoc xs h.rest k.rest) }

-- ---- two outcomes

-- what was printed at the end of a step
abbrev pub out_of : {A : Type 0} → Outcome A → List ℕ
out_of (Done st x) = st.out
out_of (Halt st why) = st.out

-- the second state has no less fuel, and is the same else
pub data IsRicher : State → State → Type 0 where
  richer : {n m : ℕ} {out : List ℕ} {cells : List Val} → n ≤ m
      → IsRicher (record { fuel = n; out = out; cells = cells }) (record { fuel = m; out = out; cells = cells })

-- the second outcome is the first with no less fuel; or the first is want of fuel, and what it printed is a beginning
pub data IsAhead {A : Type 0} : Outcome A → Outcome A → Type 0 where
  both_done : {st st' : State} {x : A} → IsRicher st st' → IsAhead (Done st x) (Done st' x)
  both_halt : {st st' : State} {why : Stop} → IsRicher st st' → IsAhead (Halt st why) (Halt st' why)
  ran_out : {st : State} {p : Outcome A} → IsBeginningOf st.out (out_of p) → IsAhead (Halt st Fuel) p

-- a step adds to what was printed
abbrev pub Adds : {A : Type 0} → Act A → Type 0
Adds f = (st : State) → IsBeginningOf st.out (out_of (f st))

-- the second step is ahead of the first from each richer state, and adds to what was printed
pub record GoesOn {A : Type 0} (f g : Act A) : Type 0 where
  pub adds : Adds g
  pub ahead : (st st' : State) → IsRicher st st' → IsAhead (f st) (g st')

pub none_left : {A : Type 0} (g : Act A) → Adds g → GoesOn (halt Fuel) g
none_left g adds = record { adds = adds; ahead = none adds } where
  none : Adds g → (st st' : State) → IsRicher st st' → IsAhead (Halt st Fuel) (g st')
  none adds st st' (richer l) = ran_out (adds _)

-- ---- steps

pub gives : {A : Type 0} (x : A) → GoesOn (give x) (give x)
gives x = record { adds = λ st. begins_self st.out; ahead = λ st st' s. both_done s }

pub halts : {A : Type 0} (why : Stop) → GoesOn {A = A} (halt why) (halt why)
halts why = record { adds = λ st. begins_self st.out; ahead = λ st st' s. both_halt s }

pub raises : {A : Type 0} (name : List ℕ) → GoesOn {A = A} (raised name) (raised name)
raises name = halts _

adds_on : {A B : Type 0} (o : Outcome A) (k : A → Act B) → ((x : A) → Adds (k x)) → IsBeginningOf (out_of o) (out_of (go_on o k))
adds_on (Done st x) k h = h x st
adds_on (Halt st why) k h = begins_self st.out

ahead_on : {A B : Type 0} (o p : Outcome A) (k l : A → Act B) → IsAhead o p → ((x : A) → GoesOn (k x) (l x)) → IsAhead (go_on o k) (go_on p l)
ahead_on o p k l (both_done {st} {st'} {x} s) h = (h x).ahead st st' s
ahead_on o p k l (both_halt s) h = both_halt s
ahead_on o p k l (ran_out b) h = ran_out (begins_on b (adds_on p l (λ x. (h x).adds)))

pub binds : {A B : Type 0} {f g : Act A} {k l : A → Act B} → GoesOn f g → ((x : A) → GoesOn (k x) (l x)) → GoesOn (f >>= k) (g >>= l)
binds {f = f} {g = g} {k = k} {l = l} h j = record {
  adds = λ st. begins_on (h.adds st) (adds_on (g st) l (λ x. (j x).adds));
  ahead = λ st st' s. ahead_on (f st) (g st') k l (h.ahead st st' s) j;
}

adds_rescued : {A : Type 0} (o : Outcome A) (k : Val → Act A) → ((v : Val) → Adds (k v)) → IsBeginningOf (out_of o) (out_of (rescued o k))
adds_rescued (Done st x) k h = begins_self st.out
adds_rescued (Halt st (Raised v)) k h = h v st
adds_rescued (Halt st Fuel) k h = begins_self st.out
adds_rescued (Halt st (OutsideAt at)) k h = begins_self st.out
adds_rescued (Halt st (UnrunAt at)) k h = begins_self st.out
adds_rescued (Halt st (WrongAt at)) k h = begins_self st.out

ahead_rescued : {A : Type 0} (o p : Outcome A) (k l : Val → Act A) → IsAhead o p → ((v : Val) → GoesOn (k v) (l v))
    → IsAhead (rescued o k) (rescued p l)
ahead_rescued o p k l (both_done s) h = both_done s
ahead_rescued o p k l (both_halt {st} {st'} {why = Raised v} s) h = (h v).ahead st st' s
ahead_rescued o p k l (both_halt {why = Fuel} s) h = both_halt s
ahead_rescued o p k l (both_halt {why = OutsideAt at} s) h = both_halt s
ahead_rescued o p k l (both_halt {why = UnrunAt at} s) h = both_halt s
ahead_rescued o p k l (both_halt {why = WrongAt at} s) h = both_halt s
ahead_rescued o p k l (ran_out b) h = ran_out (begins_on b (adds_rescued p l (λ v. (h v).adds)))

pub rescues : {A : Type 0} {f g : Act A} {k l : Val → Act A} → GoesOn f g → ((v : Val) → GoesOn (k v) (l v)) → GoesOn (rescue f k) (rescue g l)
rescues {f = f} {g = g} {k = k} {l = l} h j = record {
  adds = λ st. begins_on (h.adds st) (adds_rescued (g st) l (λ v. (j v).adds));
  ahead = λ st st' s. ahead_rescued (f st) (g st') k l (h.ahead st st' s) j;
}

adds_spent : {A : Type 0} (n : ℕ) (g : Act A) → Adds g → (st : State) → IsBeginningOf st.out (out_of (spend n g st))
adds_spent zero g h st = begins_self st.out
adds_spent (suc n) g h st = h (record st { fuel = n })

ahead_spent : {A : Type 0} (f g : Act A) → GoesOn f g → (st st' : State) → IsRicher st st' → IsAhead (paid f st) (paid g st')
ahead_spent f g h st st' (richer {n = zero} {m} {out} {cells} l) =
    ran_out (adds_spent m g h.adds (record { fuel = m; out = out; cells = cells }))
ahead_spent f g h st st' (richer {n = suc n} {m = zero} l) = absurd (omega (arith, l))
ahead_spent f g h st st' (richer {n = suc n} {m = suc m} l) = h.ahead _ _ (richer (omega (arith, l)))

pub pays : {A : Type 0} {f g : Act A} → GoesOn f g → GoesOn (paid f) (paid g)
pays {f = f} {g = g} h = record { adds = λ st. adds_spent st.fuel g h.adds st; ahead = ahead_spent f g h }

adds_if : {A : Type 0} (b : Bool) (k : ℕ) (g : Act A) → Adds g → (st : State) → IsBeginningOf st.out (out_of (spend_if b k g st))
adds_if true k g h st = h (record st { fuel = st.fuel - k })
adds_if false k g h st = begins_self st.out

ahead_if : {A : Type 0} (b c : Bool) (k n m : ℕ) (out : List ℕ) (cells : List Val) (f g : Act A) → GoesOn f g → n ≤ m
    → (b ≡ true → c ≡ true)
    → IsAhead (spend_if b k f (record { fuel = n; out = out; cells = cells })) (spend_if c k g (record { fuel = m; out = out; cells = cells }))
ahead_if true true k n m out cells f g h l e = h.ahead _ _ (richer (omega (arith, l)))
ahead_if true false k n m out cells f g h l e = let z : false ≡ true = e refl in absurd cc
ahead_if false c k n m out cells f g h l e = ran_out (adds_if c k g h.adds (record { fuel = m; out = out; cells = cells }))

ahead_by : {A : Type 0} (k : ℕ) (f g : Act A) → GoesOn f g → (st st' : State) → IsRicher st st' → IsAhead (paid_by k f st) (paid_by k g st')
ahead_by k f g h st st' (richer {n} {m} {out} {cells} l) =
    ahead_if (nat_le k n) (nat_le k m) k n m out cells f g h l (λ e. le-leb k m (let i : k ≤ n = leb-true k n e in omega (arith, i, l)))

pub pays_by : {A : Type 0} (k : ℕ) {f g : Act A} → GoesOn f g → GoesOn (paid_by k f) (paid_by k g)
pays_by k {f = f} {g = g} h = record { adds = λ st. adds_if (nat_le k st.fuel) k g h.adds st; ahead = ahead_by k f g h }

pub or_halts : {A : Type 0} (o : Option A) (why : Stop) → GoesOn (or_halt o why) (or_halt o why)
or_halts (Some x) why = gives x
or_halts None why = halts why

pub chooses : {A : Type 0} (b : Bool) {f g h k : Act A} → GoesOn f g → GoesOn h k → GoesOn (chosen b f h) (chosen b g k)
chooses true p q = record { adds = p.adds; ahead = p.ahead }
chooses false p q = record { adds = q.adds; ahead = q.ahead }

pub prints : {A : Type 0} (bytes : List ℕ) (x : A) → GoesOn (print bytes x) (print bytes x)
prints bytes x = record { adds = λ st. begins_more st.out bytes; ahead = ahead } where
  ahead : (st st' : State) → IsRicher st st' → IsAhead (print bytes x st) (print bytes x st')
  ahead st st' (richer l) = both_done (richer l)

pub makes : (v : Val) → GoesOn (new_cell v) (new_cell v)
makes v = record { adds = λ st. begins_self st.out; ahead = ahead } where
  ahead : (st st' : State) → IsRicher st st' → IsAhead (new_cell v st) (new_cell v st')
  ahead st st' (richer l) = both_done (richer l)

pub holds : (n : ℕ) → GoesOn (held n) (held n)
holds n = record { adds = λ st. begins_self st.out; ahead = ahead } where
  ahead : (st st' : State) → IsRicher st st' → IsAhead (held n st) (held n st')
  ahead st st' (richer l) = both_done (richer l)

pub puts : {A : Type 0} (n : ℕ) (v : Val) (x : A) → GoesOn (put_cell n v x) (put_cell n v x)
puts n v x = record { adds = λ st. begins_self st.out; ahead = ahead } where
  ahead : (st st' : State) → IsRicher st st' → IsAhead (put_cell n v x st) (put_cell n v x st')
  ahead st st' (richer l) = both_done (richer l)
