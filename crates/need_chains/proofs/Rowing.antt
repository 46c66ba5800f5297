-- Rows of the sources that units need.
use Rattle.std.proofs.lemmas.Bool.{true≢false}
use Rattle.std.proofs.Common.{◌≡◌, ◌≢◌, ◌<◌, ℕ, zero, suc, List, [], ◌∷◌, ◌++◌, Bool, true, false, ◌&&◌, ◌||◌, not, Option, Some, None, get_or}
use Rattle.std.proofs.Common.{is_some, length, map, set, if◌then◌else◌, bytes_eq, refl, ap, subst, sym, ◌∙◌, arith}
use Rattle.std.proofs.lemmas.List.{get_or-map, get_or-set_other, get_or-set_same, length-map}
use Rattle.std.proofs.lemmas.List.Folds.{list_any-append}
use Rattle.std.proofs.lemmas.Simd.{map-map}
use Rattle.std.proofs.lemmas.Slice.Eq.{bytes_eq-Decides}
use Rattle.std.specs.List.{list_any}
use Rattle.name_tables.specs.declared.names.Names.{Names}
use Rattle.name_tables.specs.Names.{at}
use Rattle.need_chains.specs.Distances.{is_number}
use Rattle.need_chains.specs.Needs.{heads_in, needs}
use Rattle.need_chains.specs.Rows.{ArePlaces, NamePlaces, hits, is_hit, is_unit, row_at}
use Rattle.need_chains.specs.declared.unit_heads.UnitHeads.{UnitHeads}

or_none : (b : Bool) → (b || false) ≡ b
or_none true = refl
or_none false = refl

same_name : (name : List ℕ) → bytes_eq name name ≡ true
same_name name = (bytes_eq-Decides name name).1 refl

-- the unit of a source is one
pub is_unit_here : (sources : List UnitHeads) (i : ℕ) (s : UnitHeads) → i < length sources → s ≡ get_or sources i s → is_unit sources s.unit ≡ true
is_unit_here [] i s lt is = absurd (omega (arith, lt))
is_unit_here (t ∷ sources) zero s lt is =
    ap (λ (x : UnitHeads). bytes_eq x.unit s.unit || is_unit sources s.unit) (sym is)
    ∙ ap (λ (b : Bool). b || is_unit sources s.unit) (same_name s.unit)
is_unit_here (t ∷ sources) (suc i) s lt is =
    or_true (bytes_eq t.unit s.unit) (is_unit sources s.unit) (is_unit_here sources i s (omega (arith, lt)) is)
  where
    or_true : (a b : Bool) → b ≡ true → (a || b) ≡ true
    or_true true b h = refl
    or_true false b h = h

number_at : (sources : List UnitHeads) (number : List ℕ → Option ℕ) (q : ℕ) (name : List ℕ) → q < length sources
    → get_or (map (λ s. s.unit) sources) q [] ≡ name → get_or (map (λ s. number s.unit) sources) q None ≡ number name
number_at sources number q name lt is =
    ap (λ (l : List (Option ℕ)). get_or l q None) (sym (map-map number (λ (s : UnitHeads). s.unit) sources))
    ∙ get_or-map number (map (λ (s : UnitHeads). s.unit) sources) q [] None
    (omega (arith, lt, length-map sources (λ (s : UnitHeads). s.unit))) ∙ ap number is

-- the place of a head is added
pub need_pushed : (places : Names ℕ) (sources : List UnitHeads) (unit head row : List ℕ) (q n : ℕ) (number : List ℕ → Option ℕ)
    → ArePlaces places sources → at places head ≡ Some q → bytes_eq head unit ≡ false
    → hits sources n number (row ++ q ∷ []) ≡ (hits sources n number row || is_hit sources unit n number head)
need_pushed places sources unit head row q n number are there other =
    let named = are.name head q there in
    let one : is_unit sources head ≡ true = sym (are.have head) ∙ ap is_some there in
    let hit : is_number n (get_or (map (λ s. number s.unit) sources) q None) ≡ is_hit sources unit n number head
    = ap (is_number n) (number_at sources number q head named.0 named.1)
    ∙ sym (ap (λ (b : Bool). b && (not (bytes_eq head unit) && is_number n (number head))) one
    ∙ ap (λ (b : Bool). not b && is_number n (number head)) other) in
    list_any-append (λ at. is_number n (get_or (map (λ s. number s.unit) sources) at None)) row (q ∷ [])
    ∙ ap (λ (b : Bool). hits sources n number row || b) (or_none (is_number n (get_or (map (λ s. number s.unit) sources) q None)) ∙ hit)

row_other : (rows : List (List ℕ)) (user : ℕ) (row : List ℕ) (o : Option ℕ) → ((p : ℕ) → o ≡ Some p → p ≢ user)
    → row_at (set rows user row) o ≡ row_at rows o
row_other rows user row None h = refl
row_other rows user row (Some p) h = get_or-set_other rows user p row [] (h p refl)

-- the needs of a source are added to the row of its unit
pub source_pushed : (places : Names ℕ) (sources : List UnitHeads) (unit : List ℕ) (rows : List (List ℕ)) (user : ℕ) (row : List ℕ)
    (heads : List (List ℕ))
    → ArePlaces places sources → at places unit ≡ Some user → user < length rows
    → ((n : ℕ) (number : List ℕ → Option ℕ) → hits sources n number row
    ≡ (hits sources n number (get_or rows user []) || list_any (is_hit sources unit n number) heads))
    → (u : List ℕ) (n : ℕ) (number : List ℕ → Option ℕ) → hits sources n number (row_at (set rows user row) (at places u))
    ≡ (hits sources n number (row_at rows (at places u)) || (bytes_eq unit u && list_any (is_hit sources u n number) heads))
source_pushed places sources unit rows user row heads are there lt pushed u n number = by (bytes_eq unit u) refl
  where
    own : hits sources n number (row_at (set rows user row) (at places unit))
        ≡ (hits sources n number (row_at rows (at places unit)) || list_any (is_hit sources unit n number) heads)
    own =
        ap (λ (o : Option ℕ). hits sources n number (row_at (set rows user row) o)) there
        ∙ ap (hits sources n number) (get_or-set_same rows user row [] lt) ∙ pushed n number
        ∙ ap (λ (o : Option ℕ). hits sources n number (row_at rows o) || list_any (is_hit sources unit n number) heads) (sym there)

    apart : bytes_eq unit u ≡ false → (p : ℕ) → at places u ≡ Some p → p ≢ user
    apart e p is same =
        true≢false (sym ((bytes_eq-Decides unit u).1
        (sym (are.name unit user there).1 ∙ ap (λ (i : ℕ). get_or (map (λ (s : UnitHeads). s.unit) sources) i []) (sym same)
        ∙ (are.name u p is).1)) ∙ e)

    by : (b : Bool) → bytes_eq unit u ≡ b → hits sources n number (row_at (set rows user row) (at places u))
        ≡ (hits sources n number (row_at rows (at places u)) || (b && list_any (is_hit sources u n number) heads))
    by true e =
        subst (λ (x : List ℕ). hits sources n number (row_at (set rows user row) (at places x))
        ≡ (hits sources n number (row_at rows (at places x)) || list_any (is_hit sources x n number) heads)) ((bytes_eq-Decides unit u).0 e) own
    by false e =
        ap (hits sources n number) (row_other rows user row (at places u) (apart e))
        ∙ sym (or_none (hits sources n number (row_at rows (at places u))))

-- ---- heads and sources

any_own : (test : List ℕ → Bool) (sources : List UnitHeads) (unit : List ℕ)
    → list_any (λ s. bytes_eq s.unit unit && list_any test s.heads) sources ≡ list_any test (heads_in sources unit)
any_own test [] unit = refl
any_own test (s ∷ sources) unit =
    ap (λ (b : Bool). (bytes_eq s.unit unit && list_any test s.heads) || b) (any_own test sources unit)
    ∙ by (bytes_eq s.unit unit) ∙ sym (list_any-append test (if bytes_eq s.unit unit then s.heads else []) (heads_in sources unit))
  where
    by : (b : Bool) → ((b && list_any test s.heads) || list_any test (heads_in sources unit))
        ≡ (list_any test (if b then s.heads else []) || list_any test (heads_in sources unit))
    by true = refl
    by false = refl

none_any : {A : Type 0} (xs : List A) → list_any (λ x. false) xs ≡ false
none_any [] = refl
none_any (x ∷ xs) = none_any xs

either : (a b c d : Bool) → (((a || b) && c) && d) ≡ (((a && c) && d) || ((b && c) && d))
either true true true true = refl
either true true true false = refl
either true true false d = refl
either true false true true = refl
either true false true false = refl
either true false false d = refl
either false b c d = refl

shuffle : (x y p q : Bool) → ((x || y) || (p || q)) ≡ ((x || p) || (y || q))
shuffle true y p q = refl
shuffle false true true q = refl
shuffle false true false q = refl
shuffle false false p q = refl

any_either : {A : Type 0} (a b c d : A → Bool) (xs : List A)
    → list_any (λ x. ((a x || b x) && c x) && d x) xs ≡ (list_any (λ x. (a x && c x) && d x) xs || list_any (λ x. (b x && c x) && d x) xs)
any_either a b c d [] = refl
any_either a b c d (x ∷ xs) =
    let p = list_any (λ y. (a y && c y) && d y) xs in
    let q = list_any (λ y. (b y && c y) && d y) xs in
    ap (λ (z : Bool). z || list_any (λ y. ((a y || b y) && c y) && d y) xs) (either (a x) (b x) (c x) (d x))
    ∙ ap (λ (z : Bool). (((a x && c x) && d x) || ((b x && c x) && d x)) || z) (any_either a b c d xs)
    ∙ shuffle ((a x && c x) && d x) ((b x && c x) && d x) p q

with_both : (e f k : Bool) → ((e && k) || (f && k)) ≡ ((e || f) && k)
with_both true true true = refl
with_both true true false = refl
with_both true false true = refl
with_both true false false = refl
with_both false f k = refl

any_head : (sources : List UnitHeads) (unit : List ℕ) (hit : List ℕ → Bool) (head : List ℕ)
    → list_any (λ s. (bytes_eq head s.unit && not (bytes_eq s.unit unit)) && hit s.unit) sources
    ≡ (is_unit sources head && (not (bytes_eq head unit) && hit head))
any_head [] unit hit head = refl
any_head (s ∷ sources) unit hit head =
    let more = is_unit sources head && (not (bytes_eq head unit) && hit head) in
    ap (λ (b : Bool). ((bytes_eq head s.unit && not (bytes_eq s.unit unit)) && hit s.unit) || b) (any_head sources unit hit head)
    ∙ ap (λ (b : Bool). b || more) (by (bytes_eq head s.unit) refl)
    ∙ with_both (bytes_eq s.unit head) (is_unit sources head) (not (bytes_eq head unit) && hit head)
  where
    turned : bytes_eq head s.unit ≡ false → (b : Bool) → bytes_eq s.unit head ≡ b → b ≡ false
    turned e true f = absurd (true≢false (sym ((bytes_eq-Decides head s.unit).1 (sym ((bytes_eq-Decides s.unit head).0 f))) ∙ e))
    turned e false f = refl

    by : (b : Bool) → bytes_eq head s.unit ≡ b
        → ((b && not (bytes_eq s.unit unit)) && hit s.unit) ≡ (bytes_eq s.unit head && (not (bytes_eq head unit) && hit head))
    by true e =
        let same = (bytes_eq-Decides head s.unit).0 e in
        ap (λ (x : List ℕ). not (bytes_eq x unit) && hit x) (sym same)
        ∙ ap (λ (b : Bool). b && (not (bytes_eq head unit) && hit head)) (sym ((bytes_eq-Decides s.unit head).1 (sym same)))
    by false e = ap (λ (b : Bool). b && (not (bytes_eq head unit) && hit head)) (sym (turned e (bytes_eq s.unit head) refl))

any_swap : (sources : List UnitHeads) (unit : List ℕ) (hit : List ℕ → Bool) (heads : List (List ℕ))
    → list_any (λ h. is_unit sources h && (not (bytes_eq h unit) && hit h)) heads
    ≡ list_any (λ s. (list_any (λ h. bytes_eq h s.unit) heads && not (bytes_eq s.unit unit)) && hit s.unit) sources
any_swap sources unit hit [] = sym (none_any sources)
any_swap sources unit hit (head ∷ heads) =
    ap (λ (b : Bool). (is_unit sources head && (not (bytes_eq head unit) && hit head)) || b) (any_swap sources unit hit heads)
    ∙ ap (λ (b : Bool). b
    || list_any (λ (s : UnitHeads). (list_any (λ h. bytes_eq h s.unit) heads && not (bytes_eq s.unit unit)) && hit s.unit) sources)
    (sym (any_head sources unit hit head))
    ∙ sym (any_either (λ (s : UnitHeads). bytes_eq head s.unit) (λ (s : UnitHeads). list_any (λ h. bytes_eq h s.unit) heads)
    (λ (s : UnitHeads). not (bytes_eq s.unit unit)) (λ (s : UnitHeads). hit s.unit) sources)

-- the heads of all sources of a unit are its needs
pub rows_all : (sources : List UnitHeads) (unit : List ℕ) (n : ℕ) (number : List ℕ → Option ℕ)
    → list_any (λ s. bytes_eq s.unit unit && list_any (is_hit sources unit n number) s.heads) sources
    ≡ list_any (λ s. needs sources unit s.unit && is_number n (number s.unit)) sources
rows_all sources unit n number =
    any_own (is_hit sources unit n number) sources unit ∙ any_swap sources unit (λ x. is_number n (number x)) (heads_in sources unit)

-- ---- places

pub have_put : (places places' : Names ℕ) (sources : List UnitHeads) (name x : List ℕ) (k : ℕ)
    → at places' x ≡ (if bytes_eq name x then Some k else at places x) → is_some (at places x) ≡ is_unit sources x
    → is_some (at places' x) ≡ (is_unit sources x || bytes_eq name x)
have_put places places' sources name x k put before = ap is_some put ∙ by (bytes_eq name x)
  where
    by : (b : Bool) → is_some (if b then Some k else at places x) ≡ (is_unit sources x || b)
    by true = or_some (is_unit sources x)
      where
        or_some : (b : Bool) → true ≡ (b || true)
        or_some true = refl
        or_some false = refl
    by false = before ∙ sym (or_none (is_unit sources x))

pub name_put : (places places' : Names ℕ) (sources : List UnitHeads) (name : List ℕ) (k : ℕ) → k < length sources
    → get_or (map (λ s. s.unit) sources) k [] ≡ name → ((x : List ℕ) → at places' x ≡ (if bytes_eq name x then Some k else at places x))
    → NamePlaces places sources → NamePlaces places' sources
name_put places places' sources name k lt is put before x p there = by (bytes_eq name x) refl
  where
    by : (b : Bool) → bytes_eq name x ≡ b → (p < length sources) × (get_or (map (λ s. s.unit) sources) p [] ≡ x)
    by true e =
        let both : Some k ≡ Some p = sym (put x ∙ ap (λ b. if b then Some k else at places x) e) ∙ there in
        let same : k ≡ p = cc in (
          omega (arith, lt, same),
          ap (λ (i : ℕ). get_or (map (λ (s : UnitHeads). s.unit) sources) i []) (sym same) ∙ is
              ∙ (bytes_eq-Decides name x).0 e,
        )
    by false e = before x p (sym (put x ∙ ap (λ b. if b then Some k else at places x) e) ∙ there)
