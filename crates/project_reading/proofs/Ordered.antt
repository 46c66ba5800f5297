-- The order of linking has each unit once.
use Rattle.std.proofs.Common.{◌≡◌, ◌≢◌, ℕ, zero, suc, ◌+◌, ◌<◌, List, [], ◌∷◌, ◌++◌, All, Bool, true, false, ◌&&◌, ◌||◌, not, cond, Option, Some}
use Rattle.std.proofs.Common.{None, option_map, map, filter, length, refl, ap, sym, subst, ◌∙◌, arith}
use Rattle.std.specs.List.{list_any}
use Rattle.std.specs.Str.{bytes_eq}
use Rattle.std.specs.Str.Lines.{lines}
use Rattle.std.proofs.lemmas.Bool.{eqb-true, or_right, and_parts, not-true}
use Rattle.std.proofs.lemmas.Slice.Eq.{bytes_eq-Decides}
use Rattle.std.proofs.lemmas.List.Sums.{sum_by-cons}
use Rattle.std.proofs.lemmas.List.Elements.{All-nil, All-cons, All-push}
use Rattle.rotor_base.specs.Files.{bad_line, bad_manifest}
use Rattle.rotor_base.specs.declared.unit.SourceUnit.{SourceUnit}
use Rattle.rotor_base.specs.declared.refusal.LoadError.TheVariants.{BadManifest}
use Rattle.rotor_base.proofs.BadLines.{is_named, and_false, left_named, both_true, names_alone}
use Rattle.value_sites.specs.Sound.{AreDistinct}
use Rattle.ml_trees.specs.Tree.{UnitTree}
use Rattle.unit_heads.specs.Heads.{is_among}
use Rattle.unit_order.specs.Order.{is_ready, first_ready, go_on, taking, derived_order, takes_all, is_filled, manifest_order, order_of, IsListed}
use Rattle.unit_order.specs.Positions.{unit_at}
use Rattle.unit_order.proofs.Taken.{AreApart, left_of, left_less_at, among_more}
use Rattle.project_reading.proofs.Parts.{itself, none_left, none_right}

abbrev pub names : List UnitTree → List (List ℕ)
names us = map (λ u. u.name) us

-- these are the names of the units, each once
pub record IsOrder (us : List UnitTree) (order : List (List ℕ)) : Type 0 where
  pub once : AreDistinct order
  pub same : (x : List ℕ) → is_among order x ≡ is_among (names us) x

-- ---- lists of names

pub other_name : (x y : List ℕ) → bytes_eq y x ≡ false → x ≢ y
other_name x y h e = let bad : true ≡ false = sym (itself x) ∙ ap (λ z. bytes_eq z x) e ∙ h in cc

pub none_is : (x : List ℕ) (xs : List (List ℕ)) → is_among xs x ≡ false → All (λ y. x ≢ y) xs
none_is x [] h = All-nil (λ y. x ≢ y)
none_is x (y ∷ ys) h = All-cons (λ z. x ≢ z) y ys (other_name x y (none_left (bytes_eq y x) (is_among ys x) h))
    (none_is x ys (none_right (bytes_eq y x) (is_among ys x) h))

distinct_push : (xs : List (List ℕ)) (x : List ℕ) → AreDistinct xs → is_among xs x ≡ false → AreDistinct (xs ++ x ∷ [])
distinct_push [] x h new = (All-nil (λ y. x ≢ y), tt)
distinct_push (y ∷ ys) x h new = (
  All-push (λ z. y ≢ z) ys x h.0 (λ e. other_name x y (none_left (bytes_eq y x) (is_among ys x) new) (sym e)),
  distinct_push ys x h.1
      (none_right (bytes_eq y x) (is_among ys x) new),
)

-- ---- the units that are taken without a manifest

-- a unit that is taken next
record IsNext (taken : List (List ℕ)) (vs : List UnitTree) (name : List ℕ) : Type 0 where
  fresh : is_among taken name ≡ false
  at : ℕ
  inside : at < length vs
  named : (unit_at vs at).name ≡ name

next_is : (us : List UnitTree) (taken : List (List ℕ)) (vs : List UnitTree) (name : List ℕ) → first_ready us taken vs ≡ Some name
    → IsNext taken vs name
next_is us taken [] name h = cc
next_is us taken (v ∷ vs) name h = by (not (is_among taken v.name) && is_ready us taken v) refl h (next_is us taken vs name)
  where
    by : (b : Bool) → (not (is_among taken v.name) && is_ready us taken v) ≡ b → cond b (Some v.name) (first_ready us taken vs) ≡ Some name
        → (first_ready us taken vs ≡ Some name → IsNext taken vs name) → IsNext taken (v ∷ vs) name
    by true p q rest =
        let same : v.name ≡ name = cc in
        record {
          fresh = subst (λ x. is_among taken x ≡ false) same
              (not-true (is_among taken v.name) (and_parts (not (is_among taken v.name)) (is_ready us taken v) p).0);
          at = 0;
          inside = omega arith;
          named = same;
        }
    by false p q rest = let r = rest q in record { fresh = r.fresh; at = suc r.at; inside = omega (arith, r.inside); named = r.named }

-- what holds of the names that are taken, turn by turn
record IsTaking (us : List UnitTree) (taken : List (List ℕ)) : Type 0 where
  once : AreDistinct taken
  named : (x : List ℕ) → is_among taken x ≡ true → is_among (names us) x ≡ true
  left : left_of taken (λ v. true) us + length taken ≡ length us

name_at : (vs : List UnitTree) (k : ℕ) (x : List ℕ) → k < length vs → bytes_eq (unit_at vs k).name x ≡ true → is_among (names vs) x ≡ true
name_at [] k x lt h = absurd (omega (arith, lt))
name_at (v ∷ vs) zero x lt h = ap (λ b. b || is_among (names vs) x) h
name_at (v ∷ vs) (suc k) x lt h = or_right (bytes_eq v.name x) (is_among (names vs) x) (name_at vs k x (omega (arith, lt)) h)

by_either : (a b : Bool) (P : Type 0) → (a || b) ≡ true → (a ≡ true → P) → (b ≡ true → P) → P
by_either true b P h f g = f refl
by_either false b P h f g = g h

one_more : (xs : List (List ℕ)) (x : List ℕ) → length (xs ++ x ∷ []) ≡ length xs + 1
one_more [] x = omega arith
one_more (y ∷ ys) x = omega (arith, one_more ys x)

taken_more : (us : List UnitTree) (taken : List (List ℕ)) (name : List ℕ) → AreApart us → IsTaking us taken → IsNext taken us name
    → IsTaking us (taken ++ name ∷ [])
taken_more us taken name apart h n = record {
  once = distinct_push taken name h.once n.fresh;
  named = λ x among.
      by_either (is_among taken x) (bytes_eq name x) (is_among (names us) x ≡ true) (sym (among_more taken name x) ∙ among) (h.named x)
      (λ e. name_at us n.at x n.inside (ap (λ y. bytes_eq y x) n.named ∙ e));
  left =
      let fresh : is_among taken (unit_at us n.at).name ≡ false = ap (is_among taken) n.named ∙ n.fresh in
      let less : left_of (taken ++ name ∷ []) (λ v. true) us + 1 ≡ left_of taken (λ v. true) us =
      subst (λ y. left_of (taken ++ y ∷ []) (λ v. true) us + 1 ≡ left_of taken (λ v. true) us) n.named
      (left_less_at us taken n.at (λ v. true) apart n.inside fresh)
      in
      omega (arith, less, one_more taken name, h.left);
}

taking_is : (n : ℕ) (us : List UnitTree) (taken : List (List ℕ)) → AreApart us → IsTaking us taken → IsTaking us (taking n us taken)
unfolding taking
taking_is zero us taken apart h = h
taking_is (suc n) us taken apart h = by (first_ready us taken us) (next_is us taken us) (taking_is n us)
  where
    by : (o : Option (List ℕ)) → ((name : List ℕ) → o ≡ Some name → IsNext taken us name)
        → ((t : List (List ℕ)) → AreApart us → IsTaking us t → IsTaking us (taking n us t)) → IsTaking us (go_on taken o (taking n us))
    by None next rest = h
    by (Some name) next rest = rest (taken ++ name ∷ []) apart (taken_more us taken name apart h (next name refl))

count_all : (us : List UnitTree) → left_of [] (λ v. true) us + 0 ≡ length us
count_all [] = refl
count_all (u ∷ us) = omega (arith, sum_by-cons (λ (w : UnitTree). 1) u us, count_all us)

derived_is : (us : List UnitTree) → AreApart us → IsTaking us (derived_order us)
derived_is us apart = taking_is (length us) us [] apart (record { once = tt; named = λ x h. cc; left = count_all us })

none_waits : (us : List UnitTree) (t : List (List ℕ)) (x : List ℕ) → left_of t (λ v. true) us ≡ 0 → is_among (names us) x ≡ true → is_among t x ≡ true
none_waits [] t x h among = cc
none_waits (u ∷ us) t x h among =
    let parts = sum_by-cons (λ (w : UnitTree). cond (true && not (is_among t w.name)) 1 0) u us in
    by_either (bytes_eq u.name x) (is_among (names us) x) (is_among t x ≡ true) among
    (λ e. ap (is_among t) (sym ((bytes_eq-Decides u.name x).0 e))
    ∙ taken (is_among t u.name) (cond (not (is_among t u.name)) 1 0) refl (omega (arith, h, parts)))
    (none_waits us t x (omega (arith, h, parts)))
  where
    taken : (b : Bool) (n : ℕ) → n ≡ cond (not b) 1 0 → n ≡ 0 → b ≡ true
    taken true n e z = refl
    taken false n e z = absurd (omega (arith, e, z))

pub derived_is_order : (us : List UnitTree) → AreApart us → takes_all us ≡ true → IsOrder us (derived_order us)
derived_is_order us apart all =
    let h = derived_is us apart in
    let many : length (derived_order us) ≡ length us = eqb-true (length (derived_order us)) (length us) all in
    record {
      once = h.once;
      same = λ x. both_true (is_among (derived_order us) x) (is_among (names us) x) (h.named x)
          (none_waits us (derived_order us) x (omega (arith, h.left, many)));
    }

-- ---- the lines of a manifest

some_is : {A B : Type 0} (f : A → B) (o : Option A) → option_map f o ≡ None → o ≡ None
some_is f None h = refl
some_is f (Some x) h = cc

test_holds : (b : Bool) (o : Option ℕ) → cond b (option_map suc o) (Some 1) ≡ None → (b ≡ true) × (o ≡ None)
test_holds true o h = (refl, some_is suc o h)
test_holds false o h = cc

or_given : (a b c : Bool) → (a ≡ true → b ≡ true) → c ≡ (b && not a) → (a || c) ≡ b
or_given true b c h e = sym (h refl)
or_given false b c h e = e ∙ and_true b
  where
    and_true : (b : Bool) → (b && true) ≡ b
    and_true true = refl
    and_true false = refl

-- the lines that are not empty are the names of the units, each once
record ListsThem (ls : List (List ℕ)) (units : List SourceUnit) : Type 0 where
  once : AreDistinct (filter is_filled ls)
  same : (x : List ℕ) → is_among (filter is_filled ls) x ≡ list_any (is_named x) units

lists_them : (ls : List (List ℕ)) (units : List SourceUnit) → bad_line ls units ≡ None → ListsThem ls units
lists_them [] [] h = record { once = tt; same = λ x. refl }
lists_them [] (u ∷ us) h = cc
lists_them ([] ∷ ls) us h = let r = lists_them ls us (some_is suc (bad_line ls us) h) in record { once = r.once; same = r.same }
lists_them ((b ∷ bs) ∷ ls) us h =
    let y = b ∷ bs in
    let left = filter (λ u. not (bytes_eq u.name y)) us in
    let t = test_holds (list_any (is_named y) us) (bad_line ls left) h in
    let r = lists_them ls left t.1 in
    record {
      once = (
        none_is y (filter is_filled ls)
            (r.same y ∙ left_named us y y ∙ ap (λ q. list_any (is_named y) us && not q) (itself y) ∙ and_false (list_any (is_named y) us)),
        r.once,
      );
      same = λ x.
          or_given (bytes_eq y x) (list_any (is_named x) us) (is_among (filter is_filled ls) x)
          (λ e. ap (λ z. list_any (is_named z) us) (sym ((bytes_eq-Decides y x).0 e)) ∙ t.0)
          (r.same x ∙ left_named us x y);
    }

units_named : (us : List UnitTree) (x : List ℕ)
    → list_any (is_named x) (map (λ u. record { name = u.name; is_body = true }) us) ≡ is_among (names us) x
units_named [] x = refl
units_named (u ∷ us) x = ap (λ b. bytes_eq u.name x || b) (units_named us x)

pub manifest_is_order : (us : List UnitTree) (bytes : List ℕ) → IsListed us (Some bytes) → IsOrder us (manifest_order bytes)
unfolding bad_manifest
manifest_is_order us bytes h =
    let r = lists_them (lines bytes) (map (λ u. record { name = u.name; is_body = true }) us)
    (some_is BadManifest (bad_line (lines bytes) (map (λ u. record { name = u.name; is_body = true }) us)) h) in
    record { once = r.once; same = λ x. r.same x ∙ units_named us x }

pub order_is : (us : List UnitTree) (manifest : Option (List ℕ)) → AreApart us → IsListed us manifest → (manifest ≡ None → takes_all us ≡ true)
    → IsOrder us (order_of us manifest)
order_is us None apart listed all = derived_is_order us apart (all refl)
order_is us (Some bytes) apart listed all = manifest_is_order us bytes listed

-- a manifest that lists the units of these sources lists units of the same names
pub listed_alike : (sources : List SourceUnit) (us : List UnitTree) (manifest : Option (List ℕ))
    → ((x : List ℕ) → list_any (is_named x) sources ≡ is_among (names us) x) → bad_manifest sources manifest ≡ None → IsListed us manifest
unfolding bad_manifest
listed_alike sources us None h none = refl
listed_alike sources us (Some bytes) h none =
    ap (option_map BadManifest)
    (sym (names_alone (lines bytes) sources (map (λ u. record { name = u.name; is_body = true }) us) (λ x. h x ∙ sym (units_named us x))))
    ∙ none
