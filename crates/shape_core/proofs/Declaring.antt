-- The last value of each declaration of a list, and the last one of some declarations.
use Rattle.std.proofs.Common.{◌≡◌, ℕ, suc, ◌-◌, ◌<◌, ◌+◌, ◌==◌, ◌||◌, Bool, true, false, cond, List, [], ◌∷◌, ◌++◌, Option, Some, None, map}
use Rattle.std.proofs.Common.{length, take, get_or, refl, ap, sym, ◌∙◌, arith}
use Rattle.std.proofs.lemmas.List.{append-nil}
use Rattle.std.proofs.lemmas.List.Folds.{list_any_more}
use Rattle.std.proofs.lemmas.Bool.{and_parts, eqb-true}
use Rattle.std.proofs.lemmas.Cmp.{tied_itself}
use Rattle.std.specs.BTreeMap.{get, is_at}
use Rattle.std.specs.List.{list_any}
use Rattle.std.specs.Ordering.{is_eq}
use Rattle.std.specs.Prelude.{nat_lt}
use Rattle.rotor_base.specs.Place.{place_cmp, same_place}
use Rattle.rotor_base.specs.declared.place.Place.{Place}
use Rattle.rotor_base.specs.declared.place.Goal.{Goal}
use Rattle.rotor_base.specs.declared.place.Goal.TheVariants.{Decl, Outside, Missing, Hidden, Blur}
use Rattle.rotor_base.specs.declared.looks.Watch.{Watch}
use Rattle.rotor_base.proofs.Places.{place_found, place_total}
use Rattle.shape_core.specs.declared.shared.SharedEntry.{SharedEntry}
use Rattle.shape_core.specs.declared.shared.SharedEntry.TheVariants as e
use Rattle.shape_core.specs.declared.index.Spot.{Spot}
use Rattle.shape_core.specs.declared.declarations.LastValue.{LastValue}
use Rattle.shape_core.specs.declared.declarations.Declarations.{Declarations}
use Rattle.shape_core.specs.Declarations.{HasDeclarations, declared_in, later, spot_of, last_value_of}
use Rattle.shape_core.specs.Looks as looks
use Rattle.shape_core.specs.Looks.{last_where, in_foot, some_place}
use Rattle.shape_core.specs.Members.{behind, behind_dark, final, spot_at, spots_of}
use Rattle.shape_core.specs.Node.{entries_of}
use Rattle.shape_core.specs.Places.{is_among}
use Rattle.shape_core.specs.Shape.{Entries, none, a_val, a_mod, a_mty, a_dark, or_else, some_if, darks, decl_of}
use Rattle.shape_core.proofs.Looked.{looked}
use Rattle.shape_core.proofs.Noted.{final_more, last_noted, spots_more}

-- ---- tests for a place

same_is : (p q : Place) → same_place p q ≡ true → p ≡ q
same_is p q h =
    let b = and_parts (p.file == q.file) (p.token == q.token) h in
    ap (λ n. record { file = n; token = p.token }) (eqb-true p.file q.file b.0)
    ∙ ap (λ n. record { file = q.file; token = n }) (eqb-true p.token q.token b.1)

same_self : (p : Place) → same_place p p ≡ true
same_self p = grind arith

found_self : (p : Place) → is_at (place_cmp p) p ≡ true
found_self p = ap is_eq (tied_itself place_total p)

-- two answers that are both true exactly if two places are one
agree : (p q : Place) (a b : Bool) → is_at (place_cmp q) p ≡ a → same_place p q ≡ b → a ≡ b
agree p q true true h k = refl
agree p q false false h k = refl
agree p q true false h k = sym (ap (λ x. same_place x q) (sym (place_found q p h)) ∙ same_self q) ∙ k
agree p q false true h k = sym h ∙ ap (is_at (place_cmp q)) (same_is p q k) ∙ found_self q

pub tests_same : (p q : Place) → is_at (place_cmp q) p ≡ same_place p q
tests_same p q = agree p q (is_at (place_cmp q) p) (same_place p q) refl refl

-- a place compared with another, and the other with it
same_turned : (p q : Place) → same_place p q ≡ same_place q p
same_turned p q = grind arith

or_none : (b : Bool) → (b || false) ≡ b
or_none true = refl
or_none false = refl

among_one : (p q : Place) → is_among (p ∷ []) (Decl q) ≡ is_at (place_cmp q) p
among_one p q = or_none (same_place q p) ∙ same_turned q p ∙ sym (tests_same p q)

-- ---- one entry more

undeclared : (p : Place) (g : Goal) → decl_of g ≡ None → is_among (p ∷ []) g ≡ false
undeclared p (Decl q) h = absurd cc
undeclared p Outside h = refl
undeclared p Missing h = refl
undeclared p Hidden h = refl
undeclared p (Blur by n behind) h = refl

no_spot : (p : Place) (n k : ℕ) (d : SharedEntry) → declared_in d ≡ None → spot_at (p ∷ []) n k d ≡ []
no_spot p n k (e.Val x g) h = ap (λ b. cond b (record { goal = g; position = n; darks = k } ∷ []) []) (undeclared p g h)
no_spot p n k (e.Mod x s) h = refl
no_spot p n k (e.Mty x s) h = refl
no_spot p n k (e.Dark at) h = refl

pub kept_without : (t : Declarations) (list : List SharedEntry) (d : SharedEntry) → declared_in d ≡ None → HasDeclarations t list
    → HasDeclarations t (list ++ d ∷ [])
kept_without t list d h has p =
    has p
    ∙ ap (λ ss. last_value_of (final ss)) (sym (spots_more (p ∷ []) list d
    ∙ ap (λ ss. spots_of (p ∷ []) list ++ ss) (no_spot p (length list) (length (darks (entries_of list))) d h)
    ∙ append-nil (spots_of (p ∷ []) list)))

put_last : (b : Bool) (s : Spot) (ss : List Spot)
    → cond b (last_value_of (Some s)) (last_value_of (final ss)) ≡ last_value_of (final (ss ++ cond b (s ∷ []) []))
put_last true s ss = ap last_value_of (sym (final_more ss s))
put_last false s ss = ap (λ l. last_value_of (final l)) (sym (append-nil ss))

declares : (g : Goal) (q : Place) → decl_of g ≡ Some q → g ≡ Decl q
declares (Decl p) q h = let same : p ≡ q = cc in ap Decl same
declares Outside q h = absurd cc
declares Missing q h = absurd cc
declares Hidden q h = absurd cc
declares (Blur by n behind) q h = absurd cc

value_kept : (t t' : Declarations) (list : List SharedEntry) (x : List ℕ) (g : Goal) (q : Place) (s : LastValue) → g ≡ Decl q
    → s.position ≡ length list → s.darks ≡ length (darks (entries_of list))
    → ((p : Place) → get place_cmp t'.last_values p ≡ cond (is_at (place_cmp q) p) (Some s) (get place_cmp t.last_values p)) → HasDeclarations t list
    → HasDeclarations t' (list ++ e.Val x g ∷ [])
value_kept t t' list x g q s is at count put has p =
    let here : Spot = record { goal = g; position = length list; darks = length (darks (entries_of list)) } in
    let last : Some s ≡ last_value_of (Some here) = ap (λ n. Some (record { position = n; darks = s.darks })) at
    ∙ ap (λ n. Some (record { position = length list; darks = n })) count in
    let member : is_at (place_cmp q) p ≡ is_among (p ∷ []) g = sym (among_one p q) ∙ ap (is_among (p ∷ [])) (sym is) in
    put p
    ∙ ap (λ o. cond (is_at (place_cmp q) p) (Some s) o) (has p)
    ∙ ap (λ o. cond (is_at (place_cmp q) p) o (last_value_of (final (spots_of (p ∷ []) list)))) last
    ∙ ap (λ b. cond b (last_value_of (Some here)) (last_value_of (final (spots_of (p ∷ []) list)))) member
    ∙ put_last (is_among (p ∷ []) g) here (spots_of (p ∷ []) list)
    ∙ ap (λ ss. last_value_of (final ss)) (sym (spots_more (p ∷ []) list (e.Val x g)))

pub kept_with : (t t' : Declarations) (list : List SharedEntry) (d : SharedEntry) (q : Place) (s : LastValue) → declared_in d ≡ Some q
    → s.position ≡ length list → s.darks ≡ length (darks (entries_of list))
    → ((p : Place) → get place_cmp t'.last_values p ≡ cond (is_at (place_cmp q) p) (Some s) (get place_cmp t.last_values p)) → HasDeclarations t list
    → HasDeclarations t' (list ++ d ∷ [])
kept_with t t' list (e.Val x g) q s is = value_kept t t' list x g q s (declares g q is)
kept_with t t' list (e.Mod x u) q s is = absurd cc
kept_with t t' list (e.Mty x u) q s is = absurd cc
kept_with t t' list (e.Dark at) q s is = absurd cc

-- ---- the last value of one declaration

-- each is of this declaration
abbrev AllOf : Place → List Spot → Type 0
AllOf p [] = Unit {0}
AllOf p (s ∷ ss) = (some_place (decl_of s.goal) ≡ p) × AllOf p ss

of_behind : (p : Place) (ss : List Spot) → AllOf p ss → AllOf p (map behind ss)
of_behind p [] h = tt
of_behind p (s ∷ ss) h = (h.0, of_behind p ss h.1)

of_dark : (p : Place) (ss : List Spot) → AllOf p ss → AllOf p (map behind_dark ss)
of_dark p [] h = tt
of_dark p (s ∷ ss) h = (h.0, of_dark p ss h.1)

of_first : (p : Place) (b : Bool) (s : Spot) (ss : List Spot) → (b ≡ true → some_place (decl_of s.goal) ≡ p) → AllOf p ss
    → AllOf p (cond b (s ∷ ss) ss)
of_first p true s ss h k = (h refl, k)
of_first p false s ss h k = k

member_is : (p : Place) (g : Goal) → is_among (p ∷ []) g ≡ true → some_place (decl_of g) ≡ p
member_is p (Decl q) h = same_is q p (sym (or_none (same_place q p)) ∙ h)
member_is p Outside h = absurd cc
member_is p Missing h = absurd cc
member_is p Hidden h = absurd cc
member_is p (Blur by n behind) h = absurd cc

all_of : (p : Place) (es : List SharedEntry) → AllOf p (spots_of (p ∷ []) es)
all_of p [] = tt
all_of p (e.Val x g ∷ es) =
    of_first p (is_among (p ∷ []) g) (record { goal = g; position = 0; darks = 0 }) (map behind (spots_of (p ∷ []) es)) (member_is p g)
    (of_behind p (spots_of (p ∷ []) es) (all_of p es))
all_of p (e.Mod x s ∷ es) = of_behind p (spots_of (p ∷ []) es) (all_of p es)
all_of p (e.Mty x s ∷ es) = of_behind p (spots_of (p ∷ []) es) (all_of p es)
all_of p (e.Dark at ∷ es) = of_dark p (spots_of (p ∷ []) es) (all_of p es)

final_looked : (p : Place) (n : ℕ) (ss : List Spot) → AllOf p ss → looked n (final ss) ≡ spot_of p n (last_value_of (final ss))
final_looked p n [] h = refl
final_looked p n (s ∷ ss) h = by (final ss) (final_looked p n ss h.1)
  where
    by : (o : Option Spot) → looked n o ≡ spot_of p n (last_value_of o)
        → looked n (or_else o (Some s)) ≡ spot_of p n (last_value_of (or_else o (Some s)))
    by None k = ap (λ q. Some (s.position, q, n - s.darks)) h.0
    by (Some t) k = k

-- a renaming with this footprint
abbrev pub watching : List Place → Watch
watching ds = record { old = []; new = []; foot = record { decls = ds; outside = None } }

one_last : (t : Declarations) (list : List SharedEntry) (p : Place) → HasDeclarations t list
    → spot_of p (length (darks (entries_of list))) (get place_cmp t.last_values p) ≡ last_where (in_foot (watching (p ∷ []))) (entries_of list)
one_last t list p has =
    let n = length (darks (entries_of list)) in
    ap (spot_of p n) (has p) ∙ sym (final_looked p n (spots_of (p ∷ []) list) (all_of p list)) ∙ sym (last_noted (watching (p ∷ [])) list)

-- ---- the last value of one declaration more

below_more : (a b : ℕ) → nat_lt (suc a) (suc b) ≡ nat_lt a b
below_more a b = grind arith

none_below : (a : ℕ) → nat_lt (suc a) 0 ≡ false
none_below a = grind arith

some_below : (a : ℕ) → nat_lt 0 (suc a) ≡ true
some_below a = grind arith

moved_later : (a b : Option looks.Spot) → looks.moved (later a b) ≡ later (looks.moved a) (looks.moved b)
moved_later None b = refl
moved_later (Some s) None = refl
moved_later (Some s) (Some t) = by (nat_lt s.0 t.0)
    ∙ ap (λ b. cond b (looks.moved (Some t)) (looks.moved (Some s))) (sym (below_more s.0 t.0))
  where
    by : (b : Bool) → looks.moved (cond b (Some t) (Some s)) ≡ cond b (looks.moved (Some t)) (looks.moved (Some s))
    by true = refl
    by false = refl

later_some : (b : Bool) (s t : looks.Spot) (o : Option looks.Spot) → or_else (cond b (Some t) (Some s)) o ≡ cond b (Some t) (Some s)
later_some true s t o = refl
later_some false s t o = refl

-- with a value in front, that is among some declarations, or that is another one
joined : (a b : Option looks.Spot) (t u : Bool) (q : Place) (n : ℕ) → or_else (looks.moved (later a b)) (some_if (t || u) (0, q, n))
    ≡ later (or_else (looks.moved a) (some_if t (0, q, n))) (or_else (looks.moved b) (some_if u (0, q, n)))
joined None None true true q n = refl
joined None None true false q n = refl
joined None None false true q n = refl
joined None None false false q n = refl
joined None (Some s) true u q n =
    let here : looks.Spot = (0, q, n) in
    let there : looks.Spot = (suc s.0, s.1, s.2) in ap (λ b. cond b (Some there) (Some here)) (sym (some_below s.0))
joined None (Some s) false u q n = refl
joined (Some s) None t true q n =
    let here : looks.Spot = (0, q, n) in
    let there : looks.Spot = (suc s.0, s.1, s.2) in ap (λ b. cond b (Some here) (Some there)) (sym (none_below s.0))
joined (Some s) None t false q n = refl
joined (Some s) (Some r) t u q n =
    let o : Option looks.Spot = some_if (t || u) (0, q, n) in
    ap (λ z. or_else z o) (moved_later (Some s) (Some r))
    ∙ later_some (nat_lt (suc s.0) (suc r.0)) (suc s.0, s.1, s.2) (suc r.0, r.1, r.2) o

-- a goal is among some declarations and one more exactly if it is among them or is that one
among_more : (ds : List Place) (i : ℕ) (p : Place) (g : Goal) → i < length ds
    → is_among (take (i + 1) ds) g ≡ (is_among (take i ds) g || is_among (get_or ds i p ∷ []) g)
among_more ds i p (Decl q) h = list_any_more (same_place q) ds i p h
    ∙ ap (λ b. list_any (same_place q) (take i ds) || b) (sym (or_none (same_place q (get_or ds i p))))
among_more ds i p Outside h = refl
among_more ds i p Missing h = refl
among_more ds i p Hidden h = refl
among_more ds i p (Blur by n behind) h = refl

pub last_more : (ds : List Place) (i : ℕ) (p : Place) → i < length ds → (es : Entries)
    → last_where (in_foot (watching (take (i + 1) ds))) es
    ≡ later (last_where (in_foot (watching (take i ds))) es) (last_where (in_foot (watching (get_or ds i p ∷ []))) es)
last_more ds i p h none = refl
last_more ds i p h (a_val x g es) =
    let a = last_where (in_foot (watching (take i ds))) es in
    let b = last_where (in_foot (watching (get_or ds i p ∷ []))) es in
    let n = length (darks es) in
    ap (λ o. or_else (looks.moved o) (some_if (is_among (take (i + 1) ds) g) (0, some_place (decl_of g), n))) (last_more ds i p h es)
    ∙ ap (λ c. or_else (looks.moved (later a b)) (some_if c (0, some_place (decl_of g), n))) (among_more ds i p g h)
    ∙ joined a b (is_among (take i ds) g) (is_among (get_or ds i p ∷ []) g) (some_place (decl_of g)) n
last_more ds i p h (a_mod X s es) =
    let a = last_where (in_foot (watching (take i ds))) es in
    let b = last_where (in_foot (watching (get_or ds i p ∷ []))) es in
    ap looks.moved (last_more ds i p h es) ∙ moved_later a b
last_more ds i p h (a_mty S s es) =
    let a = last_where (in_foot (watching (take i ds))) es in
    let b = last_where (in_foot (watching (get_or ds i p ∷ []))) es in
    ap looks.moved (last_more ds i p h es) ∙ moved_later a b
last_more ds i p h (a_dark at es) =
    let a = last_where (in_foot (watching (take i ds))) es in
    let b = last_where (in_foot (watching (get_or ds i p ∷ []))) es in
    ap looks.moved (last_more ds i p h es) ∙ moved_later a b

-- no value is among no declarations
pub none_last : (es : Entries) → last_where (in_foot (watching [])) es ≡ None
none_last none = refl
none_last (a_val x g es) =
    ap (λ o. or_else (looks.moved o) (some_if (is_among [] g) (0, some_place (decl_of g), length (darks es)))) (none_last es)
    ∙ ap (λ b. or_else (looks.moved None) (some_if b (0, some_place (decl_of g), length (darks es)))) (by g)
  where
    by : (g : Goal) → is_among [] g ≡ false
    by (Decl q) = refl
    by Outside = refl
    by Missing = refl
    by Hidden = refl
    by (Blur b n behind) = refl
none_last (a_mod X s es) = ap looks.moved (none_last es)
none_last (a_mty S s es) = ap looks.moved (none_last es)
none_last (a_dark at es) = ap looks.moved (none_last es)

-- the last value of the first declarations, and of one more
pub last_step : (t : Declarations) (list : List SharedEntry) (ds : List Place) (i : ℕ) (p : Place) (n : ℕ) (last last' : Option looks.Spot)
    → i < length ds → n ≡ length (darks (entries_of list)) → HasDeclarations t list
    → last ≡ last_where (in_foot (watching (take i ds))) (entries_of list)
    → last' ≡ later last (spot_of (get_or ds i p) n (get place_cmp t.last_values (get_or ds i p)))
    → last' ≡ last_where (in_foot (watching (take (i + 1) ds))) (entries_of list)
last_step t list ds i p n last last' lt count has h k =
    let es = entries_of list in
    let d = get_or ds i p in
    k ∙ ap (λ o. later o (spot_of d n (get place_cmp t.last_values d))) h
    ∙ ap (λ m. later (last_where (in_foot (watching (take i ds))) es) (spot_of d m (get place_cmp t.last_values d))) count
    ∙ ap (later (last_where (in_foot (watching (take i ds))) es)) (one_last t list d has)
    ∙ sym (last_more ds i p lt es)
