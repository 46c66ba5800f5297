-- Lists of shared entries, and the position of the last entry of a name in them.
use Rattle.std.proofs.Common.{◌≡◌, ℕ, zero, suc, ◌<◌, ◌-◌, Bool, true, false, List, [], ◌∷◌, ◌++◌, length, drop, slice_get, Option, Some, None, refl}
use Rattle.std.proofs.Common.{sym, ap, ◌∙◌, arith}
use Rattle.std.proofs.lemmas.List.{append_assoc, append-nil}
use Rattle.std.proofs.lemmas.Slice.Eq.{bytes_eq-Decides}
use Rattle.std.specs.Prelude.{bytes_eq, nat_eq}
use Rattle.rotor_base.specs.declared.place.Place.{Place}
use Rattle.rotor_base.specs.declared.place.Goal.{Goal}
use Rattle.shape_core.specs.declared.shared.SharedEntry.{SharedEntry}
use Rattle.shape_core.specs.declared.shared.SharedEntry.TheVariants as e
use Rattle.shape_core.specs.declared.index.Spot.{Spot}
use Rattle.shape_core.specs.Node.{and_then, entries_of}
use Rattle.shape_core.specs.Index.{moved, one_more, position_of, position_is, last_spot, is_mod, is_mty, up, last_at, before_of, befores_from}
use Rattle.shape_core.specs.Index.{mod_at, mty_at, there}
use Rattle.shape_core.specs.Shape.{Name, Shape, Entries, none, a_val, a_mod, a_mty, a_dark, ◌⊕◌, or_else, some_if, unless_some, darks, vals, mods}
use Rattle.shape_core.specs.Shape.{mtys, last_of, passed, last_place, entries_from, is_shown}
use Rattle.shape_core.proofs.Lists as lists
use Rattle.shape_core.proofs.Lists.{or_else_none, or_else_assoc}

then_append : (d : SharedEntry) (rest : Entries) → and_then d rest ≡ and_then d none ⊕ rest
then_append (e.Val x g) rest = refl
then_append (e.Mod x s) rest = refl
then_append (e.Mty x s) rest = refl
then_append (e.Dark at) rest = refl

pub entries_of-append : (xs ys : List SharedEntry) → entries_of (xs ++ ys) ≡ entries_of xs ⊕ entries_of ys
entries_of-append [] ys = refl
entries_of-append (d ∷ xs) ys =
    ap (and_then d) (entries_of-append xs ys)
    ∙ then_append d (entries_of xs ⊕ entries_of ys)
    ∙ sym (lists.append_assoc (and_then d none) (entries_of xs) (entries_of ys))
    ∙ ap (λ l. l ⊕ entries_of ys) (sym (then_append d (entries_of xs)))

-- how many entries there are
abbrev pub number : Entries → ℕ
number none = 0
number (a_val x g es) = suc (number es)
number (a_mod X s es) = suc (number es)
number (a_mty S s es) = suc (number es)
number (a_dark at es) = suc (number es)

pub number_of : (list : List SharedEntry) → number (entries_of list) ≡ length list
number_of [] = refl
number_of (e.Val x g ∷ list) = ap suc (number_of list)
number_of (e.Mod x s ∷ list) = ap suc (number_of list)
number_of (e.Mty x s ∷ list) = ap suc (number_of list)
number_of (e.Dark at ∷ list) = ap suc (number_of list)

-- spots after one entry more
abbrev pub spot : Goal → ℕ → ℕ → Spot
spot g n d = record { goal = g; position = n; darks = d }

moved_or : (b : Bool) (g : Goal) (n d : ℕ) (o : Option Spot) → moved (or_else (some_if b (spot g n d)) o) ≡ or_else (some_if b (spot g (suc n) d))
    (moved o)
moved_or true g n d o = refl
moved_or false g n d o = refl

more_or : (b : Bool) (g : Goal) (n d : ℕ) (o : Option Spot)
    → one_more (or_else (some_if b (spot g n d)) o) ≡ or_else (some_if b (spot g (suc n) (suc d))) (one_more o)
more_or true g n d o = refl
more_or false g n d o = refl

pub spot_val : (a : Entries) (x y : Name) (g : Goal)
    → last_spot (a ⊕ a_val y g none) x ≡ or_else (some_if (bytes_eq y x) (spot g (number a) (length (darks a)))) (last_spot a x)
spot_val none x y g = sym (or_else_none (some_if (bytes_eq y x) (spot g 0 0)))
spot_val (a_val z h a) x y g =
    ap (λ o. or_else (moved o) (some_if (bytes_eq z x) (spot h 0 0))) (spot_val a x y g)
    ∙ ap (λ o. or_else o (some_if (bytes_eq z x) (spot h 0 0))) (moved_or (bytes_eq y x) g (number a) (length (darks a)) (last_spot a x))
    ∙ or_else_assoc (some_if (bytes_eq y x) (spot g (suc (number a)) (length (darks a)))) (moved (last_spot a x))
    (some_if (bytes_eq z x) (spot h 0 0))
spot_val (a_mod z s a) x y g = ap moved (spot_val a x y g) ∙ moved_or (bytes_eq y x) g (number a) (length (darks a)) (last_spot a x)
spot_val (a_mty z s a) x y g = ap moved (spot_val a x y g) ∙ moved_or (bytes_eq y x) g (number a) (length (darks a)) (last_spot a x)
spot_val (a_dark at a) x y g = ap one_more (spot_val a x y g) ∙ more_or (bytes_eq y x) g (number a) (length (darks a)) (last_spot a x)

pub spot_still : (a b : Entries) (x : Name) → last_spot b x ≡ None → last_spot (a ⊕ b) x ≡ last_spot a x
spot_still none b x h = h
spot_still (a_val z h a) b x k = ap (λ o. or_else (moved o) (some_if (bytes_eq z x) (spot h 0 0))) (spot_still a b x k)
spot_still (a_mod z s a) b x k = ap moved (spot_still a b x k)
spot_still (a_mty z s a) b x k = ap moved (spot_still a b x k)
spot_still (a_dark at a) b x k = ap one_more (spot_still a b x k)

-- positions after one entry more
up_or : (b : Bool) (n : ℕ) (o : Option ℕ) (p : Option ℕ) → or_else (up (or_else (some_if b n) o)) p ≡ or_else (some_if b (suc n)) (or_else (up o) p)
up_or true n o p = refl
up_or false n o p = refl

pub last_at-push : (test : SharedEntry → Bool) (list : List SharedEntry) (d : SharedEntry)
    → last_at test (list ++ d ∷ []) ≡ or_else (some_if (test d) (length list)) (last_at test list)
last_at-push test [] d = sym (or_else_none (some_if (test d) 0))
last_at-push test (c ∷ list) d =
    ap (λ o. or_else (up o) (some_if (test c) 0)) (last_at-push test list d)
    ∙ up_or (test d) (length list) (last_at test list) (some_if (test c) 0)

-- what entries change, after one more
pub befores-push : (done list : List SharedEntry) (d : SharedEntry) → befores_from done (list ++ d ∷ []) ≡ befores_from done list ++ before_of
    (done ++ list) d ∷ []
befores-push done [] d = ap (λ l. before_of l d ∷ []) (sym (append-nil done))
befores-push done (c ∷ list) d =
    ap (λ l. before_of done c ∷ l)
    (befores-push (done ++ c ∷ []) list d ∙ ap (λ z. befores_from (done ++ c ∷ []) list ++ before_of z d ∷ []) (append_assoc done (c ∷ []) list))

pub length-befores : (done list : List SharedEntry) → length (befores_from done list) ≡ length list
length-befores done [] = refl
length-befores done (c ∷ list) = ap suc (length-befores (done ++ c ∷ []) list)

-- what a look-up finds and passes, by the last spot of the name
abbrev pub Told : Option Goal → List Place → List Place → Option Spot → Type 0
Told found ats all None = (found ≡ None) × (ats ≡ all)
Told found ats all (Some s) = (found ≡ Some s.goal) × (ats ≡ drop s.darks all)

val_told : (found : Option Goal) (ats all : List Place) (o : Option Spot) (b : Bool) (g : Goal) → Told found ats all o
    → Told (or_else found (some_if b g)) ats all (or_else (moved o) (some_if b (spot g 0 0)))
val_told found ats all None true g h = (ap (λ z. or_else z (Some g)) h.0, h.1)
val_told found ats all None false g h = (ap (λ z. or_else z None) h.0, h.1)
val_told found ats all (Some s) b g h = (ap (λ z. or_else z (some_if b g)) h.0, h.1)

moved_told : (found : Option Goal) (ats all : List Place) (o : Option Spot) → Told found ats all o → Told found ats all (moved o)
moved_told found ats all None h = h
moved_told found ats all (Some s) h = h

dark_told : (found : Option Goal) (ats all : List Place) (o : Option Spot) (at : Place) → Told found ats all o
    → Told found (unless_some found (at ∷ ats) ats) (at ∷ all) (one_more o)
dark_told found ats all None at h = (h.0, ap (λ z. unless_some z (at ∷ ats) ats) h.0 ∙ ap (λ l. at ∷ l) h.1)
dark_told found ats all (Some s) at h = (h.0, ap (λ z. unless_some z (at ∷ ats) ats) h.0 ∙ h.1)

pub told : (es : Entries) (x : Name) → Told (last_of (vals es) x) (passed es x) (darks es) (last_spot es x)
told none x = (refl, refl)
told (a_val y g es) x = val_told _ _ _ (last_spot es x) (bytes_eq y x) g (told es x)
told (a_mod y s es) x = moved_told _ _ _ (last_spot es x) (told es x)
told (a_mty y s es) x = moved_told _ _ _ (last_spot es x) (told es x)
told (a_dark at es) x = dark_told _ _ _ (last_spot es x) at (told es x)

-- the last of some places
or_some : (o : Option Place) (a b : Place) → or_else (or_else o (Some b)) (Some a) ≡ or_else o (Some b)
or_some None a b = refl
or_some (Some c) a b = refl

pub last_drop : (n : ℕ) (ats : List Place) → n < length ats → last_place (drop n ats) ≡ last_place ats
last_drop zero ats h = refl
last_drop (suc n) [] h = absurd (omega arith)
last_drop (suc n) (a ∷ []) h = absurd (omega arith)
last_drop (suc n) (a ∷ b ∷ ats) h = last_drop n (b ∷ ats) (omega arith) ∙ sym (or_some (last_place ats) a b)

pub last_get : (ats : List Place) → slice_get ats (length ats - 1) ≡ last_place ats
last_get [] = refl
last_get (a ∷ []) = refl
last_get (a ∷ b ∷ ats) =
    let e : length (a ∷ b ∷ ats) - 1 ≡ suc (length (b ∷ ats) - 1) = omega arith in
    ap (slice_get (a ∷ b ∷ ats)) e ∙ last_get (b ∷ ats) ∙ sym (or_some (last_place ats) a b)

-- the last position of a name leads to what a look-up finds
abbrev Leads : (Option SharedEntry → Option Shape) → List SharedEntry → Option Shape → Option ℕ → Type 0
Leads f list found None = found ≡ None
Leads f list found (Some n) = (s : Shape) × (found ≡ Some s) × (f (slice_get list n) ≡ Some s)

next : (f : Option SharedEntry → Option Shape) (list : List SharedEntry) (d : SharedEntry) (found : Option Shape) (o : Option ℕ)
    → Leads f list found o → Leads f (d ∷ list) found (or_else (up o) None)
next f list d found None h = h
next f list d found (Some n) h = h

here : (f : Option SharedEntry → Option Shape) (list : List SharedEntry) (d : SharedEntry) (s : Shape) (found : Option Shape) (o : Option ℕ)
    (b : Bool) → f (Some d) ≡ Some s → Leads f list found o → Leads f (d ∷ list) (or_else found (some_if b s)) (or_else (up o) (some_if b 0))
here f list d s found None true e h = (s, ap (λ z. or_else z (Some s)) h, e)
here f list d s found None false e h = ap (λ z. or_else z None) h
here f list d s found (Some n) b e h = (h.0, ap (λ z. or_else z (some_if b s)) h.1, h.2)

mod_leads : (list : List SharedEntry) (X : Name) → Leads mod_at list (last_of (mods (entries_of list)) X) (last_at (is_mod X) list)
mod_leads [] X = refl
mod_leads (e.Val x g ∷ list) X = next mod_at list (e.Val x g) _ (last_at (is_mod X) list) (mod_leads list X)
mod_leads (e.Mod x s ∷ list) X = here mod_at list (e.Mod x s) s _ (last_at (is_mod X) list) (bytes_eq x X) refl (mod_leads list X)
mod_leads (e.Mty x s ∷ list) X = next mod_at list (e.Mty x s) _ (last_at (is_mod X) list) (mod_leads list X)
mod_leads (e.Dark at ∷ list) X = next mod_at list (e.Dark at) _ (last_at (is_mod X) list) (mod_leads list X)

mty_leads : (list : List SharedEntry) (S : Name) → Leads mty_at list (last_of (mtys (entries_of list)) S) (last_at (is_mty S) list)
mty_leads [] S = refl
mty_leads (e.Val x g ∷ list) S = next mty_at list (e.Val x g) _ (last_at (is_mty S) list) (mty_leads list S)
mty_leads (e.Mod x s ∷ list) S = next mty_at list (e.Mod x s) _ (last_at (is_mty S) list) (mty_leads list S)
mty_leads (e.Mty x s ∷ list) S = here mty_at list (e.Mty x s) s _ (last_at (is_mty S) list) (bytes_eq x S) refl (mty_leads list S)
mty_leads (e.Dark at ∷ list) S = next mty_at list (e.Dark at) _ (last_at (is_mty S) list) (mty_leads list S)

led : (f : Option SharedEntry → Option Shape) (list : List SharedEntry) (found : Option Shape) (o : Option ℕ) → Leads f list found o
    → there f list o ≡ found
led f list found None h = sym h
led f list found (Some n) h = h.2 ∙ sym h.1

pub mod_there : (list : List SharedEntry) (X : Name) → there mod_at list (last_at (is_mod X) list) ≡ last_of (mods (entries_of list)) X
mod_there list X = led mod_at list _ (last_at (is_mod X) list) (mod_leads list X)

pub mty_there : (list : List SharedEntry) (S : Name) → there mty_at list (last_at (is_mty S) list) ≡ last_of (mtys (entries_of list)) S
mty_there list S = led mty_at list _ (last_at (is_mty S) list) (mty_leads list S)

-- positions of values
position_moved : (o : Option Spot) (b : Bool) (g : Goal) → position_of (or_else (moved o) (some_if b (spot g 0 0))) ≡ or_else (up (position_of o))
    (some_if b 0)
position_moved None true g = refl
position_moved None false g = refl
position_moved (Some s) b g = refl

position_passed : (o : Option Spot) → position_of (moved o) ≡ or_else (up (position_of o)) None
position_passed None = refl
position_passed (Some s) = refl

position_dark : (o : Option Spot) → position_of (one_more o) ≡ or_else (up (position_of o)) None
position_dark None = refl
position_dark (Some s) = refl

-- the entry is a value of that name
abbrev pub is_val : Name → SharedEntry → Bool
is_val x (e.Val y g) = bytes_eq y x
is_val x (e.Mod Y s) = false
is_val x (e.Mty Y s) = false
is_val x (e.Dark at) = false

pub val_at : (list : List SharedEntry) (x : Name) → position_of (last_spot (entries_of list) x) ≡ last_at (is_val x) list
val_at [] x = refl
val_at (e.Val y g ∷ list) x = position_moved (last_spot (entries_of list) x) (bytes_eq y x) g
    ∙ ap (λ o. or_else (up o) (some_if (bytes_eq y x) 0)) (val_at list x)
val_at (e.Mod y s ∷ list) x = position_passed (last_spot (entries_of list) x) ∙ ap (λ o. or_else (up o) None) (val_at list x)
val_at (e.Mty y s ∷ list) x = position_passed (last_spot (entries_of list) x) ∙ ap (λ o. or_else (up o) None) (val_at list x)
val_at (e.Dark at ∷ list) x = position_dark (last_spot (entries_of list) x) ∙ ap (λ o. or_else (up o) None) (val_at list x)

-- whether there is a value, a module or a module type of a name
abbrev Both : {V : Type 0} → Option V → Option ℕ → Type 0
Both None o = o ≡ None
Both (Some v) o = (n : ℕ) × (o ≡ Some n)

both_here : {V : Type 0} (found : Option V) (o : Option ℕ) (b : Bool) (v : V) → Both found o
    → Both (or_else found (some_if b v)) (or_else (up o) (some_if b 0))
both_here None o true v h = (0, ap (λ p. or_else (up p) (Some 0)) h)
both_here None o false v h = ap (λ p. or_else (up p) None) h
both_here (Some u) o b v h = (suc h.0, ap (λ p. or_else (up p) (some_if {V = ℕ} b 0)) h.1)

both_next : {V : Type 0} (found : Option V) (o : Option ℕ) → Both found o → Both found (or_else (up o) None)
both_next None o h = ap (λ p. or_else (up p) None) h
both_next (Some v) o h = (suc h.0, ap (λ p. or_else (up p) None) h.1)

both_vals : (list : List SharedEntry) (x : Name) → Both (last_of (vals (entries_of list)) x) (last_at (is_val x) list)
both_vals [] x = refl
both_vals (e.Val y g ∷ list) x = both_here (last_of (vals (entries_of list)) x) _ (bytes_eq y x) g (both_vals list x)
both_vals (e.Mod y s ∷ list) x = both_next (last_of (vals (entries_of list)) x) _ (both_vals list x)
both_vals (e.Mty y s ∷ list) x = both_next (last_of (vals (entries_of list)) x) _ (both_vals list x)
both_vals (e.Dark at ∷ list) x = both_next (last_of (vals (entries_of list)) x) _ (both_vals list x)

both_mods : (list : List SharedEntry) (x : Name) → Both (last_of (mods (entries_of list)) x) (last_at (is_mod x) list)
both_mods [] x = refl
both_mods (e.Val y g ∷ list) x = both_next (last_of (mods (entries_of list)) x) _ (both_mods list x)
both_mods (e.Mod y s ∷ list) x = both_here (last_of (mods (entries_of list)) x) _ (bytes_eq y x) s (both_mods list x)
both_mods (e.Mty y s ∷ list) x = both_next (last_of (mods (entries_of list)) x) _ (both_mods list x)
both_mods (e.Dark at ∷ list) x = both_next (last_of (mods (entries_of list)) x) _ (both_mods list x)

both_mtys : (list : List SharedEntry) (x : Name) → Both (last_of (mtys (entries_of list)) x) (last_at (is_mty x) list)
both_mtys [] x = refl
both_mtys (e.Val y g ∷ list) x = both_next (last_of (mtys (entries_of list)) x) _ (both_mtys list x)
both_mtys (e.Mod y s ∷ list) x = both_next (last_of (mtys (entries_of list)) x) _ (both_mtys list x)
both_mtys (e.Mty y s ∷ list) x = both_here (last_of (mtys (entries_of list)) x) _ (bytes_eq y x) s (both_mtys list x)
both_mtys (e.Dark at ∷ list) x = both_next (last_of (mtys (entries_of list)) x) _ (both_mtys list x)

not_first : (n : ℕ) → nat_eq (suc n) 0 ≡ false
not_first n = grind arith

both_moved : (m n : ℕ) → nat_eq (suc m) (suc n) ≡ nat_eq m n
both_moved m n = grind arith

-- the last of its name is the entry that none of its name follows
last_is : {V : Type 0} (found : Option V) (o : Option ℕ) → Both found o → position_is 0 (or_else (up o) (Some 0)) ≡ unless_some found true false
last_is None o h = ap (λ p. position_is 0 (or_else (up p) (Some 0))) h
last_is (Some v) o h = ap (λ p. position_is 0 (or_else (up p) (Some 0))) h.1 ∙ not_first h.0

last_later : (o p : Option ℕ) (n : ℕ) → (o ≡ None → ⊥) → position_is (suc n) (or_else (up o) p) ≡ position_is n o
last_later None p n h = absurd (h refl)
last_later (Some m) p n h = both_moved m n

there_is : (test : SharedEntry → Bool) (list : List SharedEntry) (n : ℕ) (d : SharedEntry) → slice_get list n ≡ Some d → test d ≡ true
    → last_at test list ≡ None → ⊥
there_is test [] n d h k e = absurd cc
there_is test (c ∷ list) zero d h k e =
    let same : c ≡ d = cc in
    let t : or_else (up (last_at test list)) (some_if {V = ℕ} true 0) ≡ None = ap (λ b. or_else (up (last_at test list)) (some_if {V = ℕ} b 0))
    (sym (ap test same ∙ k)) ∙ e in
    some_not_none (up (last_at test list)) t
  where
    some_not_none : (o : Option ℕ) → or_else o (Some 0) ≡ None → ⊥
    some_not_none None q = absurd cc
    some_not_none (Some m) q = absurd cc
there_is test (c ∷ list) (suc n) d h k e = there_is test list n d h k (first_none (last_at test list) (some_if (test c) 0) e)
  where
    first_none : (o p : Option ℕ) → or_else (up o) p ≡ None → o ≡ None
    first_none None p q = refl
    first_none (Some m) p q = absurd cc

pub shown_at : {V : Type 0} (test : SharedEntry → Bool) (found : List SharedEntry → Option V)
    (both : (list : List SharedEntry) → Both (found list) (last_at test list))
    (list : List SharedEntry) (n : ℕ) (d : SharedEntry) → slice_get list n ≡ Some d → test d ≡ true
    → position_is n (last_at test list) ≡ unless_some (found (drop (suc n) list)) true false
shown_at test found both [] n d h k = absurd cc
shown_at test found both (c ∷ list) zero d h k =
    let same : c ≡ d = cc in
    ap (λ b. position_is 0 (or_else (up (last_at test list)) (some_if {V = ℕ} b 0))) (ap test same ∙ k)
    ∙ last_is (found list) (last_at test list) (both list)
shown_at test found both (c ∷ list) (suc n) d h k =
    last_later (last_at test list) (some_if (test c) 0) n (there_is test list n d h k) ∙ shown_at test found both list n d h k

pub shown_val : (list : List SharedEntry) (n : ℕ) (x : Name) (g : Goal) → slice_get list n ≡ Some (e.Val x g)
    → position_is n (last_at (is_val x) list) ≡ unless_some (last_of (vals (entries_of (drop (suc n) list))) x) true false
shown_val list n x g h = shown_at (is_val x) (λ l. last_of (vals (entries_of l)) x) (λ l. both_vals l x) list n (e.Val x g) h
    ((bytes_eq-Decides x x).1 refl)

pub shown_mod : (list : List SharedEntry) (n : ℕ) (x : Name) (s : Shape) → slice_get list n ≡ Some (e.Mod x s)
    → position_is n (last_at (is_mod x) list) ≡ unless_some (last_of (mods (entries_of (drop (suc n) list))) x) true false
shown_mod list n x s h = shown_at (is_mod x) (λ l. last_of (mods (entries_of l)) x) (λ l. both_mods l x) list n (e.Mod x s) h
    ((bytes_eq-Decides x x).1 refl)

pub shown_mty : (list : List SharedEntry) (n : ℕ) (x : Name) (s : Shape) → slice_get list n ≡ Some (e.Mty x s)
    → position_is n (last_at (is_mty x) list) ≡ unless_some (last_of (mtys (entries_of (drop (suc n) list))) x) true false
shown_mty list n x s h = shown_at (is_mty x) (λ l. last_of (mtys (entries_of l)) x) (λ l. both_mtys l x) list n (e.Mty x s) h
    ((bytes_eq-Decides x x).1 refl)

-- the entries from a position on
pub from_drop : (n : ℕ) (list : List SharedEntry) → entries_from n (entries_of list) ≡ entries_of (drop n list)
from_drop zero list = refl
from_drop (suc n) [] = refl
from_drop (suc n) (e.Val x g ∷ list) = from_drop n list
from_drop (suc n) (e.Mod x s ∷ list) = from_drop n list
from_drop (suc n) (e.Mty x s ∷ list) = from_drop n list
from_drop (suc n) (e.Dark at ∷ list) = from_drop n list

-- an entry at a position, before those after it
pub entries_at : (n : ℕ) (list : List SharedEntry) (d : SharedEntry) → slice_get list n ≡ Some d
    → entries_of (drop n list) ≡ and_then d (entries_of (drop (suc n) list))
entries_at n [] d h = absurd cc
entries_at zero (c ∷ list) d h = let same : c ≡ d = cc in ap (λ z. and_then z (entries_of list)) same
entries_at (suc n) (c ∷ list) d h = entries_at n list d h

pub shown_is : (n : ℕ) (list : List SharedEntry) (d : SharedEntry) → slice_get list n ≡ Some d
    → is_shown (entries_from n (entries_of list)) ≡ is_shown (and_then d (entries_of (drop (suc n) list)))
shown_is n list d h = ap is_shown (from_drop n list ∙ entries_at n list d h)

past_end : (n : ℕ) (list : List SharedEntry) → slice_get list n ≡ None → entries_of (drop n list) ≡ none
past_end zero [] h = refl
past_end (suc n) [] h = refl
past_end zero (c ∷ list) h = absurd cc
past_end (suc n) (c ∷ list) h = past_end n list h

pub none_shown : (n : ℕ) (list : List SharedEntry) → slice_get list n ≡ None → is_shown (entries_from n (entries_of list)) ≡ false
none_shown n list h = ap is_shown (from_drop n list ∙ past_end n list h)
