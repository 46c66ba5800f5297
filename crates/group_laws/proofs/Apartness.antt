-- The values of a group have names of their own if no place repeats one: its places are some of a file's, in order.
use Rattle.std.proofs.Common.{◌≡◌, ◌≢◌, ℕ, zero, suc, ◌⊎◌, inl, inr, Bool, true, false, refl, sym, ap, ◌∙◌, subst, arith, List, [], ◌∷◌, ◌++◌}
use Rattle.std.proofs.Common.{map, Contains, Option, Some, None, bytes_eq}
use Rattle.std.proofs.lemmas.Slice.Eq.{bytes_eq-Decides}
use Rattle.rotor_base.specs.declared.place.Place.{Place}
use Rattle.rotor_base.specs.declared.place.Goal.{Goal}
use Rattle.rotor_base.specs.declared.place.Goal.TheVariants.{Decl, Missing}
use Rattle.rotor_base.specs.declared.place.Link.{Link}
use Rattle.rotor_base.specs.Place.{same_place, IsBefore}
use Rattle.value_sites.specs.Places.{Site, sites}
use Rattle.ml_trees.specs.Tree.{FileTree, Body, Face, UnitTree}
use Rattle.shape_core.specs.Shape.{Name, Entries, none, vals, last_of, or_else, some_if}
use Rattle.value_sites.specs.Each.{Each}
use Rattle.binding_model.specs.Scopes.{here, bound, after_unit}
use Rattle.binding_model.specs.Steps.{groups_of}
use Rattle.binding_model.specs.Walk.{file_steps, maybe_file_steps, unit_links, units_steps, steps}
use Rattle.binding_model.specs.Facts.{facts, decls, is_before, unmatched_items, item_without, decl_list, least, earlier, AreNamedApart}
use Rattle.binding_model.specs.Renaming.{placed_sites, file_places, places, at_place, site_name, name_of}
use Rattle.binding_model.proofs.Sounds.{each_map, each_joined, found_all, same_self, Other, Apart}
use Rattle.binding_model.proofs.Telltale.{apart_of, each_contained}
use Rattle.binding_model.proofs.Uses.{Sub, Fits, items_uses, sig_items_uses}
use Rattle.capture_check.specs.Fault.{Repeats}
use Rattle.capture_check.proofs.Before.{tested, untested}
use Rattle.capture_check.proofs.Equal.{items_decl}
use Rattle.group_laws.specs.Laws.{NoRepeatIsApart, UnrefusedIsGood}
use Rattle.group_laws.proofs.Firsts.{no_least_is_none}
use Rattle.value_sites.proofs.Placed.{body_placed, face_placed}

-- ---- parts of lists

sub_each : (P : Site → Type 0) (xs ys : List Site) → Sub xs ys → Each P ys → Each P xs
sub_each P [] ys h k = tt
sub_each P (x ∷ xs) [] h k = absurd h
sub_each P (x ∷ xs) (y ∷ ys) (inl h) k = (subst P (sym h.0) k.0, sub_each P xs ys h.1 k.1)
sub_each P (x ∷ xs) (y ∷ ys) (inr h) k = sub_each P (x ∷ xs) ys h k.1

each_front : {A : Type 0} (P : A → Type 0) (xs ys : List A) → Each P (xs ++ ys) → Each P xs
each_front P [] ys h = tt
each_front P (x ∷ xs) ys h = (h.0, each_front P xs ys h.1)

each_back : {A : Type 0} (P : A → Type 0) (xs ys : List A) → Each P (xs ++ ys) → Each P ys
each_back P [] ys h = h
each_back P (x ∷ xs) ys h = each_back P xs ys h.1

apart_front : (xs ys : List (Place × Site)) → Apart (xs ++ ys) → Apart xs
apart_front [] ys h = tt
apart_front (x ∷ xs) ys h = (each_front (Other x.0) xs ys h.0, apart_front xs ys h.1)

apart_back : (xs ys : List (Place × Site)) → Apart (xs ++ ys) → Apart ys
apart_back [] ys h = h
apart_back (x ∷ xs) ys h = apart_back xs ys h.1

-- ---- the places of a group are apart, and have their sites

module _ (f : ℕ) where
  abbrev Spread : List Site → Type 0
  Spread [] = Unit {0}
  Spread (x ∷ xs) = Each (λ y. same_place (here f x.at) (here f y.at) ≡ false) xs × Spread xs

  others : (p : Place) (ys : List Site) → Each (Other p) (placed_sites f ys) → Each (λ y. same_place p (here f y.at) ≡ false) ys
  others p [] h = tt
  others p (y ∷ ys) h = (h.0, others p ys h.1)

  spread : (xs ys : List Site) → Sub xs ys → Apart (placed_sites f ys) → Spread xs
  spread [] ys h a = tt
  spread (x ∷ xs) [] h a = absurd h
  spread (x ∷ xs) (y ∷ ys) (inl h) a =
      let far = subst (λ (z : Site). Each (λ w. same_place (here f z.at) (here f w.at) ≡ false) ys) (sym h.0) (others (here f y.at) ys a.0) in
      (sub_each (λ w. same_place (here f x.at) (here f w.at) ≡ false) xs ys h.1 far, spread xs ys h.1 a.1)
  spread (x ∷ xs) (y ∷ ys) (inr h) a = spread (x ∷ xs) ys h a.1

module _ (us : List UnitTree) where
  abbrev Own : Place × Site → Type 0
  Own e = at_place (places us) e.0 ≡ Some e.1

  abbrev OwnAt : ℕ → Site → Type 0
  OwnAt f x = at_place (places us) (here f x.at) ≡ Some x

  owned : (f : ℕ) (ys : List Site) → Each Own (placed_sites f ys) → Each (OwnAt f) ys
  owned f [] h = tt
  owned f (y ∷ ys) h = (h.0, owned f ys h.1)

  -- a group is made of sites of one file, each at a place of its own
  record IsMade (es : Entries) : Type 0 where
    file : ℕ
    list : List Site
    is : es ≡ bound file list
    apart : Spread file list
    own : Each (OwnAt file) list

  made : (f : ℕ) (added ys : List Site) (gs : List Entries) → ys ≡ added → Apart (placed_sites f ys) → Each Own (placed_sites f ys)
      → Each (Fits f added) gs → Each IsMade gs
  made f added ys gs e a k h = each_map (Fits f added) IsMade gs (λ es x.
      let part : Sub x.0 ys = subst (Sub x.0) (sym e) x.2 in
      record { file = f; list = x.0; is = x.1; apart = spread f x.0 ys part a; own = sub_each (OwnAt f) x.0 ys part (owned f ys k) }) h

  file_made : (t : FileTree) (sc : Entries) → Apart (file_places (Some t)) → Each Own (file_places (Some t))
      → Each IsMade (groups_of (file_steps sc t))
  file_made (Body f is) sc a k = let h = items_uses f is sc [] in
      made f h.added (sites (Body f is)) (groups_of (file_steps sc (Body f is))) (body_placed f is ∙ h.is) a k h.groups
  file_made (Face f is) sc a k = let h = sig_items_uses f is sc [] in
      made f h.added (sites (Face f is)) (groups_of (file_steps sc (Face f is))) (face_placed f is ∙ h.is) a k h.groups

  part_made : (o : Option FileTree) (sc : Entries) → Apart (file_places o) → Each Own (file_places o)
      → Each IsMade (groups_of (maybe_file_steps sc o))
  part_made None sc a k = tt
  part_made (Some t) sc a k = file_made t sc a k

  links_made : (sc : Entries) (b c : Option FileTree) → Each IsMade (groups_of (unit_links sc b c))
  links_made sc None None = tt
  links_made sc (Some body) None = tt
  links_made sc None (Some face) = tt
  links_made sc (Some body) (Some face) = tt

  units_made : (vs : List UnitTree) (sc : Entries) → Apart (places vs) → Each Own (places vs) → Each IsMade (groups_of (units_steps sc vs))
  units_made [] sc a k = tt
  units_made (u ∷ vs) sc a k =
      let B = file_places u.body in
      let F = file_places u.face in
      let L = places vs in
      let b = groups_of (maybe_file_steps sc u.body) in
      let c = groups_of (maybe_file_steps sc u.face) in
      let l = groups_of (unit_links sc u.body u.face) in
      let rest = apart_back B (F ++ L) a in
      let more = each_back Own B (F ++ L) k in
      let one = part_made u.body sc (apart_front B (F ++ L) a) (each_front Own B (F ++ L) k) in
      let two = part_made u.face sc (apart_front F L rest) (each_front Own F L more) in
      each_joined IsMade (b ++ (c ++ (l ++ []))) (groups_of (units_steps (after_unit sc u) vs))
      (each_joined IsMade b (c ++ (l ++ [])) one (each_joined IsMade c (l ++ []) two (each_joined IsMade l [] (links_made sc u.body u.face) tt)))
      (units_made vs (after_unit sc u) (apart_back F L rest) (each_back Own F L more))

  -- ---- names that are not repeated are apart

  abbrev In : Site → List Site → Type 0
  In x [] = ⊥
  In x (y ∷ ys) = (y ≡ x) ⊎ In x ys

  in_decls : (f : ℕ) (ys : List Site) (x : Site) → In x ys → Contains (decls (bound f ys)) (here f x.at)
  in_decls f [] x h = absurd h
  in_decls f (y ∷ ys) x (inl e) = (0, omega arith, ap (λ (z : Site). here f z.at) e)
  in_decls f (y ∷ ys) x (inr h) = let c = in_decls f ys x h in (suc c.0, omega (arith, c.1), c.2)

  -- a value of a name is made of a site of that name
  last_in : (f : ℕ) (ys : List Site) (n : Name) (g : Goal) → last_of (vals (bound f ys)) n ≡ Some g → (y : Site) × In y ys × (y.name ≡ n)
  last_in f [] n g e = absurd cc
  last_in f (y ∷ ys) n g e = by (last_of (vals (bound f ys)) n) refl (λ (k : Goal) i. last_in f ys n k i) e where
    here_is : (b : Bool) → bytes_eq y.name n ≡ b → some_if b (Decl (here f y.at)) ≡ Some g → (z : Site) × In z (y ∷ ys) × (z.name ≡ n)
    here_is true i j = (y, inl refl, (bytes_eq-Decides y.name n).0 i)
    here_is false i j = absurd cc

    by : (o : Option Goal) → last_of (vals (bound f ys)) n ≡ o
        → ((k : Goal) → last_of (vals (bound f ys)) n ≡ Some k → (z : Site) × In z ys × (z.name ≡ n))
        → or_else o (some_if (bytes_eq y.name n) (Decl (here f y.at))) ≡ Some g → (z : Site) × In z (y ∷ ys) × (z.name ≡ n)
    by (Some k) i rest j = let r = rest k i in (r.0, inr r.1, r.2)
    by None i rest j = here_is (bytes_eq y.name n) refl j

  at_in : (P : Site → Type 0) (ys : List Site) (x : Site) → Each P ys → In x ys → P x
  at_in P [] x h i = absurd i
  at_in P (y ∷ ys) x h (inl e) = subst P e h.0
  at_in P (y ∷ ys) x h (inr i) = at_in P ys x h.1 i

  module _ (no : (first again : Place) → Repeats (name_of us) (facts us).groups first again → ⊥) (f : ℕ) (all : List Site)
      (among : Contains (facts us).groups (decls (bound f all))) where
    two : (x y : Site) → In x all → In y all → OwnAt f x → OwnAt f y → x.name ≡ y.name → same_place (here f x.at) (here f y.at) ≡ false → ⊥
    two x y i j a b e far =
        let names : name_of us (here f x.at) ≡ name_of us (here f y.at) = ap site_name a ∙ (e ∙ sym (ap site_name b)) in
        by (is_before (here f x.at) (here f y.at)) refl names where
          after : (here f y.at ≡ here f x.at) ⊎ IsBefore (here f y.at) (here f x.at) → name_of us (here f x.at) ≡ name_of us (here f y.at) → ⊥
          after (inl s) names = absurd (let z : true ≡ false = sym (same_self (here f x.at)) ∙ (ap (same_place (here f x.at)) (sym s) ∙ far) in cc)
          after (inr s) names = no (here f y.at) (here f x.at)
              (record {
                group = decls (bound f all);
                among = among;
                here = in_decls f all y j;
                there = in_decls f all x i;
                order = s;
                same = sym names;
              })

          by : (c : Bool) → is_before (here f x.at) (here f y.at) ≡ c → name_of us (here f x.at) ≡ name_of us (here f y.at) → ⊥
          by true g names = no (here f x.at) (here f y.at)
              (record {
                group = decls (bound f all);
                among = among;
                here = in_decls f all x i;
                there = in_decls f all y j;
                order = tested (here f x.at) (here f y.at) g;
                same = names;
              })
          by false g names = after (untested (here f x.at) (here f y.at) g) names

    names_apart : (xs : List Site) → ((x : Site) → In x xs → In x all) → Spread f xs → Each (OwnAt f) xs → AreNamedApart (vals (bound f xs))
    names_apart [] up s k = tt
    names_apart (x ∷ xs) up s k = (none_of (last_of (vals (bound f xs)) x.name) refl, names_apart xs (λ y i. up y (inr i)) s.1 k.1) where
      none_of : (o : Option Goal) → last_of (vals (bound f xs)) x.name ≡ o → o ≡ None
      none_of None e = refl
      none_of (Some g) e =
          let y = last_in f xs x.name g e in
          absurd (two x y.0 (up x (inl refl)) (up y.0 (inr y.1)) k.0 (at_in (OwnAt f) xs y.0 k.1 y.1) (sym y.2)
          (at_in (λ z. same_place (here f x.at) (here f z.at) ≡ false) xs y.0 s.0 y.1))

contains_map : (gs : List Entries) (es : Entries) → Contains gs es → Contains (map decls gs) (decls es)
contains_map [] es c = absurd (omega (arith, c.1))
contains_map (g ∷ gs) es (zero, l, e) = (0, omega arith, ap decls e)
contains_map (g ∷ gs) es (suc k, l, e) = let c = contains_map gs es (k, omega (arith, l), e) in (suc c.0, omega (arith, c.1), c.2)

each_in : {A : Type 0} (P : A → Type 0) (xs : List A) (x : A) → Each P xs → Contains xs x → P x
each_in P [] x h c = absurd (omega (arith, c.1))
each_in P (y ∷ xs) x h (zero, l, e) = subst P e h.0
each_in P (y ∷ xs) x h (suc k, l, e) = each_in P xs x h.1 (k, omega (arith, l), e)

pub no_repeat_is_apart : NoRepeatIsApart
no_repeat_is_apart us s h =
    let no = no_least_is_none (name_of us) (facts us).groups h in
    let all = units_made us us none (apart_of us s) (found_all (places us) (apart_of us s)) in
    each_contained (λ es. AreNamedApart (vals es)) (groups_of (steps us)) (λ es c.
    let m = each_in (IsMade us) (groups_of (steps us)) es all c in
    let among : Contains (facts us).groups (decls (bound m.file m.list)) = subst (λ (x : Entries). Contains (facts us).groups (decls x)) m.is
    (contains_map (groups_of (steps us)) es c) in
    subst (λ (x : Entries). AreNamedApart (vals x)) (sym m.is) (names_apart us no m.file m.list among m.list (λ x i. i) m.apart m.own))

-- ---- no Unmatched, so no link lacks its source

least_none : (ps : List Place) → least ps ≡ None → ps ≡ []
least_none [] e = refl
least_none (p ∷ ps) e = by (least ps) e where
  by : (o : Option Place) → earlier o p ≡ None → p ∷ ps ≡ []
  by None e = absurd cc
  by (Some q) e = absurd cc

matched : (ls : List Link) → Each (λ l. (a : Place) × (l.item ≡ Decl a)) ls → unmatched_items ls ≡ [] → Each (λ l. l.source ≢ Missing) ls
matched [] d e = tt
matched (l ∷ ls) d e = (
  λ m. absurd
      (let one : d.0.0 ∷ unmatched_items ls ≡ [] = sym
      (ap (λ (s : Goal). item_without s l.item ++ unmatched_items ls) m ∙ ap (λ (i : Goal). decl_list i ++ unmatched_items ls) d.0.1) ∙ e in cc),
  matched ls d.1 (rest (item_without l.source l.item) (unmatched_items ls) e),
) where
  rest : (xs ys : List Place) → xs ++ ys ≡ [] → ys ≡ []
  rest [] ys h = h
  rest (x ∷ xs) ys h = absurd cc

pub unrefused_is_good : UnrefusedIsGood
unrefused_is_good us s h u = record {
  apart = no_repeat_is_apart us s h;
  matched = matched (facts us).links (items_decl us s) (least_none (unmatched_items (facts us).links) u);
}
