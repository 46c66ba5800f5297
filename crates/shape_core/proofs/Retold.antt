-- A function applied to the results of a trace. The items and the work of a match depend on no name of a value.
use Rattle.std.proofs.Common.{◌≡◌, ℕ, zero, suc, ◌+◌, List, [], ◌∷◌, ◌++◌, map, length, Option, Some, None, refl, sym, ap, ◌∙◌}
use Rattle.rotor_base.specs.declared.place.Goal.{Goal}
use Rattle.rotor_base.specs.declared.place.Link.{Link}
use Rattle.shape_core.specs.Shape.{Name, Shape, Struct, Functor, Unitary, Opaque, Entries, none, a_val, a_mod, a_mty, a_dark, find_mod, find_mty}
use Rattle.shape_core.specs.Shape.{unless_some, depth}
use Rattle.shape_core.specs.Links.{Trace, ◌&◌, nothing, a_step, one, or_empty, pin, pin_entries, pin_vals, match_entries, match_step, match_to}
use Rattle.shape_core.specs.Links.{matched, link, links, pinned}
use Rattle.shape_core.specs.Respell.{Words, spell_shape}
use Rattle.shape_core.proofs.Spelled.{retold, matched-spell, pin-spell}

-- a trace with a function applied to each of its results
abbrev pub mapped : {A B : Type 0} → (A → B) → Trace A → Trace B
mapped f t = record { told = map f t.told; work = t.work }

map-append : {A B : Type 0} (f : A → B) (xs ys : List A) → map f (xs ++ ys) ≡ map f xs ++ map f ys
map-append f [] ys = refl
map-append f (x ∷ xs) ys = ap (λ l. f x ∷ l) (map-append f xs ys)

pub mapped-then : {A B : Type 0} (f : A → B) (a b : Trace A) → mapped f (a & b) ≡ mapped f a & mapped f b
unfolding ◌&◌
mapped-then f a b = ap (λ l. record { told = l; work = a.work + b.work }) (map-append f a.told b.told)

module _ {A B : Type 0} (f : A → B) (keep : Name → Goal → Entries → Option Entries → A) where
  abbrev pub after : Name → Goal → Entries → Option Entries → B
  after x g rest src = f (keep x g rest src)

  two : (a b : Trace A) (a' b' : Trace B) → mapped f a ≡ a' → mapped f b ≡ b' → mapped f (a & b) ≡ a' & b'
  two a b a' b' h k = mapped-then f a b ∙ ap (λ l. l & mapped f b) h ∙ ap (λ l. a' & l) k

  three : (a b c : Trace A) (a' b' c' : Trace B) → mapped f a ≡ a' → mapped f b ≡ b' → mapped f c ≡ c' → mapped f (a & b & c) ≡ a' & b' & c'
  three a b c a' b' c' h k l = two (a & b) c (a' & b') c' (two a b a' b' h k) l

  shown : {U : Type 0} (o : Option U) (a : Trace A) (a' : Trace B) → mapped f a ≡ a' → mapped f (unless_some o a nothing) ≡ unless_some o a' nothing
  shown None a a' h = h
  shown (Some u) a a' h = refl

  mutual
    pub pin-mapped : (s : Shape) → mapped f (pin keep s) ≡ pin after s
    pin-mapped (Struct es) = two a_step _ a_step _ refl (pin_entries-mapped es)
    pin-mapped (Functor p r) = three a_step _ _ a_step _ _ refl (pin-mapped p) (pin-mapped r)
    pin-mapped (Unitary r) = two a_step _ a_step _ refl (pin-mapped r)
    pin-mapped Opaque = refl

    pin_entries-mapped : (es : Entries) → mapped f (pin_entries keep es) ≡ pin_entries after es
    pin_entries-mapped none = refl
    pin_entries-mapped (a_val x g es) = two (one (keep x g es None)) _ (one (after x g es None)) _ refl (pin_entries-mapped es)
    pin_entries-mapped (a_mod X s es) = three a_step _ _ a_step _ _ refl (shown (find_mod es X) _ _ (pin-mapped s)) (pin_entries-mapped es)
    pin_entries-mapped (a_mty S s es) = three a_step _ _ a_step _ _ refl (shown (find_mty es S) _ _ (pin-mapped s)) (pin_entries-mapped es)
    pin_entries-mapped (a_dark at es) = two a_step _ a_step _ refl (pin_entries-mapped es)

  pin_vals-mapped : (es : Entries) → mapped f (pin_vals keep es) ≡ pin_vals after es
  pin_vals-mapped none = refl
  pin_vals-mapped (a_val x g es) = two (one (keep x g es None)) _ (one (after x g es None)) _ refl (pin_vals-mapped es)
  pin_vals-mapped (a_mod X s es) = pin_vals-mapped es
  pin_vals-mapped (a_mty S s es) = pin_vals-mapped es
  pin_vals-mapped (a_dark at es) = pin_vals-mapped es

  entries-mapped : (go : Shape → Shape → Trace A) (go' : Shape → Shape → Trace B) → ((s t : Shape) → mapped f (go s t) ≡ go' s t) → (src ts : Entries)
      → mapped f (match_entries keep go src ts) ≡ match_entries after go' src ts
  entries-mapped go go' h src none = refl
  entries-mapped go go' h src (a_val x g ts) = two (one (keep x g ts (Some src))) _ (one (after x g ts (Some src))) _ refl
      (entries-mapped go go' h src ts)
  entries-mapped go go' h src (a_mod X t ts) = three a_step _ _ a_step _ _ refl (shown (find_mod ts X) _ _ (h (or_empty (find_mod src X)) t))
      (entries-mapped go go' h src ts)
  entries-mapped go go' h src (a_mty S t ts) =
      let s = or_empty (find_mty src S) in
      three a_step _ _ a_step _ _ refl (shown (find_mty ts S) _ _ (two (go s t) (go t s) _ _ (h s t) (h t s))) (entries-mapped go go' h src ts)
  entries-mapped go go' h src (a_dark at ts) = three a_step _ _ a_step _ _ refl (pin_vals-mapped src) (entries-mapped go go' h src ts)

  level-mapped : (go : Shape → Shape → Trace A) (go' : Shape → Shape → Trace B) → ((s t : Shape) → mapped f (go s t) ≡ go' s t) → (s t : Shape)
      → mapped f (match_step keep go s t) ≡ match_step after go' s t
  level-mapped go go' h (Struct es) (Struct ts) = two a_step _ a_step _ refl (entries-mapped go go' h es ts)
  level-mapped go go' h (Struct es) (Functor q t) = three a_step _ _ a_step _ _ refl (pin-mapped (Functor q t)) (pin-mapped (Struct es))
  level-mapped go go' h (Struct es) (Unitary t) = three a_step _ _ a_step _ _ refl (pin-mapped (Unitary t)) (pin-mapped (Struct es))
  level-mapped go go' h (Struct es) Opaque = three a_step _ _ a_step _ _ refl (pin-mapped Opaque) (pin-mapped (Struct es))
  level-mapped go go' h (Functor p r) (Struct ts) = three a_step _ _ a_step _ _ refl (pin-mapped (Struct ts)) (pin-mapped (Functor p r))
  level-mapped go go' h (Functor p r) (Functor q t) = three a_step _ _ a_step _ _ refl (h q p) (h r t)
  level-mapped go go' h (Functor p r) (Unitary t) = three a_step _ _ a_step _ _ refl (pin-mapped (Unitary t)) (pin-mapped (Functor p r))
  level-mapped go go' h (Functor p r) Opaque = three a_step _ _ a_step _ _ refl (pin-mapped Opaque) (pin-mapped (Functor p r))
  level-mapped go go' h (Unitary r) (Struct ts) = three a_step _ _ a_step _ _ refl (pin-mapped (Struct ts)) (pin-mapped (Unitary r))
  level-mapped go go' h (Unitary r) (Functor q t) = three a_step _ _ a_step _ _ refl (pin-mapped (Functor q t)) (pin-mapped (Unitary r))
  level-mapped go go' h (Unitary r) (Unitary t) = two a_step _ a_step _ refl (h r t)
  level-mapped go go' h (Unitary r) Opaque = three a_step _ _ a_step _ _ refl (pin-mapped Opaque) (pin-mapped (Unitary r))
  level-mapped go go' h Opaque (Struct ts) = three a_step _ _ a_step _ _ refl (pin-mapped (Struct ts)) (pin-mapped Opaque)
  level-mapped go go' h Opaque (Functor q t) = three a_step _ _ a_step _ _ refl (pin-mapped (Functor q t)) (pin-mapped Opaque)
  level-mapped go go' h Opaque (Unitary t) = three a_step _ _ a_step _ _ refl (pin-mapped (Unitary t)) (pin-mapped Opaque)
  level-mapped go go' h Opaque Opaque = refl

  levels-mapped : (n : ℕ) (s t : Shape) → mapped f (match_to keep n s t) ≡ match_to after n s t
  levels-mapped zero s t = refl
  levels-mapped (suc n) s t = level-mapped (match_to keep n) (match_to after n) (levels-mapped n) s t

  pub matched-mapped : (s t : Shape) → mapped f (matched keep s t) ≡ matched after s t
  unfolding matched
  matched-mapped s t = levels-mapped (suc (depth s + depth t)) s t

-- the items of links
abbrev pub item_of : Link → Goal
item_of l = l.item

-- a respelled match and a respelled pinning have the same items and the same work
pub links-items : (w : Words) (s t : Shape) → mapped item_of (links (spell_shape w s) (spell_shape w t)) ≡ mapped item_of (links s t)
links-items w s t =
    ap (mapped item_of) (matched-spell w link s t)
    ∙ matched-mapped item_of (retold w link) s t
    ∙ sym (matched-mapped item_of link s t)

pub pinned-items : (w : Words) (s : Shape) → mapped item_of (pinned (spell_shape w s)) ≡ mapped item_of (pinned s)
pinned-items w s = ap (mapped item_of) (pin-spell w link s) ∙ pin-mapped item_of (retold w link) s ∙ sym (pin-mapped item_of link s)

pub links-work : (w : Words) (s t : Shape) → (links (spell_shape w s) (spell_shape w t)).work ≡ (links s t).work
links-work w s t = ap (λ t. t.work) (links-items w s t)

pub pinned-work : (w : Words) (s : Shape) → (pinned (spell_shape w s)).work ≡ (pinned s).work
pinned-work w s = ap (λ t. t.work) (pinned-items w s)

-- the number of results of a match does not depend on `keep`
abbrev nothing_of : {A : Type 0} → A → ℕ
nothing_of a = 0

length-map : {A B : Type 0} (f : A → B) (xs : List A) → length (map f xs) ≡ length xs
length-map f [] = refl
length-map f (x ∷ xs) = ap suc (length-map f xs)

pub told-number : {A B : Type 0} (keep : Name → Goal → Entries → Option Entries → A) (other : Name → Goal → Entries → Option Entries → B)
    (s t : Shape) → length (matched keep s t).told ≡ length (matched other s t).told
told-number keep other s t =
    sym (length-map nothing_of (matched keep s t).told)
    ∙ ap (λ z. length z.told) (matched-mapped nothing_of keep s t ∙ sym (matched-mapped nothing_of other s t))
    ∙ length-map nothing_of (matched other s t).told
