-- What is reached from a declaration along links, one link after another.
use Rattle.std.proofs.Common.{◌≡◌, ◌⊎◌, inl, inr, ℕ, zero, suc, ◌<◌, List, [], ◌∷◌, ◌++◌, length, get_or, Contains, refl, sym, ap, subst, ◌∙◌, arith}
use Rattle.rotor_base.specs.declared.place.Place.{Place}
use Rattle.rotor_base.specs.declared.place.Goal.{Goal}
use Rattle.rotor_base.specs.declared.place.Goal.TheVariants.{Decl, Outside, Missing, Hidden, Blur}
use Rattle.rotor_base.specs.declared.place.Link.{Link}
use Rattle.dependency_kernel.specs.Foot.{link_of, Joined, Path, here, along}
use Rattle.facts_laws.proofs.Members.{In, in_left, in_right, in_parts, in_or_not}

-- ---- links, and one more

more_links : (l : Link) (links : List Link) (k : Link) → Contains links k → Contains (l ∷ links) k
more_links l links k c = (suc c.0, omega (arith, c.1), c.2)

pub link_case : (l : Link) (links : List Link) (k : Link) → Contains (l ∷ links) k → (l ≡ k) ⊎ Contains links k
link_case l links k c = by c.0 c.1 c.2 where
  by : (n : ℕ) → n < suc (length links) → get_or (l ∷ links) n k ≡ k → (l ≡ k) ⊎ Contains links k
  by zero h e = inl e
  by (suc n) h e = inr (n, omega (arith, h), e)

more_joined : (l : Link) (links : List Link) (a b : Place) → Joined links a b → Joined (l ∷ links) a b
more_joined l links a b (inl c) = inl (more_links l links (link_of a b) c)
more_joined l links a b (inr c) = inr (more_links l links (link_of b a) c)

longer_path : (l : Link) (links : List Link) (d p : Place) → Path links d p → Path (l ∷ links) d p
longer_path l links d p here = here
longer_path l links d p (along a b path j) = along a b (longer_path l links d a path) (more_joined l links a b j)

two_paths : (links : List Link) (d e p : Place) → Path links d e → Path links e p → Path links d p
two_paths links d e p first here = first
two_paths links d e p first (along a b path j) = along a b (two_paths links d e a first path) j

-- ---- a list of all that is reached

-- the list has the declaration and all that links join with its members, and all of it is reached
pub record IsReach (links : List Link) (d : Place) (ps : List Place) : Type 0 where
  pub own : In d ps
  pub closed : (a b : Place) → In a ps → Joined links a b → In b ps
  pub reached : (p : Place) → In p ps → Path links d p

-- a link that joins no two declarations adds nothing
no_more : (l : Link) (links : List Link) (d : Place) (ps : List Place) → ((a b : Place) → l ≡ link_of a b → ⊥) → IsReach links d ps
    → IsReach (l ∷ links) d ps
no_more l links d ps none r = record {
  own = r.own;
  closed = λ a b h j. elim j [
    | inl c ↦ elim (link_case l links (link_of a b) c) [ inl e ↦ absurd (none a b e) | inr k ↦ r.closed a b h (inl k) ]
    | inr c ↦ elim (link_case l links (link_of b a) c) [ inl e ↦ absurd (none b a e) | inr k ↦ r.closed a b h (inr k) ]
  ];
  reached = λ p h. longer_path l links d p (r.reached p h);
}

pub decl_one : (x y : Place) → ◌≡◌ {A = Goal} (Decl x) (Decl y) → x ≡ y
decl_one x y e = cc

-- the ends of a link
ends : (x y a b : Place) → link_of x y ≡ link_of a b → (x ≡ a) × (y ≡ b)
ends x y a b e = (decl_one x a (ap (λ (l : Link). l.item) e), decl_one y b (ap (λ (l : Link). l.source) e))

module _ (links : List Link) (x y : Place) where
  abbrev L : List Link
  L = link_of x y ∷ links

  here_link : Contains L (link_of x y)
  here_link = (0, omega arith, refl)

  -- neither end is reached
  apart : (d : Place) (ps : List Place) → (In x ps → ⊥) → (In y ps → ⊥) → IsReach links d ps → IsReach L d ps
  apart d ps nx ny r = record {
    own = r.own;
    closed = λ a b h j. elim j [
      | inl c ↦ elim (link_case (link_of x y) links (link_of a b) c) [
        | inl e ↦ absurd (nx (subst (λ z. In z ps) (sym (ends x y a b e).0) h))
        | inr k ↦ r.closed a b h (inl k)
      ]
      | inr c ↦ elim (link_case (link_of x y) links (link_of b a) c) [
        | inl e ↦ absurd (ny (subst (λ z. In z ps) (sym (ends x y b a e).1) h))
        | inr k ↦ r.closed a b h (inr k)
      ]
    ];
    reached = λ p h. longer_path (link_of x y) links d p (r.reached p h);
  }

  -- an end is reached: then so is all that is reached from both ends
  met : (d : Place) (ps qs rs : List Place) → IsReach links d ps → IsReach links x qs → IsReach links y rs → In x ps ⊎ In y ps
      → IsReach L d (ps ++ (qs ++ rs))
  met d ps qs rs r s t m = record {
    own = in_left d ps (qs ++ rs) r.own;
    closed = λ a b h j. elim j [
      | inl c ↦ elim (link_case (link_of x y) links (link_of a b) c) [
        | inl e ↦ subst (λ z. In z (ps ++ (qs ++ rs))) (ends x y a b e).1 in_y
        | inr k ↦ kept a b h (inl k)
      ]
      | inr c ↦ elim (link_case (link_of x y) links (link_of b a) c) [
        | inl e ↦ subst (λ z. In z (ps ++ (qs ++ rs))) (ends x y b a e).0 in_x
        | inr k ↦ kept a b h (inr k)
      ]
    ];
    reached = λ p h. elim (in_parts p ps (qs ++ rs) h) [
      | inl i ↦ longer_path (link_of x y) links d p (r.reached p i)
      | inr i ↦ elim (in_parts p qs rs i) [
        | inl k ↦ two_paths L d x p to_x (longer_path (link_of x y) links x p (s.reached p k))
        | inr k ↦ two_paths L d y p to_y (longer_path (link_of x y) links y p (t.reached p k))
      ]
    ];
  }
    where
      in_x : In x (ps ++ (qs ++ rs))
      in_x = in_right x ps (qs ++ rs) (in_left x qs rs s.own)

      in_y : In y (ps ++ (qs ++ rs))
      in_y = in_right y ps (qs ++ rs) (in_right y qs rs t.own)

      kept : (a b : Place) → In a (ps ++ (qs ++ rs)) → Joined links a b → In b (ps ++ (qs ++ rs))
      kept a b h j = elim (in_parts a ps (qs ++ rs) h) [
        | inl i ↦ in_left b ps (qs ++ rs) (r.closed a b i j)
        | inr i ↦ elim (in_parts a qs rs i) [
          | inl k ↦ in_right b ps (qs ++ rs) (in_left b qs rs (s.closed a b k j))
          | inr k ↦ in_right b ps (qs ++ rs) (in_right b qs rs (t.closed a b k j))
        ]
      ]

      up : (p : Place) → In p ps → Path L d p
      up p i = longer_path (link_of x y) links d p (r.reached p i)

      to_x : Path L d x
      to_x = elim m [ inl i ↦ up x i | inr i ↦ along y x (up y i) (inr here_link) ]

      to_y : Path L d y
      to_y = elim m [ inl i ↦ along x y (up x i) (inl here_link) | inr i ↦ up y i ]

  pub one_more : ((d : Place) → (ps : List Place) × IsReach links d ps) → (d : Place) → (ps : List Place) × IsReach L d ps
  one_more all d =
      let r = all d in
      let s = all x in
      let t = all y in
      elim (in_or_not x r.0) [
        | inl i ↦ (r.0 ++ (s.0 ++ t.0), met d r.0 s.0 t.0 r.1 s.1 t.1 (inl i))
        | inr nx ↦ elim (in_or_not y r.0) [
          | inl i ↦ (r.0 ++ (s.0 ++ t.0), met d r.0 s.0 t.0 r.1 s.1 t.1 (inr i))
          | inr ny ↦ (r.0, apart d r.0 nx ny r.1)
        ]
      ]

-- a goal that is no declaration
abbrev IsOther : Goal → Type 0
IsOther g = (d : Place) → g ≡ Decl d → ⊥

decl_or_not : (g : Goal) → ((d : Place) × (g ≡ Decl d)) ⊎ IsOther g
decl_or_not (Decl d) = inl (d, refl)
decl_or_not Outside = inr (λ d e. cc)
decl_or_not Missing = inr (λ d e. cc)
decl_or_not Hidden = inr (λ d e. cc)
decl_or_not (Blur by n o) = inr (λ d e. cc)

-- from each declaration there is a list of all that is reached
pub reach : (links : List Link) (d : Place) → (ps : List Place) × IsReach links d ps
reach [] d = (
  d ∷ [],
  record {
    own = inl refl;
    closed = λ a b h j. elim j [ inl c ↦ absurd (omega (arith, c.1)) | inr c ↦ absurd (omega (arith, c.1)) ];
    reached = λ p h. elim h [ inl e ↦ subst (λ z. Path [] d z) e here | inr k ↦ absurd k ];
  },
)
reach (l ∷ links) d = by (decl_or_not l.item) (decl_or_not l.source) (reach links) where
  none_item : IsOther l.item → (a b : Place) → l ≡ link_of a b → ⊥
  none_item n a b e = n a (ap (λ (k : Link). k.item) e)

  none_source : IsOther l.source → (a b : Place) → l ≡ link_of a b → ⊥
  none_source n a b e = n b (ap (λ (k : Link). k.source) e)

  by : ((x : Place) × (l.item ≡ Decl x)) ⊎ IsOther l.item → ((y : Place) × (l.source ≡ Decl y)) ⊎ IsOther l.source
      → ((z : Place) → (ps : List Place) × IsReach links z ps) → (ps : List Place) × IsReach (l ∷ links) d ps
  by (inr n) o all = ((all d).0, no_more l links d (all d).0 (none_item n) (all d).1)
  by (inl i) (inr n) all = ((all d).0, no_more l links d (all d).0 (none_source n) (all d).1)
  by (inl i) (inl j) all =
      let is : link_of i.0 j.0 ≡ l =
      ap (λ g. record { item = g; source = Decl j.0 }) (sym i.1) ∙ ap (λ g. record { item = l.item; source = g }) (sym j.1) in
      subst (λ k. (ps : List Place) × IsReach (k ∷ links) d ps) is (one_more links i.0 j.0 all d)

-- it has all that a path leads to
pub all_reached : (links : List Link) (d : Place) (ps : List Place) → IsReach links d ps → (p : Place) → Path links d p → In p ps
all_reached links d ps r p here = r.own
all_reached links d ps r p (along a b path j) = r.closed a b (all_reached links d ps r a path) j
