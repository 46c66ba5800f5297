-- Two lists of facts have one first fault.
use Rattle.std.proofs.Common.{◌≡◌, ℕ, ◌≤◌, ◌⊎◌, refl, ap, sym, ◌∙◌, subst, inl, inr, arith, List, Some, None}
use Rattle.std.specs.Prelude.{slice_get}
use Rattle.rotor_base.specs.declared.place.Place.{Place}
use Rattle.rotor_base.specs.declared.place.Goal.{Goal}
use Rattle.rotor_base.specs.declared.place.Goal.TheVariants.{Decl, Outside, Missing, Hidden, Blur}
use Rattle.rotor_base.specs.declared.place.Ref.{Ref}
use Rattle.rotor_base.specs.declared.place.Link.{Link}
use Rattle.rotor_base.specs.Place.{IsBefore}
use Rattle.rotor_base.proofs.Rising.{some_is}
use Rattle.capture_check.specs.declared.fault.Fault.{Fault}
use Rattle.capture_check.specs.declared.fault.Fault.TheVariants.{Clash, Capture, Mislink}
use Rattle.capture_check.specs.Fault.{Names, IsLeastRepeat, IsClash, of_ref, of_link, IsFirstDiffering, IsCapture, IsMislink, before, FaultsAreOne}
use Rattle.capture_check.proofs.Before.{not_before, not_both, Upto}

pub upto_both : (p q : Place) → Upto p q → Upto q p → p ≡ q
upto_both p q (inl e) h = e
upto_both p q (inr a) (inl e) = sym e
upto_both p q (inr a) (inr b) = absurd (not_both p q a b)

-- at most one thing meets a condition
abbrev pub One : {R : Type 0} → (R → Type 0) → Type 0
One {R} c = (a b : R) → c a → c b → a ≡ b

pub one_before : {R : Type 0} (c d : R → Type 0) → One c → One d → One (before c d)
one_before c d oc od a b (inl h) (inl k) = oc a b h k
one_before c d oc od a b (inl h) (inr k) = absurd (k.0 (a, h))
one_before c d oc od a b (inr h) (inl k) = absurd (h.0 (b, k))
one_before c d oc od a b (inr h) (inr k) = od a b h.1 k.1

pub one_repeat : (names : Names) (groups : List (List Place)) (f a g b : Place) → IsLeastRepeat names groups f a → IsLeastRepeat names groups g b
    → (f ≡ g) × (a ≡ b)
one_repeat names groups f a g b h k = by (h.least g b k.repeats) (k.least f a h.repeats) where
  by : IsBefore a b ⊎ ((a ≡ b) × Upto f g) → IsBefore b a ⊎ ((b ≡ a) × Upto g f) → (f ≡ g) × (a ≡ b)
  by (inl x) (inl y) = absurd (not_both a b x y)
  by (inl x) (inr y) = absurd (not_before a (subst (IsBefore a) y.0 x))
  by (inr x) (inl y) = absurd (not_before b (subst (IsBefore b) x.0 y))
  by (inr x) (inr y) = (upto_both f g x.1 y.1, x.0)

one_clash : (names : Names) (groups : List (List Place)) → One (IsClash names groups)
one_clash names groups (Clash f a) (Clash g b) h k =
    let e = one_repeat names groups f a g b h k in ap (λ (p : Place). Clash p a) e.0 ∙ ap (λ (p : Place). Clash g p) e.1
one_clash names groups (Capture at was would) b h k = absurd h
one_clash names groups (Mislink item was would) b h k = absurd h
one_clash names groups (Clash f a) (Capture at was would) h k = absurd k
one_clash names groups (Clash f a) (Mislink item was would) h k = absurd k

module _ {A : Type 0} (make : Place → Goal → A) (keeps : (p q : Place) (g h : Goal) → make p g ≡ make q h → g ≡ h) (old new : List A) where
  goal_is : (xs : List A) (m n : ℕ) (p q : Place) (g h : Goal) → m ≡ n → slice_get xs m ≡ Some (make p g) → slice_get xs n ≡ Some (make q h) → g ≡ h
  goal_is xs m n p q g h e i j = keeps p q g h (some_is (make p g) (make q h) (sym i ∙ (ap (slice_get xs) e ∙ j)))

  pub one_differing : (p q : Place) (w v x y : Goal) → IsFirstDiffering make old new p w v → IsFirstDiffering make old new q x y
      → (p ≡ q) × (w ≡ x) × (v ≡ y)
  one_differing p q w v x y h k = by (h.least k.number q x y k.differs) (k.least h.number p w v h.differs) where
    by : IsBefore p q ⊎ ((p ≡ q) × (h.number ≤ k.number)) → IsBefore q p ⊎ ((q ≡ p) × (k.number ≤ h.number)) → (p ≡ q) × (w ≡ x) × (v ≡ y)
    by (inl a) (inl b) = absurd (not_both p q a b)
    by (inl a) (inr b) = absurd (not_before p (subst (IsBefore p) b.0 a))
    by (inr a) (inl b) = absurd (not_before q (subst (IsBefore q) a.0 b))
    by (inr a) (inr b) =
        let le : h.number ≤ k.number = a.1 in
        let ge : k.number ≤ h.number = b.1 in
        let e : h.number ≡ k.number = omega (arith, le, ge) in (
          a.0,
          goal_is old h.number k.number p q w x e h.differs.old_one k.differs.old_one,
          goal_is new h.number k.number p q v y e h.differs.new_one
              k.differs.new_one,
        )

pub ref_goal : (p q : Place) (g h : Goal) → of_ref p g ≡ of_ref q h → g ≡ h
ref_goal p q g h e = ap (λ (r : Ref). r.goal) e

pub link_goal : (p q : Place) (g h : Goal) → of_link p g ≡ of_link q h → g ≡ h
link_goal p q g h e = ap (λ (l : Link). l.source) e

pub three : {A B C D : Type 0} (f : A → B → C → D) (a a' : A) (b b' : B) (c c' : C) → a ≡ a' → b ≡ b' → c ≡ c' → f a b c ≡ f a' b' c'
three f a a' b b' c c' p q r = ap (λ x. f x b c) p ∙ (ap (λ x. f a' x c) q ∙ ap (λ x. f a' b' x) r)

one_capture : (old new : List Ref) → One (IsCapture old new)
one_capture old new (Capture p w v) (Capture q x y) h k = let e = one_differing of_ref ref_goal old new p q w v x y h k in
    three Capture p q w x v y e.0 e.1 e.2
one_capture old new (Clash f a) b h k = absurd h
one_capture old new (Mislink i w v) b h k = absurd h
one_capture old new (Capture p w v) (Clash f a) h k = absurd k
one_capture old new (Capture p w v) (Mislink i x y) h k = absurd k

one_mislink : (old new : List Link) → One (IsMislink old new)
one_mislink old new (Mislink (Decl p) w v) (Mislink (Decl q) x y) h k =
    let e = one_differing of_link link_goal old new p q w v x y h k in
    three (λ (a : Place) (b c : Goal). Mislink (Decl a) b c) p q w x v y e.0 e.1 e.2
one_mislink old new (Clash f a) b h k = absurd h
one_mislink old new (Capture p w v) b h k = absurd h
one_mislink old new (Mislink Outside w v) b h k = absurd h
one_mislink old new (Mislink Missing w v) b h k = absurd h
one_mislink old new (Mislink Hidden w v) b h k = absurd h
one_mislink old new (Mislink (Blur by n o) w v) b h k = absurd h
one_mislink old new (Mislink (Decl p) w v) (Clash f a) h k = absurd k
one_mislink old new (Mislink (Decl p) w v) (Capture q x y) h k = absurd k
one_mislink old new (Mislink (Decl p) w v) (Mislink Outside x y) h k = absurd k
one_mislink old new (Mislink (Decl p) w v) (Mislink Missing x y) h k = absurd k
one_mislink old new (Mislink (Decl p) w v) (Mislink Hidden x y) h k = absurd k
one_mislink old new (Mislink (Decl p) w v) (Mislink (Blur by n o) x y) h k = absurd k

pub faults_are_one : FaultsAreOne
faults_are_one names old new None None h k = refl
faults_are_one names old new None (Some b) h k = absurd (h (b, k))
faults_are_one names old new (Some a) None h k = absurd (k (a, h))
faults_are_one names old new (Some a) (Some b) h k =
    ap (λ (x : Fault). Some x) (one_before (IsClash names new.groups) (before (IsCapture old.refs new.refs) (IsMislink old.links new.links))
    (one_clash names new.groups)
    (one_before (IsCapture old.refs new.refs) (IsMislink old.links new.links) (one_capture old.refs new.refs) (one_mislink old.links new.links)) a b h
    k)
