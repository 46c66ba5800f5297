-- What a look-up of a value finds if outside modules are filled in.
use Rattle.std.proofs.Common.{◌≡◌, ℕ, ◌-◌, List, [], ◌∷◌, ◌++◌, Option, Some, None, length, drop, refl, sym, ap, ◌∙◌, arith}
use Rattle.std.proofs.Common.{length-append}
use Rattle.std.specs.Prelude.{bytes_eq}
use Rattle.rotor_base.specs.declared.place.Place.{Place}
use Rattle.rotor_base.specs.declared.place.Goal.{Goal}
use Rattle.rotor_base.specs.declared.place.Goal.TheVariants.{Decl, Blur}
use Rattle.rotor_base.proofs.Rising.{some_is}
use Rattle.shape_core.specs.Shape.{Name, Entries, none, a_dark, ◌⊕◌, vals, or_else, some_if, unless_some}
use Rattle.shape_core.specs.Shape.{last_of, passed, last_place, behind_of, seen, find_val}
use Rattle.shape_core.proofs.Lists.{or_else_none, or_else_assoc}
use Rattle.open_world.proofs.Twofold.{Values, block, Parts, end, val, mod_of, mty_of, dark, filled, olds}
use Rattle.open_world.proofs.Twofold.{news}

-- an opening of an outside module that stays, or that is filled in
pub data Mark : Type 0 where
  stays : (at : Place) → Mark
  opened : (at : Place) (vs : Values) → Mark

abbrev pub expand : List Mark → Entries
expand [] = none
expand (stays at ∷ ms) = a_dark at (expand ms)
expand (opened at vs ∷ ms) = block vs ⊕ expand ms

abbrev pub marks : Parts → List Mark
marks end = []
marks (val x g m) = marks m
marks (mod_of X s m) = marks m
marks (mty_of S s m) = marks m
marks (dark at m) = stays at ∷ marks m
marks (filled at vs m) = opened at vs ∷ marks m

-- ---- a block in front

pub block_last : (vs : Values) (es : Entries) (x : Name) → last_of (vals (block vs ⊕ es)) x ≡ or_else (last_of (vals es) x) (last_of vs x)
block_last [] es x = sym (or_else_none (last_of (vals es) x))
block_last (e ∷ vs) es x =
    ap (λ o. or_else o (some_if (bytes_eq e.0 x) e.1)) (block_last vs es x)
    ∙ or_else_assoc (last_of (vals es) x) (last_of vs x) (some_if (bytes_eq e.0 x) e.1)

block_passed : (vs : Values) (es : Entries) (x : Name) → passed (block vs ⊕ es) x ≡ passed es x
block_passed [] es x = refl
block_passed (e ∷ vs) es x = block_passed vs es x

or_some : {V : Type 0} (a c : Option V) (g : V) → or_else (or_else a (Some g)) c ≡ or_else a (Some g)
or_some None c g = refl
or_some (Some v) c g = refl

unless_or_some : {V W : Type 0} (a : Option V) (g : V) (p q : W) → unless_some (or_else a (Some g)) p q ≡ q
unless_or_some None g p q = refl
unless_or_some (Some v) g p q = refl

-- ---- a name in a list of parts

module _ (x : Name) where
  -- the last old value of the name
  abbrev pub was : Parts → Option Goal
  was m = last_of (vals (olds m)) x

  -- the openings that a look-up of the name passes in the old list
  abbrev pub behind : Parts → List Mark
  behind end = []
  behind (val y g m) = behind m
  behind (mod_of X s m) = behind m
  behind (mty_of S s m) = behind m
  behind (dark at m) = unless_some (was m) (stays at ∷ behind m) (behind m)
  behind (filled at vs m) = unless_some (was m) (opened at vs ∷ behind m) (behind m)

  abbrev last_new : Parts → Option Goal
  last_new m = last_of (vals (news m)) x

  abbrev among : List Mark → Option Goal
  among ms = last_of (vals (expand ms)) x

  dark_finds : (n o : Option Goal) (at : Place) (ms : List Mark) → n ≡ or_else (among ms) o
      → n ≡ or_else (among (unless_some o (stays at ∷ ms) ms)) o
  dark_finds n None at ms h = h
  dark_finds n (Some g) at ms h = h

  filled_finds : (es : Entries) (o : Option Goal) (at : Place) (vs : Values) (ms : List Mark) → last_of (vals es) x ≡ or_else (among ms) o
      → last_of (vals (block vs ⊕ es)) x ≡ or_else (among (unless_some o (opened at vs ∷ ms) ms)) o
  filled_finds es None at vs ms h =
      block_last vs es x ∙ ap (λ n. or_else n (last_of vs x)) (h ∙ or_else_none (among ms))
      ∙ sym (block_last vs (expand ms) x) ∙ sym (or_else_none (last_of (vals (block vs ⊕ expand ms)) x))
  filled_finds es (Some g) at vs ms h =
      block_last vs es x ∙ ap (λ n. or_else n (last_of vs x)) h ∙ or_some (among ms) (last_of vs x) g

  -- the last new value is that of what was opened behind the old one, or the old one
  pub finds : (m : Parts) → last_new m ≡ or_else (among (behind m)) (was m)
  finds end = refl
  finds (val y g m) = ap (λ o. or_else o (some_if (bytes_eq y x) g)) (finds m) ∙ or_else_assoc (among (behind m)) (was m) (some_if (bytes_eq y x) g)
  finds (mod_of X s m) = finds m
  finds (mty_of S s m) = finds m
  finds (dark at m) = dark_finds (last_new m) (was m) at (behind m) (finds m)
  finds (filled at vs m) = filled_finds (news m) (was m) at vs (behind m) (finds m)

  dark_passes : (n o : Option Goal) (at : Place) (ps : List Place) (ms : List Mark) → n ≡ or_else (among ms) o → ps ≡ passed (expand ms) x
      → unless_some n (at ∷ ps) ps ≡ passed (expand (unless_some o (stays at ∷ ms) ms)) x
  dark_passes n None at ps ms h k =
      ap (λ a. unless_some a (at ∷ ps) ps) (h ∙ or_else_none (among ms)) ∙ ap (λ l. unless_some (among ms) (at ∷ l) l) k
  dark_passes n (Some g) at ps ms h k = ap (λ a. unless_some a (at ∷ ps) ps) h ∙ unless_or_some (among ms) g (at ∷ ps) ps ∙ k

  filled_passes : (es : Entries) (o : Option Goal) (at : Place) (vs : Values) (ms : List Mark) → passed es x ≡ passed (expand ms) x
      → passed (block vs ⊕ es) x ≡ passed (expand (unless_some o (opened at vs ∷ ms) ms)) x
  filled_passes es None at vs ms k = block_passed vs es x ∙ k ∙ sym (block_passed vs (expand ms) x)
  filled_passes es (Some g) at vs ms k = block_passed vs es x ∙ k

  -- the Dark entries that the new look-up passes
  pub passes : (m : Parts) → passed (news m) x ≡ passed (expand (behind m)) x
  passes end = refl
  passes (val y g m) = passes m
  passes (mod_of X s m) = passes m
  passes (mty_of S s m) = passes m
  passes (dark at m) = dark_passes (last_new m) (was m) at (passed (news m) x) (behind m) (finds m) (passes m)
  passes (filled at vs m) = filled_passes (news m) (was m) at vs (behind m) (passes m)

  counts_one : (o : Option Goal) (at : Place) (k : Mark) (ps : List Place) (ms : List Mark) → length ps ≡ length ms
      → length (unless_some o (at ∷ ps) ps) ≡ length (unless_some o (k ∷ ms) ms)
  counts_one None at k ps ms h = omega (arith, h)
  counts_one (Some g) at k ps ms h = h

  -- the old look-up passes as many
  pub counts : (m : Parts) → length (passed (olds m) x) ≡ length (behind m)
  counts end = refl
  counts (val y g m) = counts m
  counts (mod_of X s m) = counts m
  counts (mty_of S s m) = counts m
  counts (dark at m) = counts_one (was m) at (stays at) (passed (olds m) x) (behind m) (counts m)
  counts (filled at vs m) = counts_one (was m) at (opened at vs) (passed (olds m) x) (behind m) (counts m)

  -- what the name finds in the new list
  abbrev pub through : List Mark → Option Goal → Option Goal
  through ms o = seen (or_else (among ms) o) (last_place (passed (expand ms) x)) (length (passed (expand ms) x))

  pub found : (m : Parts) → find_val (news m) x ≡ through (behind m) (was m)
  found m =
      ap (λ o. seen o (last_place (passed (news m) x)) (length (passed (news m) x))) (finds m)
      ∙ ap (λ ps. seen (or_else (among (behind m)) (was m)) (last_place ps) (length ps)) (passes m)

  -- ---- the openings that are passed are the last ones

  not_behind : (o p : Option Goal) → or_else o p ≡ None → o ≡ None
  not_behind None p e = refl
  not_behind (Some g) p e = absurd cc

  unless_none : {W : Type 0} (o : Option Goal) (p q : W) → o ≡ None → unless_some o p q ≡ p
  unless_none None p q e = refl
  unless_none (Some g) p q e = absurd cc

  all_behind : (m : Parts) → was m ≡ None → behind m ≡ marks m
  all_behind end e = refl
  all_behind (val y g m) e = all_behind m (not_behind (was m) (some_if (bytes_eq y x) g) e)
  all_behind (mod_of X s m) e = all_behind m e
  all_behind (mty_of S s m) e = all_behind m e
  all_behind (dark at m) e = unless_none (was m) (stays at ∷ behind m) (behind m) e ∙ ap (λ l. stays at ∷ l) (all_behind m e)
  all_behind (filled at vs m) e = unless_none (was m) (opened at vs ∷ behind m) (behind m) e ∙ ap (λ l. opened at vs ∷ l) (all_behind m e)

  abbrev IsEnd : List Mark → List Mark → Type 0
  IsEnd ms all = (front : List Mark) × (all ≡ front ++ ms)

  one_more : (o : Option Goal) (k : Mark) (ms all : List Mark) → (o ≡ None → ms ≡ all) → IsEnd ms all → IsEnd (unless_some o (k ∷ ms) ms) (k ∷ all)
  one_more None k ms all h e = ([], ap (λ l. k ∷ l) (sym (h refl)))
  one_more (Some g) k ms all h e = (k ∷ e.0, ap (λ l. k ∷ l) e.1)

  pub is_end : (m : Parts) → IsEnd (behind m) (marks m)
  is_end end = ([], refl)
  is_end (val y g m) = is_end m
  is_end (mod_of X s m) = is_end m
  is_end (mty_of S s m) = is_end m
  is_end (dark at m) = one_more (was m) (stays at) (behind m) (marks m) (all_behind m) (is_end m)
  is_end (filled at vs m) = one_more (was m) (opened at vs) (behind m) (marks m) (all_behind m) (is_end m)

drop_front : {A : Type 0} (xs ys : List A) → drop (length xs) (xs ++ ys) ≡ ys
drop_front [] ys = refl
drop_front (x ∷ xs) ys = drop_front xs ys

end_is : (ms all front : List Mark) → all ≡ front ++ ms → ms ≡ drop (length all - length ms) all
end_is ms all front e =
    let n : length all - length ms ≡ length front = ap (λ l. length l - length ms) e ∙ ap (λ k. k - length ms) (length-append front ms)
    ∙ omega arith in
    sym (ap (λ k. drop k all) n ∙ ap (drop (length front)) e ∙ drop_front front ms)

-- two ends of a list that are as long are the same
pub same_end : (x y : Name) (m k : Parts) → marks k ≡ marks m → length (behind y k) ≡ length (behind x m) → behind y k ≡ behind x m
same_end x y m k e n =
    let a = is_end x m in
    let b = is_end y k in
    end_is (behind y k) (marks k) b.0 b.1
    ∙ ap (λ l. drop (length l - length (behind y k)) l) e
    ∙ ap (λ j. drop (length (marks m) - j) (marks m)) n
    ∙ sym (end_is (behind x m) (marks m) a.0 a.1)

-- ---- what the goals are

abbrev pub IsDeclared : Option Goal → Type 0
IsDeclared None = Unit {0}
IsDeclared (Some g) = (d : Place) × (g ≡ Decl d)

pub last_some : (p : List Place) (at : Place) → (by : Place) × (last_place (at ∷ p) ≡ Some by)
last_some p at = last_or (last_place p) at
  where
    last_or : (o : Option Place) (a : Place) → (by : Place) × (or_else o (Some a) ≡ Some by)
    last_or None a = (a, refl)
    last_or (Some b) a = (b, refl)

-- two look-ups that see the same have found the same, through as many
pub record SeesTheSame (f f' : Option Goal) (p p' : List Place) : Type 0 where
  pub goal : f' ≡ f
  pub number : length p' ≡ length p

pub never_blur : (f : Option Goal) (by : Place) (n : ℕ) (b : Option Place) → IsDeclared f → f ≡ Some (Blur by n b) → ⊥
never_blur None by n b h e = cc
never_blur (Some g) by n b h e = let same : g ≡ Blur by n b = some_is g (Blur by n b) e in let wrong : Blur by n b ≡ Decl h.0 = sym same ∙ h.1 in cc

same_goal : (f f' : Option Goal) → IsDeclared f → IsDeclared f' → behind_of f' ≡ behind_of f → f' ≡ f
same_goal None None h k e = refl
same_goal None (Some g) h k e = let wrong : Some k.0 ≡ None = sym (ap (λ z. behind_of (Some z)) k.1) ∙ e in absurd cc
same_goal (Some g) None h k e = let wrong : None ≡ Some h.0 = e ∙ ap (λ z. behind_of (Some z)) h.1 in absurd cc
same_goal (Some g) (Some g') h k e =
    let same : Some k.0 ≡ Some h.0 = sym (ap (λ z. behind_of (Some z)) k.1) ∙ (e ∙ ap (λ z. behind_of (Some z)) h.1) in
    ap Some (k.1 ∙ (ap Decl (some_is k.0 h.0 same) ∙ sym h.1))

blur_number : (a b : Place) (n m : ℕ) (o p : Option Place) → Blur a n o ≡ Blur b m p → n ≡ m
blur_number a b n m o p e = cc

blur_behind : (a b : Place) (n m : ℕ) (o p : Option Place) → Blur a n o ≡ Blur b m p → o ≡ p
blur_behind a b n m o p e = cc

pub sees : (f f' : Option Goal) (p p' : List Place) → IsDeclared f → IsDeclared f'
    → seen f' (last_place p') (length p') ≡ seen f (last_place p) (length p) → SeesTheSame f f' p p'
sees f f' [] [] h k e = record { goal = e; number = refl }
sees f f' [] (a ∷ p') h k e =
    let b = last_some p' a in
    absurd (never_blur f b.0 (length (a ∷ p')) (behind_of f') h (sym e ∙ ap (λ o. seen f' o (length (a ∷ p'))) b.1))
sees f f' (a ∷ p) [] h k e =
    let b = last_some p a in
    absurd (never_blur f' b.0 (length (a ∷ p)) (behind_of f) k (e ∙ ap (λ o. seen f o (length (a ∷ p))) b.1))
sees f f' (a ∷ p) (c ∷ p') h k e =
    let b = last_some p a in
    let d = last_some p' c in
    let n = length (a ∷ p) in
    let n' = length (c ∷ p') in
    let eq : Some (Blur d.0 n' (behind_of f')) ≡ Some (Blur b.0 n (behind_of f)) =
    sym (ap (λ o. seen f' o n') d.1) ∙ (e ∙ ap (λ o. seen f o n) b.1) in
    let same = some_is (Blur d.0 n' (behind_of f')) (Blur b.0 n (behind_of f)) eq in
    record {
      goal = same_goal f f' h k (blur_behind d.0 b.0 n' n (behind_of f') (behind_of f) same);
      number = blur_number d.0 b.0 n' n (behind_of f') (behind_of f) same;
    }
