-- Shapes coded as trees of numbers, different shapes as different trees (own). A value that
-- contracts see in place of a struct must have such a code.
use Rattle.std.specs.Prelude.{◌≡◌, ℕ, zero, suc, Option, None, refl}
use Rattle.std.specs.Coded.{Coded, code_by, coded_ℕ, coded_list, coded_option, coded×}
use Rattle.std.proofs.Common.{ap}
use base.Stored.{Gv, gnil, gnum, gcons}
use Rattle.rotor_base.specs.declared.place.Place.{Place}
use Rattle.rotor_base.specs.declared.place.Goal.{Goal}
use Rattle.rotor_base.specs.declared.place.Goal.TheVariants.{Decl, Outside, Missing, Hidden, Blur}
use Rattle.shape_core.specs.Shape.{Name, Shape, Entries, Struct, Functor, Unitary, Opaque, none, a_val, a_mod, a_mty, a_dark}

abbrev pub coded_place : Coded Place
coded_place = code_by (ℕ × ℕ) (coded× coded_ℕ coded_ℕ) (λ p. (p.file, p.token)) (λ q. record { file = q.0; token = q.1 }) (λ _. refl)

abbrev no_place : Place
no_place = record { file = 0; token = 0 }

abbrev Parts : Type 0
Parts = (ℕ × Place) × (ℕ × Option Place)

abbrev parts_of : Goal → Parts
parts_of (Decl d) = ((0, d), (0, None))
parts_of Outside = ((1, no_place), (0, None))
parts_of Missing = ((2, no_place), (0, None))
parts_of Hidden = ((3, no_place), (0, None))
parts_of (Blur by n behind) = ((4, by), (n, behind))

abbrev goal_by : ℕ → Place → ℕ → Option Place → Goal
goal_by zero p n o = Decl p
goal_by (suc zero) p n o = Outside
goal_by (suc (suc zero)) p n o = Missing
goal_by (suc (suc (suc zero))) p n o = Hidden
goal_by (suc (suc (suc (suc k)))) p n o = Blur p n o

abbrev goal_of : Parts → Goal
goal_of p = goal_by p.0.0 p.0.1 p.1.0 p.1.1

pub goal_parts : (g : Goal) → goal_of (parts_of g) ≡ g
goal_parts (Decl d) = refl
goal_parts Outside = refl
goal_parts Missing = refl
goal_parts Hidden = refl
goal_parts (Blur by n behind) = refl

abbrev pub coded_goal : Coded Goal
coded_goal = code_by Parts (coded× (coded× coded_ℕ coded_place) (coded× coded_ℕ (coded_option coded_place))) parts_of goal_of goal_parts

abbrev name_code : Name → Gv
name_code x = (coded_list coded_ℕ).code x

abbrev mutual
  pub shape_code : Shape → Gv
  shape_code (Struct es) = gcons (gnum 0) (entries_code es)
  shape_code (Functor p r) = gcons (gnum 1) (gcons (shape_code p) (shape_code r))
  shape_code (Unitary r) = gcons (gnum 2) (shape_code r)
  shape_code Opaque = gnil

  pub entries_code : Entries → Gv
  entries_code none = gnil
  entries_code (a_val x g es) = gcons (gnum 0) (gcons (gcons (name_code x) (coded_goal.code g)) (entries_code es))
  entries_code (a_mod x s es) = gcons (gnum 1) (gcons (gcons (name_code x) (shape_code s)) (entries_code es))
  entries_code (a_mty x s es) = gcons (gnum 2) (gcons (gcons (name_code x) (shape_code s)) (entries_code es))
  entries_code (a_dark at es) = gcons (gnum 3) (gcons (coded_place.code at) (entries_code es))

abbrev head : Gv → Gv
head gnil = gnil
head (gnum n) = gnil
head (gcons a b) = a

abbrev tail : Gv → Gv
tail gnil = gnil
tail (gnum n) = gnil
tail (gcons a b) = b

mutual
  pub shape_inj : (s t : Shape) → shape_code s ≡ shape_code t → s ≡ t
  shape_inj (Struct es) (Struct es') e = ap Struct (entries_inj es es' (ap tail e))
  shape_inj (Struct es) (Functor p' r') e = absurd cc
  shape_inj (Struct es) (Unitary r') e = absurd cc
  shape_inj (Struct es) Opaque e = absurd cc
  shape_inj (Functor p r) (Struct es') e = absurd cc
  shape_inj (Functor p r) (Functor p' r') e = λ i. Functor (shape_inj p p' (ap (λ c. head (tail c)) e) i)
      (shape_inj r r' (ap (λ c. tail (tail c)) e) i)
  shape_inj (Functor p r) (Unitary r') e = absurd cc
  shape_inj (Functor p r) Opaque e = absurd cc
  shape_inj (Unitary r) (Struct es') e = absurd cc
  shape_inj (Unitary r) (Functor p' r') e = absurd cc
  shape_inj (Unitary r) (Unitary r') e = ap Unitary (shape_inj r r' (ap tail e))
  shape_inj (Unitary r) Opaque e = absurd cc
  shape_inj Opaque (Struct es') e = absurd cc
  shape_inj Opaque (Functor p' r') e = absurd cc
  shape_inj Opaque (Unitary r') e = absurd cc
  shape_inj Opaque Opaque e = refl

  pub entries_inj : (a b : Entries) → entries_code a ≡ entries_code b → a ≡ b
  entries_inj none none e = refl
  entries_inj none (a_val x' g' es') e = absurd cc
  entries_inj none (a_mod x' s' es') e = absurd cc
  entries_inj none (a_mty x' s' es') e = absurd cc
  entries_inj none (a_dark at' es') e = absurd cc
  entries_inj (a_val x g es) none e = absurd cc
  entries_inj (a_val x g es) (a_val x' g' es') e = λ i. a_val ((coded_list coded_ℕ).inj x x' (ap (λ c. head (head (tail c))) e) i)
      (coded_goal.inj g g' (ap (λ c. tail (head (tail c))) e) i) (entries_inj es es' (ap (λ c. tail (tail c)) e) i)
  entries_inj (a_val x g es) (a_mod x' s' es') e = absurd cc
  entries_inj (a_val x g es) (a_mty x' s' es') e = absurd cc
  entries_inj (a_val x g es) (a_dark at' es') e = absurd cc
  entries_inj (a_mod x s es) none e = absurd cc
  entries_inj (a_mod x s es) (a_val x' g' es') e = absurd cc
  entries_inj (a_mod x s es) (a_mod x' s' es') e = λ i. a_mod ((coded_list coded_ℕ).inj x x' (ap (λ c. head (head (tail c))) e) i)
      (shape_inj s s' (ap (λ c. tail (head (tail c))) e) i) (entries_inj es es' (ap (λ c. tail (tail c)) e) i)
  entries_inj (a_mod x s es) (a_mty x' s' es') e = absurd cc
  entries_inj (a_mod x s es) (a_dark at' es') e = absurd cc
  entries_inj (a_mty x s es) none e = absurd cc
  entries_inj (a_mty x s es) (a_val x' g' es') e = absurd cc
  entries_inj (a_mty x s es) (a_mod x' s' es') e = absurd cc
  entries_inj (a_mty x s es) (a_mty x' s' es') e = λ i. a_mty ((coded_list coded_ℕ).inj x x' (ap (λ c. head (head (tail c))) e) i)
      (shape_inj s s' (ap (λ c. tail (head (tail c))) e) i) (entries_inj es es' (ap (λ c. tail (tail c)) e) i)
  entries_inj (a_mty x s es) (a_dark at' es') e = absurd cc
  entries_inj (a_dark at es) none e = absurd cc
  entries_inj (a_dark at es) (a_val x' g' es') e = absurd cc
  entries_inj (a_dark at es) (a_mod x' s' es') e = absurd cc
  entries_inj (a_dark at es) (a_mty x' s' es') e = absurd cc
  entries_inj (a_dark at es) (a_dark at' es') e = λ i. a_dark (coded_place.inj at at' (ap (λ c. head (tail c)) e) i)
      (entries_inj es es' (ap (λ c. tail (tail c)) e) i)

abbrev pub coded_shape : Coded Shape
coded_shape = record { code = shape_code; inj = shape_inj }
