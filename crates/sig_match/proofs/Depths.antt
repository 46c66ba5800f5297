-- Depths, for the measures of walks.
use Rattle.std.proofs.Common.{◌≡◌, ℕ, zero, suc, ◌+◌, ◌*◌, ◌<◌, ◌≤◌, Option, Some, None, ap, ◌∙◌, arith}
use Rattle.std.specs.Borrow.{Bor}
use Rattle.std.specs.Prelude.{option_copied}
use Rattle.rotor_base.proofs.Rising.{some_is}
use Rattle.shape_core.specs.Shape.{Name, Shape, Struct, Functor, Unitary, Opaque, Entries, none, a_val, a_mod, a_mty, a_dark, depth, depths}
use Rattle.shape_core.specs.Shape.{entries_in, entries_from, param_of, result_of, find_mod, find_mty}
use Rattle.shape_core.specs.Links.{or_empty}
use Rattle.shape_core.proofs.Founds.{mod_or_empty, mty_or_empty}

-- the measure of a part that may be absent
abbrev pub depth_of_part : Option (Bor Shape) → ℕ
depth_of_part None = 0
depth_of_part (Some s) = 4 * depth s.now + 4

-- a part is less deep than its shape
depths_from : (n : ℕ) (es : Entries) → depths (entries_from n es) ≤ depths es
depths_from zero es = omega arith
depths_from (suc n) none = omega arith
depths_from (suc n) (a_val x g es) = depths_from n es
depths_from (suc n) (a_mod X s es) = omega (arith, depths_from n es)
depths_from (suc n) (a_mty S s es) = omega (arith, depths_from n es)
depths_from (suc n) (a_dark at es) = depths_from n es

pub list_depth : (s : Shape) → depths (entries_in s) ≤ depth s
list_depth (Struct es) = omega arith
list_depth (Functor p r) = omega arith
list_depth (Unitary r) = omega arith
list_depth Opaque = omega arith

pub mod_below : (s : Shape) (n : ℕ) (X : Name) (t : Shape) (rest : Entries) → entries_from n (entries_in s) ≡ a_mod X t rest → depth t + 1 ≤ depth s
mod_below s n X t rest h =
    let a = depths_from n (entries_in s) in
    let b = ap depths h in
    let c = list_depth s in
    omega (arith, a, b, c)

pub mty_below : (s : Shape) (n : ℕ) (X : Name) (t : Shape) (rest : Entries) → entries_from n (entries_in s) ≡ a_mty X t rest → depth t + 1 ≤ depth s
mty_below s n X t rest h =
    let a = depths_from n (entries_in s) in
    let b = ap depths h in
    let c = list_depth s in
    omega (arith, a, b, c)

param_under : (t s : Shape) → Some t ≡ param_of s → depth t + 1 ≤ depth s
param_under t (Struct es) h = absurd cc
param_under t (Functor p r) h = let e = ap depth (some_is t p h) in omega (arith, e)
param_under t (Unitary r) h = absurd cc
param_under t Opaque h = absurd cc

result_under : (t s : Shape) → Some t ≡ result_of s → depth t + 1 ≤ depth s
result_under t (Struct es) h = absurd cc
result_under t (Functor p r) h = let e = ap depth (some_is t r h) in omega (arith, e)
result_under t (Unitary r) h = let e = ap depth (some_is t r h) in omega (arith, e)
result_under t Opaque h = absurd cc

pub param_below : (o : Option (Bor Shape)) (s : Shape) → option_copied o ≡ param_of s → depth_of_part o < 4 * depth s + 3
param_below None s h = omega arith
param_below (Some b) s h = let k = param_under b.now s h in omega (arith, k)

pub result_below : (o : Option (Bor Shape)) (s : Shape) → option_copied o ≡ result_of s → depth_of_part o < 4 * depth s + 3
result_below None s h = omega arith
result_below (Some b) s h = let k = result_under b.now s h in omega (arith, k)

-- the measure of two parts that may be absent
abbrev pub depth_of_both : Option (Bor Shape) → Option (Bor Shape) → ℕ
depth_of_both (Some s) (Some t) = 4 * (depth s.now + depth t.now) + 4
depth_of_both (Some s) None = 0
depth_of_both None t = 0

pub params_below : (o p : Option (Bor Shape)) (s t : Shape) → option_copied o ≡ param_of s → option_copied p ≡ param_of t
    → depth_of_both o p < 4 * (depth s + depth t) + 3
params_below None p s t h k = omega arith
params_below (Some b) None s t h k = omega arith
params_below (Some b) (Some d) s t h k = let l = param_under b.now s h in let m = param_under d.now t k in omega (arith, l, m)

pub results_below : (o p : Option (Bor Shape)) (s t : Shape) → option_copied o ≡ result_of s → option_copied p ≡ result_of t
    → depth_of_both o p < 4 * (depth s + depth t) + 3
results_below None p s t h k = omega arith
results_below (Some b) None s t h k = omega arith
results_below (Some b) (Some d) s t h k = let l = result_under b.now s h in let m = result_under d.now t k in omega (arith, l, m)

-- what is found, or the empty structure, is no deeper than its structure
pub found_mod : (s r : Shape) (X : Name) (o : Option (Bor Shape)) → option_copied o ≡ find_mod (entries_in s) X → r ≡ or_empty (option_copied o)
    → depth r ≤ depth s
found_mod s r X o h k =
    let a = ap depth (k ∙ ap or_empty h) in
    let b = mod_or_empty (entries_in s) X in
    let d = list_depth s in
    omega (arith, a, b, d)

pub found_mty : (s r : Shape) (X : Name) (o : Option (Bor Shape)) → option_copied o ≡ find_mty (entries_in s) X → r ≡ or_empty (option_copied o)
    → depth r ≤ depth s
found_mty s r X o h k =
    let a = ap depth (k ∙ ap or_empty h) in
    let b = mty_or_empty (entries_in s) X in
    let d = list_depth s in
    omega (arith, a, b, d)
