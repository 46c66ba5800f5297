use Rattle.std.proofs.Common.{rules, ◌≡◌, ap, true, false}
use Rattle.std.specs.Prelude.{bytes_eq}
use Rattle.shape_core.specs.Shape as pure
use Rattle.shape_core.specs.View.{view_then}
use Rattle.shape_core.proofs.Seen.{sees_in, sees_val, sees_other, sees_mod, sees_mty, sees_dark}
use Rattle.shape_core.proofs.shape.see.Goals as goal

pub returns-then-eq-clause-sees : goal.returns-then-eq-clause-sees
unfolding view_then
returns-then-eq-clause-sees c es h =
    let same : bytes_eq c.in-Val.x c.args.name.now ≡ true = search rules in
    sees_in es _ _ _ c.args.entry.now (ap (λ z. view_then z pure.none) c.in-Val.is) (sees_val es _ c.in-Val.x c.in-Val.goal same)

pub returns-else-eq-clause-sees : goal.returns-else-eq-clause-sees
unfolding view_then
returns-else-eq-clause-sees c es h =
    let other : bytes_eq c.in-Val.x c.args.name.now ≡ false = search rules in
    sees_in es _ _ _ c.args.entry.now (ap (λ z. view_then z pure.none) c.in-Val.is) (sees_other es _ c.in-Val.x c.in-Val.goal _ other h)

pub returns-in-Dark-clause-sees : goal.returns-in-Dark-clause-sees
unfolding view_then
returns-in-Dark-clause-sees c es h = sees_in es _ _ _ c.args.entry.now (ap (λ z. view_then z pure.none) c.in-Dark.is)
    (sees_dark es _ c.in-Dark.at _ h)

pub returns-in-Mod-clause-sees : goal.returns-in-Mod-clause-sees
unfolding view_then
returns-in-Mod-clause-sees c es h = sees_in es _ _ _ c.args.entry.now (ap (λ z. view_then z pure.none) c.in-Mod.is) (sees_mod es _ _ _ _ h)

pub returns-in-Mty-clause-sees : goal.returns-in-Mty-clause-sees
unfolding view_then
returns-in-Mty-clause-sees c es h = sees_in es _ _ _ c.args.entry.now (ap (λ z. view_then z pure.none) c.in-Mty.is) (sees_mty es _ _ _ _ h)
