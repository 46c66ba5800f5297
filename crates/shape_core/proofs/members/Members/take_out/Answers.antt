use Rattle.std.proofs.Common.{◌≡◌, ◌∙◌, ◌++◌, ◌<◌, [], ◌∷◌, cond, ap, sym, subst, length, arith}
use Rattle.shape_core.specs.declared.index.Spot.{Spot}
use Rattle.shape_core.specs.Node.{entries_of}
use Rattle.shape_core.specs.Shape.{darks}
use Rattle.shape_core.specs.Index.{position_is, position_of}
use Rattle.shape_core.specs.Members.{dark_of, final, spot_at, spots_of}
use Rattle.shape_core.proofs.Noted.{gone, dark_gone, value_gone, value_darks, noted_all, entry_is}
use Rattle.shape_core.proofs.Telling.{front_of}
use Rattle.shape_core.proofs.members.Members.take_out.Goals as goal

pub returns-then-is_spot : goal.returns-then-is_spot
returns-then-is_spot c list e h =
    let m = c.args.self.now in
    let k = entry_is m list c.args.entry.now _ c.in-Val.is h in
    let lt : c.args.left < m.noted = omega (arith, c.if-self-left.false) in
    let is : c.is_spot.result ≡ position_is c.args.left (position_of (final m.spots.items)) = c.is_spot.ensures
    ∙ ap (λ o. position_is c.args.left (position_of o)) (c.final_spot.ensures ∙ ap final c.deref.ensures.value) in
    let there = value_gone m list c.in-Val.field-0 c.in-Val.field-1 c.args.left c.is_spot.result k e lt is in
    let last : (s : Spot) × (m.spots.items ≡ spots_of m.decls.items list ++ s ∷ []) =
    subst (λ b. cond b ((s : Spot) × (m.spots.items ≡ spots_of m.decls.items list ++ s ∷ [])) (m.spots.items ≡ spots_of m.decls.items list))
    c.if-is_spot.true there in
    noted_all (record { decls = m.decls; noted = c.args.left; spots = c.pop.new.self; darks = m.darks }) list (sym e)
    (c.pop.ensures.rest ∙ front_of m.spots (spots_of m.decls.items list) last.0 last.1)
    (value_darks m list c.in-Val.field-0 c.in-Val.field-1 c.args.left k e lt)

pub returns-else-is_spot : goal.returns-else-is_spot
returns-else-is_spot c list e h =
    let m = c.args.self.now in
    let k = entry_is m list c.args.entry.now _ c.in-Val.is h in
    let lt : c.args.left < m.noted = omega (arith, c.if-self-left.false) in
    let is : c.is_spot.result ≡ position_is c.args.left (position_of (final m.spots.items)) = c.is_spot.ensures
    ∙ ap (λ o. position_is c.args.left (position_of o)) (c.final_spot.ensures ∙ ap final c.deref.ensures.value) in
    let there = value_gone m list c.in-Val.field-0 c.in-Val.field-1 c.args.left c.is_spot.result k e lt is in
    let none : m.spots.items ≡ spots_of m.decls.items list =
    subst (λ b. cond b ((s : Spot) × (m.spots.items ≡ spots_of m.decls.items list ++ s ∷ [])) (m.spots.items ≡ spots_of m.decls.items list))
    c.if-is_spot.false there in
    noted_all (record { decls = m.decls; noted = c.args.left; spots = m.spots; darks = m.darks }) list (sym e) none
    (value_darks m list c.in-Val.field-0 c.in-Val.field-1 c.args.left k e lt)

pub returns-in-Mod : goal.returns-in-Mod
returns-in-Mod c list e h =
    let m = c.args.self.now in
    gone m list c.args.entry.now c.args.left h e (omega (arith, c.if-self-left.false))
    (ap (spot_at m.decls.items (length list) (length (darks (entries_of list)))) c.in-Mod.is) (ap dark_of c.in-Mod.is)

pub returns-in-Mty : goal.returns-in-Mty
returns-in-Mty c list e h =
    let m = c.args.self.now in
    gone m list c.args.entry.now c.args.left h e (omega (arith, c.if-self-left.false))
    (ap (spot_at m.decls.items (length list) (length (darks (entries_of list)))) c.in-Mty.is) (ap dark_of c.in-Mty.is)

pub returns-in-Dark : goal.returns-in-Dark
returns-in-Dark c list e h =
    let m = c.args.self.now in
    dark_gone m list c.args.entry.now c.args.left c.saturating_sub-self.result h e (omega (arith, c.if-self-left.false))
    (ap (spot_at m.decls.items (length list) (length (darks (entries_of list)))) c.in-Dark.is) (ap dark_of c.in-Dark.is)
    c.saturating_sub-self.ensures
