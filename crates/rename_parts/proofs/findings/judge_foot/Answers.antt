use Rattle.std.proofs.Common.{◌≡◌, inl, List, ap, subst, ◌∙◌}
use Rattle.rotor_base.specs.declared.place.Place.{Place}
use Rattle.rotor_base.specs.declared.place.Ref.{Ref}
use Rattle.rotor_base.specs.declared.place.Facts.{Facts}
use Rattle.value_sites.specs.Places.{Site}
use Rattle.binding_model.specs.Facts.{facts}
use Rattle.rename_model.specs.Foot.{hits}
use Rattle.rename_parts.specs.Hits.{all_hits}
use Rattle.rename_parts.proofs.Judged.{judged}
use Rattle.rename_parts.proofs.Rungs.{Told}
use Rattle.rename_parts.proofs.findings.judge_foot.Goals as goal

pub returns-in-Some-clause-refused : goal.returns-in-Some-clause-refused
returns-in-Some-clause-refused c = λ us d at is n.
    let foot = c.args.watch.now.foot in
    let listed : c.deref-2.result.now ≡ hits (facts us).refs foot = c.deref-2.ensures.value
    ∙ (c.in_ok-list.ensures ∙ ap (λ (rs : List Ref). hits rs foot) (c.as_slice.ensures ∙ ap (λ (f : Facts). f.refs) is)) in
    let found = c.find_all-found in
    let all : Told us d foot c.args.watch.now.new c.first_refusal.result =
    judged us c.args.facts.now foot c.args.watch.now.new c.args.watch.now.old c.args.members.now c.deref-3.result.now is c.requires.members
    (c.deref-3.ensures.value ∙ (c.in_ok-marks.ensures ∙ (ap (λ (ps : List Place). all_hits ps c.args.placed.now) listed
    ∙ ap (λ (ls : List (Place × Site)). all_hits (hits (facts us).refs foot) ls) at)))
    found.result found.ensures.operator found.ensures.valid found.ensures.same found.ensures.outside
    found.ensures.pun found.ensures.blurred c.first_refusal.result c.first_refusal.ensures d n in
    inl (subst (Told us d foot c.args.watch.now.new) c.in-Some.is all)

pub returns-in-None-clause-free : goal.returns-in-None-clause-free
returns-in-None-clause-free c = λ us d at is n.
    let foot = c.args.watch.now.foot in
    let listed : c.deref-2.result.now ≡ hits (facts us).refs foot = c.deref-2.ensures.value
    ∙ (c.in_ok-list.ensures ∙ ap (λ (rs : List Ref). hits rs foot) (c.as_slice.ensures ∙ ap (λ (f : Facts). f.refs) is)) in
    let found = c.find_all-found in
    let all : Told us d foot c.args.watch.now.new c.first_refusal.result =
    judged us c.args.facts.now foot c.args.watch.now.new c.args.watch.now.old c.args.members.now c.deref-3.result.now is c.requires.members
    (c.deref-3.ensures.value ∙ (c.in_ok-marks.ensures ∙ (ap (λ (ps : List Place). all_hits ps c.args.placed.now) listed
    ∙ ap (λ (ls : List (Place × Site)). all_hits (hits (facts us).refs foot) ls) at)))
    found.result found.ensures.operator found.ensures.valid found.ensures.same found.ensures.outside
    found.ensures.pun found.ensures.blurred c.first_refusal.result c.first_refusal.ensures d n in
    subst (Told us d foot c.args.watch.now.new) c.in-None.is all
