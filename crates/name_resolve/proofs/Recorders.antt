-- What look-ups add to a recorder is what their steps add.
use Rattle.std.proofs.Common.{◌≡◌, ℕ, suc, ◌+◌, List, [], ◌∷◌, ◌++◌, length, map, Option, Some, None, refl, sym, ap, ◌∙◌, append-nil, arith}
use Rattle.rotor_base.specs.declared.place.Place.{Place}
use Rattle.rotor_base.specs.declared.looks.Watch.{Watch}
use Rattle.rotor_base.specs.declared.looks.RefLook.{RefLook}
use Rattle.rotor_base.specs.declared.looks.LinkLook.{LinkLook}
use Rattle.rotor_base.specs.declared.looks.Looks.{Looks}
use Rattle.shape_core.specs.Shape.{Name, Shape, Struct, Functor, Unitary, Opaque, Entries, value_at, value_in}
use Rattle.shape_core.specs.Links.{pin, matched}
use Rattle.shape_core.specs.Looks.{look, numbered, match_looks, pin_looks}
use Rattle.binding_model.specs.declared.found.Recorder.{Recorder}
use Rattle.binding_model.specs.Steps.{UseAlone, UseUnder, MatchOf, PinOf}
use Rattle.binding_model.specs.Looks.{ref_look}
use Rattle.binding_model.specs.Taken.{more_looks, recorded}
use Rattle.binding_model.proofs.Takings.{looks_alike}
use Rattle.name_resolve.specs.Recorded.{use_recorded, moved, joined_looks}

-- references
refs_more : (r : Recorder) (xs : List RefLook) → record r { looks = record r.looks { refs = r.looks.refs ++ xs } }
    ≡ record r { looks = record { refs = r.looks.refs ++ xs; links = r.looks.links ++ []; passed = r.looks.passed + 0 } }
refs_more r xs = ap (λ l. record r { looks = l }) (looks_alike refl (sym (append-nil r.looks.links)) (omega arith))

refs_none : (r : Recorder) → r ≡ record r { looks = record { refs = r.looks.refs ++ []; links = r.looks.links ++ []; passed = r.looks.passed + 0 } }
refs_none r = ap (λ l. record r { looks = l }) (looks_alike (sym (append-nil r.looks.refs)) (sym (append-nil r.looks.links)) (omega arith))

pub uses_alone : (r : Option Recorder) (at : Place) (x : Name) (sc : Entries) → use_recorded r at x (value_at sc x) sc ≡ recorded r (UseAlone at x sc)
uses_alone None at x sc = refl
uses_alone (Some r) at x sc = ap Some (refs_more r (ref_look r.watch at x (value_at sc x) sc))

pub under_struct : (r : Option Recorder) (at : Place) (x : Name) (es : Entries) → use_recorded r at x (value_in (Struct es) x) es ≡ recorded r
    (UseUnder at x (Struct es))
under_struct None at x es = refl
under_struct (Some r) at x es = ap Some (refs_more r (ref_look r.watch at x (value_in (Struct es) x) es))

pub under_functor : (r : Option Recorder) (at : Place) (x : Name) (p q : Shape) → recorded r (UseUnder at x (Functor p q)) ≡ r
under_functor None at x p q = refl
under_functor (Some r) at x p q = sym (ap Some (refs_none r))

pub under_unitary : (r : Option Recorder) (at : Place) (x : Name) (q : Shape) → recorded r (UseUnder at x (Unitary q)) ≡ r
under_unitary None at x q = refl
under_unitary (Some r) at x q = sym (ap Some (refs_none r))

pub under_opaque : (r : Option Recorder) (at : Place) (x : Name) → recorded r (UseUnder at x Opaque) ≡ r
under_opaque None at x = refl
under_opaque (Some r) at x = sym (ap Some (refs_none r))

pub ruleset uses_under = (under_struct, under_functor, under_unitary, under_opaque)

-- links
moved_on : (p n : ℕ) (os : List (Option LinkLook)) → map (moved p) (numbered n os) ≡ numbered (p + n) os
moved_on p n [] = refl
moved_on p n (None ∷ os) = let e : p + suc n ≡ suc (p + n) = omega arith in moved_on p (suc n) os ∙ ap (λ k. numbered k os) e
moved_on p n (Some l ∷ os) =
    let e : p + suc n ≡ suc (p + n) = omega arith in
    ap (λ z. record l { number = p + n } ∷ z) (moved_on p (suc n) os ∙ ap (λ k. numbered k os) e)

joined_so : (ls : Looks) (os : List (Option LinkLook)) → joined_looks ls (record { refs = []; links = numbered 0 os; passed = length os })
    ≡ record { refs = ls.refs ++ []; links = ls.links ++ numbered ls.passed os; passed = ls.passed + length os }
joined_so ls os =
    let e : ls.passed + 0 ≡ ls.passed = omega arith in
    looks_alike (sym (append-nil ls.refs)) (ap (λ l. ls.links ++ l) (moved_on ls.passed 0 os ∙ ap (λ k. numbered k os) e)) refl

pub match_recorded : (w : Watch) (ls : Looks) (s t : Shape) → joined_looks ls (match_looks w s t) ≡ more_looks w ls (MatchOf s t)
match_recorded w ls s t = joined_so ls (matched (look w) s t).told

pub pin_recorded : (w : Watch) (ls : Looks) (s : Shape) → joined_looks ls (pin_looks w s) ≡ more_looks w ls (PinOf s)
pin_recorded w ls s = joined_so ls (pin (look w) s).told
