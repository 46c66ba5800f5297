-- What is said of a refusal of a project.
use Rattle.std.proofs.Common.{◌≡◌, ℕ, zero, suc, ◌<◌, ◌≤◌, List, [], ◌∷◌, All, Option, Some, None, Result, Ok, Err, IfOk, get_or, length, map}
use Rattle.std.proofs.Common.{slice_get}
use Rattle.std.proofs.Common.{refl, ap, sym, subst, ◌∙◌, arith}
use Rattle.rotor_base.specs.declared.refusal.Refusal.{Refusal}
use Rattle.messages.specs.declared.parts.Message.{Message}
use Rattle.refusal_words.specs.Cut.{Cut, view_cut}
use Rattle.refusal_words.specs.Refused.{project_message}
use Rattle.refusal_words.specs.declared.cut.CutSource.{CutSource}
use Rattle.refusal_places.specs.Circle.{SaysCircle}
use Rattle.refusal_places.specs.Placed.{SaysOf, SaysPlaced, SaysSyntax, SaysWhole, cycle_unit, syntax_file}
use Rattle.refusal_places.specs.Unread.{SaysUnread}

there : (cuts : List CutSource) (number : ℕ) (cut : CutSource) → number < length cuts → cut ≡ get_or cuts number cut
    → slice_get (map view_cut cuts) number ≡ Some (view_cut cut)
there [] number cut lt is = absurd (omega arith)
there (c ∷ cs) zero cut lt is = ap (λ (x : CutSource). Some (view_cut x)) (sym is)
there (c ∷ cs) (suc k) cut lt is = there cs k cut (omega arith) is

lacks : (cuts : List CutSource) (number : ℕ) → length cuts ≤ number → slice_get (map view_cut cuts) number ≡ None
lacks [] zero le = refl
lacks [] (suc k) le = refl
lacks (c ∷ cs) zero le = absurd (omega arith)
lacks (c ∷ cs) (suc k) le = lacks cs k (omega arith)

pub said_none : (cuts : List CutSource) (number : ℕ) → length cuts ≤ number → SaysSyntax (slice_get (map view_cut cuts) number) None
said_none cuts number le = subst (λ (o : Option Cut). SaysSyntax o None) (sym (lacks cuts number le)) refl

pub said_cut : (cuts : List CutSource) (number : ℕ) (cut : CutSource) (message : Message) → number < length cuts → cut ≡ get_or cuts number cut
    → SaysUnread (view_cut cut) message → SaysSyntax (slice_get (map view_cut cuts) number) (Some message)
said_cut cuts number cut message lt is h =
    subst (λ (o : Option Cut). SaysSyntax o (Some message)) (sym (there cuts number cut lt is)) (message, refl, h)

pub short_cut : (cuts : List CutSource) (number : ℕ) (cut : CutSource) → All (λ c. length c.tokens.items ≤ 1048576) cuts → number < length cuts
    → cut ≡ get_or cuts number cut → length cut.tokens.items ≤ 1048576
short_cut cuts number cut all lt is = subst (λ (c : CutSource). length c.tokens.items ≤ 1048576) (sym is) (all number cut lt)

pub said_other : {E : Type 0} (cuts : List Cut) (why : Refusal) (found : Option ℕ) (result : Result (Option Message) E) → found ≡ syntax_file why
    → found ≡ None → IfOk result (SaysWhole (cycle_unit why) cuts why) → IfOk result (SaysPlaced cuts why)
said_other cuts why found (Err e) is none h = tt
said_other cuts why found (Ok said) is none h = subst (λ (o : Option ℕ). SaysOf o cuts why said) (sym none ∙ is) h

pub said_syntax : {E : Type 0} (cuts : List Cut) (why : Refusal) (found : Option ℕ) (file : ℕ) (result : Result (Option Message) E)
    → found ≡ syntax_file why → found ≡ Some file → IfOk result (SaysSyntax (slice_get cuts file)) → IfOk result (SaysPlaced cuts why)
said_syntax cuts why found file (Err e) is some h = tt
said_syntax cuts why found file (Ok said) is some h = subst (λ (o : Option ℕ). SaysOf o cuts why said) (sym some ∙ is) h

pub said_circle : (cuts : List Cut) (why : Refusal) (found : Option (List ℕ)) (unit : List ℕ) (message : Message) → found ≡ cycle_unit why
    → found ≡ Some unit → SaysCircle cuts unit message → SaysWhole (cycle_unit why) cuts why (Some message)
said_circle cuts why found unit message is some h =
    subst (λ (o : Option (List ℕ)). SaysWhole o cuts why (Some message)) (sym some ∙ is) (message, refl, h)

pub said_whole : {E : Type 0} (cuts : List Cut) (why : Refusal) (found : Option (List ℕ)) (result : Result (Option Message) E)
    → found ≡ cycle_unit why
    → found ≡ None → IfOk result (λ said. said ≡ project_message cuts why) → IfOk result (SaysWhole (cycle_unit why) cuts why)
said_whole cuts why found (Err e) is none h = tt
said_whole cuts why found (Ok said) is none h = subst (λ (o : Option (List ℕ)). SaysWhole o cuts why said) (sym none ∙ is) h
