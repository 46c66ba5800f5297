-- What is said of a source that is not read.
use Rattle.std.proofs.Common.{◌≡◌, ◌≤◌, ℕ, List, Bool, Result, Ok, Err, IfOk, length, ap, sym, subst, ◌∙◌}
use Rattle.rotor_base.specs.declared.token.Token.{Token}
use Rattle.ml_lexer.specs.Lexed.{view_tokens}
use Rattle.messages.specs.declared.parts.Message.{Message}
use Rattle.parse_module.specs.declared.files.FileKind.{FileKind}
use Rattle.project_reading.specs.Source.{kind_of_source}
use Rattle.refusal_words.specs.Cut.{view_cut}
use Rattle.refusal_words.specs.declared.cut.CutSource.{CutSource}
use Rattle.refusal_places.specs.Front.{front_of}
use Rattle.refusal_places.specs.Unread.{SaysUnread, unread_at}
use Rattle.refusal_places.proofs.Fronts.{viewed}

-- the front, the stop and the message are those of a source
pub said_unread : {E : Type 0} (cut : CutSource) (k : FileKind) (ts us : List Token) (front stop : ℕ) (ends : Bool) (result : Result Message E)
    → k ≡ kind_of_source cut.name.now → ts ≡ cut.tokens.items → us ≡ cut.tokens.items → front ≡ front_of k (view_tokens ts) → front ≤ stop
    → stop ≤ length us → IfOk result (λ message. message ≡ unread_at (view_cut cut) front stop ends)
    → IfOk result (SaysUnread (view_cut cut))
said_unread cut k ts us front stop ends (Err e) kind these those is behind within h = tt
said_unread cut k ts us front stop ends (Ok message) kind these those is behind within h =
    let here : front ≡ front_of (kind_of_source cut.name.now) (view_tokens cut.tokens.items)
    = is ∙ ap (λ (l : List Token). front_of k (view_tokens l)) these ∙ ap (λ (x : FileKind). front_of x (view_tokens cut.tokens.items)) kind in
    record {
      stop = stop;
      ends = ends;
      behind_front = subst (λ (n : ℕ). n ≤ stop) here behind;
      within = subst (λ (n : ℕ). stop ≤ n) (ap (λ (l : List Token). length l) those ∙ sym (viewed cut.tokens.items)) within;
      says = h ∙ ap (λ (n : ℕ). unread_at (view_cut cut) n stop ends) here;
    }
