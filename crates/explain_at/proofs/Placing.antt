-- What is said of a place.
use Rattle.std.proofs.Common.{◌≡◌, List, Result, Ok, Err, IfOk, inl, inr, subst, ap, ◌∙◌}
use Rattle.rotor_base.specs.Files.{FileSet}
use Rattle.rotor_base.specs.declared.refusal.Refusal.{Refusal}
use Rattle.ml_trees.specs.Tree.{UnitTree}
use Rattle.project_reading.specs.Reads.{IsRefused}
use Rattle.rename_files.specs.Answer.{Checks}
use Rattle.rename_project.specs.Steps.{IsRefusedFor}
use Rattle.explain.specs.declared.explanation.Explanation.{Explanation}
use Rattle.std.specs.Prelude.{ℕ, Some, None, slice_get}
use Rattle.report.specs.Pieces.{Word}
use Rattle.rotor_base.specs.declared.place.Place.{Place}
use Rattle.rotor_base.specs.declared.source.SourceFile.{SourceFile}
use Rattle.text_places.specs.declared.counting.Counting.TheVariants.{People}
use Rattle.text_places.specs.declared.counting.Position.{Position}
use Rattle.text_places.specs.Marks.{offset_of}
use Rattle.value_at.specs.declared.value.ValueAt.{ValueAt}
use Rattle.value_at.specs.declared.value.ValueAt.TheVariants as value
use Rattle.value_at.specs.Cursor.{token_at}
use Rattle.value_at.specs.Value.{IsValueAt}
use Rattle.rename_model.specs.Target.{number_of}
use Rattle.messages.specs.declared.parts.Message.{Message}
use Rattle.refusal_words.specs.Cut.{Cut}
use Rattle.refusal_words.specs.Target.{nameless}
use Rattle.refusal_words.specs.Unnamed.{no_line, no_token_at}
use Rattle.explain_at.specs.At.{SaysCut, SaysInside, SaysPlace, SaysSpot, at_token, between, declared, has, nothing, past_lines}
use Rattle.explain_at.specs.At.{explanation_of_target, refused_at, valueless}

pub if_ok_as : {A E : Type 0} (result : Result A E) (P Q : A → Type 0) → ((a : A) → P a → Q a) → IfOk result P → IfOk result Q
if_ok_as (Ok a) P Q f h = f a h
if_ok_as (Err e) P Q f h = h

-- the refusals of `check`
pub unread : (files : FileSet) (why : Refusal) → IsRefused files why → IsRefusedFor (λ w. Checks files (Err w)) why
unread files why (inl h) = inl (inl h)
unread files why (inr h) = inr h

-- ---- a token

module _ (us : List UnitTree) (cuts : List Cut) (p : Place) where
  pub said_declared : {E : Type 0} (found : ValueAt) (d : Place) (result : Result Explanation E) → IsValueAt us p found → found ≡ value.Value d
      → IfOk result (λ explanation. explanation ≡ explanation_of_target cuts d) → IfOk result (SaysPlace us cuts p)
  said_declared found d (Err e) at is h = tt
  said_declared found d (Ok explanation) at is h = declared d (subst (IsValueAt us p) is at) h

  pub said_nothing : {E : Type 0} (found : ValueAt) (message : Message) (result : Result Explanation E) → IsValueAt us p found
      → ((d : Place) → found ≡ value.Value d → ⊥) → message ≡ valueless cuts p found → IfOk result (λ explanation. explanation ≡ refused_at message)
      → IfOk result (SaysPlace us cuts p)
  said_nothing found message (Err e) at none is h = tt
  said_nothing found message (Ok explanation) at none is h = nothing found at none (h ∙ ap refused_at is)

-- ---- a line and a column

module _ (us : List UnitTree) (cuts : List Cut) (number : ℕ) (cut : Cut) (here : Position) (there : slice_get cuts number ≡ Some cut) where
  inside : {E : Type 0} (result : Result Explanation E) → IfOk result (SaysInside us cuts number cut here) → IfOk result (SaysCut us cuts number here)
  inside (Err e) h = tt
  inside (Ok explanation) h = (cut, there, h)

  pub said_past : {E : Type 0} (sentence : Word) (message : Message) (result : Result Explanation E) → offset_of People here cut.bytes ≡ None
      → sentence ≡ no_line cut.name here.line → message ≡ nameless sentence → IfOk result (λ explanation. explanation ≡ refused_at message)
      → IfOk result (SaysCut us cuts number here)
  said_past sentence message result none is so h =
      inside result (if_ok_as result (λ explanation. explanation ≡ refused_at message) (SaysInside us cuts number cut here)
      (λ explanation e. past_lines none (e ∙ ap refused_at (so ∙ ap nameless is))) h)

  pub said_between : {E : Type 0} (offset : ℕ) (sentence : Word) (message : Message) (result : Result Explanation E)
      → offset_of People here cut.bytes ≡ Some offset → token_at offset cut.lexemes ≡ None
      → sentence ≡ no_token_at cut.name here.line here.column → message ≡ nameless sentence
      → IfOk result (λ explanation. explanation ≡ refused_at message)
      → IfOk result (SaysCut us cuts number here)
  said_between offset sentence message result at none is so h =
      inside result (if_ok_as result (λ explanation. explanation ≡ refused_at message) (SaysInside us cuts number cut here)
      (λ explanation e. between offset at none (e ∙ ap refused_at (so ∙ ap nameless is))) h)

  pub said_token : {E : Type 0} (offset token : ℕ) (result : Result Explanation E) → offset_of People here cut.bytes ≡ Some offset
      → token_at offset cut.lexemes ≡ Some token → IfOk result (SaysPlace us cuts (record { file = number; token = token }))
      → IfOk result (SaysCut us cuts number here)
  said_token offset token result at is h =
      inside result (if_ok_as result (SaysPlace us cuts (record { file = number; token = token })) (SaysInside us cuts number cut here)
      (λ explanation says. at_token offset token at is says) h)

pub said_has : {E : Type 0} (files : List SourceFile) (us : List UnitTree) (cuts : List Cut) (file : Word) (here : Position) (number : ℕ)
    (result : Result Explanation E) → number_of files file ≡ Some number → IfOk result (SaysCut us cuts number here)
    → IfOk result (SaysSpot files us cuts file here)
said_has files us cuts file here number result at h =
    if_ok_as result (SaysCut us cuts number here) (SaysSpot files us cuts file here) (λ explanation says. has number at says) h
