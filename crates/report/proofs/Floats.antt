-- No report has a number that is no integer.
use Rattle.std.proofs.Common.{◌≡◌, ◌∙◌, ℕ, false, List, [], ◌∷◌, ◌++◌, map, Option, Some, None, Result, Ok, Err, refl, ap}
use Rattle.std.specs.Prelude.{IfOk}
use Rattle.serde_json.specs.Data.{Data}
use Rattle.serde_json.specs.View.{items_of, view}
use Rattle.serde_json.specs.Written.{compact_text, has_float, items_have_float}
use Rattle.serde_json.specs.declared.value.Value.{Value}
use Rattle.rotor_base.specs.declared.report.Outcome.{Outcome}
use Rattle.rotor_base.specs.declared.report.Outcome.TheVariants.{Done, Checked, Shown, Sampled, Refused, NotLoaded, BadWords}
use Rattle.report.specs.declared.notice.Notice.{Notice}
use Rattle.report.specs.Pieces.{Word, file_of, place_text}
use Rattle.report.specs.Notice.{load_notice, refusal_notice, value_of}
use Rattle.report.specs.Lines.{lines_of}
use Rattle.report.specs.Json.{data_of, lines_data, notice_data, text_data}
use Rattle.report.specs.Text.{ended}

texts_plain : (ws : List Word) → items_have_float (items_of (map text_data ws)) ≡ false
texts_plain [] = refl
texts_plain (w ∷ ws) = texts_plain ws

lines_plain : (lines : List Word) → has_float (lines_data lines) ≡ false
lines_plain lines = rw (texts_plain lines) refl

pub notice_plain : (notice : Option Notice) → has_float (notice_data notice) ≡ false
notice_plain None = refl
notice_plain (Some notice) = rw (texts_plain (map value_of notice.parts)) refl

pub data_plain : (names : List Word) (outcome : Outcome) → has_float (data_of names outcome) ≡ false
data_plain names (Done done) = rw (texts_plain (map (file_of names) done.changed), texts_plain (map (place_text names) done.foot.decls)) refl
data_plain names (Checked counts) = lines_plain (lines_of names (Checked counts))
data_plain names (Shown shown) = lines_plain (lines_of names (Shown shown))
data_plain names (Sampled sampled) = lines_plain (lines_of names (Sampled sampled))
data_plain names (Refused refusal) = notice_plain (refusal_notice names refusal)
data_plain names (NotLoaded error) = notice_plain (load_notice error)
data_plain names BadWords = lines_plain (lines_of names BadWords)

-- the text of an object and its end
pub ended_text : (made known : Data) (text all : List ℕ) → made ≡ known → has_float known ≡ false
    → (has_float made ≡ false → text ≡ compact_text made) → all ≡ text ++ 10 ∷ [] → all ≡ ended (compact_text known)
ended_text made known text all d f t a = a ∙ ap (λ bytes. bytes ++ 10 ∷ []) (t (ap has_float d ∙ f) ∙ ap compact_text d)

-- a value with the data of a report has no such number
pub value_plain : {E : Type 0} (result : Result Value E) (given : Data) → has_float given ≡ false → IfOk result (λ value. view value ≡ given)
    → IfOk result (λ value. has_float (view value) ≡ false)
value_plain (Ok value) given plain is = ap has_float is ∙ plain
value_plain (Err error) given plain is = is
