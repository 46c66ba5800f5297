-- The JSON of a report: one object in compact form with its keys in byte order, and LF (own).
use Rattle.std.specs.Prelude.{ℕ, List, [], ◌∷◌, map, Option, Some, None, codes}
use Rattle.std.specs.Str.Lossy.{utf8_lossy}
use Rattle.serde_json.specs.Data.{Data, array, object, string, number, unsigned, member, no_members}
use Rattle.serde_json.specs.View.{items_of}
use Rattle.serde_json.specs.Written.{compact_text}
use Rattle.rotor_base.specs.declared.report.Renamed.{Renamed}
use Rattle.rotor_base.specs.declared.report.Outcome.{Outcome}
use Rattle.rotor_base.specs.declared.report.Outcome.TheVariants.{Done, Refused, NotLoaded}
use Rattle.report.specs.declared.notice.Notice.{Notice}
use Rattle.report.specs.Pieces.{Word, file_of, place_text}
use Rattle.report.specs.Notice.{load_notice, refusal_notice, subject_text, value_of}
use Rattle.report.specs.Lines.{lines_of}
use Rattle.report.specs.Text.{ended}

-- a text; bytes that are no UTF-8 are U+FFFD in it
abbrev pub text_data : Word → Data
text_data word = string (utf8_lossy word)

-- a list of texts
abbrev pub texts : List Word → Data
texts words = array (items_of (map text_data words))

abbrev pub done_members : Data → Data → ℕ → Data → Data → Data
done_members changed declarations references rename undo =
    object (member (codes "changed") changed
    (member (codes "declarations") declarations
    (member (codes "references") (number (unsigned references))
    (member (codes "rename") rename
    (member (codes "undo") undo no_members)))))

abbrev pub done_data : List Word → Renamed → Data
done_data names done =
    done_members (texts (map (file_of names) done.changed)) (texts (map (place_text names) done.foot.decls)) done.refs
    (texts (done.old ∷ done.new ∷ [])) (texts (place_text names done.undo_at ∷ done.old ∷ []))

abbrev pub lines_data : List Word → Data
lines_data lines = object (member (codes "lines") (texts lines) no_members)

abbrev pub notice_data : Option Notice → Data
notice_data None = lines_data []
notice_data (Some notice) = object (member (subject_text notice.subject) (texts (map value_of notice.parts)) no_members)

abbrev pub data_of : List Word → Outcome → Data
data_of names (Done done) = done_data names done
data_of names (Refused refusal) = notice_data (refusal_notice names refusal)
data_of names (NotLoaded error) = notice_data (load_notice error)
data_of names outcome = lines_data (lines_of names outcome)

abbrev pub json_of : List Word → Outcome → List ℕ
json_of names outcome = ended (compact_text (data_of names outcome))

-- the JSON of a refusal
abbrev pub notice_json : Option Notice → List ℕ
notice_json notice = ended (compact_text (notice_data notice))
