-- The sentences of sources that are outside the language, and of folders that have no meaning (own).
use Rattle.std.specs.Prelude.{ℕ, List, [], ◌∷◌, ◌||◌, Bool, false, Option, None, Some, codes, drop, slice_get, if◌then◌else◌}
use Rattle.std.specs.Str.{bytes_eq}
use Rattle.report.specs.Pieces.{Word, join, kind_text}
use Rattle.rotor_base.specs.declared.place.Place.{Place}
use Rattle.rotor_base.specs.declared.token.FormKind.{FormKind}
use Rattle.rotor_base.specs.declared.token.FormKind.TheVariants as form
use Rattle.messages.specs.declared.kinds.Kind.TheVariants as kind
use Rattle.messages.specs.declared.parts.Message.{Message}
use Rattle.refusal_words.specs.declared.faults.LexFault.{LexFault}
use Rattle.refusal_words.specs.declared.faults.LexFault.TheVariants as fault
use Rattle.refusal_words.specs.Cut.{Cut}
use Rattle.refusal_words.specs.Faults.{rest_fault}
use Rattle.refusal_words.specs.Parts.{around, bare, note_at, placed}
use Rattle.refusal_words.specs.Stretches.{byte_spot, place_spot, word_at, word_before}

-- what is said of a byte at which the lexer stops
abbrev pub lex_text : LexFault → Word
lex_text fault.Comment = codes "this comment does not end"
lex_text fault.Attribute = codes "this attribute does not end"
lex_text fault.String = codes "this string does not end"
lex_text fault.QuotedString = codes "this quoted string does not end"
lex_text fault.ByteOrderMark = codes "a byte order mark stands here; save the file without it"
lex_text fault.OutsideAscii = codes "a character outside ASCII stands here; names are written in ASCII"
lex_text fault.Number = codes "a letter, digit or quote follows this number directly"
lex_text fault.Label = codes "this label's name is a keyword or `_`"
lex_text fault.Quote = codes "this quote begins neither a character nor a type variable"
lex_text fault.Other = codes "no token begins here"

abbrev pub cut_fault : Option Cut → ℕ → LexFault
cut_fault (Some cut) offset = rest_fault offset (drop offset cut.bytes)
cut_fault None offset = fault.Other

-- what begins at a byte at which the lexer stops
abbrev pub lex_fault : List Cut → ℕ → ℕ → LexFault
lex_fault cuts file offset = cut_fault (slice_get cuts file) offset

abbrev pub lex_refused : List Cut → ℕ → ℕ → Message
lex_refused cuts file offset = placed kind.Lex (lex_text (lex_fault cuts file offset)) (byte_spot cuts file offset) [] None

abbrev pub long_name : List Cut → ℕ → ℕ → Message
long_name cuts file offset = placed kind.LongName (codes "this name has more than 255 bytes") (byte_spot cuts file offset) [] None

-- a form, as the subject of its sentence, with the verb
abbrev pub subject_of : FormKind → Word
subject_of form.Object = codes "classes and objects are"
subject_of form.Package = codes "first-class modules are"
subject_of form.RecModule = codes "recursive modules are"
subject_of form.AbsModType = codes "a module type without a definition is"
subject_of form.WithModule = codes "`with module` is"
subject_of form.LocalModule = codes "`let module` with anything but a module path or an application is"
subject_of form.OpenStruct = codes "`open struct` is"
subject_of form.Extension = codes "extension nodes are"
subject_of form.BindOp = codes "binding operators are"
subject_of form.Hash = codes "operators that begin with # are"
subject_of form.AmpOr = codes "the operators `&` and `or` are"

abbrev pub form_refused : List Cut → Place → FormKind → Message
form_refused cuts at f =
    placed kind.Form (join (subject_of f ∷ codes " outside the language that rotor reads (" ∷ kind_text f ∷ codes ")" ∷ [])) (place_spot cuts at) []
    (Some (codes "write it otherwise; in a folder without this file a renaming would miss the uses in it"))

abbrev pub too_deep : List Cut → Place → Message
too_deep cuts at = placed kind.Deep (codes "here the nesting is more than 256") (place_spot cuts at) [] None

-- of a source that no reading covers, at its first byte
abbrev pub unread : List Cut → ℕ → Message
unread cuts file =
    placed kind.Syntax (codes "this file is no OCaml, or OCaml that rotor does not read") (byte_spot cuts file 0) []
    (Some (codes "if OCaml accepts this file, it uses a form that rotor does not read (USING, `syntax`)"))

abbrev pub on_cycle : Word → Message
on_cycle unit =
    bare kind.Cycle (around (codes "the unit `") unit (codes "` needs itself through other units"))
    (Some (codes "write the link order into rotor.units, one unit a line"))

abbrev pub duplicate : List Cut → Place → Place → Message
duplicate cuts first again =
    placed kind.Duplicate (around (codes "`") (word_at cuts again) (codes "` is bound twice in one pattern or `let`")) (place_spot cuts again)
    (note_at cuts first (codes "bound here already") ∷ []) None

abbrev pub heavy : List Cut → Place → Message
heavy cuts at =
    placed kind.Heavy (codes "the modules up to here have more parts than rotor resolves") (place_spot cuts at) []
    (Some (codes "split the folder, or the module that is copied most"))

abbrev pub unmatched_item : List Cut → Place → Message
unmatched_item cuts item =
    placed kind.Unmatched
    (around (codes "`") (word_at cuts item) (codes "` is asked for here, and the module that is matched with this signature has no such value"))
    (place_spot cuts item) [] (Some (codes "OCaml refuses this too; make the folder compile first"))

abbrev pub unmatched_side : List Cut → Place → Message
unmatched_side cuts item =
    placed kind.Unmatched (around (codes "`") (word_at cuts item) (codes "` is not bound on each side of this or-pattern")) (place_spot cuts item)
    [] None

-- the word begins an item of a signature that declares a value
abbrev pub begins_item : List ℕ → Bool
begins_item word = bytes_eq word (codes "val") || bytes_eq word (codes "external")

-- such a word precedes a token, or the parenthesis before it
abbrev pub is_cut_item : Cut → ℕ → Bool
is_cut_item cut number =
    if bytes_eq (word_before cut.lexemes number 1) (codes "(") then begins_item (word_before cut.lexemes number 2)
    else begins_item (word_before cut.lexemes number 1)

abbrev pub is_item_among : Option Cut → ℕ → Bool
is_item_among (Some cut) number = is_cut_item cut number
is_item_among None number = false

abbrev pub is_signature_item : List Cut → Place → Bool
is_signature_item cuts p = is_item_among (slice_get cuts p.file) p.token

-- a signature asks for an item, or one side of an or-pattern lacks it
abbrev pub unmatched : List Cut → Place → Message
unmatched cuts item = if is_signature_item cuts item then unmatched_item cuts item else unmatched_side cuts item
