use Rattle.std.proofs.Common.{◌∙◌, Bor, List, ℕ, ap, arith, length, map, refl, string_bytes}
use Rattle.std.proofs.lemmas.Option.{slice_get_read}
use Rattle.folder_messages.proofs.Lining.{beyond, line_explained, lines_short, missing_explained, none_there, word_there}
use Rattle.folder_messages.proofs.manifest.manifest_message.Goals as goal

pub line_message-requires-clause-short : goal.line_message-requires-clause-short
line_message-requires-clause-short c =
    lines_short (length c.args.bytes.now) c.args.bytes.now (omega arith) c.saturating_sub-before.result c.in-Some.word.now.now
    (word_there c.deref.result.now c.in_ok-lines.lines.items c.args.bytes.now c.saturating_sub-before.result c.in-Some.word.now
    c.deref.ensures.value c.in_ok-lines.ensures
    (slice_get_read c.deref.result.now (length c.deref.result.now) c.saturating_sub-before.result c.in-Some.word.now refl
    c.in-Some.ensures.lookup.3.0 c.in-Some.ensures.lookup.1))

pub returns-in-Some : goal.returns-in-Some
returns-in-Some c =
    line_explained c.args.bytes.now (map string_bytes c.args.names.now) c.args.line c.saturating_sub-before.result c.in-Some.word.now.now
    c.in_ok-line_message-in-Some.field-0 c.saturating_sub-before.ensures
    (word_there c.deref.result.now c.in_ok-lines.lines.items c.args.bytes.now c.saturating_sub-before.result c.in-Some.word.now
    c.deref.ensures.value c.in_ok-lines.ensures
    (slice_get_read c.deref.result.now (length c.deref.result.now) c.saturating_sub-before.result c.in-Some.word.now refl
    c.in-Some.ensures.lookup.3.0 c.in-Some.ensures.lookup.1))
    c.in_ok-line_message-in-Some.ensures

pub returns : goal.returns
returns c =
    missing_explained c.missing_message.result (map (λ (line : Bor (List ℕ)). line.now) c.deref-in-None.result.now) c.args.bytes.now
    (map string_bytes c.args.names.now) c.args.line c.saturating_sub-before.result c.saturating_sub-before.ensures
    (ap (map (λ (line : Bor (List ℕ)). line.now)) c.deref-in-None.ensures.value ∙ c.in_ok-lines.ensures)
    (none_there c.deref.result.now c.in_ok-lines.lines.items c.args.bytes.now c.saturating_sub-before.result c.deref.ensures.value
    c.in_ok-lines.ensures
    (beyond c.deref.result.now c.saturating_sub-before.result c.in-None.ensures.lookup.3))
    c.missing_message.ensures
