-- What is before the front is read.
use Rattle.std.proofs.Common.{ℕ, ◌+◌, length, true}
use Rattle.ml_syntax.specs.RespelledFile.{lexeme_toks}
use Rattle.parse_module.specs.declared.files.FileKind.TheVariants as kind
use Rattle.module_reading.specs.ModReading.{body_start, face_start, read_mod, read_type}
use Rattle.module_laws.proofs.FoundMod.{items_found, mod_reads, sig_items_found, type_reads}
use Rattle.refusal_places.specs.Laws.{FrontsEndItems}

pub fronts_end_items : FrontsEndItems
fronts_end_items kind.Body xs =
    let n : ℕ = length xs + 1 in
    let f = items_found (read_mod n) (read_type n) n (mod_reads n) (type_reads n) n true (lexeme_toks 1 xs) in
    ((body_start n (lexeme_toks 1 xs)).0, f.wf, f.words)
fronts_end_items kind.Face xs =
    let n : ℕ = length xs + 1 in
    let f = sig_items_found (read_mod n) (read_type n) n (mod_reads n) (type_reads n) (lexeme_toks 1 xs) in
    ((face_start n (lexeme_toks 1 xs)).0, f.wf, f.words)
