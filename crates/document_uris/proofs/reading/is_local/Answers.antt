use Rattle.std.proofs.Common.{◌≡◌, ◌==◌, Bool, false, ◌||◌, codes, length, sym, ap, ◌∙◌}
use Rattle.document_uris.specs.Uris.{is_same_word}
use Rattle.document_uris.proofs.Words.{longer_word, same_word}
use Rattle.document_uris.proofs.reading.is_local.Goals as goal

pub returns-else-is_empty : goal.returns-else-is_empty
returns-else-is_empty c =
    let some : (length c.args.host.now == 0) ≡ false = sym c.is_empty.ensures ∙ c.if-is_empty.false in
    same_word c.args.host.now (codes "localhost") c.eq_ignore_ascii_case.result c.eq_ignore_ascii_case.ensures.test
    ∙ ap (λ (empty : Bool). empty || is_same_word c.args.host.now (codes "localhost")) (sym (longer_word c.args.host.now some))
