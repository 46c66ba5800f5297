use Rattle.std.proofs.Common.{◌++◌, ap, ◌∙◌}
use Rattle.percent_encoding.specs.Percent.{percent_encode}
use Rattle.document_uris.specs.Written.{path_of}
use Rattle.document_uris.specs.declared.writing.TheConstants.{ESCAPED}
use Rattle.document_uris.proofs.Escapes.{escaped_is}
use Rattle.document_uris.proofs.writing.write_uri.Goals as goal

pub returns : goal.returns
returns c =
    let text = c.utf8_percent_encode.ensures.text
    ∙ ap (percent_encode ESCAPED) (c.as_str.ensures.value ∙ c.in_ok-path.ensures) ∙ escaped_is (path_of c.args.folder.now c.args.name.now) in
    c.in_ok-append_to.ensures.ok ∙ (λ i. c.in_ok-uri.ensures.ok i ++ text i)
