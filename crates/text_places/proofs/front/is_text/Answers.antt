use Rattle.std.proofs.Common.{◌≡◌, take, ap, ◌∙◌}
use Rattle.std.specs.Str.{is_utf8}
use Rattle.std.proofs.lemmas.List.{take_min}
use Rattle.text_places.proofs.Texts.{is_ok_utf8}
use Rattle.text_places.proofs.front.is_text.Goals as goal

pub returns : goal.returns
returns c =
    let same : take c.min.result c.args.bytes.now ≡ take c.args.len c.args.bytes.now
    = ap (λ n. take n c.args.bytes.now) c.min.ensures ∙ take_min c.args.len c.args.bytes.now in
    c.is_ok.ensures.value ∙ is_ok_utf8 (take c.min.result c.args.bytes.now) c.from_utf8.result _ _ (λ x h. h.1) (λ e h. h.0) c.from_utf8.ensures.cases
    ∙ ap is_utf8 same
