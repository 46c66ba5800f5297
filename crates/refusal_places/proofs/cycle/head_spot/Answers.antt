use Rattle.std.proofs.Common.{List, subst}
use Rattle.rotor_base.specs.declared.token.Token.{Token}
use Rattle.ml_lexer.specs.Lexed.{view_tokens}
use Rattle.parse_module.specs.declared.files.FileKind.{FileKind}
use Rattle.project_reading.specs.Source.{kind_of_source}
use Rattle.refusal_words.specs.Cut.{view_cut}
use Rattle.refusal_places.specs.Blanks.{IsFirstHead}
use Rattle.refusal_places.proofs.Needing.{spot_found}
use Rattle.refusal_places.proofs.cycle.head_spot.Goals as goal

pub returns-in-Some : goal.returns-in-Some
returns-in-Some c =
    let cut = c.args.cut.now in
    let name = c.args.name.now in
    let at = c.in-Some.at in
    let found = c.in_ok-at.ensures.found in
    let here = rw c.in-Some.is at found in
    let kind = subst (λ (k : FileKind). IsFirstHead k name (view_tokens c.deref.result.now) at) c.kind_of.ensures here in
    spot_found (view_cut cut) name at c.lexeme_spot.result
    (subst (λ (ts : List Token). IsFirstHead (kind_of_source cut.name.now) name (view_tokens ts) at) c.deref.ensures.value kind)
    c.lexeme_spot.ensures
