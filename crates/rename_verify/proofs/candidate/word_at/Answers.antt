use Rattle.std.proofs.Common.{◌≡◌, ◌∙◌, ap, subst, sym, refl, suc, List, length, slice_get, Some, arith}
use Rattle.std.proofs.lemmas.Option.{slice_get-map, slice_get_read}
use Rattle.std.specs.Global.{Vec}
use Rattle.std.specs.Option.{option_map}
use Rattle.rotor_base.specs.declared.token.Token.{Token}
use Rattle.ml_lexer.specs.Lexed.{view_token, view_tokens}
use Rattle.rename_verify.proofs.Cutting.{word_found}
use Rattle.rename_verify.proofs.candidate.word_at.Goals as goal

pub returns : goal.returns
returns c =
    let lists = c.args.lists.now in
    let tokens = c.in_ok-tokens.tokens.now in
    let before = c.in_ok-before.before in
    let t = c.in_ok-token.token.now in
    let a = c.in_ok-tokens.ensures in
    let b = c.in_ok-before.ensures in
    let d = c.in_ok-token.ensures in
    let file : slice_get lists c.args.at.file ≡ Some tokens = slice_get_read lists
    (length lists) c.args.at.file tokens refl a.lookup.3.0 a.lookup.1 in
    let le = b.0 in
    let is = b.1 in
    let number : c.args.at.token ≡ suc before = omega (arith, le, is) in
    let here : slice_get c.deref.result.now before ≡ Some t = slice_get_read c.deref.result.now
    (length c.deref.result.now) before t refl d.lookup.3.0 d.lookup.1 in
    let there : slice_get tokens.items before ≡ Some t = subst (λ (l : List Token). slice_get l before ≡ Some t) c.deref.ensures.value here in
    let seen : slice_get (view_tokens tokens.items) before ≡ Some (view_token t) = slice_get-map view_token tokens.items before
    ∙ ap (option_map view_token) there in
    c.lower_word.ensures ∙ sym (word_found (λ (v : Vec Token). view_tokens v.items) lists c.args.at tokens before (view_token t) file number seen)
