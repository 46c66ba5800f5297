use Rattle.std.proofs.Common.{◌≡◌, ◌+◌, sym, ◌∙◌, arith}
use Rattle.token_reading.specs.Tokens.{from}
use Rattle.module_parts.proofs.Rows.{sig_type, sig_alias, sig_rest}
use Rattle.module_parts.proofs.modules.Modules.module_sig.Goals as goal

pub returns-then-has_fixed : goal.returns-then-has_fixed
returns-then-has_fixed g c =
    let d = c.args.self.now.depth in
    let behind : c.args.at + 1 + 1 ≡ c.args.at + 2 = omega arith in
    rw (c.has_fixed.ensures.there c.if-has_fixed.true, sig_type d (c.args.at + 1) (from c.args.tokens.now (c.args.at + 1 + 1)), behind)
    c.module_type_sig.ensures

pub returns-then-is_named : goal.returns-then-is_named
returns-then-is_named g c =
    rw (sig_alias c.args.self.now.depth (c.args.at + 1) (from c.args.tokens.now (c.args.at + 1)) (sym c.is_named.ensures ∙ c.if-is_named.true))
    c.alias.ensures

pub returns : goal.returns
returns g c =
    rw (sig_rest c.args.self.now.depth (c.args.at + 1) (from c.args.tokens.now (c.args.at + 1)) (sym c.has_fixed.ensures.value ∙ c.if-has_fixed.false)
    (sym c.is_named.ensures ∙ c.if-is_named.false)) c.module_sig_rest.ensures
