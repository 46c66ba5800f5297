use Rattle.std.proofs.Common.{rules, not, ◌∙◌}
use Rattle.std.specs.Str.{bytes_eq}
use Rattle.rotor_base.proofs.Loads.{kept_by}
use Rattle.rotor_base.proofs.load_checks.take_named.Goals as goal

pub returns : goal.returns
returns c =
    let h = c.retain.ensures.filtered in
    h.4 ∙ kept_by _ (λ unit. not (bytes_eq unit.name c.args.line.now)) _ (λ x b q k. (search rules, search rules)) h.0 _ h.1 h.3 h.2
