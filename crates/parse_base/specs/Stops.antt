-- Where the removing of marks stops (own).
use Rattle.std.specs.Prelude.{Bool}
use Rattle.parse_base.specs.declared.depth.Mark.{Mark}
use Rattle.parse_base.specs.declared.depth.Stop.{Stop}
use Rattle.parse_base.specs.declared.depth.Stop.TheVariants as stop
use Rattle.parse_base.specs.Nesting.{is_bracket, is_let_or_bracket, is_case_or_bracket, is_no_weak}

abbrev pub test_of : Stop → Mark → Bool
test_of stop.Bracket = is_bracket
test_of stop.LetOrBracket = is_let_or_bracket
test_of stop.CaseOrBracket = is_case_or_bracket
test_of stop.NoWeak = is_no_weak
