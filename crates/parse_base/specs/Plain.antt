-- Which errors a reader of one pattern or expression may give (own).
use Rattle.parse_base.specs.declared.error.ParseError.{ParseError}
use Rattle.parse_base.specs.declared.error.ParseError.TheVariants as refused

-- neither a refused form nor nesting
abbrev pub IsPlain : ParseError → Type 0
IsPlain refused.Syntax = Unit {0}
IsPlain refused.Memory = Unit {0}
IsPlain _ = ⊥
