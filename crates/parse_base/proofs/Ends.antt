-- What is read from the tokens of the code is the longest.
use Rattle.std.proofs.Common.{◌≡◌, ℕ, ◌+◌, min, List, length, Some, None, ap, ◌∙◌, arith}
use Rattle.rotor_base.specs.declared.token.Token.{Token}
use Rattle.ml_trees.specs.Tree.{Pat}
use Rattle.token_reading.specs.PatReading.{read_pat}
use Rattle.token_reading.specs.Longest.{IsLongestPat, BeginsNoPat}
use Rattle.token_reading.specs.Tokens.{from}
use Rattle.token_reading.proofs.Ends.{from_length, from_min}
use Rattle.pattern_reading.proofs.LawsPat.{pat_longest, pat_none}

pub longest_pat : (ts : List Token) (start end place : ℕ) (p : Pat) → place ≡ min end (length ts)
    → read_pat (length ts + 1) (from ts start) ≡ Some (p, from ts end) → IsLongestPat (from ts start) p (from ts place)
longest_pat ts start end place p e h =
    let q : from ts place ≡ from ts end = ap (from ts) e ∙ from_min ts end in
    rw q (pat_longest (length ts + 1) (from ts start) p (from ts end) (omega (arith, from_length ts start)) h)

pub no_pattern : (ts : List Token) (start : ℕ) → read_pat (length ts + 1) (from ts start) ≡ None → BeginsNoPat (from ts start)
no_pattern ts start h = pat_none (length ts + 1) (from ts start) (omega (arith, from_length ts start)) h
