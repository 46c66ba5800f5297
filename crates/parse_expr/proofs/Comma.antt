-- `,` is the only operator of level 4.
use Rattle.std.proofs.Common.{◌≡◌, ℕ, List, Bool, true, false, cond, refl, arith}
use Rattle.std.specs.Str.{bytes_eq}
use Rattle.std.specs.Prelude.{codes}
use Rattle.rotor_base.specs.declared.token.Class.TheVariants as class
use Rattle.ml_trees.specs.declared.fixed.Fixed.TheVariants as key
use Rattle.ml_trees.specs.Tok.{Tok, fixed, placed, word}
use Rattle.ml_trees.specs.WellFormed.{op_level, infix_level, begins_among, begins_power}

infix_by : (a b c d e f g h : Bool) → ◌≡◌ {A = ℕ} (cond a 5 (cond b 6 (cond c 7 (cond d 7 (cond e 8 (cond f 10 (cond g 12 (cond h 11 0)))))))) 4 → ⊥
infix_by true b c d e f g h q = absurd (omega (arith, q))
infix_by false true c d e f g h q = absurd (omega (arith, q))
infix_by false false true d e f g h q = absurd (omega (arith, q))
infix_by false false false true e f g h q = absurd (omega (arith, q))
infix_by false false false false true f g h q = absurd (omega (arith, q))
infix_by false false false false false true g h q = absurd (omega (arith, q))
infix_by false false false false false false true h q = absurd (omega (arith, q))
infix_by false false false false false false false true q = absurd (omega (arith, q))
infix_by false false false false false false false false q = absurd (omega (arith, q))

infix_no_comma : (text : List ℕ) → infix_level text ≡ 4 → ⊥
unfolding infix_level
infix_no_comma text q = infix_by (bytes_eq text (codes "||")) (bytes_eq text (codes "&&")) (bytes_eq text (codes "!=")) (begins_among "=<>|&$" text)
    (begins_among "@^" text) (begins_among "+-" text) (begins_power text) (begins_among "*/%" text) q

keyword_by : (a b : Bool) → ◌≡◌ {A = ℕ} (cond a 11 (cond b 12 0)) 4 → ⊥
keyword_by true b q = absurd (omega (arith, q))
keyword_by false true q = absurd (omega (arith, q))
keyword_by false false q = absurd (omega (arith, q))

mark_by : (a : Bool) → ◌≡◌ {A = ℕ} (cond a 3 0) 4 → ⊥
mark_by true q = absurd (omega (arith, q))
mark_by false q = absurd (omega (arith, q))

pub comma_alone : (k : Tok) → op_level k ≡ 4 → k ≡ fixed key.Comma
comma_alone (fixed key.Comma) q = refl
comma_alone (fixed key.LeftArrow) q = absurd (omega (arith, q))
comma_alone (fixed key.ColonColon) q = absurd (omega (arith, q))
comma_alone (placed key.Equals at) q = absurd (omega (arith, q))
comma_alone (word class.Mark x) q = absurd (mark_by (bytes_eq x.text (codes ":=")) q)
comma_alone (word class.Keyword x) q = absurd (keyword_by _ _ q)
comma_alone (word class.Infix x) q = absurd (infix_no_comma x.text q)
comma_alone _ q = absurd (omega (arith, q))
