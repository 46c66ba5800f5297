-- Capped weights.
use Rattle.std.proofs.Common.{◌≡◌, ℕ, ◌+◌, ◌<◌, List, length, take, get_or, sym, ap, ◌∙◌, arith}
use Rattle.std.specs.Global.{Vec}
use Rattle.shape_core.specs.declared.shape.Entry.{Entry}
use Rattle.shape_core.specs.declared.shape.Entry.TheBlock as s
use Rattle.shape_core.specs.Shape as pure
use Rattle.shape_core.specs.View.{view_row, view_then, entries}
use Rattle.shape_core.proofs.Views.{entries_of, entries_more}
use Rattle.shape_core.proofs.Lists.{weights-append}

pub plus_capped : (a b m n : ℕ) → a ≡ pure.capped m → b ≡ pure.capped n → pure.capped (a + b) ≡ pure.capped (m + n)
plus_capped a b m n e f = omega (arith, e, f)

pub one_capped : (b n r : ℕ) → b ≡ pure.capped n → r ≡ pure.capped (1 + b) → r ≡ pure.capped (1 + n)
one_capped b n r e f = omega (arith, e, f)

pub two_capped : (b c m n q r : ℕ) → b ≡ pure.capped m → c ≡ pure.capped n → q ≡ pure.capped (b + c) → r ≡ pure.capped (1 + q)
    → r ≡ pure.capped (1 + (m + n))
two_capped b c m n q r e f h k = omega (arith, e, f, h, k)

pub struct_capped : (v : Vec Entry) (n : ℕ) → n ≡ pure.capped (pure.weights (entries v.items))
    → n ≡ pure.capped (pure.weights (view_row (s.hidden-the_row-Entry-0 v)))
struct_capped v n e = e ∙ ap (λ l. pure.capped (pure.weights l)) (sym (entries_of v))

pub weights_more : (xs : List Entry) (i : ℕ) (d : Entry) → i < length xs
    → pure.weights (entries (take (i + 1) xs)) ≡ pure.weights (entries (take i xs)) + pure.weights (view_then (get_or xs i d) pure.none)
weights_more xs i d h = ap pure.weights (entries_more xs i d h) ∙ weights-append (entries (take i xs)) (view_then (get_or xs i d) pure.none)

pub ruleset weight_rules = (one_capped, two_capped, struct_capped)
