-- Words of expressions other than `let`, and small parts made of such words: the `in` behind them stay open.
use Rattle.std.proofs.Common.{◌≡◌, ℕ, ◌≤◌, List, [], ◌∷◌, ◌++◌, Bool, true, false, Option, Some, None, refl, arith}
use Rattle.ml_trees.specs.declared.fixed.Fixed.{Fixed}
use Rattle.ml_trees.specs.declared.fixed.Fixed.TheVariants as key
use Rattle.ml_trees.specs.declared.word.Bracket.{Bracket}
use Rattle.ml_trees.specs.declared.word.Bracket.TheVariants as bracket
use Rattle.ml_trees.specs.Tok.{Name, Tok, fixed, placed}
use Rattle.ml_trees.specs.Runs.{is_type_run, is_matched, beside_type, in_type, begins_type, after_bracket, bracketing}
use Rattle.ml_trees.proofs.Words.{dotted_then, path_then, qualified_then, name_then, names_then, type_then, optional_then, bang_then, truth}
use Rattle.ml_trees.proofs.Words.{opening, closing, direction}
use Rattle.ml_trees.proofs.Words.{open_then, variable_then, local_then, locals_then, lowers_then, wrap}
use Rattle.ml_trees.specs.WellFormed.{is_operator, op_level, WfName, WfNames, WfType}
use Rattle.ml_trees.specs.Tree.{ValueName, PlainName, OperatorName, Variable, PlainVariable, AnyVariable, LocalModule, LocalPath, LocalArguments}
use Rattle.ml_trees.specs.Tree.{no_local, more_local, no_module}
use Rattle.token_reading.specs.Matching.{is_apart, ins_before, open_ins}

-- ---- words

-- an `in` behind it may not be open before it
abbrev cuts : Tok → Bool
cuts (placed key.Let at) = true
cuts t = is_apart t

word_leaves : (t : Tok) (n : ℕ) → cuts t ≡ false → n ≤ ins_before t n
word_leaves (placed key.Let at) n e = absurd cc
word_leaves (placed key.Include at) n e = absurd cc
word_leaves (placed key.Sig at) n e = absurd cc
word_leaves (placed key.Struct at) n e = absurd cc
word_leaves (fixed key.DoubleSemicolon) n e = absurd cc
word_leaves (fixed key.External) n e = absurd cc
word_leaves (fixed key.In) n e = omega arith
word_leaves _ n e = omega arith

pub fixed_leaves : (x : Fixed) (n : ℕ) → is_apart (fixed x) ≡ false → n ≤ ins_before (fixed x) n
fixed_leaves x n e = word_leaves (fixed x) n e

pub closing_leaves : (b : Bracket) (n : ℕ) → n ≤ ins_before (fixed (closing b)) n
closing_leaves bracket.List n = omega arith
closing_leaves bracket.Array n = omega arith

pub direction_leaves : (down : Bool) (n : ℕ) → n ≤ ins_before (fixed (direction down)) n
direction_leaves true n = omega arith
direction_leaves false n = omega arith

pub opening_leaves : (b : Bracket) (at n : ℕ) → n ≤ ins_before (placed (opening b) at) n
opening_leaves bracket.List at n = omega arith
opening_leaves bracket.Array at n = omega arith

pub truth_leaves : (b : Bool) (at n : ℕ) → n ≤ ins_before (placed (truth b) at) n
truth_leaves true at n = omega arith
truth_leaves false at n = omega arith

pub wrap_leaves : (b : Bool) (at n : ℕ) → n ≤ ins_before (placed (wrap b) at) n
wrap_leaves true at n = omega arith
wrap_leaves false at n = omega arith

pub semicolon_leaves : (t : Tok) (n : ℕ) → t ≡ fixed key.Semicolon → n ≤ ins_before t n
semicolon_leaves t n e = rw e (fixed_leaves key.Semicolon n refl)

leveled : (m : ℕ) (t : Tok) → 1 ≤ m → op_level t ≡ m → cuts t ≡ false
leveled m (placed key.Let at) some e = absurd (omega (arith, some, e))
leveled m (placed key.Include at) some e = absurd (omega (arith, some, e))
leveled m (placed key.Sig at) some e = absurd (omega (arith, some, e))
leveled m (placed key.Struct at) some e = absurd (omega (arith, some, e))
leveled m (fixed key.DoubleSemicolon) some e = absurd (omega (arith, some, e))
leveled m (fixed key.External) some e = absurd (omega (arith, some, e))
leveled m _ some e = refl

-- an operator between operands
pub operator_leaves : (m : ℕ) (t : Tok) (n : ℕ) → 1 ≤ m → op_level t ≡ m → n ≤ ins_before t n
operator_leaves m t n some e = word_leaves t n (leveled m t some e)

named : (t : Tok) → is_operator t ≡ true → cuts t ≡ false
named (placed key.Let at) e = absurd cc
named (placed key.Include at) e = absurd cc
named (placed key.Sig at) e = absurd cc
named (placed key.Struct at) e = absurd cc
named (fixed key.DoubleSemicolon) e = absurd cc
named (fixed key.External) e = absurd cc
named _ e = refl

-- ---- types

none_matched : (ts : List Tok) → is_matched beside_type in_type None ts ≡ true → ⊥
none_matched [] e = absurd cc
none_matched (t ∷ ts) e = absurd cc

cut_matched : (t : Tok) (xs : List Fixed) (ts : List Tok) → cuts t ≡ true → is_matched beside_type in_type (Some xs) (t ∷ ts) ≡ true → ⊥
cut_matched (placed key.Let at) [] ts h e = none_matched ts e
cut_matched (placed key.Let at) (x ∷ xs) ts h e = none_matched ts e
cut_matched (placed key.Include at) [] ts h e = none_matched ts e
cut_matched (placed key.Include at) (x ∷ xs) ts h e = none_matched ts e
cut_matched (placed key.Sig at) [] ts h e = none_matched ts e
cut_matched (placed key.Sig at) (x ∷ xs) ts h e = none_matched ts e
cut_matched (placed key.Struct at) [] ts h e = none_matched ts e
cut_matched (placed key.Struct at) (x ∷ xs) ts h e = none_matched ts e
cut_matched (fixed key.DoubleSemicolon) [] ts h e = none_matched ts e
cut_matched (fixed key.DoubleSemicolon) (x ∷ xs) ts h e = none_matched ts e
cut_matched (fixed key.External) [] ts h e = none_matched ts e
cut_matched (fixed key.External) (x ∷ xs) ts h e = none_matched ts e
cut_matched _ xs ts h e = absurd cc

cut_begins : (t : Tok) (ts : List Tok) → cuts t ≡ true → is_type_run (t ∷ ts) ≡ true → ⊥
cut_begins (placed key.Let at) ts h e = none_matched ts e
cut_begins (placed key.Include at) ts h e = none_matched ts e
cut_begins (placed key.Sig at) ts h e = none_matched ts e
cut_begins (placed key.Struct at) ts h e = none_matched ts e
cut_begins (fixed key.DoubleSemicolon) ts h e = none_matched ts e
cut_begins (fixed key.External) ts h e = none_matched ts e
cut_begins _ ts h e = absurd cc

matched_leaves : (o : Option (List Fixed)) (run k : List Tok) → is_matched beside_type in_type o run ≡ true → open_ins k ≤ open_ins (run ++ k)
matched_leaves o [] k e = omega arith
matched_leaves None (t ∷ ts) k e = absurd cc
matched_leaves (Some xs) (t ∷ ts) k e = by (cuts t) refl (matched_leaves (after_bracket beside_type in_type t (bracketing t) xs) ts k e)
  where
    by : (b : Bool) → cuts t ≡ b → open_ins k ≤ open_ins (ts ++ k) → open_ins k ≤ open_ins (t ∷ (ts ++ k))
    by true h n = absurd (cut_matched t xs ts h e)
    by false h n = omega (arith, word_leaves t (open_ins (ts ++ k)) h, n)

pub run_leaves : (run k : List Tok) → is_type_run run ≡ true → open_ins k ≤ open_ins (run ++ k)
run_leaves [] k e = absurd cc
run_leaves (t ∷ ts) k e = by (cuts t) refl (matched_leaves (after_bracket begins_type in_type t (bracketing t) []) ts k e)
  where
    by : (b : Bool) → cuts t ≡ b → open_ins k ≤ open_ins (ts ++ k) → open_ins k ≤ open_ins (t ∷ (ts ++ k))
    by true h n = absurd (cut_begins t ts h e)
    by false h n = omega (arith, word_leaves t (open_ins (ts ++ k)) h, n)

pub type_leaves : (run : Option (List Tok)) (k : List Tok) → WfType run → open_ins k ≤ open_ins (type_then run k)
type_leaves None k w = omega arith
type_leaves (Some run) k w = run_leaves run k w

-- ---- names

dotted_leaves : (xs : List Name) (k : List Tok) → open_ins k ≤ open_ins (dotted_then xs k)
dotted_leaves [] k = omega arith
dotted_leaves (x ∷ xs) k = dotted_leaves xs k

pub path_leaves : (xs : List Name) (k : List Tok) → open_ins k ≤ open_ins (path_then xs k)
path_leaves [] k = omega arith
path_leaves (x ∷ xs) k = dotted_leaves xs k

pub qualified_leaves : (xs : List Name) (k : List Tok) → open_ins k ≤ open_ins (qualified_then xs k)
qualified_leaves [] k = omega arith
qualified_leaves (x ∷ xs) k = qualified_leaves xs k

pub name_leaves : (x : ValueName) (k : List Tok) → WfName x → open_ins k ≤ open_ins (name_then x k)
name_leaves (PlainName x) k w = omega arith
name_leaves (OperatorName at t) k w = word_leaves t (open_ins k) (named t w)

pub names_leaves : (xs : List ValueName) (k : List Tok) → WfNames xs → open_ins k ≤ open_ins (names_then xs k)
names_leaves [] k w = omega arith
names_leaves (x ∷ xs) k w = omega (arith, name_leaves x (names_then xs k) w.0, names_leaves xs k w.1)

pub lowers_leaves : (xs : List Name) (k : List Tok) → open_ins k ≤ open_ins (lowers_then xs k)
lowers_leaves [] k = omega arith
lowers_leaves (x ∷ xs) k = lowers_leaves xs k

-- ---- small parts

pub optional_leaves : (x : Fixed) (b : Bool) (k : List Tok) → is_apart (fixed x) ≡ false → open_ins k ≤ open_ins (optional_then x b k)
optional_leaves x true k e = fixed_leaves x (open_ins k) e
optional_leaves x false k e = omega arith

pub bang_leaves : (x : Option Name) (k : List Tok) → open_ins k ≤ open_ins (bang_then x k)
bang_leaves None k = omega arith
bang_leaves (Some x) k = omega arith

pub open_leaves : (o : Option ℕ) (k : List Tok) → open_ins k ≤ open_ins (open_then o k)
open_leaves None k = omega arith
open_leaves (Some at) k = omega arith

pub variable_leaves : (x : Variable) (k : List Tok) → open_ins k ≤ open_ins (variable_then x k)
variable_leaves (PlainVariable x) k = omega arith
variable_leaves (AnyVariable at) k = omega arith

mutual
  pub local_leaves : (m : LocalModule) (k : List Tok) → open_ins k ≤ open_ins (local_then m k)
  local_leaves (LocalPath path ms) k = omega (arith, path_leaves path (locals_then ms k), locals_leaves ms k)

  pub locals_leaves : (ms : LocalArguments) (k : List Tok) → open_ins k ≤ open_ins (locals_then ms k)
  locals_leaves no_local k = omega arith
  locals_leaves (more_local at m ms) k = omega (arith, local_leaves m (fixed key.RightParen ∷ locals_then ms k), locals_leaves ms k)
  locals_leaves (no_module at ms) k = locals_leaves ms k
