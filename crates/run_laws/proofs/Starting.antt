-- What the starting values give, with more fuel.
use Rattle.std.proofs.Common.{ℤ, Bool, true, false, List, [], ◌∷◌, Option, Some, None}
use Rattle.std.specs.Prelude.{◌+◌, ◌++◌, length, bytes_eq, if◌then◌else◌, int_div, int_rem}
use Rattle.rotor_base.specs.declared.place.Place.{Place}
use Rattle.shape_core.specs.Shape.{Name}
use Rattle.module_meaning.specs.Values.{Unary, Not, Ref, Deref, Ignore, First, Second, PrintInt, PrintString, PrintNewline, PrintEndline, IntText}
use Rattle.module_meaning.specs.Values.{FailWith, Raise, Negate, Binary, Add, Subtract, Multiply, Divide, Modulo, Equal, Differs, Below, AtMost}
use Rattle.module_meaning.specs.Values.{Above, AtLeast, And, Or, Join, Append, Assign, Val, NumVal, CharVal, TextVal, BoolVal, TupleVal, ConVal}
use Rattle.module_meaning.specs.Values.{TagVal, RecordVal, CellVal, MaybeVal, as_num, as_char, as_text}
use Rattle.module_meaning.specs.Values.{as_truth, as_tuple, as_con, as_tag, as_record, as_cell}
use Rattle.module_meaning.specs.Patterns.{unit_val}
use Rattle.module_meaning.specs.Acts.{Act, WrongAt, count}
use Rattle.module_meaning.specs.Starting.{same_pairs, same_parts, on_kind, same_named, same_held, same_kinds, same_values, arg_pairs, pairs}
use Rattle.module_meaning.specs.Starting.{field_pairs, num_of, text_of, truth_of, pair_of, unit_of, unary, on_nums, on_truths, on_order}
use Rattle.module_meaning.specs.Starting.{divided, binary, elements, appended}
use Rattle.run_laws.proofs.Steps.{GoesOn, gives, halts, raises, binds, pays, pays_by, or_halts, chooses, prints, makes, holds, puts}

pub num_on : (at : Place) (v : Val) → GoesOn (num_of at v) (num_of at v)
num_on at v = or_halts _ _

pub text_on : (at : Place) (v : Val) → GoesOn (text_of at v) (text_of at v)
text_on at v = or_halts _ _

pub truth_on : (at : Place) (v : Val) → GoesOn (truth_of at v) (truth_of at v)
truth_on at v = or_halts _ _

pair_on : (at : Place) (v : Val) → GoesOn (pair_of at v) (pair_of at v)
pair_on at v = or_halts _ _

unit_on : (at : Place) (v : Val) → GoesOn (unit_of at v) (unit_of at v)
unit_on at v = chooses _ (gives _) (halts _)

pub unary_on : (u : Unary) (at : Place) (v : Val) → GoesOn (unary u at v) (unary u at v)
unary_on Not at v = binds (truth_on at v) (λ b. gives _)
unary_on Ref at v = makes v
unary_on Deref at v = binds (or_halts (as_cell v) (WrongAt at)) (λ n. binds (holds n) (λ o. or_halts o (WrongAt at)))
unary_on Ignore at v = gives _
unary_on First at v = binds (pair_on at v) (λ p. gives _)
unary_on Second at v = binds (pair_on at v) (λ p. gives _)
unary_on PrintInt at v = binds (num_on at v) (λ n. prints _ _)
unary_on PrintString at v = binds (text_on at v) (λ bytes. prints _ _)
unary_on PrintNewline at v = binds (unit_on at v) (λ u. prints _ _)
unary_on PrintEndline at v = binds (text_on at v) (λ bytes. prints _ _)
unary_on IntText at v = binds (num_on at v) (λ n. gives _)
unary_on FailWith at v = binds (text_on at v) (λ bytes. halts _)
unary_on Raise at v = halts _
unary_on Negate at v = binds (num_on at v) (λ n. gives _)

nums_on : (at : Place) (v w : Val) (f : ℤ → ℤ → Act Val) → ((m n : ℤ) → GoesOn (f m n) (f m n)) → GoesOn (on_nums at v w f) (on_nums at v w f)
nums_on at v w f h = binds (num_on at v) (λ m. binds (num_on at w) (λ n. h m n))

truths_on : (at : Place) (v w : Val) (f : Bool → Bool → Bool) → GoesOn (on_truths at v w f) (on_truths at v w f)
truths_on at v w f = binds (truth_on at v) (λ b. binds (truth_on at w) (λ c. gives _))

order_on : (at : Place) (o : Option Bool) (f : Bool → Bool) → GoesOn (on_order at o f) (on_order at o f)
order_on at o f = binds (or_halts _ _) (λ b. gives _)

divided_on : (f : ℤ → ℤ → ℤ) (m n : ℤ) → GoesOn (divided f m n) (divided f m n)
divided_on f m n = chooses _ (raises _) (gives _)

module _ (go go' : Val → Val → Act Bool) (h : (v w : Val) → GoesOn (go v w) (go' v w)) where
  pairs_on : (ps : List (Val × Val)) → GoesOn (same_pairs go ps) (same_pairs go' ps)
  pairs_on [] = gives _
  pairs_on (p ∷ ps) = binds (pays (h p.0 p.1)) (λ b. chooses b (pairs_on ps) (gives _))

  parts_on : (o : Option (List (Val × Val))) → GoesOn (same_parts go o) (same_parts go' o)
  parts_on None = gives _
  parts_on (Some ps) = pairs_on ps

  kind_on : {A : Type 0} (o : Option A) (f g : A → Act Bool) → ((x : A) → GoesOn (f x) (g x)) → GoesOn (on_kind o f) (on_kind o g)
  kind_on None f g k = gives _
  kind_on (Some x) f g k = k x

  if_on : {A : Type 0} (b : Bool) (f g k : Act A) → GoesOn f g → GoesOn k k → GoesOn (if b then f else k) (if b then g else k)
  if_on true f g k p q = p
  if_on false f g k p q = q

  named_on : (x : Name) (arg : MaybeVal) (o : Name × MaybeVal) → GoesOn (same_named go x arg o) (same_named go' x arg o)
  named_on x arg o = if_on (bytes_eq x o.0) _ _ _ (parts_on (arg_pairs arg o.1)) (gives false)

  held_on : (o p : Option Val) → GoesOn (same_held go o p) (same_held go' o p)
  held_on (Some v) (Some w) = pairs_on ((v, w) ∷ [])
  held_on None p = gives _
  held_on (Some v) None = gives _

  kinds_on : (v w : Val) → GoesOn (same_kinds go v w) (same_kinds go' v w)
  kinds_on (NumVal m) w = kind_on (as_num w) _ _ (λ n. gives _)
  kinds_on (CharVal c) w = kind_on (as_char w) _ _ (λ d. gives _)
  kinds_on (TextVal s) w = kind_on (as_text w) _ _ (λ t. gives _)
  kinds_on (BoolVal b) w = kind_on (as_truth w) _ _ (λ c. gives _)
  kinds_on (TupleVal vs) w = kind_on (as_tuple w) _ _ (λ ws. parts_on (pairs vs ws))
  kinds_on (ConVal x arg) w = kind_on (as_con w) _ _ (named_on x arg)
  kinds_on (TagVal x arg) w = kind_on (as_tag w) _ _ (named_on x arg)
  kinds_on (RecordVal f) w = kind_on (as_record w) _ _ (λ g. parts_on (field_pairs f g))
  kinds_on (CellVal m) w = kind_on (as_cell w) _ _ (λ n. binds (holds m) (λ v. binds (holds n) (λ u. held_on v u)))
  kinds_on _ w = gives _

  pub values_on : (v w : Val) → GoesOn (same_values go v w) (same_values go' v w)
  values_on v w = chooses _ (raises _) (kinds_on v w)

  pub binary_on : (b : Binary) (at : Place) (v w : Val) → GoesOn (binary go b at v w) (binary go' b at v w)
  binary_on Add at v w = nums_on at v w _ (λ m n. gives _)
  binary_on Subtract at v w = nums_on at v w _ (λ m n. gives _)
  binary_on Multiply at v w = nums_on at v w _ (λ m n. gives _)
  binary_on Divide at v w = nums_on at v w (divided int_div) (λ m n. divided_on int_div m n)
  binary_on Modulo at v w = nums_on at v w (divided int_rem) (λ m n. divided_on int_rem m n)
  binary_on Equal at v w = binds (h v w) (λ b. gives _)
  binary_on Differs at v w = binds (h v w) (λ b. gives _)
  binary_on Below at v w = order_on at _ _
  binary_on AtMost at v w = order_on at _ _
  binary_on Above at v w = order_on at _ _
  binary_on AtLeast at v w = order_on at _ _
  binary_on And at v w = truths_on at v w _
  binary_on Or at v w = truths_on at v w _
  binary_on Join at v w = binds (text_on at v) (λ s. binds (text_on at w) (λ t. pays_by (length s + length t) (gives (TextVal (s ++ t)))))
  binary_on Append at v w =
      binds (or_halts (elements v) (WrongAt at)) (λ vs. binds (or_halts (elements w) (WrongAt at)) (λ ws. pays_by (count vs) (gives (appended vs w))))
  binary_on Assign at v w = binds (or_halts (as_cell v) (WrongAt at)) (λ n. puts n w unit_val)
