-- An answer that says more.
use Rattle.std.proofs.Common.{Result, Ok, Err, IfOk}

pub ok_more : {A E : Type 0} (r : Result A E) (P Q : A → Type 0) → ((a : A) → P a → Q a) → IfOk r P → IfOk r Q
ok_more (Ok a) P Q f h = f a h
ok_more (Err e) P Q f h = tt
