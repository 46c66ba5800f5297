-- What a clause on an answer says, from another one.
use Rattle.std.proofs.Common.{Result, Ok, Err, IfOk, IfNone, Option, Some, None}

pub if_ok : {V E : Type 0} (P Q : V → Type 0) (result : Result V E) → ((value : V) → P value → Q value) → IfOk result P → IfOk result Q
if_ok P Q (Ok value) f h = f value h
if_ok P Q (Err error) f h = tt

pub if_none : {V P Q : Type 0} (found : Option V) → (P → Q) → IfNone found P → IfNone found Q
if_none (Some value) f h = tt
if_none None f h = f h
