-- What a clause on an answer says, from another one.
use Rattle.std.proofs.Common.{Result, Ok, Err, IfOk, OnOk, OnErr}

pub on_ok : {V E P Q : Type 0} (result : Result V E) → (P → Q) → OnOk result P → OnOk result Q
on_ok (Ok value) f h = f h
on_ok (Err error) f h = tt

pub on_err : {V E P Q : Type 0} (result : Result V E) → (P → Q) → OnErr result P → OnErr result Q
on_err (Ok value) f h = tt
on_err (Err error) f h = f h

pub if_ok : {V E : Type 0} (P Q : V → Type 0) (result : Result V E) → ((value : V) → P value → Q value) → IfOk result P → IfOk result Q
if_ok P Q (Ok value) f h = f value h
if_ok P Q (Err error) f h = tt
