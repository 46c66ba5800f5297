-- What holds of an answer.
use Rattle.std.proofs.Common.{Err, IfOk, Ok, Result, OnOk}

pub if_ok_more : {A E : Type 0} (r : Result A E) (P Q : A → Type 0) → ((x : A) → P x → Q x) → IfOk r P → IfOk r Q
if_ok_more (Ok x) P Q f h = f x h
if_ok_more (Err e) P Q f h = h

pub if_ok_both : {A E : Type 0} {M : Type 0} (r : Result A E) (P Q : A → Type 0) → (M → (x : A) → P x → Q x) → OnOk r M → IfOk r P → IfOk r Q
if_ok_both (Ok x) P Q f m h = f m x h
if_ok_both (Err e) P Q f m h = h
