-- What two writes append.
use Rattle.std.proofs.Common.{◌≡◌, ℕ, List, ◌++◌, subst}
use Rattle.std.specs.Prelude.{Option, Result, Ok, Err, OnOk}
use Rattle.std.specs.Io.KnownBytes.{Appends}
use Rattle.std.proofs.KnownBytes.{Appends-trans}

pub both : {T E : Type 0} (r : Result T E) (a b c : Option (List ℕ)) (head body all : List ℕ) → Appends a b head → OnOk r (Appends b c body)
    → head ++ body ≡ all → OnOk r (Appends a c all)
both (Ok x) a b c head body all p q e = subst (Appends a c) e (Appends-trans a b c head body p q)
both (Err x) a b c head body all p q e = tt
