-- The file of a URI, and what a clause on an answer says.
use Rattle.std.proofs.Common.{◌≡◌, ℕ, List, Result, Ok, Err, OnOk, Some, sym, ap, subst, ◌∙◌}
use Rattle.percent_encoding.specs.Percent.{percent_decode}
use Rattle.document_uris.specs.Places.{IsPlace}
use Rattle.document_uris.specs.Uris.{IsFile}
use Rattle.document_uris.proofs.Splitting.{splits_are_one}

pub on_ok : {V E P Q : Type 0} (result : Result V E) → (P → Q) → OnOk result P → OnOk result Q
on_ok (Ok value) f h = f h
on_ok (Err error) f h = tt

some_is : (a b : List ℕ) → Some a ≡ Some b → a ≡ b
some_is a b e = cc

-- a URI names one file at most
pub one_name : (uri folder name other_folder other_name : List ℕ) → IsFile uri folder name → IsFile uri other_folder other_name → name ≡ other_name
one_name uri folder name other_folder other_name one other =
    let same : one.written ≡ other.written = some_is one.written other.written (sym one.path ∙ other.path) in
    let place : IsPlace (percent_decode one.written) other_folder other_name =
    subst (λ (path : List ℕ). IsPlace path other_folder other_name) (ap percent_decode (sym same)) other.place in
    (splits_are_one (percent_decode one.written) one.place.parent name place.parent other_name one.place.split place.split).1
