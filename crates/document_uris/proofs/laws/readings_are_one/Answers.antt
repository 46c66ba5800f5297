use Rattle.std.proofs.Common.{◌≡◌, ◌∷◌, ℕ, List, Some, sym, ap, subst, ◌∙◌}
use Rattle.percent_encoding.specs.Percent.{percent_decode}
use Rattle.document_uris.specs.Places.{IsPlace}
use Rattle.document_uris.proofs.Splitting.{splits_are_one}
use Rattle.document_uris.proofs.laws.readings_are_one.Goals as goal

some_is : (a b : List ℕ) → Some a ≡ Some b → a ≡ b
some_is a b e = cc

pub returns : goal.returns
returns c = λ uri folder name other_folder other_name one other.
    let same : one.written ≡ other.written = some_is one.written other.written (sym one.path ∙ other.path) in
    let place : IsPlace (percent_decode one.written) other_folder other_name =
    subst (λ (path : List ℕ). IsPlace path other_folder other_name) (ap percent_decode (sym same)) other.place in
    let parts = splits_are_one (percent_decode one.written) one.place.parent name place.parent other_name one.place.split place.split in
    (one.place.rooted ∙ ap (λ (parent : List ℕ). 47 ∷ parent) parts.0 ∙ sym place.rooted, parts.1)
