-- The laws of documents' URIs (own).
use Rattle.std.specs.Prelude.{◌≡◌, ℕ, ◌<◌, ◌^◌, List, All}
use Rattle.document_uris.specs.Uris.{IsFile}
use Rattle.document_uris.specs.Written.{written_uri}

-- a URI names one file at most
abbrev pub HasOneReading : Type 0
HasOneReading =
    (uri folder name other_folder other_name : List ℕ) → IsFile uri folder name → IsFile uri other_folder other_name
    → (folder ≡ other_folder) × (name ≡ other_name)

-- if a URI names a file, the URI that is written for the file names it too
abbrev pub NamesItsFile : Type 0
NamesItsFile =
    (uri folder name : List ℕ) → All (λ b. b < 2 ^ 8) folder → All (λ b. b < 2 ^ 8) name → IsFile uri folder name
    → IsFile (written_uri folder name) folder name
