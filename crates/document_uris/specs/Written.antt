-- The URI that is written for a file (RFC 8089, "Syntax"; RFC 3986, "Unreserved Characters").
use Rattle.std.specs.Prelude.{ℕ, ◌==◌, ◌||◌, List, [], ◌∷◌, ◌++◌, Bool, codes, if◌then◌else◌, flat_map}
use Rattle.std.specs.Char.{is_ascii_alphanumeric}
use Rattle.std.specs.Str.{bytes_eq}
use Rattle.percent_encoding.specs.Percent.{percent_encode_byte}

-- a letter, a digit, `-`, `.`, `_`, `~` or `/`
abbrev pub is_plain : ℕ → Bool
is_plain b = is_ascii_alphanumeric b || (b == 45 || (b == 46 || (b == 95 || (b == 126 || b == 47))))

-- a path with an escape for each other byte
abbrev pub escaped : List ℕ → List ℕ
escaped path = flat_map (λ b. if is_plain b then b ∷ [] else percent_encode_byte b) path

-- what is between the path of a folder and a name in it
abbrev pub separator : List ℕ → List ℕ
separator folder = if bytes_eq folder (codes "/") then [] else codes "/"

-- the path of a file
abbrev pub path_of : List ℕ → List ℕ → List ℕ
path_of folder name = folder ++ (separator folder ++ name)

-- the URI of a file
abbrev pub written_uri : List ℕ → List ℕ → List ℕ
written_uri folder name = codes "file://" ++ escaped (path_of folder name)
