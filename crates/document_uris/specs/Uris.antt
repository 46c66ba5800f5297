-- The file that a URI names (RFC 8089, "Syntax"; RFC 3986, "Syntax Components" and "Percent-Encoding"; own where it says
-- which hosts and paths).
use Rattle.std.specs.Prelude.{◌≡◌, ℕ, ◌+◌, ◌==◌, ◌||◌, ◌&&◌, List, [], ◌∷◌, Bool, Option, None, Some, codes, drop, map, take, if◌then◌else◌, IsUtf8}
use Rattle.std.specs.Option.{option_and_then}
use Rattle.std.specs.List.{list_any, position}
use Rattle.std.specs.Char.{to_ascii_lowercase}
use Rattle.std.specs.Str.{bytes_eq}
use Rattle.percent_encoding.specs.Percent.{percent_decode}
use Rattle.document_uris.specs.Places.{IsPlace, is_slash}

-- a query or a fragment begins here
abbrev pub ends_path : ℕ → Bool
ends_path b = b == 63 || b == 35

-- the texts are one, whatever the case of their ASCII letters
abbrev pub is_same_word : List ℕ → List ℕ → Bool
is_same_word a b = bytes_eq (map to_ascii_lowercase a) (map to_ascii_lowercase b)

-- what is behind the scheme `file:`
unfoldable pub behind_scheme : List ℕ → Option (List ℕ)
behind_scheme uri = if is_same_word (take 5 uri) (codes "file:") then Some (drop 5 uri) else None

-- the host is this machine
abbrev pub is_local : List ℕ → Bool
is_local host = is_same_word host [] || is_same_word host (codes "localhost")

-- what is behind a host and its slash
unfoldable pub behind_host : List ℕ → Option (List ℕ)
behind_host text =
    option_and_then (λ slash. if is_local (take slash text) then Some (drop (slash + 1) text) else None) (position is_slash text)

-- what is behind the first byte, if that is a slash
abbrev pub behind_slash : List ℕ → Option (List ℕ)
behind_slash [] = None
behind_slash (b ∷ bytes) = if is_slash b then Some bytes else None

-- what is behind the first slash of a path that two slashes and a host may be before
abbrev pub behind_authority : List ℕ → Option (List ℕ)
behind_authority [] = None
behind_authority (a ∷ []) = behind_slash (a ∷ [])
behind_authority (a ∷ b ∷ bytes) = if is_slash a && is_slash b then behind_host bytes else behind_slash (a ∷ b ∷ bytes)

-- the path of a file's URI, as it is written, behind its first slash
abbrev pub written_path : List ℕ → Option (List ℕ)
written_path uri = if list_any ends_path uri then None else option_and_then behind_authority (behind_scheme uri)

-- the URI names the file with this name in this folder
pub record IsFile (uri folder name : List ℕ) : Type 0 where
  pub written : List ℕ
  pub path : written_path uri ≡ Some written
  pub text : IsUtf8 (percent_decode written)
  pub place : IsPlace (percent_decode written) folder name
