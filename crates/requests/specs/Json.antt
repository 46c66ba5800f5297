-- JSON, as the bytes of a message write it (RFC 8259; Language Server Protocol 3.17, "Content Part"; own where it says how
-- deep values nest).
use Rattle.std.specs.Prelude.{◌≡◌, ℕ, List, Some, IsUtf8}
use Rattle.serde_json.specs.Data.{Data}
use Rattle.serde_json.specs.Read.{read}

-- the bytes are UTF-8 and write the value
pub record Writes (bytes : List ℕ) (value : Data) : Type 0 where
  pub text : IsUtf8 bytes
  pub reads : read bytes ≡ Some value
