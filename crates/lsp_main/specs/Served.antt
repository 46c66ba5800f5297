-- How the program ends (own).
use Rattle.std.specs.Prelude.{◌≡◌, ℕ, List, Bool, true, false, Option, IfSome, String, codes, string_bytes}
use Rattle.std.specs.List.{list_all}
use Rattle.std.specs.Str.{bytes_eq}
use Rattle.std.specs.declared.alloc.Global.{Global}
use Rattle.lsp_server.specs.Does.{FolderMap, Replies}
use Rattle.lsp_server.specs.Serves.{Serves}
use Rattle.lsp_main.specs.declared.ended.Ended.{Ended}
use Rattle.lsp_main.specs.declared.ended.Ended.TheVariants.{Served, Usage, Stopped}

-- the exit code of an end
abbrev pub code_of : Ended → ℕ
code_of (Served status) = status
code_of Usage = 2
code_of (Stopped error) = 1

abbrev pub is_accepted : String Global → Bool
is_accepted word = bytes_eq (string_bytes word) (codes "--stdio")

-- each word is `--stdio`
abbrev pub are_accepted : List (String Global) → Bool
are_accepted words = list_all is_accepted words

-- What holds at an end: the output has what a server makes of the input's bytes, over these folders; or a word is not accepted;
-- or the input, the output or the memory failed.
abbrev pub IsServed : List (String Global) → Replies → FolderMap → Option (List ℕ) → Option (List ℕ) → Option (List ℕ) → Ended → Type 0
IsServed words replies folders input old new (Served status) =
    (are_accepted words ≡ true) × IfSome input (λ bytes. Serves replies folders bytes status old new)
IsServed words replies folders input old new Usage = are_accepted words ≡ false
IsServed words replies folders input old new (Stopped error) = are_accepted words ≡ true
