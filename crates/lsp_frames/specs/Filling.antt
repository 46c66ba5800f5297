-- Reading so many bytes, and reading a header (own).
use Rattle.std.specs.Prelude.{◌≡◌, ℕ, ◌<◌, ◌≤◌, List, [], true, false, Option, Some, length, take, ⊤}
use Rattle.std.specs.Io.KnownBytes.{Consumes}
use Rattle.lsp_frames.specs.declared.error.FrameError.{FrameError}
use Rattle.lsp_frames.specs.declared.error.FrameError.TheVariants.{Memory, Io, Broken, TooLong, Ended}
use Rattle.lsp_frames.specs.Frames.{max_header, ends_header}

-- why a call fails that reads so many bytes: it ends with the reader's end if they are fewer
abbrev pub IsShort : List ℕ → ℕ → Option (List ℕ) → FrameError → Type 0
IsShort bytes count left Memory = ⊤
IsShort bytes count left (Io error) = ⊤
IsShort bytes count left Broken = ⊥
IsShort bytes count left TooLong = ⊥
IsShort bytes count left Ended = (length bytes < count) × (left ≡ Some [])

-- the header that a call took from a reader
pub record Takes (old left : Option (List ℕ)) (header : List ℕ) : Type 0 where
  pub taken : Consumes old left header
  pub long : 4 ≤ length header
  pub short : length header ≤ max_header
  pub ends : ends_header header ≡ true
  pub first : (n : ℕ) → n < length header → ends_header (take n header) ≡ false

-- an error that stops a header after these bytes: it is not the reader's end in front of a header
abbrev pub StopsHeader : List ℕ → FrameError → FrameError → Type 0
StopsHeader header error fault = (fault ≡ error) × (header ≡ [] → error ≡ Ended → ⊥)
