-- The messages of a stream of bytes (Language Server Protocol 3.17, "Base Protocol"; the limits are own).
use Rattle.std.specs.Prelude.{◌≡◌, ℕ, ◌-◌, ◌<◌, ◌≤◌, ◌==◌, ◌⊎◌, List, [], ◌∷◌, ◌++◌, Bool, true, false, Option, Some, None, length, take, ⊤, codes}
use Rattle.std.specs.List.{ends_with}
use Rattle.std.specs.Fmt.{decimal}
use Rattle.lsp_frames.specs.declared.error.FrameError.{FrameError}
use Rattle.lsp_frames.specs.declared.error.FrameError.TheVariants.{Memory, Io, Broken, TooLong, Ended}
use Rattle.lsp_frames.specs.Header.{content_length}

-- the most bytes of a header, with its empty line
abbrev pub max_header : ℕ
max_header = 4096

-- the most bytes of a body
abbrev pub max_message : ℕ
max_message = 67108864

-- the bytes end with a line end and an empty line
abbrev pub ends_header : List ℕ → Bool
ends_header bytes = ends_with (λ a b. a == b) bytes (13 ∷ 10 ∷ 13 ∷ 10 ∷ [])

-- no front of so many bytes or fewer ends a header
abbrev pub EndsNone : ℕ → List ℕ → Type 0
EndsNone most bytes = (n : ℕ) → n ≤ most → ends_header (take n bytes) ≡ false

-- the bytes begin with a header: the least front that ends one, within the limit
pub record Begins (bytes header behind : List ℕ) : Type 0 where
  pub whole : bytes ≡ header ++ behind
  pub short : length header ≤ max_header
  pub ends : ends_header header ≡ true
  pub first : (n : ℕ) → n < length header → ends_header (take n header) ≡ false

-- the length that a header says, by the lines before its empty line
abbrev pub says : List ℕ → Option ℕ
says header = content_length (take (length header - 2) header)

-- the header has no end within the limit
pub record HasLongHeader (bytes : List ℕ) : Type 0 where
  pub long : max_header ≤ length bytes
  pub none : EndsNone max_header bytes

-- the header says more bytes than a body may have
pub record HasLongBody (bytes : List ℕ) : Type 0 where
  pub header : List ℕ
  pub behind : List ℕ
  pub count : ℕ
  pub begins : Begins bytes header behind
  pub says_count : says header ≡ Some count
  pub long : max_message < count

-- the bytes end before the header does
pub record EndsInHeader (bytes : List ℕ) : Type 0 where
  pub some : 0 < length bytes
  pub short : length bytes < max_header
  pub none : EndsNone (length bytes) bytes

-- the bytes end before the body has as many as the header says
pub record EndsInBody (bytes : List ℕ) : Type 0 where
  pub header : List ℕ
  pub behind : List ℕ
  pub count : ℕ
  pub begins : Begins bytes header behind
  pub says_count : says header ≡ Some count
  pub fits : count ≤ max_message
  pub short : length behind < count

-- what the bytes begin with
pub data Outcome : Type 0 where
  at_end : Outcome
  message : List ℕ → List ℕ → Outcome
  broken : Outcome
  too_long : Outcome
  ended : Outcome

-- The bytes begin with it: nothing at their end; a message with its body and what is behind it; a header that says no
-- length; a header or a body over its limit; a message that the bytes end in.
abbrev pub Reads : List ℕ → Outcome → Type 0
Reads bytes at_end = bytes ≡ []
Reads bytes (message body rest) =
    (header : List ℕ) × Begins bytes header (body ++ rest) × (says header ≡ Some (length body)) × (length body ≤ max_message)
Reads bytes broken = (header : List ℕ) × (behind : List ℕ) × Begins bytes header behind × (says header ≡ None)
Reads bytes too_long = HasLongHeader bytes ⊎ HasLongBody bytes
Reads bytes ended = EndsInHeader bytes ⊎ EndsInBody bytes

-- the answer of a call that reads a message from these bytes, and what it leaves
abbrev pub Gives : List ℕ → Option (List ℕ) → Option (List ℕ) → Type 0
Gives bytes None left = Reads bytes at_end × (left ≡ Some [])
Gives bytes (Some body) left = (rest : List ℕ) × Reads bytes (message body rest) × (left ≡ Some rest)

-- what the bytes begin with where a call fails; want of memory and a fault of the reader can follow any bytes
abbrev pub Fails : List ℕ → FrameError → Type 0
Fails bytes Memory = ⊤
Fails bytes (Io error) = ⊤
Fails bytes Broken = Reads bytes broken
Fails bytes TooLong = Reads bytes too_long
Fails bytes Ended = Reads bytes ended

-- the bytes of a message: a header that says the length of its body, and the body
abbrev pub frame : List ℕ → List ℕ
frame body = codes "Content-Length: " ++ (decimal (length body) ++ (13 ∷ 10 ∷ 13 ∷ 10 ∷ [] ++ body))
