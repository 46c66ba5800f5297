-- The laws of messages (own).
use Rattle.std.specs.Prelude.{◌≡◌, ◌≤◌, ℕ, List, ◌++◌, length}
use Rattle.lsp_frames.specs.Frames.{Outcome, Reads, frame, max_message, message}

-- bytes begin with one outcome
abbrev pub HaveOneReading : Type 0
HaveOneReading = (bytes : List ℕ) (a b : Outcome) → Reads bytes a → Reads bytes b → a ≡ b

-- the bytes of a message begin with its body, whatever is behind them
abbrev pub ComesBack : Type 0
ComesBack = (body rest : List ℕ) → length body ≤ max_message → Reads (frame body ++ rest) (message body rest)
