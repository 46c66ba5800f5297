-- What a server writes (own).
use Rattle.std.specs.Prelude.{◌≡◌, ◌⊎◌, ℕ, List, [], ◌∷◌, ◌++◌, false, Option, Some, None}
use Rattle.std.specs.FinMap.{empty}
use Rattle.std.specs.Io.KnownBytes.{Appends}
use Rattle.std.specs.List.{flat_map}
use Rattle.lsp_frames.specs.Frames.{Reads, at_end, broken, ended, frame, message, too_long}
use Rattle.open_documents.specs.Workspace.{documents_in}
use Rattle.lsp_session.specs.Session.{held_documents, is_lost, state_of}
use Rattle.lsp_session.specs.Task.{exit_status}
use Rattle.lsp_session.specs.declared.session.Session.{Session}
use Rattle.lsp_session.specs.declared.state.State.TheVariants.{New}
use Rattle.lsp_server.specs.Does.{FolderMap, Replies}
use Rattle.lsp_server.specs.Follows.{FollowsFrom}
use Rattle.lsp_server.specs.Texts.{unreadable_text}

-- a session before its first message
pub record IsFresh (session : Session) : Type 0 where
  pub state : state_of session ≡ New
  pub lost : is_lost session ≡ false
  pub documents : (path : List ℕ) → documents_in (held_documents session) path ≡ empty

-- no message can be found at the front of the bytes
abbrev pub IsUnreadable : List ℕ → Type 0
IsUnreadable bytes = Reads bytes broken ⊎ Reads bytes too_long ⊎ Reads bytes ended

-- messages one after the other, from a session and the bytes of an input on: their responses in order, the session behind
-- them, and the bytes that are left
pub data Turns (replies : Replies) (folders : FolderMap) (first : Session) (bytes : List ℕ)
    : List (List ℕ) → Session → List ℕ → Type 0 where
  none : Turns replies folders first bytes [] first bytes
  more : (before texts : List (List ℕ)) (old new : Session) (left body rest : List ℕ)
      → Turns replies folders first bytes before old left → Reads left (message body rest) → FollowsFrom replies folders old body texts None new
      → Turns replies folders first bytes (before ++ texts) new rest

-- the end of a session before these bytes: `exit`, the end of the input, or a place where no message can be found
pub data Ends (replies : Replies) (folders : FolderMap) (old : Session) (bytes : List ℕ) (texts : List (List ℕ)) (status : ℕ) : Type 0 where
  exits : (new : Session) (body rest : List ℕ) → Reads bytes (message body rest) → FollowsFrom replies folders old body texts (Some status) new
      → Ends replies folders old bytes texts status
  closes : Reads bytes at_end → texts ≡ [] → status ≡ exit_status (state_of old) → Ends replies folders old bytes texts status
  breaks : IsUnreadable bytes → texts ≡ unreadable_text ∷ [] → status ≡ 1 → Ends replies folders old bytes texts status

-- what a server makes of the bytes of an input: the messages one after the other, and the end; it has written the frames of
-- the responses in order, and nothing else
pub record Serves (replies : Replies) (folders : FolderMap) (bytes : List ℕ) (status : ℕ) (old new : Option (List ℕ)) : Type 0 where
  pub first : Session
  pub last : Session
  pub left : List ℕ
  pub before : List (List ℕ)
  pub texts : List (List ℕ)
  pub fresh : IsFresh first
  pub turns : Turns replies folders first bytes before last left
  pub ends : Ends replies folders last left texts status
  pub written : Appends old new (flat_map frame (before ++ texts))

-- what a server makes of the next message: it goes on behind it, or it ends
abbrev pub IsTurn : Replies → FolderMap → Session → List ℕ → List (List ℕ) → Option ℕ → Session → Option (List ℕ) → Type 0
IsTurn replies folders old bytes texts None new left =
    (body : List ℕ) × (rest : List ℕ) × Reads bytes (message body rest) × FollowsFrom replies folders old body texts None new × (left ≡ Some rest)
IsTurn replies folders old bytes texts (Some status) new left = Ends replies folders old bytes texts status
