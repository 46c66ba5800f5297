-- A server so far, and its next turn.
use Rattle.std.proofs.Common.{◌≡◌, ℕ, List, [], ◌∷◌, ◌++◌, Option, Some, None, IfSome, refl, sym, subst}
use Rattle.std.specs.Io.KnownBytes.{Appends}
use Rattle.std.specs.List.{flat_map}
use Rattle.std.proofs.KnownBytes.{Appends-nil, Appends-trans}
use Rattle.std.proofs.lemmas.Grind.{flat_map-append}
use Rattle.lsp_frames.specs.Frames.{Gives, frame}
use Rattle.lsp_session.specs.Session.{state_of}
use Rattle.lsp_session.specs.Task.{exit_status}
use Rattle.lsp_session.specs.declared.session.Session.{Session}
use Rattle.lsp_server.specs.Does.{FolderMap, Replies}
use Rattle.lsp_server.specs.Follows.{FollowsFrom}
use Rattle.lsp_server.specs.Serves.{IsFresh, IsTurn, IsUnreadable, Serves, Turns, breaks, closes, exits, more, none}
use Rattle.lsp_server.specs.Texts.{unreadable_text}

-- the turns so far, from the bytes of an input on: the frames of their responses were written
pub record IsServing (replies : Replies) (folders : FolderMap) (first : Session) (bytes : List ℕ) (session : Session) (left old new : Option (List ℕ))
    : Type 0 where
  pub before : List (List ℕ)
  pub rest : List ℕ
  pub is_left : left ≡ Some rest
  pub turns : Turns replies folders first bytes before session rest
  pub written : Appends old new (flat_map frame before)

-- the same, if the bytes of the input are known
abbrev pub MayServe : Replies → FolderMap → Session → Option (List ℕ) → Session → Option (List ℕ) → Option (List ℕ) → Option (List ℕ) → Type 0
MayServe replies folders first known session left old new =
    IfSome known (λ bytes. IsServing replies folders first bytes session left old new)

at_known : (known : Option (List ℕ)) (P : List ℕ → Type 0) (bytes : List ℕ) → IfSome known P → known ≡ Some bytes → P bytes
at_known known P bytes holds e = subst (λ (o : Option (List ℕ)). IfSome o P) e holds

joined : (before texts : List (List ℕ)) (old mid new : Option (List ℕ)) → Appends old mid (flat_map frame before)
    → Appends mid new (flat_map frame texts)
    → Appends old new (flat_map frame (before ++ texts))
joined before texts old mid new p q =
    subst (Appends old new) (sym (flat_map-append frame before texts)) (Appends-trans old mid new (flat_map frame before) (flat_map frame texts) p q)

pub start : (replies : Replies) (folders : FolderMap) (first : Session) (known output : Option (List ℕ))
    → MayServe replies folders first known first known output output
start replies folders first None output = tt
start replies folders first (Some bytes) output = record { before = []; rest = bytes; is_left = refl; turns = none; written = Appends-nil output }

next : (replies : Replies) (folders : FolderMap) (first session now : Session) (known left behind old mid new : Option (List ℕ))
    (texts : List (List ℕ))
    → MayServe replies folders first known session left old mid
    → IfSome left (λ bytes. IsTurn replies folders session bytes texts None now behind)
    → Appends mid new (flat_map frame texts)
    → MayServe replies folders first known now behind old new
next replies folders first session now None left behind old mid new texts serving turn written = tt
next replies folders first session now (Some bytes) left behind old mid new texts serving turn written =
    let t = at_known left (λ b. IsTurn replies folders session b texts None now behind) serving.rest turn serving.is_left in
    record {
      before = serving.before ++ texts;
      rest = t.1;
      is_left = t.4;
      turns = more serving.before texts session now serving.rest t.0 t.1 serving.turns t.2 t.3;
      written = joined serving.before texts old mid new serving.written written;
    }

done : (replies : Replies) (folders : FolderMap) (first session now : Session) (known left behind old mid new : Option (List ℕ))
    (texts : List (List ℕ))
    (status : ℕ) → IsFresh first
    → MayServe replies folders first known session left old mid
    → IfSome left (λ bytes. IsTurn replies folders session bytes texts (Some status) now behind)
    → Appends mid new (flat_map frame texts)
    → IfSome known (λ bytes. Serves replies folders bytes status old new)
done replies folders first session now None left behind old mid new texts status fresh serving turn written = tt
done replies folders first session now (Some bytes) left behind old mid new texts status fresh serving turn written =
    record {
      first = first;
      last = session;
      left = serving.rest;
      before = serving.before;
      texts = texts;
      fresh = fresh;
      turns = serving.turns;
      ends = at_known left (λ b. IsTurn replies folders session b texts (Some status) now behind) serving.rest turn serving.is_left;
      written = joined serving.before texts old mid new serving.written written;
    }

-- a turn that takes a message
takes_known : (replies : Replies) (folders : FolderMap) (old now : Session) (known left : Option (List ℕ)) (body : List ℕ) (texts : List (List ℕ))
    (status : Option ℕ) → IfSome known (λ bytes. Gives bytes (Some body) left) → FollowsFrom replies folders old body texts status now
    → IfSome known (λ bytes. IsTurn replies folders old bytes texts status now left)
takes_known replies folders old now None left body texts status gives follows = tt
takes_known replies folders old now (Some bytes) left body texts None gives follows = (body, gives.0, gives.1, follows, gives.2)
takes_known replies folders old now (Some bytes) left body texts (Some status) gives follows = exits now body gives.0 gives.1 follows

pub takes : (replies : Replies) (folders : FolderMap) (old now : Session) (known left found : Option (List ℕ)) (body read : List ℕ)
    (texts : List (List ℕ)) (status : Option ℕ) → IfSome known (λ bytes. Gives bytes found left) → found ≡ Some body → read ≡ body
    → FollowsFrom replies folders old read texts status now
    → IfSome known (λ bytes. IsTurn replies folders old bytes texts status now left)
takes replies folders old now known left found body read texts status gives e f follows =
    takes_known replies folders old now known left body texts status
    (subst (λ (o : Option (List ℕ)). IfSome known (λ bytes. Gives bytes o left)) e gives)
    (subst (λ (b : List ℕ). FollowsFrom replies folders old b texts status now) f follows)

-- a turn at the end of the input
pub ends : (replies : Replies) (folders : FolderMap) (old : Session) (known left after : Option (List ℕ)) (status : ℕ)
    → IfSome known (λ bytes. Gives bytes None left) → status ≡ exit_status (state_of old)
    → IfSome known (λ bytes. IsTurn replies folders old bytes [] (Some status) old after)
ends replies folders old None left after status gives e = tt
ends replies folders old (Some bytes) left after status gives e = closes gives.0 refl e

-- a turn where no message can be found
pub stops : (replies : Replies) (folders : FolderMap) (old : Session) (known after : Option (List ℕ)) (texts : List (List ℕ)) (status : Option ℕ)
    → IfSome known IsUnreadable → texts ≡ unreadable_text ∷ [] → status ≡ Some 1
    → IfSome known (λ bytes. IsTurn replies folders old bytes texts status old after)
stops replies folders old None after texts status unreadable e f = tt
stops replies folders old (Some bytes) after texts status unreadable e f =
    subst (λ (s : Option ℕ). IsTurn replies folders old bytes texts s old after) (sym f) (breaks unreadable e refl)

-- a turn over the folders as they are now
now_turn : (replies : Replies) (folders there : FolderMap) (session now : Session) (left behind : Option (List ℕ)) (texts : List (List ℕ))
    (status code : Option ℕ) → there ≡ folders → status ≡ code
    → IfSome left (λ bytes. IsTurn replies there session bytes texts status now behind)
    → IfSome left (λ bytes. IsTurn replies folders session bytes texts code now behind)
now_turn replies folders there session now left behind texts status code e f turn =
    subst (λ (s : Option ℕ). IfSome left (λ bytes. IsTurn replies folders session bytes texts s now behind)) f
    (subst (λ (w : FolderMap). IfSome left (λ bytes. IsTurn replies w session bytes texts status now behind)) e turn)

pub goes_on : (replies : Replies) (folders there : FolderMap) (first session now : Session) (known left behind old mid new : Option (List ℕ))
    (texts : List (List ℕ)) (status : Option ℕ) → there ≡ folders → status ≡ None
    → MayServe replies folders first known session left old mid
    → IfSome left (λ bytes. IsTurn replies there session bytes texts status now behind)
    → Appends mid new (flat_map frame texts)
    → MayServe replies folders first known now behind old new
goes_on replies folders there first session now known left behind old mid new texts status e f serving turn written =
    next replies folders first session now known left behind old mid new texts serving
    (now_turn replies folders there session now left behind texts status None e f turn) written

pub is_done : (replies : Replies) (folders there : FolderMap) (first session now : Session) (known left behind old mid new : Option (List ℕ))
    (texts : List (List ℕ)) (status : Option ℕ) (code : ℕ) → there ≡ folders → status ≡ Some code → IsFresh first
    → MayServe replies folders first known session left old mid
    → IfSome left (λ bytes. IsTurn replies there session bytes texts status now behind)
    → Appends mid new (flat_map frame texts)
    → IfSome known (λ bytes. Serves replies folders bytes code old new)
is_done replies folders there first session now known left behind old mid new texts status code e f fresh serving turn written =
    done replies folders first session now known left behind old mid new texts code fresh serving
    (now_turn replies folders there session now left behind texts status (Some code) e f turn) written

pub is_none : (o : Option ℕ) → ((n : ℕ) → ¬ (o ≡ Some n)) → o ≡ None
is_none None never = refl
is_none (Some n) never = absurd (never n refl)
