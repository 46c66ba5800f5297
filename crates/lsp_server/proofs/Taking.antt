-- What follows from a message that is heard, and how the texts of a session are lost.
use Rattle.std.proofs.Common.{◌≡◌, ℕ, List, true, Option, ap, ◌∙◌, subst}
use Rattle.std.specs.Prelude.{Result, Ok, Err, IfOk}
use Rattle.serde_json.specs.Data.{Data}
use Rattle.open_documents.specs.Workspace.{KeepsFolders, documents_in}
use Rattle.open_documents.specs.declared.workspace.Workspace.{Workspace}
use Rattle.requests.specs.Json.{Writes}
use Rattle.requests.specs.Message.{message_of}
use Rattle.lsp_session.specs.Hearing.{HearsNotice, lost_task}
use Rattle.lsp_session.specs.Session.{held_documents, is_lost, state_of}
use Rattle.lsp_session.specs.State.{state_after}
use Rattle.lsp_session.specs.Task.{task_of}
use Rattle.lsp_session.specs.declared.session.Session.{Session}
use Rattle.lsp_session.specs.declared.task.Task.{Task}
use Rattle.lsp_server.specs.Does.{Does, FolderMap, Replies}
use Rattle.lsp_server.specs.Follows.{FollowsFrom, LosesTexts, heard, no_json}

pub follows_heard : (replies : Replies) (folders : FolderMap) (old new : Session) (body : List ℕ) (value : Data)
    (texts : List (List ℕ)) (status : Option ℕ)
    (t : Task (List ℕ)) → Writes body value → state_of new ≡ state_after (state_of old) (message_of value)
    → HearsNotice (state_of old) (message_of value) (held_documents old) (held_documents new) → is_lost new ≡ is_lost old
    → t ≡ task_of (state_of old) (is_lost old) (message_of value) → Does replies folders new t texts status
    → FollowsFrom replies folders old body texts status new
follows_heard replies folders old new body value texts status t writes state documents lost e does =
    heard value writes (record { state = state; documents = documents; lost = lost })
    (subst (λ (u : Task (List ℕ)). Does replies folders new u texts status) e does)

pub loses : (old mid new : Session) → KeepsFolders (held_documents old) (held_documents mid) → state_of mid ≡ state_of old
    → is_lost new ≡ true → state_of new ≡ state_of mid → held_documents new ≡ held_documents mid → LosesTexts old new
loses old mid new kept stays lost state held = record {
  lost = lost;
  state = state ∙ stays;
  documents = λ path. ap (λ (w : Workspace). documents_in w path) held ∙ kept path;
}

pub loses_now : (old new : Session) → is_lost new ≡ true → state_of new ≡ state_of old → held_documents new ≡ held_documents old → LosesTexts old new
loses_now old new lost state held = record {
  lost = lost;
  state = state;
  documents = λ path. ap (λ (w : Workspace). documents_in w path) held;
}

pub follows_no_json : (replies : Replies) (folders : FolderMap) (old new : Session) (body : List ℕ) (texts : List (List ℕ)) (status : Option ℕ)
    (t : Task (List ℕ)) → ((value : Data) → ¬ (Writes body value)) → LosesTexts old new → t ≡ lost_task → Does replies folders new t texts status
    → FollowsFrom replies folders old body texts status new
follows_no_json replies folders old new body texts status t none loses e does =
    no_json none loses (subst (λ (u : Task (List ℕ)). Does replies folders new u texts status) e does)

-- what is known of an answer, from what is known of it
pub ok_one : {T E : Type 0} (r : Result T E) (P Q : T → Type 0) → ((t : T) → P t → Q t) → IfOk r P → IfOk r Q
ok_one (Ok t) P Q f p = f t p
ok_one (Err e) P Q f p = tt

pub ok_both : {T E : Type 0} (r : Result T E) (P Q S : T → Type 0) → ((t : T) → P t → Q t → S t) → IfOk r P → IfOk r Q → IfOk r S
ok_both (Ok t) P Q S f p q = f t p q
ok_both (Err e) P Q S f p q = tt
