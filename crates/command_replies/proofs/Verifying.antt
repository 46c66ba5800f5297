-- The reply to `verify`.
use Rattle.std.proofs.Common.{◌≡◌, ◌⊎◌, ℕ, List, [], Option, Some, None, Result, Ok, Err, IfSome, IfOk, IfErr, OnOk, ◌≢◌, refl, sym, ap, subst, inl}
use Rattle.std.proofs.Common.{inr}
use Rattle.rotor_base.specs.Files.{FileSet, names_of}
use Rattle.rotor_base.specs.declared.refusal.Refusal.{Refusal}
use Rattle.rotor_base.specs.declared.refusal.Refusal.TheVariants as refusal
use Rattle.tree_io.specs.Outside.{FileMap}
use Rattle.tree_io.specs.declared.outside.TreeError.{TreeError}
use Rattle.project_load.specs.Listed.{IsListAnswer, IsOutsideList, Lists}
use Rattle.project_load.specs.declared.error.ListError.{ListError}
use Rattle.project_load.specs.declared.error.ListError.TheVariants as list_error
use Rattle.rename_verify.specs.declared.verdict.Verdict.{Verdict}
use Rattle.rename_verify.specs.declared.verdict.Verdict.TheVariants.{Yes, No}
use Rattle.command_replies.specs.declared.reply.Reply.{Reply}
use Rattle.command_replies.specs.Said.{IsJudged, IsCommandReply, RefusesList, SaysAgainst, unlisted, judged, SaysVerify, no_list, listed, judged_reply}
use Rattle.command_replies.proofs.NoMemory.{names_verdict}
use Rattle.command_replies.proofs.Saying.{refusal_kind}

-- ---- the reply to a verdict

pub judged_kind : (old new : FileSet) (reply : Reply) → IsJudged old new reply → IsCommandReply reply
judged_kind old new reply (answer, v, e) = subst IsCommandReply (sym e) (by answer (names_verdict old new answer v)) where
  by : (answer : Result Verdict Refusal) → IfErr answer (λ why. why ≢ refusal.Memory) → IsCommandReply (judged_reply (names_of old.entries) answer)
  by (Ok (Yes changes)) named = tt
  by (Ok (No why)) named = refl
  by (Err why) named = refusal_kind why named

pub judged_writes : (old new : FileSet) (reply : Reply) → IsJudged old new reply → reply.writes ≡ []
judged_writes old new reply (Ok verdict, v, e) = ap (λ (r : Reply). r.writes) e
judged_writes old new reply (Err why, v, e) = ap (λ (r : Reply). r.writes) e

-- ---- the reply to a list that gives no project

pub list_kind : (name : List ℕ) (error : ListError) (result : Result Reply TreeError) → IfOk result (RefusesList name error)
    → IfOk result IsCommandReply
list_kind name error (Err fault) h = tt
list_kind name list_error.Read (Ok reply) h = absurd h
list_kind name (list_error.BadList number) (Ok reply) h = subst IsCommandReply (sym h) refl
list_kind name (list_error.Load why) (Ok reply) h = subst IsCommandReply (sym h) refl

pub list_writes : (name : List ℕ) (error : ListError) (result : Result Reply TreeError) → IfOk result (RefusesList name error)
    → IfOk result (λ reply. reply.writes ≡ [])
list_writes name error (Err fault) h = tt
list_writes name list_error.Read (Ok reply) h = absurd h
list_writes name (list_error.BadList number) (Ok reply) h = ap (λ (r : Reply). r.writes) h
list_writes name (list_error.Load why) (Ok reply) h = ap (λ (r : Reply). r.writes) h

-- ---- what is said

-- a list gives these files
gives : (held : FileMap) (name : List ℕ) (result : Result FileSet ListError) (files : FileSet) → result ≡ Ok files → IsListAnswer held name result
    → Lists held name (Ok files)
gives held name result files e h = subst (IsListAnswer held name) e h

-- or none, and neither the folder nor memory failed
gives_none : (held : FileMap) (name : List ℕ) (result : Result FileSet ListError) (error : ListError) → result ≡ Err error
    → IsListAnswer held name result
    → (IsOutsideList error → ⊥) → Lists held name (Err error)
gives_none held name result error e h inside = by (subst (IsListAnswer held name) e h) where
  by : IsOutsideList error ⊎ Lists held name (Err error) → Lists held name (Err error)
  by (inl out) = absurd (inside out)
  by (inr is) = is

module _ (content : Option FileMap) (name : List ℕ) (result : Result FileSet ListError)
    (h : IfSome content (λ held. IsListAnswer held name result)) where
  pub said_judged : (old new : FileSet) (reply : Reply) → result ≡ Ok new → IsJudged old new reply
      → IfSome content (λ held. SaysAgainst old name held reply)
  said_judged old new reply e j = by content h where
    by : (c : Option FileMap) → IfSome c (λ held. IsListAnswer held name result) → IfSome c (λ held. SaysAgainst old name held reply)
    by None a = tt
    by (Some held) a = judged new (gives held name result new e a) j

  pub said_unlisted : (old : FileSet) (error : ListError) (answer : Result Reply TreeError) → result ≡ Err error
      → IfOk answer (RefusesList name error)
      → OnOk answer (IsOutsideList error → ⊥) → IfOk answer (λ reply. IfSome content (λ held. SaysAgainst old name held reply))
  said_unlisted old error (Err fault) e r inside = tt
  said_unlisted old error (Ok reply) e r inside = by content h where
    by : (c : Option FileMap) → IfSome c (λ held. IsListAnswer held name result) → IfSome c (λ held. SaysAgainst old name held reply)
    by None a = tt
    by (Some held) a = unlisted error (gives_none held name result error e a inside) r

  pub said_listed : (now : Option FileMap) (new : List ℕ) (files : FileSet) (answer : Result Reply TreeError) → now ≡ content → result ≡ Ok files
      → IfOk answer (λ reply. IfSome now (λ held. SaysAgainst files new held reply))
      → IfOk answer (λ reply. IfSome content (λ held. SaysVerify name new held reply))
  said_listed now new files (Err fault) same e s = tt
  said_listed now new files (Ok reply) same e s =
      by content h (subst (λ (c : Option FileMap). IfSome c (λ held. SaysAgainst files new held reply)) same s) where
        by : (c : Option FileMap) → IfSome c (λ held. IsListAnswer held name result) → IfSome c (λ held. SaysAgainst files new held reply)
            → IfSome c (λ held. SaysVerify name new held reply)
        by None a t = tt
        by (Some held) a t = listed files (gives held name result files e a) t

  pub said_no_list : (new : List ℕ) (error : ListError) (answer : Result Reply TreeError) → result ≡ Err error → IfOk answer (RefusesList name error)
      → OnOk answer (IsOutsideList error → ⊥) → IfOk answer (λ reply. IfSome content (λ held. SaysVerify name new held reply))
  said_no_list new error (Err fault) e r inside = tt
  said_no_list new error (Ok reply) e r inside = by content h where
    by : (c : Option FileMap) → IfSome c (λ held. IsListAnswer held name result) → IfSome c (λ held. SaysVerify name new held reply)
    by None a = tt
    by (Some held) a = no_list error (gives_none held name result error e a inside) r
