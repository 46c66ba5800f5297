-- What a call replies that passes on the reply of another.
use Rattle.std.proofs.Common.{◌≡◌, List, Result, Ok, Err, IfOk}
use Rattle.report.specs.Pieces.{Word}
use Rattle.rotor_base.specs.Files.{FileSet}
use Rattle.rotor_base.specs.declared.refusal.Refusal.{Refusal}
use Rattle.rotor_base.specs.declared.source.SourceFile.{SourceFile}
use Rattle.text_places.specs.declared.counting.Counting.{Counting}
use Rattle.text_places.specs.declared.counting.Position.{Position}
use Rattle.rename_files.specs.Answer.{Rejects}
use Rattle.open_documents.specs.Documents.{DocumentMap}
use Rattle.refusal_words.specs.Cut.{Cut}
use Rattle.lsp_answers.specs.declared.answer.Answer.{Answer}
use Rattle.lsp_answers.specs.declared.answer.Failure.{Failure}
use Rattle.requests.specs.declared.asked.Query.{Query}
use Rattle.requests.specs.declared.client.Client.{Client}
use Rattle.query_failures.specs.Folder.{IsProjectFailure}
use Rattle.document_scene.specs.Scene.{Telling}
use Rattle.document_answers.specs.Over.{RepliesOver, rejected, telling}
use Rattle.document_answers.specs.Refused.{IsRefused}

-- of two facts
pub if_ok_both : {A E : Type 0} (result : Result A E) (P Q R : A → Type 0) → ((a : A) → P a → Q a → R a) → IfOk result P → IfOk result Q
    → IfOk result R
if_ok_both (Ok a) P Q R f h k = f a h k
if_ok_both (Err e) P Q R f h k = tt

pub over_rejected : {E : Type 0} (client : Client) (folder : Word) (held : DocumentMap) (name : Word) (files : FileSet) (here : Position)
    (asked : Query Word) (why : Refusal) (result : Result (Result Answer Failure) E) → IfOk result (λ _. Rejects files why)
    → IfOk result (IsRefused asked (IsProjectFailure files why)) → IfOk result (RepliesOver client folder held name files here asked)
over_rejected client folder held name files here asked why (Ok reply) is h = rejected why is h
over_rejected client folder held name files here asked why (Err e) is h = tt

-- a folder as an answer shows it
pub same_telling : (folder given : Word) (held : DocumentMap) (sources : List SourceFile) (files : FileSet) (cuts : List Cut)
    (counting counted : Counting) → given ≡ folder → sources ≡ files.entries → counted ≡ counting
    → ◌≡◌ {A = Telling} (record { folder = given; held = held; sources = sources; cuts = cuts; counting = counted })
    (telling folder held files cuts counting)
same_telling folder given held sources files cuts counting counted f s n = cc
