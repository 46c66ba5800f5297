-- What is known of a project that a query is answered over (own).
use Rattle.std.specs.Prelude.{◌≡◌, ◌≤◌, ℕ, All, Result, length, map}
use Rattle.report.specs.Pieces.{Word}
use Rattle.rotor_base.specs.Limits.{max_file_bytes}
use Rattle.ml_lexer.specs.Lexed.{view_tokens}
use Rattle.ml_trees.specs.View.{view_project}
use Rattle.project_reading.specs.Sources.{AreCut}
use Rattle.kept_projects.specs.Kept.{IsKept}
use Rattle.refusal_words.specs.Cut.{AreCuts, Cut, view_cut}
use Rattle.text_places.specs.declared.counting.Position.{Position}
use Rattle.lsp_answers.specs.declared.answer.Answer.{Answer}
use Rattle.lsp_answers.specs.declared.answer.Failure.{Failure}
use Rattle.requests.specs.declared.asked.Query.{Query}
use Rattle.document_scene.specs.Scene.{view_scene}
use Rattle.document_answers.specs.Over.{RepliesAt}
use Rattle.document_answers.specs.declared.over.Around.{Around}

-- it is what the files are accepted as, with its facts and its tokens, and the sources have their lexemes
pub record IsKnown (a : Around) : Type 0 where
  pub kept : IsKept a.files.now (view_project a.read.now.project) a.resolved.now
  pub tokens : AreCut a.files.now.entries (map (λ list. view_tokens list.items) a.read.now.tokens.items)
  pub sources : a.scene.sources.now ≡ a.files.now.entries
  pub cut : AreCuts a.files.now.entries (map view_cut a.scene.cuts.now)
  pub small : All (λ cut. length cut.tokens.items ≤ max_file_bytes) a.scene.cuts.now

-- the reply at a position of a source of that project, by its lexemes
abbrev pub RepliesAround : Around → ℕ → Cut → Position → Query Word → Result Answer Failure → Type 0
RepliesAround a number cut here asked =
    RepliesAt a.files.now (view_project a.read.now.project) (view_scene a.scene) a.has_versions number cut here asked
