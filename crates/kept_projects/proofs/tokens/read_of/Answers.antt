use Rattle.std.proofs.Common.{List, subst, sym}
use Rattle.ml_lexer.specs.Lexed.{Lexeme}
use Rattle.project_reading.specs.Sources.{AreCut}
use Rattle.kept_projects.proofs.Listing.{cut_lists}
use Rattle.kept_projects.proofs.tokens.read_of.Goals as goal

pub returns-clause-tokens : goal.returns-clause-tokens
returns-clause-tokens c = λ files us cut reads.
    subst (λ (lists : List (List Lexeme)). AreCut files.entries lists) (sym c.in_ok-tokens.ensures)
    (cut_lists 0 files.entries c.args.cuts.now reads.trees cut reads.read)
