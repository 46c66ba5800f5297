use Rattle.std.proofs.Common.{map, take}
use Rattle.ml_lexer.specs.Lexed.{view_tokens}
use Rattle.ml_trees.specs.View.{view_file}
use Rattle.project_reading.specs.Known.{AreKnown}
use Rattle.project_reading.specs.Sources.{AreCut, ReadAll}
use Rattle.project_reading.proofs.sources.read_sources.Given as goal

abbrev pub invariant-loop-number : goal.invariant-loop-number
invariant-loop-number l = record {
  read : ReadAll 0 (take l.number l.sources) (map view_file l.trees.items);
  known : AreKnown l.sources l.left;
  cut : AreCut (take l.number l.sources) (map (λ list. view_tokens list.items) l.cut.items);
}
