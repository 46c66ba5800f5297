use Rattle.std.proofs.Common.{◌∙◌, List, ℕ, sym}
use Rattle.std.specs.Str.{bytes_eq}
use denote.Ref.{Bor}
use Rattle.project_load.proofs.Kept.{any_map}
use Rattle.folder_messages.proofs.unit_lines.names_unit.Goals as goal

pub returns : goal.returns
returns c = c.has_word.ensures ∙ sym (any_map (λ (line : Bor (List ℕ)). line.now) (bytes_eq c.args.word.now) c.args.lines.now)
