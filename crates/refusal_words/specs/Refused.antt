-- The messages of refusals (own).
use Rattle.std.specs.Prelude.{ℕ, List, [], ◌∷◌, Option, Some, None, codes}
use Rattle.std.specs.Fmt.{decimal}
use Rattle.report.specs.Pieces.{Word, join}
use Rattle.rotor_base.specs.declared.place.Place.{Place}
use Rattle.rotor_base.specs.declared.place.Goal.TheVariants as goal
use Rattle.rotor_base.specs.declared.refusal.Refusal.{Refusal}
use Rattle.rotor_base.specs.declared.refusal.Refusal.TheVariants as refusal
use Rattle.messages.specs.declared.parts.Message.{Message}
use Rattle.refusal_words.specs.Captured.{capture, mislink}
use Rattle.refusal_words.specs.Cut.{Cut}
use Rattle.refusal_words.specs.Naming.{bad_name, same_name}
use Rattle.refusal_words.specs.Puns.{pun_refused}
use Rattle.refusal_words.specs.Renaming.{clash, grown, outside}
use Rattle.refusal_words.specs.Source.{duplicate, form_refused, heavy, lex_refused, long_name, on_cycle, too_deep, unmatched, unread}

-- of a refusal of a project
abbrev pub project_message : List Cut → Refusal → Option Message
project_message cuts (refusal.Lex file offset) = Some (lex_refused cuts file offset)
project_message cuts (refusal.LongName file offset) = Some (long_name cuts file offset)
project_message cuts (refusal.Form at kind) = Some (form_refused cuts at kind)
project_message cuts (refusal.Deep at) = Some (too_deep cuts at)
project_message cuts (refusal.Syntax file) = Some (unread cuts file)
project_message cuts (refusal.Cycle unit) = Some (on_cycle unit)
project_message cuts (refusal.Duplicate first again) = Some (duplicate cuts first again)
project_message cuts (refusal.Heavy at) = Some (heavy cuts at)
project_message cuts (refusal.Unmatched item) = Some (unmatched cuts item)
project_message cuts _ = None

-- of a refusal of a renaming of these declarations to this name
abbrev pub renaming_message : List Cut → List Place → Word → Refusal → Option Message
renaming_message cuts decls name refusal.BadName = Some (bad_name name)
renaming_message cuts decls name refusal.SameName = Some (same_name name)
renaming_message cuts decls name (refusal.Outside at) = Some (outside cuts at)
renaming_message cuts decls name (refusal.Pun at) = Some (pun_refused cuts at)
renaming_message cuts decls name (refusal.Grown file) = Some (grown cuts file)
renaming_message cuts decls name (refusal.Clash first again) = Some (clash cuts first again name)
renaming_message cuts decls name (refusal.Capture at was would) = Some (capture cuts decls at was would)
renaming_message cuts decls name (refusal.Mislink (goal.Decl item) was would) = Some (mislink cuts decls item was would)
renaming_message cuts decls name _ = None

-- of a step of a batch
abbrev pub in_step : ℕ → Message → Message
in_step step message = record message { text = join (codes "step " ∷ decimal step ∷ codes ": " ∷ message.text ∷ []) }
