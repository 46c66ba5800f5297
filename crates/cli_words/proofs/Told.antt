-- A command is declared to `clap` argument by argument, and subcommand by subcommand.
use Rattle.std.proofs.Common.{◌≡◌, ◌∙◌, ◌||◌, Bool, false, Result, Ok, Err, IfOk, ap₂}
use Rattle.clap.specs.Words.{AddsArg, AddsSubcommand, App, Rule, rule_of, with_rule, with_subcommand}
use Rattle.clap.specs.declared.builder.arg.Arg.{Arg}
use Rattle.clap.specs.declared.builder.command.Command.{Command}
use Rattle.cli_words.specs.Grammar.{IsTold, above_app}

-- one more argument
pub told_arg : (old new : Command) (arg : Arg) (app : App) (rule : Rule) → IsTold old app → rule_of arg ≡ rule → arg.global ≡ false
    → AddsArg old arg new → IsTold new (with_rule app rule)
told_arg old new arg app rule told is local added = record {
  shape = added.shape local ∙ ap₂ with_rule told.shape is;
  local = added.globals ∙ ap₂ (λ (a b : Bool). a || b) told.local local;
}

pub told_last_arg : {E : Type 0} (old : Command) (arg : Arg) (app : App) (rule : Rule) (r : Result Command E) → IsTold old app → rule_of arg ≡ rule
    → arg.global ≡ false
    → IfOk r (λ new. AddsArg old arg new) → IfOk r (λ new. IsTold new (with_rule app rule))
told_last_arg old arg app rule (Ok new) told is local added = told_arg old new arg app rule told is local added
told_last_arg old arg app rule (Err e) told is local added = tt

-- one more subcommand
pub told_sub : (old new sub : Command) (app below : App) → IsTold old app → IsTold sub below → AddsSubcommand old sub new
    → IsTold new (above_app app below)
told_sub old new sub app below told under added = record {
  shape = added.shape under.local ∙ ap₂ (λ (a b : App). with_subcommand a b.top) told.shape under.shape;
  local = added.globals ∙ ap₂ (λ (a b : Bool). a || b) told.local under.local;
}

pub told_last_sub : {E : Type 0} (old sub : Command) (app below : App) (r : Result Command E) → IsTold old app → IsTold sub below
    → IfOk r (λ new. AddsSubcommand old sub new) → IfOk r (λ new. IsTold new (above_app app below))
told_last_sub old sub app below (Ok new) told under added = told_sub old new sub app below told under added
told_last_sub old sub app below (Err e) told under added = tt
