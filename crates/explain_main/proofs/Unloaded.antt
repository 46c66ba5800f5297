-- What is said of a folder that does not load.
use Rattle.std.proofs.Common.{◌≡◌, ◌∙◌, Option, None, Some, IfSome, ap}
use Rattle.rotor_base.specs.declared.refusal.LoadError.{LoadError}
use Rattle.tree_io.specs.Outside.{FileMap}
use Rattle.messages.specs.declared.parts.Message.{Message}
use Rattle.explain.specs.declared.ending.Ending.TheVariants.{Project}
use Rattle.explain.specs.declared.explanation.Explanation.{Explanation}
use Rattle.explain.specs.Explanation.{explanation_of_message}
use Rattle.folder_messages.specs.Folder.{message_of}
use Rattle.explain_main.specs.Said.{IsUnloaded}

pub is_unloaded : (content : Option FileMap) (why : LoadError) (message : Option Message) (explanation : Explanation)
    → IfSome content (λ held. message ≡ message_of why held) → explanation ≡ explanation_of_message Project message
    → IsUnloaded content why explanation
is_unloaded None why message explanation h is = tt
is_unloaded (Some held) why message explanation h is = is ∙ ap (explanation_of_message Project) h
