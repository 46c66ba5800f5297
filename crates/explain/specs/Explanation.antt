-- What is said (own).
use Rattle.std.specs.Prelude.{List, ℕ, [], ◌∷◌, ◌++◌, Bool, true, false, Option, Some, None, flat_map}
use Rattle.messages.specs.declared.parts.Message.{Message}
use Rattle.messages.specs.Json.{json_of}
use Rattle.messages.specs.Printed.{message_text}
use Rattle.explain.specs.declared.ending.Ending.{Ending}
use Rattle.explain.specs.declared.explanation.Explanation.{Explanation}

-- the message, if there is one
abbrev pub listed : Option Message → List Message
listed None = []
listed (Some message) = message ∷ []

-- messages alone
abbrev pub explanation_of_messages : Ending → List Message → Explanation
explanation_of_messages ending messages = record { ending = ending; messages = messages; text = []; places = [] }

-- one message, if there is one
abbrev pub explanation_of_message : Ending → Option Message → Explanation
explanation_of_message ending message = explanation_of_messages ending (listed message)

-- a text alone
abbrev pub explanation_of_text : Ending → List ℕ → Explanation
explanation_of_text ending text = record { ending = ending; messages = []; text = text; places = [] }

-- messages as lines, and a text behind them
abbrev pub lines_text : List Message → List ℕ → List ℕ
lines_text messages behind = flat_map message_text messages ++ behind

-- what is printed: an array of JSON with the places behind the messages; or lines
abbrev pub explanation_text : Bool → Explanation → List ℕ
explanation_text true explanation = json_of (explanation.messages ++ explanation.places)
explanation_text false explanation = lines_text explanation.messages explanation.text
