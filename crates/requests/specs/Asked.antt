-- Requests (Language Server Protocol 3.17, "Language Features" and "Lifecycle Messages").
use Rattle.std.specs.Prelude.{ℕ, List, Bool, true, Option, Some, None, Result, Ok, Err, codes, option_and_then, option_map, unwrap_or}
use Rattle.std.specs.Borrow.{Bor}
use Rattle.std.specs.Option.{ok_or, option_copied}
use Rattle.serde_json.specs.Data.{Data}
use Rattle.serde_json.specs.Find.{as_bool, as_str, get}
use Rattle.requests.specs.Client.{client_of}
use Rattle.requests.specs.Method.{method_named}
use Rattle.requests.specs.Spot.{spot_of, spot_words}
use Rattle.requests.specs.declared.asked.Query.{Query}
use Rattle.requests.specs.declared.asked.Query.TheVariants as query
use Rattle.requests.specs.declared.asked.Request.{Request}
use Rattle.requests.specs.declared.asked.Request.TheVariants as asked
use Rattle.requests.specs.declared.asked.RequestError.{RequestError}
use Rattle.requests.specs.declared.asked.RequestError.TheVariants.{UnknownMethod, BadClient, BadParameters}
use Rattle.requests.specs.declared.method.Method.{Method}
use Rattle.requests.specs.declared.method.Method.TheVariants.{Initialize, Shutdown, PrepareRename, Rename, References, Definition, DocumentHighlight}
use Rattle.requests.specs.declared.spot.Spot.{Spot}

abbrev pub params_of : Data → Option Data
params_of message = get (codes "params") message

-- the place that a request names
abbrev pub asked_spot : Data → Option (Spot (List ℕ))
asked_spot message = option_and_then spot_of (params_of message)

-- the new name of a renaming
abbrev pub name_of : Data → Option (List ℕ)
name_of message = option_and_then as_str (option_and_then (get (codes "newName")) (params_of message))

-- what a request says of the declarations
abbrev pub says_declarations : Data → Option Bool
says_declarations message =
    option_and_then as_bool (option_and_then (get (codes "includeDeclaration")) (option_and_then (get (codes "context")) (params_of message)))

abbrev pub declarations_of : Data → Bool
declarations_of message = unwrap_or (says_declarations message) true

-- a query at the place that a request names
abbrev pub asked_there : Data → Query (List ℕ) → Option (Request (List ℕ))
asked_there message what = option_map (λ spot. asked.Document spot what) (asked_spot message)

-- what a request with this method asks, if its parameters are those of the method
abbrev pub request_for : Method → Data → Option (Request (List ℕ))
request_for Initialize message = option_map asked.Initialize (option_and_then client_of (params_of message))
request_for Shutdown message = Some asked.Shutdown
request_for PrepareRename message = asked_there message query.PrepareRename
request_for Rename message = asked_there message (query.Rename (name_of message))
request_for References message = asked_there message (query.References (declarations_of message))
request_for Definition message = asked_there message query.Definition
request_for DocumentHighlight message = asked_there message query.DocumentHighlight

-- why a request with this method is none
abbrev pub bad_parameters : Method → RequestError
bad_parameters Initialize = BadClient
bad_parameters Shutdown = BadParameters
bad_parameters PrepareRename = BadParameters
bad_parameters Rename = BadParameters
bad_parameters References = BadParameters
bad_parameters Definition = BadParameters
bad_parameters DocumentHighlight = BadParameters

-- what a request with the method of this name asks
abbrev pub request_named : Option Method → Data → Result (Request (List ℕ)) RequestError
request_named None message = Err UnknownMethod
request_named (Some method) message = ok_or (request_for method message) (bad_parameters method)

abbrev pub request_of : List ℕ → Data → Result (Request (List ℕ)) RequestError
request_of name message = request_named (method_named name) message

-- the same values, with the bytes of what is borrowed
abbrev pub query_words : Query (Bor (List ℕ)) → Query (List ℕ)
query_words query.PrepareRename = query.PrepareRename
query_words (query.Rename name) = query.Rename (option_copied name)
query_words (query.References with_declarations) = query.References with_declarations
query_words query.Definition = query.Definition
query_words query.DocumentHighlight = query.DocumentHighlight

abbrev pub request_words : Request (Bor (List ℕ)) → Request (List ℕ)
request_words (asked.Initialize client) = asked.Initialize client
request_words asked.Shutdown = asked.Shutdown
request_words (asked.Document spot what) = asked.Document (spot_words spot) (query_words what)

abbrev pub result_words : Result (Request (Bor (List ℕ))) RequestError → Result (Request (List ℕ)) RequestError
result_words (Ok request) = Ok (request_words request)
result_words (Err error) = Err error
