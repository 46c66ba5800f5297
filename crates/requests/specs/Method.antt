-- The names of the methods (Language Server Protocol 3.17).
use Rattle.std.specs.Prelude.{ℕ, List, Option, Some, None, codes, if◌then◌else◌}
use Rattle.std.specs.Str.{bytes_eq}
use Rattle.requests.specs.declared.method.Method.{Method}
use Rattle.requests.specs.declared.method.Method.TheVariants.{Initialize, Shutdown, PrepareRename, Rename, References, Definition, DocumentHighlight}

-- the method of a request with this name
abbrev pub method_named : List ℕ → Option Method
method_named name =
    if bytes_eq name (codes "initialize") then Some Initialize
    else (if bytes_eq name (codes "shutdown") then Some Shutdown
    else (if bytes_eq name (codes "textDocument/prepareRename") then Some PrepareRename
    else (if bytes_eq name (codes "textDocument/rename") then Some Rename
    else (if bytes_eq name (codes "textDocument/references") then Some References
    else (if bytes_eq name (codes "textDocument/definition") then Some Definition
    else (if bytes_eq name (codes "textDocument/documentHighlight") then Some DocumentHighlight else None))))))
