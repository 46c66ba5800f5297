use Rattle.std.proofs.Common.{◌≡◌, ◌∙◌, Option, List, ℕ, String, Vec, IfSome, ap, map, option_map, string_bytes, subst}
use Rattle.std.specs.declared.alloc.Global.{Global}
use Rattle.tree_io.specs.Outside.{FileMap}
use Rattle.project_load.specs.Load.{manifest_of, source_names}
use Rattle.folder_messages.specs.Folder.{front_of, manifest_message}
use Rattle.folder_messages.proofs.Holding.{no_units, units_explained}
use Rattle.folder_messages.proofs.folder.manifest_message.Goals as goal

pub returns-in_default-clause-message : goal.returns-in_default-clause-message
returns-in_default-clause-message g c =
    no_units (g.T.Tree.content c.args.tree.now) c.args.line
    (subst (λ (found : Option (Vec ℕ Global)). IfSome (g.T.Tree.content c.args.tree.now)
    (λ held. option_map (λ bytes. bytes.items) found ≡ front_of (manifest_of held))) c.in_default.is c.in_ok-bytes.ensures.bytes)

pub returns-clause-message : goal.returns-clause-message
returns-clause-message g c =
    let content = g.T.Tree.content c.args.tree.now in
    units_explained content c.in-Some.bytes.items (map string_bytes c.in_ok-names.names.items) c.args.line
    c.in_ok-manifest_message.field-0
    (subst (λ (found : Option (Vec ℕ Global)). IfSome content (λ held. option_map (λ bytes. bytes.items) found ≡ front_of (manifest_of held)))
    c.in-Some.is c.in_ok-bytes.ensures.bytes)
    (subst (λ (o : Option FileMap). IfSome o (λ held. map string_bytes c.in_ok-names.names.items ≡ source_names held))
    c.in_ok-bytes.ensures.content c.in_ok-names.ensures.names)
    (c.in_ok-manifest_message.ensures
    ∙ ap (λ (ns : List (String Global)). manifest_message c.deref.result.now (map string_bytes ns) c.args.line) c.deref-2.ensures.value
    ∙ ap (λ (bs : List ℕ). manifest_message bs (map string_bytes c.in_ok-names.names.items) c.args.line) c.deref.ensures.value)
