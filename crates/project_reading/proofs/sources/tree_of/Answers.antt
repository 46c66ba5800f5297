use Rattle.std.proofs.Common.{inl, ap, ◌∙◌, Err}
use Rattle.project_reading.proofs.ReadSource.{Tells, read_tree, read_form, read_deep, read_nothing}
use Rattle.project_reading.proofs.sources.tree_of.Goals as goal

pub returns-in-Ok-clause-tree : goal.returns-in-Ok-clause-tree
returns-in-Ok-clause-tree c =
    let source = c.args.source.now in
    let ts = c.args.tokens.now in
    let r = c.parse_file.result in
    let tells : Tells ts r = record { forms = c.parse_file.ensures.form; nesting = c.parse_file.ensures.deep } in
    read_tree c.args.number source c.kind_of.result ts c.kind_of.ensures c.requires.cut r c.in-Ok.tree c.in-Ok.is tells c.in-Ok.ensures.found

pub returns-in-Err-Form-clause-refused : goal.returns-in-Err-Form-clause-refused
returns-in-Err-Form-clause-refused c =
    let source = c.args.source.now in
    let ts = c.args.tokens.now in
    let r = c.parse_file.result in
    let tells : Tells ts r = record { forms = c.parse_file.ensures.form; nesting = c.parse_file.ensures.deep } in
    let is = c.in-Err-Form.is ∙ ap (λ e. Err e) c.in-Err-Form.field-0-is in
    inl (read_form c.args.number source c.kind_of.result ts c.kind_of.ensures c.requires.cut r c.in-Err-Form.token c.in-Err-Form.kind is tells)

pub returns-in-Err-Deep-clause-refused : goal.returns-in-Err-Deep-clause-refused
returns-in-Err-Deep-clause-refused c =
    let source = c.args.source.now in
    let ts = c.args.tokens.now in
    let r = c.parse_file.result in
    let tells : Tells ts r = record { forms = c.parse_file.ensures.form; nesting = c.parse_file.ensures.deep } in
    let is = c.in-Err-Deep.is ∙ ap (λ e. Err e) c.in-Err-Deep.field-0-is in
    inl (read_deep c.args.number source c.kind_of.result ts c.kind_of.ensures c.requires.cut r c.in-Err-Deep.token is tells)

pub returns-in-Err-Syntax-clause-refused : goal.returns-in-Err-Syntax-clause-refused
returns-in-Err-Syntax-clause-refused c =
    let source = c.args.source.now in
    let ts = c.args.tokens.now in
    let r = c.parse_file.result in
    let tells : Tells ts r = record { forms = c.parse_file.ensures.form; nesting = c.parse_file.ensures.deep } in
    let is = c.in-Err-Syntax.is ∙ ap (λ e. Err e) c.in-Err-Syntax.field-0-is in
    inl (read_nothing c.args.number source c.kind_of.result ts c.kind_of.ensures c.requires.cut r is tells c.parse_file.ensures.none)
