-- The view of each variant, for a function that makes or reads a tree.
use Rattle.std.proofs.Common.{map, ◌≡◌, ℕ, Bool, Option, Some, None, refl, ap, ◌∙◌}
use Rattle.std.specs.Global.{Vec, Box}
use Rattle.ml_trees.specs.declared.word.Word.{Word}
use Rattle.ml_trees.specs.declared.word.Path.{Path}
use Rattle.ml_trees.specs.declared.word.Run.{Run}
use Rattle.ml_trees.specs.declared.word.ValueName.{ValueName}
use Rattle.ml_trees.specs.declared.pattern.Pat.{Pat}
use Rattle.ml_trees.specs.declared.pattern.PatField.{PatField}
use Rattle.ml_trees.specs.declared.expression.Variable.{Variable}
use Rattle.ml_trees.specs.declared.expression.LocalModule.{LocalModule}
use Rattle.ml_trees.specs.declared.expression.Expr.{Expr}
use Rattle.ml_trees.specs.declared.expression.Binding.{Binding}
use Rattle.ml_trees.specs.declared.expression.Case.{Case}
use Rattle.ml_trees.specs.declared.expression.Branch.{Branch}
use Rattle.ml_trees.specs.declared.expression.Argument.{Argument}
use Rattle.ml_trees.specs.declared.expression.Param.{Param}
use Rattle.ml_trees.specs.declared.expression.Part.{Part}
use Rattle.ml_trees.specs.declared.expression.Field.{Field}
use Rattle.ml_trees.specs.declared.expression.Argument.TheBlock as t
use Rattle.ml_trees.specs.declared.module.ModuleName.{ModuleName}
use Rattle.ml_trees.specs.declared.module.WithClause.{WithClause}
use Rattle.ml_trees.specs.declared.module.ModExpr.{ModExpr}
use Rattle.ml_trees.specs.declared.module.ModArgument.{ModArgument}
use Rattle.ml_trees.specs.declared.module.FunctorParam.{FunctorParam}
use Rattle.ml_trees.specs.declared.module.ModType.{ModType}
use Rattle.ml_trees.specs.declared.module.Item.{Item}
use Rattle.ml_trees.specs.declared.module.SigItem.{SigItem}
use Rattle.ml_trees.specs.Tree as pure
use Rattle.ml_trees.specs.View.{view_word, view_path, view_words, view_run, view_name, view_pat, view_pat_field, view, view_binding, view_cases}
use Rattle.ml_trees.specs.View.{view_argument, view_param, view_part, view_field, pats, pat_fields, links, commas, ops, maybe, tail, bindings}
use Rattle.ml_trees.specs.View.{view_case, cases, arguments, params, parts, fields, view_mod, view_mod_argument, view_functor_param, view_mod_type}
use Rattle.ml_trees.specs.View.{view_item, view_sig_item, mod_arguments, functor_params, signature, items, sig_items, view_type, view_bang}
use Rattle.ml_trees.specs.View.{view_names, view_variable, view_local, view_module_name, view_with}
use Rattle.ml_trees.specs.declared.word.Bracket.{Bracket}
use Rattle.ml_trees.specs.declared.pattern.Pat.TheVariants as Pat_v
use Rattle.ml_trees.specs.declared.pattern.PatField.TheVariants as PatField_v
use Rattle.ml_trees.specs.declared.expression.Expr.TheVariants as Expr_v
use Rattle.ml_trees.specs.declared.expression.Binding.TheVariants as Binding_v
use Rattle.ml_trees.specs.declared.expression.Argument.TheVariants as Argument_v
use Rattle.ml_trees.specs.declared.expression.Param.TheVariants as Param_v
use Rattle.ml_trees.specs.declared.expression.Part.TheVariants as Part_v
use Rattle.ml_trees.specs.declared.expression.Field.TheVariants as Field_v
use Rattle.ml_trees.specs.declared.module.ModExpr.TheVariants as ModExpr_v
use Rattle.ml_trees.specs.declared.module.ModArgument.TheVariants as ModArgument_v
use Rattle.ml_trees.specs.declared.module.FunctorParam.TheVariants as FunctorParam_v
use Rattle.ml_trees.specs.declared.module.ModType.TheVariants as ModType_v
use Rattle.ml_trees.specs.declared.module.Item.TheVariants as Item_v
use Rattle.ml_trees.specs.declared.module.SigItem.TheVariants as SigItem_v
use Rattle.ml_trees.specs.declared.module.External.{External}
use Rattle.ml_trees.specs.declared.module.Open.{Open}
use Rattle.ml_trees.proofs.Views.{pats_of, pat_fields_of, links_of, commas_of, ops_of, bindings_of, arguments_of, params_of, parts_of, fields_of}
use Rattle.ml_trees.proofs.Views.{mod_arguments_of, functor_params_of, items_of, sig_items_of, tail_of, cases_of, guard_of}

pub at_pat_as : (e : Box Pat) (xs : Vec ValueName) → view_pat (Pat_v.As e xs) ≡ pure.AsPat (view_pat e.value) (view_names xs.items)
unfolding view_pat
at_pat_as e xs = refl

pub at_pat_or : (e : Box Pat) (es : Vec Pat) → view_pat (Pat_v.Or e es) ≡ pure.OrPat (view_pat e.value) (pats es.items)
unfolding view_pat
at_pat_or e es = ap (λ row. pure.OrPat (view_pat e.value) row) (pats_of es)

pub at_pat_tuple : (e : Box Pat) (es : Vec Pat) → view_pat (Pat_v.Tuple e es) ≡ pure.TuplePat (view_pat e.value) (pats es.items)
unfolding view_pat
at_pat_tuple e es = ap (λ row. pure.TuplePat (view_pat e.value) row) (pats_of es)

pub at_pat_cons : (e : Box Pat) (es : Vec Pat) → view_pat (Pat_v.Cons e es) ≡ pure.ConsPat (view_pat e.value) (pats es.items)
unfolding view_pat
at_pat_cons e es = ap (λ row. pure.ConsPat (view_pat e.value) row) (pats_of es)

pub at_pat_constr_apply : (path : Path) (e : Box Pat) → view_pat (Pat_v.ConstrApply path e) ≡ pure.ConstrApplyPat (view_path path) (view_pat e.value)
unfolding view_pat
at_pat_constr_apply path e = refl

pub at_pat_tag_apply : (w : Word) (e : Box Pat) → view_pat (Pat_v.TagApply w e) ≡ pure.TagApplyPat (view_word w) (view_pat e.value)
unfolding view_pat
at_pat_tag_apply w e = refl

pub at_pat_lazy : (at : ℕ) (e : Box Pat) → view_pat (Pat_v.Lazy at e) ≡ pure.LazyPat at (view_pat e.value)
unfolding view_pat
at_pat_lazy at e = refl

pub at_pat_exception : (at : ℕ) (e : Box Pat) → view_pat (Pat_v.Exception at e) ≡ pure.ExceptionPat at (view_pat e.value)
unfolding view_pat
at_pat_exception at e = refl

pub at_pat_any : (at : ℕ) → view_pat (Pat_v.Any at) ≡ pure.AnyPat at
unfolding view_pat
at_pat_any at = refl

pub at_pat_value : (x : ValueName) → view_pat (Pat_v.Value x) ≡ pure.ValuePat (view_name x)
unfolding view_pat
at_pat_value x = refl

pub at_pat_literal : (w : Word) → view_pat (Pat_v.Literal w) ≡ pure.LiteralPat w.class (view_word w)
unfolding view_pat
at_pat_literal w = refl

pub at_pat_negative : (w : Word) (v : Word) → view_pat (Pat_v.Negative w v) ≡ pure.NegativePat (view_word w) v.class (view_word v)
unfolding view_pat
at_pat_negative w v = refl

pub at_pat_range : (w : Word) (v : Word) → view_pat (Pat_v.Range w v) ≡ pure.RangePat (view_word w) (view_word v)
unfolding view_pat
at_pat_range w v = refl

pub at_pat_constr : (path : Path) → view_pat (Pat_v.Constr path) ≡ pure.ConstrPat (view_path path)
unfolding view_pat
at_pat_constr path = refl

pub at_pat_tag : (w : Word) → view_pat (Pat_v.Tag w) ≡ pure.TagPat (view_word w)
unfolding view_pat
at_pat_tag w = refl

pub at_pat_bool : (at : ℕ) (b : Bool) → view_pat (Pat_v.Bool at b) ≡ pure.BoolPat at b
unfolding view_pat
at_pat_bool at b = refl

pub at_pat_unit : (at : ℕ) → view_pat (Pat_v.Unit at) ≡ pure.UnitPat at
unfolding view_pat
at_pat_unit at = refl

pub at_pat_paren : (at : ℕ) (e : Box Pat) → view_pat (Pat_v.Paren at e) ≡ pure.ParenPat at (view_pat e.value)
unfolding view_pat
at_pat_paren at e = refl

pub at_pat_typed : (at : ℕ) (e : Box Pat) (run : Run) → view_pat (Pat_v.Typed at e run) ≡ pure.TypedPat at (view_pat e.value) (view_run run)
unfolding view_pat
at_pat_typed at e run = refl

pub at_pat_empty : (at : ℕ) (b : Bracket) → view_pat (Pat_v.Empty at b) ≡ pure.EmptyPat at b
unfolding view_pat
at_pat_empty at b = refl

pub at_pat_list : (at : ℕ) (b : Bracket) (e : Box Pat) (es : Vec Pat) (last : Bool)
    → view_pat (Pat_v.List at b e es last) ≡ pure.ListPat at b (view_pat e.value) (pats es.items) last
unfolding view_pat
at_pat_list at b e es last = ap (λ row. pure.ListPat at b (view_pat e.value) row last) (pats_of es)

pub at_pat_record : (at : ℕ) (f : Box PatField) (fs : Vec PatField) (rest : Option ℕ) (last : Bool)
    → view_pat (Pat_v.Record at f fs rest last) ≡ pure.RecordPat at (view_pat_field f.value) (pat_fields fs.items) rest last
unfolding view_pat
at_pat_record at f fs rest last = ap (λ row. pure.RecordPat at (view_pat_field f.value) row rest last) (pat_fields_of fs)

pub at_pat_opened : (path : Path) (at : ℕ) (e : Box Pat) → view_pat (Pat_v.Opened path at e) ≡ pure.OpenedPat (view_path path) at (view_pat e.value)
unfolding view_pat
at_pat_opened path at e = refl

pub at_pat_field_punned : (path : Vec Word) (w : Word) (run : Option Run) → view_pat_field (PatField_v.Punned path w run) ≡ pure.PunnedField
    (view_words path.items) (view_word w) (view_type run)
unfolding view_pat
at_pat_field_punned path w run = refl

pub at_pat_field_matched : (path : Vec Word) (w : Word) (run : Option Run) (at : ℕ) (e : Pat)
    → view_pat_field (PatField_v.Matched path w run at e) ≡ pure.MatchedField (view_words path.items) (view_word w) (view_type run) at (view_pat e)
unfolding view_pat
at_pat_field_matched path w run at e = refl

pub at_expr_seq : (e : Box Expr) (es : Vec Expr) (last : Bool) → view (Expr_v.Seq e es last) ≡ pure.Seq (view e.value) (links es.items) last
unfolding view
at_expr_seq e es last = ap (λ row. pure.Seq (view e.value) row last) (links_of es)

pub at_expr_let : (at : ℕ) (rec : Bool) (b : Box Binding) (bs : Vec Binding) (e : Box Expr)
    → view (Expr_v.Let at rec b bs e) ≡ pure.Let at rec (view_binding b.value) (bindings bs.items) (view e.value)
unfolding view
at_expr_let at rec b bs e = ap (λ row. pure.Let at rec (view_binding b.value) row (view e.value)) (bindings_of bs)

pub at_expr_let_open : (at : ℕ) (at' : ℕ) (bang : Option Word) (path : Path) (e : Box Expr)
    → view (Expr_v.LetOpen at at' bang path e) ≡ pure.LetOpen at at' (view_bang bang) (view_path path) (view e.value)
unfolding view
at_expr_let_open at at' bang path e = refl

pub at_expr_let_module : (at : ℕ) (at' : ℕ) (w : Word) (eq : ℕ) (m : LocalModule) (e : Box Expr)
    → view (Expr_v.LetModule at at' w eq m e) ≡ pure.LetModule at at' (view_word w) eq (view_local m) (view e.value)
unfolding view
at_expr_let_module at at' w eq m e = refl

pub at_expr_fun : (at : ℕ) (ps : Vec Param) (e : Box Expr) → view (Expr_v.Fun at ps e) ≡ pure.Fun at (params ps.items) (view e.value)
unfolding view
at_expr_fun at ps e = ap (λ row. pure.Fun at row (view e.value)) (params_of ps)

pub at_expr_function : (at : ℕ) (bar : Bool) (case : Box Case) (cs : Vec Case) → view (Expr_v.Function at bar case cs) ≡ pure.Function at bar
    (view_case case.value) (cases cs.items)
unfolding view
at_expr_function at bar case cs =
    ap (λ g. pure.Function at bar (pure.CaseOf (view_pat case.value.pat) g (view case.value.body)) (view_cases (t.hidden-the_row-Case-3 cs)))
    (guard_of case.value.guard) ∙ ap (λ row. pure.Function at bar (view_case case.value) row) (cases_of cs)

pub at_expr_match : (at : ℕ) (a : Box Expr) (bar : Bool) (case : Box Case) (cs : Vec Case)
    → view (Expr_v.Match at a bar case cs) ≡ pure.Match at (view a.value) bar (view_case case.value) (cases cs.items)
unfolding view
at_expr_match at a bar case cs =
    ap (λ g. pure.Match at (view a.value) bar (pure.CaseOf (view_pat case.value.pat) g (view case.value.body))
    (view_cases (t.hidden-the_row-Case-3 cs))) (guard_of case.value.guard) ∙ ap (λ row. pure.Match at (view a.value) bar (view_case case.value) row)
    (cases_of cs)

pub at_expr_try : (at : ℕ) (a : Box Expr) (bar : Bool) (case : Box Case) (cs : Vec Case)
    → view (Expr_v.Try at a bar case cs) ≡ pure.Try at (view a.value) bar (view_case case.value) (cases cs.items)
unfolding view
at_expr_try at a bar case cs =
    ap (λ g. pure.Try at (view a.value) bar (pure.CaseOf (view_pat case.value.pat) g (view case.value.body))
    (view_cases (t.hidden-the_row-Case-3 cs))) (guard_of case.value.guard) ∙ ap (λ row. pure.Try at (view a.value) bar (view_case case.value) row)
    (cases_of cs)

pub at_expr_if : (at : ℕ) (c : Box Expr) (a : Box Expr) (more : Vec Branch) (other : Option (Box Expr))
    → view (Expr_v.If at c a more other) ≡ pure.If at (view c.value) (view a.value) (tail more.items other)
unfolding view
at_expr_if at c a more None = ap (pure.If at (view c.value) (view a.value)) (tail_of pure.no_else more)
at_expr_if at c a more (Some b) = ap (pure.If at (view c.value) (view a.value)) (tail_of (pure.or_else (view b.value)) more)

pub at_expr_assign : (e : Box Expr) (es : Vec (Word × Expr)) → view (Expr_v.Assign e es) ≡ pure.Chain 3 (view e.value) (ops es.items)
unfolding view
at_expr_assign e es = ap (λ row. pure.Chain 3 (view e.value) row) (ops_of es)

pub at_expr_tuple : (e : Box Expr) (es : Vec Expr) → view (Expr_v.Tuple e es) ≡ pure.Chain 4 (view e.value) (commas es.items)
unfolding view
at_expr_tuple e es = ap (λ row. pure.Chain 4 (view e.value) row) (commas_of es)

pub at_expr_chain : (n : ℕ) (e : Box Expr) (es : Vec (Word × Expr)) → view (Expr_v.Chain n e es) ≡ pure.Chain n (view e.value) (ops es.items)
unfolding view
at_expr_chain n e es = ap (λ row. pure.Chain n (view e.value) row) (ops_of es)

pub at_expr_minus : (w : Word) (e : Box Expr) → view (Expr_v.Minus w e) ≡ pure.Minus (view_word w) (view e.value)
unfolding view
at_expr_minus w e = refl

pub at_expr_apply : (e : Box Expr) (es : Vec Argument) → view (Expr_v.Apply e es) ≡ pure.Apply (view e.value) (arguments es.items)
unfolding view
at_expr_apply e es = ap (λ row. pure.Apply (view e.value) row) (arguments_of es)

pub at_expr_constr_apply : (path : Path) (e : Box Expr) → view (Expr_v.ConstrApply path e) ≡ pure.ConstrApply (view_path path) (view e.value)
unfolding view
at_expr_constr_apply path e = refl

pub at_expr_tag_apply : (w : Word) (e : Box Expr) → view (Expr_v.TagApply w e) ≡ pure.TagApply (view_word w) (view e.value)
unfolding view
at_expr_tag_apply w e = refl

pub at_expr_assert : (at : ℕ) (e : Box Expr) → view (Expr_v.Assert at e) ≡ pure.Assert at (view e.value)
unfolding view
at_expr_assert at e = refl

pub at_expr_lazy : (at : ℕ) (e : Box Expr) → view (Expr_v.Lazy at e) ≡ pure.Lazy at (view e.value)
unfolding view
at_expr_lazy at e = refl

pub at_expr_postfix : (e : Box Expr) (ps : Vec Part) → view (Expr_v.Postfix e ps) ≡ pure.Postfix (view e.value) (parts ps.items)
unfolding view
at_expr_postfix e ps = ap (λ row. pure.Postfix (view e.value) row) (parts_of ps)

pub at_expr_prefixed : (w : Word) (e : Box Expr) → view (Expr_v.Prefixed w e) ≡ pure.Prefixed (view_word w) (view e.value)
unfolding view
at_expr_prefixed w e = refl

pub at_expr_literal : (w : Word) → view (Expr_v.Literal w) ≡ pure.Literal w.class (view_word w)
unfolding view
at_expr_literal w = refl

pub at_expr_bool : (at : ℕ) (b : Bool) → view (Expr_v.Bool at b) ≡ pure.BoolExpr at b
unfolding view
at_expr_bool at b = refl

pub at_expr_value : (path : Vec Word) (x : ValueName) → view (Expr_v.Value path x) ≡ pure.Value (view_words path.items) (view_name x)
unfolding view
at_expr_value path x = refl

pub at_expr_constr : (path : Path) → view (Expr_v.Constr path) ≡ pure.Constr (view_path path)
unfolding view
at_expr_constr path = refl

pub at_expr_tag : (w : Word) → view (Expr_v.Tag w) ≡ pure.Tag (view_word w)
unfolding view
at_expr_tag w = refl

pub at_expr_unit : (at : ℕ) → view (Expr_v.Unit at) ≡ pure.UnitExpr at
unfolding view
at_expr_unit at = refl

pub at_expr_paren : (at : ℕ) (e : Box Expr) → view (Expr_v.Paren at e) ≡ pure.Paren at (view e.value)
unfolding view
at_expr_paren at e = refl

pub at_expr_typed : (at : ℕ) (e : Box Expr) (run : Run) → view (Expr_v.Typed at e run) ≡ pure.Typed at (view e.value) (view_run run)
unfolding view
at_expr_typed at e run = refl

pub at_expr_coerced : (at : ℕ) (e : Box Expr) (from : Option Run) (to : Run) → view (Expr_v.Coerced at e from to) ≡ pure.Coerced at (view e.value)
    (view_type from) (view_run to)
unfolding view
at_expr_coerced at e from to = refl

pub at_expr_empty_begin : (at : ℕ) → view (Expr_v.EmptyBegin at) ≡ pure.EmptyBegin at
unfolding view
at_expr_empty_begin at = refl

pub at_expr_begin : (at : ℕ) (e : Box Expr) → view (Expr_v.Begin at e) ≡ pure.Begin at (view e.value)
unfolding view
at_expr_begin at e = refl

pub at_expr_empty : (at : ℕ) (b : Bracket) → view (Expr_v.Empty at b) ≡ pure.EmptyList at b
unfolding view
at_expr_empty at b = refl

pub at_expr_list : (at : ℕ) (b : Bracket) (e : Box Expr) (es : Vec Expr) (last : Bool)
    → view (Expr_v.List at b e es last) ≡ pure.ListExpr at b (view e.value) (links es.items) last
unfolding view
at_expr_list at b e es last = ap (λ row. pure.ListExpr at b (view e.value) row last) (links_of es)

pub at_expr_record : (at : ℕ) (base : Option (Box Expr)) (f : Box Field) (fs : Vec Field) (last : Bool)
    → view (Expr_v.Record at base f fs last) ≡ pure.Record at (maybe base) (view_field f.value) (fields fs.items) last
unfolding view
at_expr_record at None f fs last = ap (λ row. pure.Record at pure.no_expr (view_field f.value) row last) (fields_of fs)
at_expr_record at (Some held) f fs last = ap (λ row. pure.Record at (pure.some_expr (view held.value)) (view_field f.value) row last) (fields_of fs)

pub at_expr_opened : (path : Path) (e : Box Expr) → view (Expr_v.Opened path e) ≡ pure.Opened (view_path path) (view e.value)
unfolding view
at_expr_opened path e = refl

pub at_expr_while : (at : ℕ) (c : Box Expr) (e : Box Expr) → view (Expr_v.While at c e) ≡ pure.While at (view c.value) (view e.value)
unfolding view
at_expr_while at c e = refl

pub at_expr_for : (at : ℕ) (x : Variable) (eq : ℕ) (a : Box Expr) (down : Bool) (b : Box Expr) (e : Box Expr)
    → view (Expr_v.For at x eq a down b e) ≡ pure.For at (view_variable x) eq (view a.value) down (view b.value) (view e.value)
unfolding view
at_expr_for at x eq a down b e = refl

pub at_binding_plain : (x : Pat) (run : Option Run) (at : ℕ) (e : Expr) → view_binding (Binding_v.Plain x run at e) ≡ pure.PlainBinding (view_pat x)
    (view_type run) at (view e)
unfolding view
at_binding_plain x run at e = refl

pub at_binding_applied : (x : ValueName) (ps : Vec Param) (run : Option Run) (at : ℕ) (e : Expr)
    → view_binding (Binding_v.Applied x ps run at e) ≡ pure.AppliedBinding (view_name x) (params ps.items) (view_type run) at (view e)
unfolding view
at_binding_applied x ps run at e = ap (λ row. pure.AppliedBinding (view_name x) row (view_type run) at (view e)) (params_of ps)

pub at_argument_positional : (e : Expr) → view_argument (Argument_v.Positional e) ≡ pure.Positional (view e)
unfolding view
at_argument_positional e = refl

pub at_argument_label_pun : (w : Word) → view_argument (Argument_v.LabelPun w) ≡ pure.LabelPun (view_word w)
unfolding view
at_argument_label_pun w = refl

pub at_argument_labelled : (w : Word) (e : Expr) → view_argument (Argument_v.Labelled w e) ≡ pure.Labelled (view_word w) (view e)
unfolding view
at_argument_labelled w e = refl

pub at_param_pattern : (x : Pat) → view_param (Param_v.Pattern x) ≡ pure.PatternParam (view_pat x)
unfolding view
at_param_pattern x = refl

pub at_param_label : (w : Word) → view_param (Param_v.Label w) ≡ pure.LabelParam (view_word w)
unfolding view
at_param_label w = refl

pub at_param_label_pattern : (w : Word) (x : Pat) → view_param (Param_v.LabelPattern w x) ≡ pure.LabelPattern (view_word w) (view_pat x)
unfolding view
at_param_label_pattern w x = refl

pub at_param_default : (w : Word) (at : ℕ) (x : Pat) (run : Option Run) (eq : ℕ) (e : Expr)
    → view_param (Param_v.Default w at x run eq e) ≡ pure.DefaultParam (view_word w) at (view_pat x) (view_type run) eq (view e)
unfolding view
at_param_default w at x run eq e = refl

pub at_param_wrapped : (at : ℕ) (optional : Bool) (at' : ℕ) (w : Word) (run : Option Run)
    → view_param (Param_v.Wrapped at optional at' w run) ≡ pure.WrappedParam at optional at' (view_word w) (view_type run)
unfolding view
at_param_wrapped at optional at' w run = refl

pub at_param_wrapped_default : (at : ℕ) (at' : ℕ) (w : Word) (run : Option Run) (eq : ℕ) (e : Expr)
    → view_param (Param_v.WrappedDefault at at' w run eq e) ≡ pure.WrappedDefault at at' (view_word w) (view_type run) eq (view e)
unfolding view
at_param_wrapped_default at at' w run eq e = refl

pub at_param_types : (at : ℕ) (ws : Vec Word) → view_param (Param_v.Types at ws) ≡ pure.TypesParam at (view_words ws.items)
unfolding view
at_param_types at ws = refl

pub at_part_select : (path : Vec Word) (w : Word) → view_part (Part_v.Select path w) ≡ pure.LabelPart (view_words path.items) (view_word w)
unfolding view
at_part_select path w = refl

pub at_part_index : (at : ℕ) (e : Expr) → view_part (Part_v.Index at e) ≡ pure.IndexPart at (view e)
unfolding view
at_part_index at e = refl

pub at_part_char_index : (at : ℕ) (e : Expr) → view_part (Part_v.CharIndex at e) ≡ pure.CharPart at (view e)
unfolding view
at_part_char_index at e = refl

pub at_field_field_pun : (path : Vec Word) (w : Word) (run : Option Run)
    → view_field (Field_v.FieldPun path w run) ≡ pure.FieldPun (view_words path.items) (view_word w) (view_type run)
unfolding view
at_field_field_pun path w run = refl

pub at_field_assigned : (path : Vec Word) (w : Word) (run : Option Run) (at : ℕ) (e : Expr)
    → view_field (Field_v.Assigned path w run at e) ≡ pure.AssignedField (view_words path.items) (view_word w) (view_type run) at (view e)
unfolding view
at_field_assigned path w run at e = refl

pub at_mod_expr_mod_path : (path : Path) → view_mod (ModExpr_v.ModPath path) ≡ pure.ModPath (view_path path)
unfolding view_mod
at_mod_expr_mod_path path = refl

pub at_mod_expr_struct : (at : ℕ) (is : Vec Item) → view_mod (ModExpr_v.Struct at is) ≡ pure.Struct at (items is.items)
unfolding view_mod
at_mod_expr_struct at is = ap (λ row. pure.Struct at row) (items_of is)

pub at_mod_expr_functor : (at : ℕ) (ps : Vec FunctorParam) (e : Box ModExpr)
    → view_mod (ModExpr_v.Functor at ps e) ≡ pure.Functor at (functor_params ps.items) (view_mod e.value)
unfolding view_mod
at_mod_expr_functor at ps e = ap (λ row. pure.Functor at row (view_mod e.value)) (functor_params_of ps)

pub at_mod_expr_apply : (e : Box ModExpr) (es : Vec ModArgument) → view_mod (ModExpr_v.Apply e es) ≡ pure.ModApply (view_mod e.value)
    (mod_arguments es.items)
unfolding view_mod
at_mod_expr_apply e es = ap (λ row. pure.ModApply (view_mod e.value) row) (mod_arguments_of es)

pub at_mod_expr_paren : (at : ℕ) (e : Box ModExpr) → view_mod (ModExpr_v.Paren at e) ≡ pure.ModParen at (view_mod e.value)
unfolding view_mod
at_mod_expr_paren at e = refl

pub at_mod_expr_sealed : (at : ℕ) (e : Box ModExpr) (s : Box ModType) → view_mod (ModExpr_v.Sealed at e s) ≡ pure.Sealed at (view_mod e.value)
    (view_mod_type s.value)
unfolding view_mod
at_mod_expr_sealed at e s = refl

pub at_mod_argument_given : (at : ℕ) (e : ModExpr) → view_mod_argument (ModArgument_v.Given at e) ≡ pure.ModuleArgument at (view_mod e)
unfolding view_mod
at_mod_argument_given at e = refl

pub at_mod_argument_sealed_module : (at : ℕ) (e : ModExpr) (s : ModType)
    → view_mod_argument (ModArgument_v.SealedModule at e s) ≡ pure.SealedArgument at (view_mod e) (view_mod_type s)
unfolding view_mod
at_mod_argument_sealed_module at e s = refl

pub at_mod_argument_nothing : (at : ℕ) → view_mod_argument (ModArgument_v.Nothing at) ≡ pure.NoArgument at
unfolding view_mod
at_mod_argument_nothing at = refl

pub at_functor_param_named : (at : ℕ) (w : ModuleName) (s : ModType)
    → view_functor_param (FunctorParam_v.Named at w s) ≡ pure.NamedParam at (view_module_name w) (view_mod_type s)
unfolding view_mod
at_functor_param_named at w s = refl

pub at_functor_param_no_param : (at : ℕ) → view_functor_param (FunctorParam_v.NoParam at) ≡ pure.NoParam at
unfolding view_mod
at_functor_param_no_param at = refl

pub at_mod_type_type_path : (path : Path) → view_mod_type (ModType_v.TypePath path) ≡ pure.TypePath (view_path path)
unfolding view_mod
at_mod_type_type_path path = refl

pub at_mod_type_sig : (at : ℕ) (is : Vec SigItem) → view_mod_type (ModType_v.Sig at is) ≡ pure.Sig at (sig_items is.items)
unfolding view_mod
at_mod_type_sig at is = ap (λ row. pure.Sig at row) (sig_items_of is)

pub at_mod_type_type_of : (at : ℕ) (e : Box ModExpr) → view_mod_type (ModType_v.TypeOf at e) ≡ pure.TypeOf at (view_mod e.value)
unfolding view_mod
at_mod_type_type_of at e = refl

pub at_mod_type_type_paren : (at : ℕ) (s : Box ModType) → view_mod_type (ModType_v.TypeParen at s) ≡ pure.TypeParen at (view_mod_type s.value)
unfolding view_mod
at_mod_type_type_paren at s = refl

pub at_mod_type_with : (s : Box ModType) (ws : Vec WithClause) → view_mod_type (ModType_v.With s ws) ≡ pure.With (view_mod_type s.value)
    (map view_with ws.items)
unfolding view_mod
at_mod_type_with s ws = refl

pub at_mod_type_functor_type : (at : ℕ) (ps : Vec FunctorParam) (s : Box ModType)
    → view_mod_type (ModType_v.FunctorType at ps s) ≡ pure.FunctorType at (functor_params ps.items) (view_mod_type s.value)
unfolding view_mod
at_mod_type_functor_type at ps s = ap (λ row. pure.FunctorType at row (view_mod_type s.value)) (functor_params_of ps)

pub at_mod_type_param_arrow : (e : Box FunctorParam) (s : Box ModType) → view_mod_type (ModType_v.ParamArrow e s) ≡ pure.ParamArrow
    (view_functor_param e.value) (view_mod_type s.value)
unfolding view_mod
at_mod_type_param_arrow e s = refl

pub at_mod_type_arrow : (e : Box ModType) (s : Box ModType) → view_mod_type (ModType_v.Arrow e s) ≡ pure.Arrow (view_mod_type e.value)
    (view_mod_type s.value)
unfolding view_mod
at_mod_type_arrow e s = refl

pub at_item_expression : (e : Expr) → view_item (Item_v.Expression e) ≡ pure.ExprItem (view e)
unfolding view_mod
at_item_expression e = refl

pub at_item_separator : view_item Item_v.Separator ≡ pure.SeparatorItem
unfolding view_mod
at_item_separator = refl

pub at_item_value : (at : ℕ) (rec : Bool) (b : Binding) (bs : Vec Binding) → view_item (Item_v.Value at rec b bs) ≡ pure.ValueItem at rec
    (view_binding b) (bindings bs.items)
unfolding view_mod
at_item_value at rec b bs = refl

pub at_item_external : (e : External) → view_item (Item_v.External e) ≡ pure.ExternalItem (view_name e.name) (view_run e.run) e.equals
    (view_words e.texts.items)
unfolding view_mod
at_item_external e = refl

pub at_item_type : (run : Run) → view_item (Item_v.Type run) ≡ pure.TypeItem (view_run run)
unfolding view_mod
at_item_type run = refl

pub at_item_exception : (at : ℕ) (run : Run) → view_item (Item_v.Exception at run) ≡ pure.ExceptionItem at (view_run run)
unfolding view_mod
at_item_exception at run = refl

pub at_item_module : (at : ℕ) (w : ModuleName) (ps : Vec FunctorParam) (s : Option (Box ModType)) (eq : ℕ) (e : ModExpr)
    → view_item (Item_v.Module at w ps s eq e) ≡ pure.ModuleItem at (view_module_name w) (functor_params ps.items) (signature s) eq (view_mod e)
unfolding view_mod
at_item_module at w ps None eq e = ap (λ row. pure.ModuleItem at (view_module_name w) row pure.no_type eq (view_mod e)) (functor_params_of ps)
at_item_module at w ps (Some held) eq e =
    ap (λ row. pure.ModuleItem at (view_module_name w) row (pure.some_type (view_mod_type held.value)) eq (view_mod e)) (functor_params_of ps)

pub at_item_module_type : (at : ℕ) (w : Word) (eq : ℕ) (s : ModType)
    → view_item (Item_v.ModuleType at w eq s) ≡ pure.ModuleTypeItem at (view_word w) eq (view_mod_type s)
unfolding view_mod
at_item_module_type at w eq s = refl

pub at_item_open : (e : Open) → view_item (Item_v.Open e) ≡ pure.OpenItem e.at (view_bang e.bang) (view_path e.path)
unfolding view_mod
at_item_open e = refl

pub at_item_include : (at : ℕ) (e : ModExpr) → view_item (Item_v.Include at e) ≡ pure.IncludeItem at (view_mod e)
unfolding view_mod
at_item_include at e = refl

pub at_sig_item_sig_separator : view_sig_item SigItem_v.SigSeparator ≡ pure.SeparatorSig
unfolding view_mod
at_sig_item_sig_separator = refl

pub at_sig_item_val : (w : ValueName) (run : Run) → view_sig_item (SigItem_v.Val w run) ≡ pure.ValSig (view_name w) (view_run run)
unfolding view_mod
at_sig_item_val w run = refl

pub at_sig_item_sig_external : (e : External) → view_sig_item (SigItem_v.SigExternal e) ≡ pure.ExternalSig (view_name e.name)
    (view_run e.run) e.equals (view_words e.texts.items)
unfolding view_mod
at_sig_item_sig_external e = refl

pub at_sig_item_sig_type : (run : Run) → view_sig_item (SigItem_v.SigType run) ≡ pure.TypeSig (view_run run)
unfolding view_mod
at_sig_item_sig_type run = refl

pub at_sig_item_sig_exception : (at : ℕ) (run : Run) → view_sig_item (SigItem_v.SigException at run) ≡ pure.ExceptionSig at (view_run run)
unfolding view_mod
at_sig_item_sig_exception at run = refl

pub at_sig_item_sig_module : (at : ℕ) (w : ModuleName) (ps : Vec FunctorParam) (s : ModType)
    → view_sig_item (SigItem_v.SigModule at w ps s) ≡ pure.ModuleSig at (view_module_name w) (functor_params ps.items) (view_mod_type s)
unfolding view_mod
at_sig_item_sig_module at w ps s = ap (λ row. pure.ModuleSig at (view_module_name w) row (view_mod_type s)) (functor_params_of ps)

pub at_sig_item_alias : (at : ℕ) (w : Word) (eq : ℕ) (path : Path) → view_sig_item (SigItem_v.Alias at w eq path) ≡ pure.AliasSig at (view_word w) eq
    (view_path path)
unfolding view_mod
at_sig_item_alias at w eq path = refl

pub at_sig_item_sig_module_type : (at : ℕ) (w : Word) (eq : ℕ) (s : ModType)
    → view_sig_item (SigItem_v.SigModuleType at w eq s) ≡ pure.ModuleTypeSig at (view_word w) eq (view_mod_type s)
unfolding view_mod
at_sig_item_sig_module_type at w eq s = refl

pub at_sig_item_sig_open : (e : Open) → view_sig_item (SigItem_v.SigOpen e) ≡ pure.OpenSig e.at (view_bang e.bang) (view_path e.path)
unfolding view_mod
at_sig_item_sig_open e = refl

pub at_sig_item_sig_include : (at : ℕ) (s : ModType) → view_sig_item (SigItem_v.SigInclude at s) ≡ pure.IncludeSig at (view_mod_type s)
unfolding view_mod
at_sig_item_sig_include at s = refl

pub ruleset pat_views = (
  at_pat_as,
  at_pat_or,
  at_pat_tuple,
  at_pat_cons,
  at_pat_constr_apply,
  at_pat_tag_apply,
  at_pat_lazy,
  at_pat_exception,
  at_pat_any,
  at_pat_value,
  at_pat_literal,
  at_pat_negative,
  at_pat_range,
  at_pat_constr,
  at_pat_tag,
  at_pat_bool,
  at_pat_unit,
  at_pat_paren,
  at_pat_typed,
  at_pat_empty,
  at_pat_list,
  at_pat_record,
  at_pat_opened,
)

pub ruleset pat_field_views = (at_pat_field_punned, at_pat_field_matched)

pub ruleset expr_views = (
  at_expr_seq,
  at_expr_let,
  at_expr_let_open,
  at_expr_let_module,
  at_expr_fun,
  at_expr_function,
  at_expr_match,
  at_expr_try,
  at_expr_if,
  at_expr_assign,
  at_expr_tuple,
  at_expr_chain,
  at_expr_minus,
  at_expr_apply,
  at_expr_constr_apply,
  at_expr_tag_apply,
  at_expr_assert,
  at_expr_lazy,
  at_expr_postfix,
  at_expr_prefixed,
  at_expr_literal,
  at_expr_bool,
  at_expr_value,
  at_expr_constr,
  at_expr_tag,
  at_expr_unit,
  at_expr_paren,
  at_expr_typed,
  at_expr_coerced,
  at_expr_empty_begin,
  at_expr_begin,
  at_expr_empty,
  at_expr_list,
  at_expr_record,
  at_expr_opened,
  at_expr_while,
  at_expr_for,
)

pub ruleset binding_views = (at_binding_plain, at_binding_applied)

pub ruleset argument_views = (at_argument_positional, at_argument_label_pun, at_argument_labelled)

pub ruleset param_views =
    (at_param_pattern, at_param_label, at_param_label_pattern, at_param_default, at_param_wrapped, at_param_wrapped_default, at_param_types)

pub ruleset part_views = (at_part_select, at_part_index, at_part_char_index)

pub ruleset field_views = (at_field_field_pun, at_field_assigned)

pub ruleset mod_expr_views = (at_mod_expr_mod_path, at_mod_expr_struct, at_mod_expr_functor, at_mod_expr_apply, at_mod_expr_paren, at_mod_expr_sealed)

pub ruleset mod_argument_views = (at_mod_argument_given, at_mod_argument_sealed_module, at_mod_argument_nothing)

pub ruleset functor_param_views = (at_functor_param_named, at_functor_param_no_param)

pub ruleset mod_type_views = (
  at_mod_type_type_path,
  at_mod_type_sig,
  at_mod_type_type_of,
  at_mod_type_type_paren,
  at_mod_type_with,
  at_mod_type_functor_type,
  at_mod_type_param_arrow,
  at_mod_type_arrow,
)

pub ruleset item_views = (
  at_item_expression,
  at_item_separator,
  at_item_value,
  at_item_external,
  at_item_type,
  at_item_exception,
  at_item_module,
  at_item_module_type,
  at_item_open,
  at_item_include,
)

pub ruleset sig_item_views = (
  at_sig_item_sig_separator,
  at_sig_item_val,
  at_sig_item_sig_external,
  at_sig_item_sig_type,
  at_sig_item_sig_exception,
  at_sig_item_sig_module,
  at_sig_item_alias,
  at_sig_item_sig_module_type,
  at_sig_item_sig_open,
  at_sig_item_sig_include,
)
