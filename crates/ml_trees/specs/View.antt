-- A tree of the program, without where it lies in memory (own).
use Rattle.std.specs.Prelude.{List, [], ◌∷◌, Option, Some, None, map}
use Rattle.std.specs.Global.{Box}
use Rattle.ml_trees.specs.declared.word.Word.{Word}
use Rattle.ml_trees.specs.declared.word.Path.{Path}
use Rattle.ml_trees.specs.declared.word.Run.{Run}
use Rattle.ml_trees.specs.declared.word.ValueName.{ValueName}
use Rattle.ml_trees.specs.declared.word.ValueName.TheVariants as n
use Rattle.ml_trees.specs.declared.pattern.Pat.{Pat}
use Rattle.ml_trees.specs.declared.pattern.Pat.TheBlock as p
use Rattle.ml_trees.specs.declared.pattern.PatField.{PatField}
use Rattle.ml_trees.specs.declared.expression.Variable.{Variable}
use Rattle.ml_trees.specs.declared.expression.Variable.TheVariants as v
use Rattle.ml_trees.specs.declared.expression.LocalModule.{LocalModule}
use Rattle.ml_trees.specs.declared.expression.LocalArgument.{LocalArgument}
use Rattle.ml_trees.specs.declared.expression.LocalArgument.TheBlock as l
use Rattle.ml_trees.specs.declared.expression.Expr.{Expr}
use Rattle.ml_trees.specs.declared.expression.Binding.{Binding}
use Rattle.ml_trees.specs.declared.expression.Case.{Case}
use Rattle.ml_trees.specs.declared.expression.Branch.{Branch}
use Rattle.ml_trees.specs.declared.expression.Argument.{Argument}
use Rattle.ml_trees.specs.declared.expression.Param.{Param}
use Rattle.ml_trees.specs.declared.expression.Part.{Part}
use Rattle.ml_trees.specs.declared.expression.Field.{Field}
use Rattle.ml_trees.specs.declared.expression.Argument.TheBlock as t
use Rattle.ml_trees.specs.declared.module.ModuleName.{ModuleName}
use Rattle.ml_trees.specs.declared.module.ModuleName.TheVariants as x
use Rattle.ml_trees.specs.declared.module.Constraint.{Constraint}
use Rattle.ml_trees.specs.declared.module.WithClause.{WithClause}
use Rattle.ml_trees.specs.declared.module.ModExpr.{ModExpr}
use Rattle.ml_trees.specs.declared.module.ModArgument.{ModArgument}
use Rattle.ml_trees.specs.declared.module.FunctorParam.{FunctorParam}
use Rattle.ml_trees.specs.declared.module.ModType.{ModType}
use Rattle.ml_trees.specs.declared.module.Item.{Item}
use Rattle.ml_trees.specs.declared.module.SigItem.{SigItem}
use Rattle.ml_trees.specs.declared.module.FunctorParam.TheBlock as m
use Rattle.ml_trees.specs.declared.module.FileTree.{FileTree}
use Rattle.ml_trees.specs.declared.module.FileTree.TheVariants as f
use Rattle.ml_trees.specs.declared.module.UnitTree.{UnitTree}
use Rattle.ml_trees.specs.declared.module.Project.{Project}
use Rattle.ml_trees.specs.declared.fixed.Fixed.TheVariants as key
use Rattle.ml_trees.specs.Tok.{Name, Tok, fixed, tok}
use Rattle.ml_trees.specs.Tree as pure

-- ---- words

abbrev pub view_word : Word → Name
view_word w = record { at = w.token; text = w.name }

-- a word as a token: an operator, or a word of a type
abbrev pub view_tok : Word → Tok
view_tok w = tok w.class w.token w.name

abbrev pub view_words : List Word → List Name
view_words = map view_word

abbrev pub view_path : Path → List Name
view_path path = view_words path.words.items

abbrev pub view_run : Run → List Tok
view_run run = map view_tok run.words.items

abbrev pub view_type : Option Run → Option (List Tok)
view_type None = None
view_type (Some run) = Some (view_run run)

abbrev pub view_bang : Option Word → Option Name
view_bang None = None
view_bang (Some w) = Some (view_word w)

abbrev pub view_name : ValueName → pure.ValueName
view_name (n.Lower w) = pure.PlainName (view_word w)
view_name (n.Operator at w) = pure.OperatorName at (view_tok w)

abbrev pub view_names : List ValueName → List pure.ValueName
view_names = map view_name

-- ---- patterns

unfoldable mutual
  pub view_pat : Pat → pure.Pat
  view_pat (p.As' _ e xs) = pure.AsPat (view_pat e) (view_names xs.items)
  view_pat (p.Or' _ e _ es) = pure.OrPat (view_pat e) (view_pats es)
  view_pat (p.Tuple' _ e _ es) = pure.TuplePat (view_pat e) (view_pats es)
  view_pat (p.Cons' _ e _ es) = pure.ConsPat (view_pat e) (view_pats es)
  view_pat (p.ConstrApply' path _ e) = pure.ConstrApplyPat (view_path path) (view_pat e)
  view_pat (p.TagApply' w _ e) = pure.TagApplyPat (view_word w) (view_pat e)
  view_pat (p.Lazy' at _ e) = pure.LazyPat at (view_pat e)
  view_pat (p.Exception' at _ e) = pure.ExceptionPat at (view_pat e)
  view_pat (p.Any at) = pure.AnyPat at
  view_pat (p.Value x) = pure.ValuePat (view_name x)
  view_pat (p.Literal w) = pure.LiteralPat w.class (view_word w)
  view_pat (p.Negative w v) = pure.NegativePat (view_word w) v.class (view_word v)
  view_pat (p.Range w v) = pure.RangePat (view_word w) (view_word v)
  view_pat (p.Constr path) = pure.ConstrPat (view_path path)
  view_pat (p.Tag w) = pure.TagPat (view_word w)
  view_pat (p.Bool at b) = pure.BoolPat at b
  view_pat (p.Unit at) = pure.UnitPat at
  view_pat (p.Paren' at _ e) = pure.ParenPat at (view_pat e)
  view_pat (p.Typed' at _ e run) = pure.TypedPat at (view_pat e) (view_run run)
  view_pat (p.Empty at b) = pure.EmptyPat at b
  view_pat (p.List' at b _ e _ es last) = pure.ListPat at b (view_pat e) (view_pats es) last
  view_pat (p.Record' at _ f _ fs rest last) = pure.RecordPat at (view_pat_field f) (view_pat_fields fs) rest last
  view_pat (p.Opened' path at _ e) = pure.OpenedPat (view_path path) at (view_pat e)

  pub view_pats : {n : _} → p.Row_of-Pat n → pure.Pats
  view_pats p.end_of-Pat = pure.no_pat
  view_pats (p.more_of-Pat e es) = pure.more_pat (view_pat e) (view_pats es)

  pub view_pat_field : PatField → pure.PatField
  view_pat_field (p.Punned path w run) = pure.PunnedField (view_words path.items) (view_word w) (view_type run)
  view_pat_field (p.Matched path w run at e) = pure.MatchedField (view_words path.items) (view_word w) (view_type run) at (view_pat e)

  pub view_pat_fields : {n : _} → p.Row_of-PatField n → pure.PatFields
  view_pat_fields p.end_of-PatField = pure.no_pat_field
  view_pat_fields (p.more_of-PatField f fs) = pure.more_pat_field (view_pat_field f) (view_pat_fields fs)

-- ---- expressions

abbrev pub view_variable : Variable → pure.Variable
view_variable (v.Lower w) = pure.PlainVariable (view_word w)
view_variable (v.Any at) = pure.AnyVariable at

unfoldable mutual
  -- an argument, and then these
  pub view_local_then : LocalArgument → pure.LocalArguments → pure.LocalArguments
  view_local_then (l.Module' at path _ ms) k = pure.more_local at (pure.LocalPath (view_path path) (view_locals ms)) k
  view_local_then (l.Nothing at) k = pure.no_module at k

  pub view_locals : {n : _} → l.Row_of-LocalArgument n → pure.LocalArguments
  view_locals l.end_of-LocalArgument = pure.no_local
  view_locals (l.more_of-LocalArgument m ms) = view_local_then m (view_locals ms)

abbrev pub locals : List LocalArgument → pure.LocalArguments
locals [] = pure.no_local
locals (m ∷ ms) = view_local_then m (locals ms)

abbrev pub view_local : LocalModule → pure.LocalModule
view_local m = pure.LocalPath (view_path m.path) (locals m.arguments.items)

unfoldable mutual
  pub view : Expr → pure.Expr
  view (t.Seq' _ e _ es last) = pure.Seq (view e) (view_links es) last
  view (t.Let' at rec _ b _ bs _ e) = pure.Let at rec (view_binding b) (view_bindings bs) (view e)
  view (t.LetOpen' at at' bang path _ e) = pure.LetOpen at at' (view_bang bang) (view_path path) (view e)
  view (t.LetModule' at at' w eq m _ e) = pure.LetModule at at' (view_word w) eq (view_local m) (view e)
  view (t.Fun' at _ ps _ e) = pure.Fun at (view_params ps) (view e)
  view (t.Function' at bar _ x guard e _ cs) = pure.Function at bar (pure.CaseOf (view_pat x) (view_maybe guard) (view e)) (view_cases cs)
  view (t.Match' at _ a bar _ x guard e _ cs) = pure.Match at (view a) bar (pure.CaseOf (view_pat x) (view_maybe guard) (view e)) (view_cases cs)
  view (t.Try' at _ a bar _ x guard e _ cs) = pure.Try at (view a) bar (pure.CaseOf (view_pat x) (view_maybe guard) (view e)) (view_cases cs)
  view (t.If' at _ c _ a _ more other) = pure.If at (view c) (view a) (view_tail more (view_other other))
  view (t.Assign' _ e _ es) = pure.Chain 3 (view e) (view_ops es)
  view (t.Tuple' _ e _ es) = pure.Chain 4 (view e) (view_commas es)
  view (t.Chain' n _ e _ es) = pure.Chain n (view e) (view_ops es)
  view (t.Minus' w _ e) = pure.Minus (view_word w) (view e)
  view (t.Apply' _ e _ es) = pure.Apply (view e) (view_arguments es)
  view (t.ConstrApply' path _ e) = pure.ConstrApply (view_path path) (view e)
  view (t.TagApply' w _ e) = pure.TagApply (view_word w) (view e)
  view (t.Assert' at _ e) = pure.Assert at (view e)
  view (t.Lazy' at _ e) = pure.Lazy at (view e)
  view (t.Postfix' _ e _ ps) = pure.Postfix (view e) (view_parts ps)
  view (t.Prefixed' w _ e) = pure.Prefixed (view_word w) (view e)
  view (t.Literal w) = pure.Literal w.class (view_word w)
  view (t.Bool at b) = pure.BoolExpr at b
  view (t.Value path x) = pure.Value (view_words path.items) (view_name x)
  view (t.Constr path) = pure.Constr (view_path path)
  view (t.Tag w) = pure.Tag (view_word w)
  view (t.Unit at) = pure.UnitExpr at
  view (t.Paren' at _ e) = pure.Paren at (view e)
  view (t.Typed' at _ e run) = pure.Typed at (view e) (view_run run)
  view (t.Coerced' at _ e from to) = pure.Coerced at (view e) (view_type from) (view_run to)
  view (t.EmptyBegin at) = pure.EmptyBegin at
  view (t.Begin' at _ e) = pure.Begin at (view e)
  view (t.Empty at b) = pure.EmptyList at b
  view (t.List' at b _ e _ es last) = pure.ListExpr at b (view e) (view_links es) last
  view (t.Record' at base _ f _ fs last) = pure.Record at (view_maybe base) (view_field f) (view_fields fs) last
  view (t.Opened' path _ e) = pure.Opened (view_path path) (view e)
  view (t.While' at _ c _ e) = pure.While at (view c) (view e)
  view (t.For' at x eq _ a down _ b _ e) = pure.For at (view_variable x) eq (view a) down (view b) (view e)

  -- with a `;` before each
  pub view_links : {n : _} → t.Row_of-Expr n → pure.Links
  view_links t.end_of-Expr = pure.no_link
  view_links (t.more_of-Expr e es) = pure.more_link (fixed key.Semicolon) (view e) (view_links es)

  -- with a `,` before each
  pub view_commas : {n : _} → t.Row_of-Expr n → pure.Links
  view_commas t.end_of-Expr = pure.no_link
  view_commas (t.more_of-Expr e es) = pure.more_link (fixed key.Comma) (view e) (view_commas es)

  pub view_ops : {n : _} → t.Row_of-Expr-Assign-1-2 n → pure.Links
  view_ops t.end_of-Expr-Assign-1-2 = pure.no_link
  view_ops (t.more_of-Expr-Assign-1-2 w e es) = pure.more_link (view_tok w) (view e) (view_ops es)

  pub view_maybe : t.Held-Expr-If-4 → pure.MaybeExpr
  view_maybe t.None' = pure.no_expr
  view_maybe (t.Some' _ e) = pure.some_expr (view e)

  pub view_other : t.Held-Expr-If-4 → pure.Tail
  view_other t.None' = pure.no_else
  view_other (t.Some' _ e) = pure.or_else (view e)

  pub view_tail : {n : _} → t.Row_of-Branch n → pure.Tail → pure.Tail
  view_tail t.end_of-Branch other = other
  view_tail (t.more_of-Branch at c a es) other = pure.or_if at (view c) (view a) (view_tail es other)

  pub view_binding : Binding → pure.Binding
  view_binding (t.Plain x run at e) = pure.PlainBinding (view_pat x) (view_type run) at (view e)
  view_binding (t.Applied' x _ ps run at e) = pure.AppliedBinding (view_name x) (view_params ps) (view_type run) at (view e)

  pub view_bindings : {n : _} → t.Row_of-Binding n → pure.Bindings
  view_bindings t.end_of-Binding = pure.no_binding
  view_bindings (t.more_of-Binding b bs) = pure.more_binding (view_binding b) (view_bindings bs)

  pub view_cases : {n : _} → t.Row_of-Case n → pure.Cases
  view_cases t.end_of-Case = pure.no_case
  view_cases (t.more_of-Case x guard e cs) = pure.more_case (pure.CaseOf (view_pat x) (view_maybe guard) (view e)) (view_cases cs)

  pub view_argument : Argument → pure.Argument
  view_argument (t.Positional e) = pure.Positional (view e)
  view_argument (t.LabelPun w) = pure.LabelPun (view_word w)
  view_argument (t.Labelled w e) = pure.Labelled (view_word w) (view e)

  pub view_arguments : {n : _} → t.Row_of-Argument n → pure.Arguments
  view_arguments t.end_of-Argument = pure.no_argument
  view_arguments (t.more_of-Argument a es) = pure.more_argument (view_argument a) (view_arguments es)

  pub view_param : Param → pure.Param
  view_param (t.Pattern x) = pure.PatternParam (view_pat x)
  view_param (t.Label w) = pure.LabelParam (view_word w)
  view_param (t.LabelPattern w x) = pure.LabelPattern (view_word w) (view_pat x)
  view_param (t.Default w at x run eq e) = pure.DefaultParam (view_word w) at (view_pat x) (view_type run) eq (view e)
  view_param (t.Wrapped at optional at' w run) = pure.WrappedParam at optional at' (view_word w) (view_type run)
  view_param (t.WrappedDefault at at' w run eq e) = pure.WrappedDefault at at' (view_word w) (view_type run) eq (view e)
  view_param (t.Types at ws) = pure.TypesParam at (view_words ws.items)

  pub view_params : {n : _} → t.Row_of-Param n → pure.Params
  view_params t.end_of-Param = pure.no_param
  view_params (t.more_of-Param x ps) = pure.more_param (view_param x) (view_params ps)

  pub view_part : Part → pure.Part
  view_part (t.Select path w) = pure.LabelPart (view_words path.items) (view_word w)
  view_part (t.Index at e) = pure.IndexPart at (view e)
  view_part (t.CharIndex at e) = pure.CharPart at (view e)

  pub view_parts : {n : _} → t.Row_of-Part n → pure.Parts
  view_parts t.end_of-Part = pure.no_part
  view_parts (t.more_of-Part x ps) = pure.more_part (view_part x) (view_parts ps)

  pub view_field : Field → pure.Field
  view_field (t.FieldPun path w run) = pure.FieldPun (view_words path.items) (view_word w) (view_type run)
  view_field (t.Assigned path w run at e) = pure.AssignedField (view_words path.items) (view_word w) (view_type run) at (view e)

  pub view_fields : {n : _} → t.Row_of-Field n → pure.Fields
  view_fields t.end_of-Field = pure.no_field
  view_fields (t.more_of-Field f fs) = pure.more_field (view_field f) (view_fields fs)

-- ---- the same of the items of a `Vec`

abbrev pub pats : List Pat → pure.Pats
pats [] = pure.no_pat
pats (e ∷ es) = pure.more_pat (view_pat e) (pats es)

abbrev pub pat_fields : List PatField → pure.PatFields
pat_fields [] = pure.no_pat_field
pat_fields (f ∷ fs) = pure.more_pat_field (view_pat_field f) (pat_fields fs)

abbrev pub links : List Expr → pure.Links
links [] = pure.no_link
links (e ∷ es) = pure.more_link (fixed key.Semicolon) (view e) (links es)

abbrev pub commas : List Expr → pure.Links
commas [] = pure.no_link
commas (e ∷ es) = pure.more_link (fixed key.Comma) (view e) (commas es)

abbrev pub ops : List (Word × Expr) → pure.Links
ops [] = pure.no_link
ops (x ∷ xs) = pure.more_link (view_tok x.0) (view x.1) (ops xs)

abbrev pub maybe : Option (Box Expr) → pure.MaybeExpr
maybe None = pure.no_expr
maybe (Some e) = pure.some_expr (view e.value)

abbrev pub otherwise : Option (Box Expr) → pure.Tail
otherwise None = pure.no_else
otherwise (Some e) = pure.or_else (view e.value)

abbrev pub tail_before : pure.Tail → List Branch → pure.Tail
tail_before other [] = other
tail_before other (b ∷ es) = pure.or_if b.at (view b.test) (view b.then) (tail_before other es)

abbrev pub tail : List Branch → Option (Box Expr) → pure.Tail
tail es other = tail_before (otherwise other) es

abbrev pub bindings : List Binding → pure.Bindings
bindings [] = pure.no_binding
bindings (b ∷ bs) = pure.more_binding (view_binding b) (bindings bs)

abbrev pub view_case : Case → pure.Case
view_case c = pure.CaseOf (view_pat c.pat) (maybe c.guard) (view c.body)

abbrev pub cases : List Case → pure.Cases
cases [] = pure.no_case
cases (c ∷ cs) = pure.more_case (view_case c) (cases cs)

abbrev pub arguments : List Argument → pure.Arguments
arguments [] = pure.no_argument
arguments (a ∷ es) = pure.more_argument (view_argument a) (arguments es)

abbrev pub params : List Param → pure.Params
params [] = pure.no_param
params (x ∷ ps) = pure.more_param (view_param x) (params ps)

abbrev pub parts : List Part → pure.Parts
parts [] = pure.no_part
parts (x ∷ ps) = pure.more_part (view_part x) (parts ps)

abbrev pub fields : List Field → pure.Fields
fields [] = pure.no_field
fields (f ∷ fs) = pure.more_field (view_field f) (fields fs)

-- ---- modules

abbrev pub view_module_name : ModuleName → pure.ModuleName
view_module_name (x.Upper w) = pure.UpperName (view_word w)
view_module_name (x.Any at) = pure.AnyName at

abbrev pub view_constraint : Constraint → pure.Constraint
view_constraint c = pure.ConstraintOf (view_run c.left) (view_tok c.sign) c.private (view_run c.right)

abbrev pub view_with : WithClause → pure.WithClause
view_with w = pure.WithOf (view_constraint w.first) (map view_constraint w.rest.items)

unfoldable mutual
  pub view_mod : ModExpr → pure.ModExpr
  view_mod (m.ModPath path) = pure.ModPath (view_path path)
  view_mod (m.Struct' at _ is) = pure.Struct at (view_items is)
  view_mod (m.Functor' at _ ps _ e) = pure.Functor at (view_functor_params ps) (view_mod e)
  view_mod (m.Apply' _ e _ es) = pure.ModApply (view_mod e) (view_mod_arguments es)
  view_mod (m.Paren' at _ e) = pure.ModParen at (view_mod e)
  view_mod (m.Sealed' at _ e _ s) = pure.Sealed at (view_mod e) (view_mod_type s)

  pub view_mod_argument : ModArgument → pure.ModArgument
  view_mod_argument (m.Given at e) = pure.ModuleArgument at (view_mod e)
  view_mod_argument (m.SealedModule at e s) = pure.SealedArgument at (view_mod e) (view_mod_type s)
  view_mod_argument (m.Nothing at) = pure.NoArgument at

  pub view_mod_arguments : {n : _} → m.Row_of-ModArgument n → pure.ModArguments
  view_mod_arguments m.end_of-ModArgument = pure.no_mod_argument
  view_mod_arguments (m.more_of-ModArgument e es) = pure.more_mod_argument (view_mod_argument e) (view_mod_arguments es)

  pub view_functor_param : FunctorParam → pure.FunctorParam
  view_functor_param (m.Named at w s) = pure.NamedParam at (view_module_name w) (view_mod_type s)
  view_functor_param (m.NoParam at) = pure.NoParam at

  pub view_functor_params : {n : _} → m.Row_of-FunctorParam n → pure.FunctorParams
  view_functor_params m.end_of-FunctorParam = pure.no_functor_param
  view_functor_params (m.more_of-FunctorParam e es) = pure.more_functor_param (view_functor_param e) (view_functor_params es)

  pub view_mod_type : ModType → pure.ModType
  view_mod_type (m.TypePath path) = pure.TypePath (view_path path)
  view_mod_type (m.Sig' at _ is) = pure.Sig at (view_sig_items is)
  view_mod_type (m.TypeOf' at _ e) = pure.TypeOf at (view_mod e)
  view_mod_type (m.TypeParen' at _ s) = pure.TypeParen at (view_mod_type s)
  view_mod_type (m.With' _ s ws) = pure.With (view_mod_type s) (map view_with ws.items)
  view_mod_type (m.FunctorType' at _ ps _ s) = pure.FunctorType at (view_functor_params ps) (view_mod_type s)
  view_mod_type (m.ParamArrow' _ e _ s) = pure.ParamArrow (view_functor_param e) (view_mod_type s)
  view_mod_type (m.Arrow' _ e _ s) = pure.Arrow (view_mod_type e) (view_mod_type s)

  pub view_signature : m.Held-Item-Module-3 → pure.MaybeType
  view_signature m.None' = pure.no_type
  view_signature (m.Some' _ s) = pure.some_type (view_mod_type s)

  pub view_item : Item → pure.Item
  view_item (m.Expression e) = pure.ExprItem (view e)
  view_item m.Separator = pure.SeparatorItem
  view_item (m.Value at rec b bs) = pure.ValueItem at rec (view_binding b) (bindings bs.items)
  view_item (m.External e) = pure.ExternalItem (view_name e.name) (view_run e.run) e.equals (view_words e.texts.items)
  view_item (m.Type run) = pure.TypeItem (view_run run)
  view_item (m.Exception at run) = pure.ExceptionItem at (view_run run)
  view_item (m.Module' at w _ ps s eq e) = pure.ModuleItem at (view_module_name w) (view_functor_params ps) (view_signature s) eq (view_mod e)
  view_item (m.ModuleType at w eq s) = pure.ModuleTypeItem at (view_word w) eq (view_mod_type s)
  view_item (m.Open e) = pure.OpenItem e.at (view_bang e.bang) (view_path e.path)
  view_item (m.Include at e) = pure.IncludeItem at (view_mod e)

  pub view_items : {n : _} → m.Row_of-Item n → pure.Items
  view_items m.end_of-Item = pure.no_item
  view_items (m.more_of-Item i is) = pure.more_item (view_item i) (view_items is)

  pub view_sig_item : SigItem → pure.SigItem
  view_sig_item m.SigSeparator = pure.SeparatorSig
  view_sig_item (m.Val w run) = pure.ValSig (view_name w) (view_run run)
  view_sig_item (m.SigExternal e) = pure.ExternalSig (view_name e.name) (view_run e.run) e.equals (view_words e.texts.items)
  view_sig_item (m.SigType run) = pure.TypeSig (view_run run)
  view_sig_item (m.SigException at run) = pure.ExceptionSig at (view_run run)
  view_sig_item (m.SigModule' at w _ ps s) = pure.ModuleSig at (view_module_name w) (view_functor_params ps) (view_mod_type s)
  view_sig_item (m.Alias at w eq path) = pure.AliasSig at (view_word w) eq (view_path path)
  view_sig_item (m.SigModuleType at w eq s) = pure.ModuleTypeSig at (view_word w) eq (view_mod_type s)
  view_sig_item (m.SigOpen e) = pure.OpenSig e.at (view_bang e.bang) (view_path e.path)
  view_sig_item (m.SigInclude at s) = pure.IncludeSig at (view_mod_type s)

  pub view_sig_items : {n : _} → m.Row_of-SigItem n → pure.SigItems
  view_sig_items m.end_of-SigItem = pure.no_sig_item
  view_sig_items (m.more_of-SigItem i is) = pure.more_sig_item (view_sig_item i) (view_sig_items is)

-- ---- the same of the items of a `Vec`

abbrev pub mod_arguments : List ModArgument → pure.ModArguments
mod_arguments [] = pure.no_mod_argument
mod_arguments (e ∷ es) = pure.more_mod_argument (view_mod_argument e) (mod_arguments es)

abbrev pub functor_params : List FunctorParam → pure.FunctorParams
functor_params [] = pure.no_functor_param
functor_params (e ∷ es) = pure.more_functor_param (view_functor_param e) (functor_params es)

abbrev pub signature : Option (Box ModType) → pure.MaybeType
signature None = pure.no_type
signature (Some s) = pure.some_type (view_mod_type s.value)

abbrev pub items : List Item → pure.Items
items [] = pure.no_item
items (i ∷ is) = pure.more_item (view_item i) (items is)

abbrev pub sig_items : List SigItem → pure.SigItems
sig_items [] = pure.no_sig_item
sig_items (i ∷ is) = pure.more_sig_item (view_sig_item i) (sig_items is)

-- ---- files, units and projects

abbrev pub view_file : FileTree → pure.FileTree
view_file (f.Body file is) = pure.Body file (items is.items)
view_file (f.Face file is) = pure.Face file (sig_items is.items)

abbrev pub view_part_of : Option FileTree → Option pure.FileTree
view_part_of None = None
view_part_of (Some t) = Some (view_file t)

abbrev pub view_unit : UnitTree → pure.UnitTree
view_unit u = record { name = u.name; body = view_part_of u.body; face = view_part_of u.face }

abbrev pub view_project : Project → List pure.UnitTree
view_project project = map view_unit project.units.items
