-- How high a tree is: an expression, a pattern and the module of a `let module` are a level above the highest of those
-- inside them (the OCaml manual, "Patterns" and "Expressions"). If nothing nests, what is `inside` has no level.
use Rattle.std.specs.Prelude.{ℕ, suc, max}
use Rattle.ml_trees.specs.Tree.{Pat, AsPat, OrPat, TuplePat, ConsPat, ConstrApplyPat, TagApplyPat, LazyPat, ExceptionPat, AnyPat, ValuePat}
use Rattle.ml_trees.specs.Tree.{LiteralPat, NegativePat, RangePat, ConstrPat, TagPat, BoolPat, UnitPat, ParenPat, TypedPat, EmptyPat, ListPat}
use Rattle.ml_trees.specs.Tree.{RecordPat, OpenedPat, Pats, no_pat, more_pat, PatField, PunnedField, MatchedField, PatFields, no_pat_field}
use Rattle.ml_trees.specs.Tree.{more_pat_field, LocalModule, LocalPath, LocalArguments, no_local, more_local, no_module, Expr, Seq, Let, LetOpen}
use Rattle.ml_trees.specs.Tree.{LetModule, Fun, Function, Match, Try, If, Chain, Minus, Apply, ConstrApply, TagApply, Assert, Lazy, Postfix}
use Rattle.ml_trees.specs.Tree.{Prefixed, Literal, BoolExpr, Value, Constr, Tag, UnitExpr, Paren, Typed, Coerced, EmptyBegin, Begin, EmptyList}
use Rattle.ml_trees.specs.Tree.{ListExpr, Record, Opened, While, For, Links, no_link, more_link, MaybeExpr, no_expr, some_expr, Tail, no_else}
use Rattle.ml_trees.specs.Tree.{or_else, or_if, Binding, PlainBinding, AppliedBinding, Bindings, no_binding, more_binding, Case, CaseOf, Cases}
use Rattle.ml_trees.specs.Tree.{no_case, more_case, Argument, Positional, LabelPun, Labelled, Arguments, no_argument, more_argument, Param}
use Rattle.ml_trees.specs.Tree.{PatternParam, LabelParam, LabelPattern, DefaultParam, WrappedParam, WrappedDefault, TypesParam, Params, no_param}
use Rattle.ml_trees.specs.Tree.{more_param, Part, LabelPart, IndexPart, CharPart, Parts, no_part, more_part, Field, FieldPun, AssignedField, Fields}
use Rattle.ml_trees.specs.Tree.{no_field, more_field}

-- ---- patterns

abbrev mutual
  pub inside_pat : Pat → ℕ
  inside_pat (AsPat p names) = suc (inside_pat p)
  inside_pat (OrPat p ps) = max (suc (inside_pat p)) (pats_height ps)
  inside_pat (TuplePat p ps) = max (suc (inside_pat p)) (pats_height ps)
  inside_pat (ConsPat p ps) = max (suc (inside_pat p)) (pats_height ps)
  inside_pat (ConstrApplyPat path p) = suc (inside_pat p)
  inside_pat (TagApplyPat x p) = suc (inside_pat p)
  inside_pat (LazyPat at p) = suc (inside_pat p)
  inside_pat (ExceptionPat at p) = suc (inside_pat p)
  inside_pat (AnyPat at) = 0
  inside_pat (ValuePat x) = 0
  inside_pat (LiteralPat c x) = 0
  inside_pat (NegativePat sign c x) = 0
  inside_pat (RangePat x y) = 0
  inside_pat (ConstrPat path) = 0
  inside_pat (TagPat x) = 0
  inside_pat (BoolPat at b) = 0
  inside_pat (UnitPat at) = 0
  inside_pat (ParenPat at p) = suc (inside_pat p)
  inside_pat (TypedPat at p run) = suc (inside_pat p)
  inside_pat (EmptyPat at b) = 0
  inside_pat (ListPat at b p ps last) = max (suc (inside_pat p)) (pats_height ps)
  inside_pat (RecordPat at f fs rest last) = max (pat_field_height f) (pat_fields_height fs)
  inside_pat (OpenedPat path at p) = suc (inside_pat p)

  pub pats_height : Pats → ℕ
  pats_height no_pat = 0
  pats_height (more_pat p ps) = max (suc (inside_pat p)) (pats_height ps)

  pub pat_field_height : PatField → ℕ
  pat_field_height (PunnedField path x run) = 0
  pat_field_height (MatchedField path x run eq p) = suc (inside_pat p)

  pub pat_fields_height : PatFields → ℕ
  pat_fields_height no_pat_field = 0
  pat_fields_height (more_pat_field f fs) = max (pat_field_height f) (pat_fields_height fs)

abbrev pub pat_height : Pat → ℕ
pat_height p = suc (inside_pat p)

-- ---- expressions

abbrev mutual
  pub inside_local : LocalModule → ℕ
  inside_local (LocalPath path ms) = locals_height ms

  pub locals_height : LocalArguments → ℕ
  locals_height no_local = 0
  locals_height (more_local at m ms) = max (suc (inside_local m)) (locals_height ms)
  locals_height (no_module at ms) = locals_height ms

abbrev pub local_height : LocalModule → ℕ
local_height m = suc (inside_local m)

abbrev mutual
  pub inside : Expr → ℕ
  inside (Seq e es last) = max (suc (inside e)) (links_height es)
  inside (Let at rec b bs e) = max (max (binding_height b) (bindings_height bs)) (suc (inside e))
  inside (LetOpen at at' bang path e) = suc (inside e)
  inside (LetModule at at' x eq m e) = max (suc (inside_local m)) (suc (inside e))
  inside (Fun at ps e) = max (params_height ps) (suc (inside e))
  inside (Function at bar c cs) = max (case_height c) (cases_height cs)
  inside (Match at e bar c cs) = max (max (suc (inside e)) (case_height c)) (cases_height cs)
  inside (Try at e bar c cs) = max (max (suc (inside e)) (case_height c)) (cases_height cs)
  inside (If at c a tail) = max (max (suc (inside c)) (suc (inside a))) (tail_height tail)
  inside (Chain n e es) = max (suc (inside e)) (links_height es)
  inside (Minus x e) = suc (inside e)
  inside (Apply f es) = max (suc (inside f)) (arguments_height es)
  inside (ConstrApply path e) = suc (inside e)
  inside (TagApply x e) = suc (inside e)
  inside (Assert at e) = suc (inside e)
  inside (Lazy at e) = suc (inside e)
  inside (Postfix e ps) = max (suc (inside e)) (parts_height ps)
  inside (Prefixed x e) = suc (inside e)
  inside (Literal c x) = 0
  inside (BoolExpr at b) = 0
  inside (Value path x) = 0
  inside (Constr path) = 0
  inside (Tag x) = 0
  inside (UnitExpr at) = 0
  inside (Paren at e) = suc (inside e)
  inside (Typed at e run) = suc (inside e)
  inside (Coerced at e from to) = suc (inside e)
  inside (EmptyBegin at) = 0
  inside (Begin at e) = suc (inside e)
  inside (EmptyList at b) = 0
  inside (ListExpr at b e es last) = max (suc (inside e)) (links_height es)
  inside (Record at base f fs last) = max (max (maybe_height base) (field_height f)) (fields_height fs)
  inside (Opened path e) = suc (inside e)
  inside (While at c e) = max (suc (inside c)) (suc (inside e))
  inside (For at x eq a down b e) = max (max (suc (inside a)) (suc (inside b))) (suc (inside e))

  pub links_height : Links → ℕ
  links_height no_link = 0
  links_height (more_link t e es) = max (suc (inside e)) (links_height es)

  pub maybe_height : MaybeExpr → ℕ
  maybe_height no_expr = 0
  maybe_height (some_expr e) = suc (inside e)

  pub tail_height : Tail → ℕ
  tail_height no_else = 0
  tail_height (or_else e) = suc (inside e)
  tail_height (or_if at c a tail) = max (max (suc (inside c)) (suc (inside a))) (tail_height tail)

  pub binding_height : Binding → ℕ
  binding_height (PlainBinding p run eq e) = max (suc (inside_pat p)) (suc (inside e))
  binding_height (AppliedBinding x ps run eq e) = max (params_height ps) (suc (inside e))

  pub bindings_height : Bindings → ℕ
  bindings_height no_binding = 0
  bindings_height (more_binding b bs) = max (binding_height b) (bindings_height bs)

  pub case_height : Case → ℕ
  case_height (CaseOf p guard e) = max (max (suc (inside_pat p)) (maybe_height guard)) (suc (inside e))

  pub cases_height : Cases → ℕ
  cases_height no_case = 0
  cases_height (more_case c cs) = max (case_height c) (cases_height cs)

  pub argument_height : Argument → ℕ
  argument_height (Positional e) = suc (inside e)
  argument_height (LabelPun x) = 0
  argument_height (Labelled x e) = suc (inside e)

  pub arguments_height : Arguments → ℕ
  arguments_height no_argument = 0
  arguments_height (more_argument a es) = max (argument_height a) (arguments_height es)

  pub param_height : Param → ℕ
  param_height (PatternParam p) = suc (inside_pat p)
  param_height (LabelParam x) = 0
  param_height (LabelPattern x p) = suc (inside_pat p)
  param_height (DefaultParam x at p run eq e) = max (suc (inside_pat p)) (suc (inside e))
  param_height (WrappedParam at optional at' x run) = 0
  param_height (WrappedDefault at at' x run eq e) = suc (inside e)
  param_height (TypesParam at xs) = 0

  pub params_height : Params → ℕ
  params_height no_param = 0
  params_height (more_param p ps) = max (param_height p) (params_height ps)

  pub part_height : Part → ℕ
  part_height (LabelPart path x) = 0
  part_height (IndexPart at e) = suc (inside e)
  part_height (CharPart at e) = suc (inside e)

  pub parts_height : Parts → ℕ
  parts_height no_part = 0
  parts_height (more_part p ps) = max (part_height p) (parts_height ps)

  pub field_height : Field → ℕ
  field_height (FieldPun path x run) = 0
  field_height (AssignedField path x run eq e) = suc (inside e)

  pub fields_height : Fields → ℕ
  fields_height no_field = 0
  fields_height (more_field f fs) = max (field_height f) (fields_height fs)

abbrev pub height : Expr → ℕ
height e = suc (inside e)
