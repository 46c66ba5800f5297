-- What an expression is put before is shorter than its words and this.
use Rattle.std.proofs.Common.{◌≢◌, ◌<◌, ◌≤◌, List, [], ◌∷◌, ◌++◌, length, Option, Some, None, refl, arith}
use Rattle.rotor_base.specs.declared.token.Class.TheVariants as class
use Rattle.ml_trees.specs.declared.fixed.Fixed.TheVariants as key
use Rattle.ml_trees.specs.Tok.{Name, Tok, fixed, placed, word}
use Rattle.ml_trees.proofs.Words.{direction, closing, path_then, name_then, type_then, optional_then, bang_then, variable_then, local_then}
use Rattle.ml_trees.proofs.Words.{locals_then, lowers_then, expr_then, links_then, base_then, guard_then, tail_then, binding_then, bindings_then}
use Rattle.ml_trees.proofs.Words.{case_then, cases_then, argument_then, arguments_then, param_then, params_then, part_then, parts_then, field_then}
use Rattle.ml_trees.proofs.Words.{fields_then}
use Rattle.ml_trees.specs.WellFormed.{Wf}
use Rattle.ml_trees.specs.Tree.{Variable, PlainVariable, AnyVariable, LocalModule, LocalPath, LocalArguments, no_local, more_local, no_module, Expr}
use Rattle.ml_trees.specs.Tree.{Seq, Let, LetOpen, LetModule, Fun, Function, Match, Try, If, Chain, Minus, Apply, ConstrApply, TagApply, Assert}
use Rattle.ml_trees.specs.Tree.{Lazy, Postfix, Prefixed, Literal, BoolExpr, Value, Constr, Tag, UnitExpr, Paren, Typed, Coerced, EmptyBegin, Begin}
use Rattle.ml_trees.specs.Tree.{EmptyList, ListExpr, Record, Opened, While, For, Links, no_link, more_link, MaybeExpr, no_expr, some_expr, Tail}
use Rattle.ml_trees.specs.Tree.{no_else, or_else, or_if, Binding, PlainBinding, AppliedBinding, Bindings, no_binding, more_binding, Case, CaseOf}
use Rattle.ml_trees.specs.Tree.{Cases, no_case, more_case, Argument, Positional, LabelPun, Labelled, Arguments, no_argument, more_argument, Param}
use Rattle.ml_trees.specs.Tree.{PatternParam, LabelParam, LabelPattern, DefaultParam, WrappedParam, WrappedDefault, TypesParam, Params, no_param}
use Rattle.ml_trees.specs.Tree.{more_param, Part, LabelPart, IndexPart, CharPart, Parts, no_part, more_part, Field, FieldPun, AssignedField, Fields}
use Rattle.ml_trees.specs.Tree.{no_field, more_field}
use Rattle.pattern_reading.proofs.LongerPat.{dotted_longer, path_longer, qualified_longer, name_longer, run_longer, type_longer, optional_longer}
use Rattle.pattern_reading.proofs.LongerPat.{pat_more}

pub variable_more : (a : Variable) (k : List Tok) → length k ≤ length (variable_then a k)
variable_more (PlainVariable x) k = omega arith
variable_more (AnyVariable at) k = omega arith

pub bang_more : (a : Option Name) (k : List Tok) → length k ≤ length (bang_then a k)
bang_more None k = omega arith
bang_more (Some x) k = omega arith

pub lowers_more : (a : List Name) (k : List Tok) → length k ≤ length (lowers_then a k)
lowers_more [] k = omega arith
lowers_more (x ∷ xs) k = omega (arith, lowers_more xs k)

mutual
  pub local_more : (a : LocalModule) (k : List Tok) → length k ≤ length (local_then a k)
  local_more (LocalPath path ms) k = omega (arith, path_longer path (locals_then ms k), locals_more ms k)

  pub locals_more : (a : LocalArguments) (k : List Tok) → length k ≤ length (locals_then a k)
  locals_more no_local k = omega arith
  locals_more (more_local at m ms) k = omega (arith, local_more m (fixed key.RightParen ∷ locals_then ms k), locals_more ms k)
  locals_more (no_module at ms) k = omega (arith, locals_more ms k)

mutual
  pub expr_more : (a : Expr) (k : List Tok) → length k ≤ length (expr_then a k)
  expr_more (Seq e es last) k =
      omega (
        arith,
        expr_more e (links_then es (optional_then key.Semicolon last k)),
        links_more es (optional_then key.Semicolon last k),
        optional_longer key.Semicolon last k,
      )
  expr_more (Let at rec b bs e) k =
      omega (
        arith,
        optional_longer key.Rec rec (binding_then b (bindings_then bs (fixed key.In ∷ expr_then e k))),
        binding_more b
            (bindings_then bs (fixed key.In ∷ expr_then e k)),
        bindings_more bs (fixed key.In ∷ expr_then e k),
        expr_more e k,
      )
  expr_more (LetOpen at at' bang path e) k =
      omega (arith, bang_more bang (path_then path (fixed key.In ∷ expr_then e k)), path_longer path (fixed key.In ∷ expr_then e k), expr_more e k)
  expr_more (LetModule at at' x eq m e) k = omega (arith, local_more m (fixed key.In ∷ expr_then e k), expr_more e k)
  expr_more (Fun at ps e) k = omega (arith, params_more ps (fixed key.Arrow ∷ expr_then e k), expr_more e k)
  expr_more (Function at bar c cs) k =
      omega (arith, optional_longer key.Bar bar (case_then c (cases_then cs k)), case_more c (cases_then cs k), cases_more cs k)
  expr_more (Match at e bar c cs) k =
      omega (
        arith,
        expr_more e (fixed key.With ∷ optional_then key.Bar bar (case_then c (cases_then cs k))),
        optional_longer key.Bar bar
            (case_then c (cases_then cs k)),
        case_more c (cases_then cs k),
        cases_more cs k,
      )
  expr_more (Try at e bar c cs) k =
      omega (
        arith,
        expr_more e (fixed key.With ∷ optional_then key.Bar bar (case_then c (cases_then cs k))),
        optional_longer key.Bar bar
            (case_then c (cases_then cs k)),
        case_more c (cases_then cs k),
        cases_more cs k,
      )
  expr_more (If at c a tail) k =
      omega (arith, expr_more c (fixed key.Then ∷ expr_then a (tail_then tail k)), expr_more a (tail_then tail k), tail_more tail k)
  expr_more (Chain n e es) k = omega (arith, expr_more e (links_then es k), links_more es k)
  expr_more (Minus x e) k = omega (arith, expr_more e k)
  expr_more (Apply f es) k = omega (arith, expr_more f (arguments_then es k), arguments_more es k)
  expr_more (ConstrApply path e) k = omega (arith, path_longer path (expr_then e k), expr_more e k)
  expr_more (TagApply x e) k = omega (arith, expr_more e k)
  expr_more (Assert at e) k = omega (arith, expr_more e k)
  expr_more (Lazy at e) k = omega (arith, expr_more e k)
  expr_more (Postfix e ps) k = omega (arith, expr_more e (parts_then ps k), parts_more ps k)
  expr_more (Prefixed x e) k = omega (arith, expr_more e k)
  expr_more (Literal c x) k = omega arith
  expr_more (BoolExpr at b) k = omega arith
  expr_more (Value path x) k = omega (arith, qualified_longer path (name_then x k), name_longer x k)
  expr_more (Constr path) k = omega (arith, path_longer path k)
  expr_more (Tag x) k = omega arith
  expr_more (UnitExpr at) k = omega arith
  expr_more (Paren at e) k = omega (arith, expr_more e (fixed key.RightParen ∷ k))
  expr_more (Typed at e run) k =
      omega (arith, expr_more e (fixed key.Colon ∷ (run ++ (fixed key.RightParen ∷ k))), run_longer run (fixed key.RightParen ∷ k))
  expr_more (Coerced at e from to) k =
      omega (
        arith,
        expr_more e (type_then from (fixed key.ColonGreater ∷ (to ++ (fixed key.RightParen ∷ k)))),
        type_longer from
            (fixed key.ColonGreater ∷ (to ++ (fixed key.RightParen ∷ k))),
        run_longer to (fixed key.RightParen ∷ k),
      )
  expr_more (EmptyBegin at) k = omega arith
  expr_more (Begin at e) k = omega (arith, expr_more e (fixed key.End ∷ k))
  expr_more (EmptyList at b) k = omega arith
  expr_more (ListExpr at b e es last) k =
      omega (
        arith,
        expr_more e (links_then es (optional_then key.Semicolon last (fixed (closing b) ∷ k))),
        links_more es
            (optional_then key.Semicolon last (fixed (closing b) ∷ k)),
        optional_longer key.Semicolon last (fixed (closing b) ∷ k),
      )
  expr_more (Record at base f fs last) k =
      omega (
        arith,
        base_more base (field_then f (fields_then fs (optional_then key.Semicolon last (fixed key.RightBrace ∷ k)))),
        field_more f
            (fields_then fs (optional_then key.Semicolon last (fixed key.RightBrace ∷ k))),
        fields_more fs
            (optional_then key.Semicolon last (fixed key.RightBrace ∷ k)),
        optional_longer key.Semicolon last (fixed key.RightBrace ∷ k),
      )
  expr_more (Opened path e) k = omega (arith, path_longer path (fixed key.Dot ∷ expr_then e k), expr_more e k)
  expr_more (While at c e) k = omega (arith, expr_more c (fixed key.Do ∷ expr_then e (fixed key.Done ∷ k)), expr_more e (fixed key.Done ∷ k))
  expr_more (For at x eq a down b e) k =
      omega (
        arith,
        variable_more x
            (placed key.Equals eq ∷ expr_then a (fixed (direction down) ∷ expr_then b (fixed key.Do ∷ expr_then e (fixed key.Done ∷ k)))),
        expr_more a
            (fixed (direction down) ∷ expr_then b (fixed key.Do ∷ expr_then e (fixed key.Done ∷ k))),
        expr_more b
            (fixed key.Do ∷ expr_then e (fixed key.Done ∷ k)),
        expr_more e (fixed key.Done ∷ k),
      )

  pub links_more : (a : Links) (k : List Tok) → length k ≤ length (links_then a k)
  links_more no_link k = omega arith
  links_more (more_link t e es) k = omega (arith, expr_more e (links_then es k), links_more es k)

  pub base_more : (a : MaybeExpr) (k : List Tok) → length k ≤ length (base_then a k)
  base_more no_expr k = omega arith
  base_more (some_expr e) k = omega (arith, expr_more e (fixed key.With ∷ k))

  pub guard_more : (a : MaybeExpr) (k : List Tok) → length k ≤ length (guard_then a k)
  guard_more no_expr k = omega arith
  guard_more (some_expr e) k = omega (arith, expr_more e k)

  pub tail_more : (a : Tail) (k : List Tok) → length k ≤ length (tail_then a k)
  tail_more no_else k = omega arith
  tail_more (or_else e) k = omega (arith, expr_more e k)
  tail_more (or_if at c a tail) k =
      omega (arith, expr_more c (fixed key.Then ∷ expr_then a (tail_then tail k)), expr_more a (tail_then tail k), tail_more tail k)

  pub binding_more : (a : Binding) (k : List Tok) → length k ≤ length (binding_then a k)
  binding_more (PlainBinding p run at e) k =
      omega (
        arith,
        pat_more p (type_then run (placed key.Equals at ∷ expr_then e k)),
        type_longer run (placed key.Equals at ∷ expr_then e k),
        expr_more e k,
      )
  binding_more (AppliedBinding x ps run at e) k =
      omega (
        arith,
        name_longer x (params_then ps (type_then run (placed key.Equals at ∷ expr_then e k))),
        params_more ps
            (type_then run (placed key.Equals at ∷ expr_then e k)),
        type_longer run (placed key.Equals at ∷ expr_then e k),
        expr_more e k,
      )

  pub bindings_more : (a : Bindings) (k : List Tok) → length k ≤ length (bindings_then a k)
  bindings_more no_binding k = omega arith
  bindings_more (more_binding b bs) k = omega (arith, binding_more b (bindings_then bs k), bindings_more bs k)

  pub case_more : (a : Case) (k : List Tok) → length k ≤ length (case_then a k)
  case_more (CaseOf p guard e) k =
      omega (
        arith,
        pat_more p (guard_then guard (fixed key.Arrow ∷ expr_then e k)),
        guard_more guard (fixed key.Arrow ∷ expr_then e k),
        expr_more e k,
      )

  pub cases_more : (a : Cases) (k : List Tok) → length k ≤ length (cases_then a k)
  cases_more no_case k = omega arith
  cases_more (more_case c cs) k = omega (arith, case_more c (cases_then cs k), cases_more cs k)

  pub argument_more : (a : Argument) (k : List Tok) → length k ≤ length (argument_then a k)
  argument_more (Positional e) k = omega (arith, expr_more e k)
  argument_more (LabelPun x) k = omega arith
  argument_more (Labelled x e) k = omega (arith, expr_more e k)

  pub arguments_more : (a : Arguments) (k : List Tok) → length k ≤ length (arguments_then a k)
  arguments_more no_argument k = omega arith
  arguments_more (more_argument a es) k = omega (arith, argument_more a (arguments_then es k), arguments_more es k)

  pub param_more : (a : Param) (k : List Tok) → length k ≤ length (param_then a k)
  param_more (PatternParam p) k = omega (arith, pat_more p k)
  param_more (LabelParam x) k = omega arith
  param_more (LabelPattern x p) k = omega (arith, pat_more p k)
  param_more (DefaultParam x at p run eq e) k =
      omega (
        arith,
        pat_more p (type_then run (placed key.Equals eq ∷ expr_then e (fixed key.RightParen ∷ k))),
        type_longer run
            (placed key.Equals eq ∷ expr_then e (fixed key.RightParen ∷ k)),
        expr_more e (fixed key.RightParen ∷ k),
      )
  param_more (WrappedParam at optional at' x run) k = omega (arith, type_longer run (fixed key.RightParen ∷ k))
  param_more (WrappedDefault at at' x run eq e) k =
      omega (arith, type_longer run (placed key.Equals eq ∷ expr_then e (fixed key.RightParen ∷ k)), expr_more e (fixed key.RightParen ∷ k))
  param_more (TypesParam at xs) k = omega (arith, lowers_more xs (fixed key.RightParen ∷ k))

  pub params_more : (a : Params) (k : List Tok) → length k ≤ length (params_then a k)
  params_more no_param k = omega arith
  params_more (more_param p ps) k = omega (arith, param_more p (params_then ps k), params_more ps k)

  pub part_more : (a : Part) (k : List Tok) → length k ≤ length (part_then a k)
  part_more (LabelPart path x) k = omega (arith, qualified_longer path (word class.Lower x ∷ k))
  part_more (IndexPart at e) k = omega (arith, expr_more e (fixed key.RightParen ∷ k))
  part_more (CharPart at e) k = omega (arith, expr_more e (fixed key.RightBracket ∷ k))

  pub parts_more : (a : Parts) (k : List Tok) → length k ≤ length (parts_then a k)
  parts_more no_part k = omega arith
  parts_more (more_part p ps) k = omega (arith, part_more p (parts_then ps k), parts_more ps k)

  pub field_more : (a : Field) (k : List Tok) → length k ≤ length (field_then a k)
  field_more (FieldPun path x run) k = omega (arith, qualified_longer path (word class.Lower x ∷ type_then run k), type_longer run k)
  field_more (AssignedField path x run at e) k =
      omega (
        arith,
        qualified_longer path (word class.Lower x ∷ type_then run (placed key.Equals at ∷ expr_then e k)),
        type_longer run
            (placed key.Equals at ∷ expr_then e k),
        expr_more e k,
      )

  pub fields_more : (a : Fields) (k : List Tok) → length k ≤ length (fields_then a k)
  fields_more no_field k = omega arith
  fields_more (more_field f fs) k = omega (arith, field_more f (fields_then fs k), fields_more fs k)

pub path_strict : (path : List Name) (k : List Tok) → path ≢ [] → length k < length (path_then path k)
path_strict [] k h = absurd (h refl)
path_strict (x ∷ xs) k h = omega (arith, dotted_longer xs k)

pub expr_longer : (e : Expr) (k : List Tok) → Wf e → length k < length (expr_then e k)
expr_longer (Seq e es last) k w =
    omega (
      arith,
      expr_longer e (links_then es (optional_then key.Semicolon last k)) w.1,
      links_more es (optional_then key.Semicolon last k),
      optional_longer key.Semicolon last k,
    )
expr_longer (Let at rec b bs e) k w =
    omega (
      arith,
      optional_longer key.Rec rec (binding_then b (bindings_then bs (fixed key.In ∷ expr_then e k))),
      binding_more b
          (bindings_then bs (fixed key.In ∷ expr_then e k)),
      bindings_more bs (fixed key.In ∷ expr_then e k),
      expr_more e k,
    )
expr_longer (LetOpen at at' bang path e) k w =
    omega (arith, bang_more bang (path_then path (fixed key.In ∷ expr_then e k)), path_longer path (fixed key.In ∷ expr_then e k), expr_more e k)
expr_longer (LetModule at at' x eq m e) k w = omega (arith, local_more m (fixed key.In ∷ expr_then e k), expr_more e k)
expr_longer (Fun at ps e) k w = omega (arith, params_more ps (fixed key.Arrow ∷ expr_then e k), expr_more e k)
expr_longer (Function at bar c cs) k w =
    omega (arith, optional_longer key.Bar bar (case_then c (cases_then cs k)), case_more c (cases_then cs k), cases_more cs k)
expr_longer (Match at e bar c cs) k w =
    omega (
      arith,
      expr_more e (fixed key.With ∷ optional_then key.Bar bar (case_then c (cases_then cs k))),
      optional_longer key.Bar bar
          (case_then c (cases_then cs k)),
      case_more c (cases_then cs k),
      cases_more cs k,
    )
expr_longer (Try at e bar c cs) k w =
    omega (
      arith,
      expr_more e (fixed key.With ∷ optional_then key.Bar bar (case_then c (cases_then cs k))),
      optional_longer key.Bar bar
          (case_then c (cases_then cs k)),
      case_more c (cases_then cs k),
      cases_more cs k,
    )
expr_longer (If at c a tail) k w =
    omega (arith, expr_more c (fixed key.Then ∷ expr_then a (tail_then tail k)), expr_more a (tail_then tail k), tail_more tail k)
expr_longer (Chain n e es) k w = omega (arith, expr_longer e (links_then es k) w.4, links_more es k)
expr_longer (Minus x e) k w = omega (arith, expr_more e k)
expr_longer (Apply f es) k w = omega (arith, expr_longer f (arguments_then es k) w.2, arguments_more es k)
expr_longer (ConstrApply path e) k w = omega (arith, path_longer path (expr_then e k), expr_longer e k w.2)
expr_longer (TagApply x e) k w = omega (arith, expr_more e k)
expr_longer (Assert at e) k w = omega (arith, expr_more e k)
expr_longer (Lazy at e) k w = omega (arith, expr_more e k)
expr_longer (Postfix e ps) k w = omega (arith, expr_longer e (parts_then ps k) w.2, parts_more ps k)
expr_longer (Prefixed x e) k w = omega (arith, expr_more e k)
expr_longer (Literal c x) k w = omega arith
expr_longer (BoolExpr at b) k w = omega arith
expr_longer (Value path x) k w = omega (arith, qualified_longer path (name_then x k), name_longer x k)
expr_longer (Constr path) k w = path_strict path k w
expr_longer (Tag x) k w = omega arith
expr_longer (UnitExpr at) k w = omega arith
expr_longer (Paren at e) k w = omega (arith, expr_more e (fixed key.RightParen ∷ k))
expr_longer (Typed at e run) k w =
    omega (arith, expr_more e (fixed key.Colon ∷ (run ++ (fixed key.RightParen ∷ k))), run_longer run (fixed key.RightParen ∷ k))
expr_longer (Coerced at e from to) k w =
    omega (
      arith,
      expr_more e (type_then from (fixed key.ColonGreater ∷ (to ++ (fixed key.RightParen ∷ k)))),
      type_longer from
          (fixed key.ColonGreater ∷ (to ++ (fixed key.RightParen ∷ k))),
      run_longer to (fixed key.RightParen ∷ k),
    )
expr_longer (EmptyBegin at) k w = omega arith
expr_longer (Begin at e) k w = omega (arith, expr_more e (fixed key.End ∷ k))
expr_longer (EmptyList at b) k w = omega arith
expr_longer (ListExpr at b e es last) k w =
    omega (
      arith,
      expr_more e (links_then es (optional_then key.Semicolon last (fixed (closing b) ∷ k))),
      links_more es
          (optional_then key.Semicolon last (fixed (closing b) ∷ k)),
      optional_longer key.Semicolon last (fixed (closing b) ∷ k),
    )
expr_longer (Record at base f fs last) k w =
    omega (
      arith,
      base_more base (field_then f (fields_then fs (optional_then key.Semicolon last (fixed key.RightBrace ∷ k)))),
      field_more f
          (fields_then fs (optional_then key.Semicolon last (fixed key.RightBrace ∷ k))),
      fields_more fs
          (optional_then key.Semicolon last (fixed key.RightBrace ∷ k)),
      optional_longer key.Semicolon last (fixed key.RightBrace ∷ k),
    )
expr_longer (Opened path e) k w = omega (arith, path_longer path (fixed key.Dot ∷ expr_then e k), expr_more e k)
expr_longer (While at c e) k w = omega (arith, expr_more c (fixed key.Do ∷ expr_then e (fixed key.Done ∷ k)), expr_more e (fixed key.Done ∷ k))
expr_longer (For at x eq a down b e) k w =
    omega (
      arith,
      variable_more x
          (placed key.Equals eq ∷ expr_then a (fixed (direction down) ∷ expr_then b (fixed key.Do ∷ expr_then e (fixed key.Done ∷ k)))),
      expr_more a
          (fixed (direction down) ∷ expr_then b (fixed key.Do ∷ expr_then e (fixed key.Done ∷ k))),
      expr_more b
          (fixed key.Do ∷ expr_then e (fixed key.Done ∷ k)),
      expr_more e (fixed key.Done ∷ k),
    )
