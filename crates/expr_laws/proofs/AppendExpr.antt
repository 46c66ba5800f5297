-- The words of an expression, and then more, are its words before more.
use Rattle.std.proofs.Common.{◌≡◌, List, [], ◌∷◌, ◌++◌, Option, Some, None, refl, ap, ◌∙◌}
use Rattle.rotor_base.specs.declared.token.Class.TheVariants as class
use Rattle.ml_trees.specs.declared.fixed.Fixed.TheVariants as key
use Rattle.ml_trees.specs.Tok.{Name, Tok, fixed, placed, word}
use Rattle.ml_trees.proofs.Words.{wrap, direction, closing, opening, path_then, qualified_then, name_then, type_then, optional_then, bang_then}
use Rattle.ml_trees.proofs.Words.{pat_then, variable_then, local_then, locals_then, lowers_then, expr_then, links_then, base_then, guard_then}
use Rattle.ml_trees.proofs.Words.{tail_then, binding_then, bindings_then, case_then, cases_then, argument_then, arguments_then, param_then}
use Rattle.ml_trees.proofs.Words.{params_then, part_then, parts_then, field_then, fields_then, expr_words}
use Rattle.ml_trees.specs.Tree.{Variable, PlainVariable, AnyVariable, LocalModule, LocalPath, LocalArguments, no_local, more_local, no_module, Expr}
use Rattle.ml_trees.specs.Tree.{Seq, Let, LetOpen, LetModule, Fun, Function, Match, Try, If, Chain, Minus, Apply, ConstrApply, TagApply, Assert}
use Rattle.ml_trees.specs.Tree.{Lazy, Postfix, Prefixed, Literal, BoolExpr, Value, Constr, Tag, UnitExpr, Paren, Typed, Coerced, EmptyBegin, Begin}
use Rattle.ml_trees.specs.Tree.{EmptyList, ListExpr, Record, Opened, While, For, Links, no_link, more_link, MaybeExpr, no_expr, some_expr, Tail}
use Rattle.ml_trees.specs.Tree.{no_else, or_else, or_if, Binding, PlainBinding, AppliedBinding, Bindings, no_binding, more_binding, Case, CaseOf}
use Rattle.ml_trees.specs.Tree.{Cases, no_case, more_case, Argument, Positional, LabelPun, Labelled, Arguments, no_argument, more_argument, Param}
use Rattle.ml_trees.specs.Tree.{PatternParam, LabelParam, LabelPattern, DefaultParam, WrappedParam, WrappedDefault, TypesParam, Params, no_param}
use Rattle.ml_trees.specs.Tree.{more_param, Part, LabelPart, IndexPart, CharPart, Parts, no_part, more_part, Field, FieldPun, AssignedField, Fields}
use Rattle.ml_trees.specs.Tree.{no_field, more_field}
use Rattle.pattern_reading.proofs.LawsPat.{path_then_more, qualified_then_more, name_then_more, type_then_more, optional_then_more, pat_then_more}

append_more : (xs j k : List Tok) → xs ++ (j ++ k) ≡ (xs ++ j) ++ k
append_more [] j k = refl
append_more (x ∷ xs) j k = ap (λ (w : List Tok). x ∷ w) (append_more xs j k)

pub variable_then_more : (a : Variable) (j k : List Tok) → variable_then a (j ++ k) ≡ variable_then a j ++ k
variable_then_more (PlainVariable x) j k = refl
variable_then_more (AnyVariable at) j k = refl

pub bang_then_more : (a : Option Name) (j k : List Tok) → bang_then a (j ++ k) ≡ bang_then a j ++ k
bang_then_more None j k = refl
bang_then_more (Some x) j k = refl

pub lowers_then_more : (a : List Name) (j k : List Tok) → lowers_then a (j ++ k) ≡ lowers_then a j ++ k
lowers_then_more [] j k = refl
lowers_then_more (x ∷ xs) j k = ap (λ (w : List Tok). word class.Lower x ∷ w) (lowers_then_more xs j k)

mutual
  pub local_then_more : (a : LocalModule) (j k : List Tok) → local_then a (j ++ k) ≡ local_then a j ++ k
  local_then_more (LocalPath path ms) j k = ap (path_then path) (locals_then_more ms j k) ∙ path_then_more path (locals_then ms j) k

  pub locals_then_more : (a : LocalArguments) (j k : List Tok) → locals_then a (j ++ k) ≡ locals_then a j ++ k
  locals_then_more no_local j k = refl
  locals_then_more (more_local at m ms) j k =
      ap (λ (w : List Tok). placed key.LeftParen at ∷ w)
      (ap (local_then m) (ap (λ (w : List Tok). fixed key.RightParen ∷ w) (locals_then_more ms j k))
      ∙ local_then_more m (fixed key.RightParen ∷ locals_then ms j) k)
  locals_then_more (no_module at ms) j k =
      ap (λ (w : List Tok). placed key.LeftParen at ∷ w) (ap (λ (w : List Tok). fixed key.RightParen ∷ w) (locals_then_more ms j k))

mutual
  pub expr_then_more : (a : Expr) (j k : List Tok) → expr_then a (j ++ k) ≡ expr_then a j ++ k
  expr_then_more (Seq e es last) j k =
      ap (expr_then e) (ap (links_then es) (optional_then_more key.Semicolon last j k) ∙ links_then_more es (optional_then key.Semicolon last j) k)
      ∙ expr_then_more e (links_then es (optional_then key.Semicolon last j)) k
  expr_then_more (Let at rec b bs e) j k =
      ap (λ (w : List Tok). placed key.Let at ∷ w)
      (ap (optional_then key.Rec rec)
      (ap (binding_then b) (ap (bindings_then bs) (ap (λ (w : List Tok). fixed key.In ∷ w) (expr_then_more e j k))
      ∙ bindings_then_more bs (fixed key.In ∷ expr_then e j) k) ∙ binding_then_more b (bindings_then bs (fixed key.In ∷ expr_then e j)) k)
      ∙ optional_then_more key.Rec rec (binding_then b (bindings_then bs (fixed key.In ∷ expr_then e j))) k)
  expr_then_more (LetOpen at at' bang path e) j k =
      ap (λ (w : List Tok). placed key.Let at ∷ w)
      (ap (λ (w : List Tok). placed key.Open at' ∷ w)
      (ap (bang_then bang) (ap (path_then path) (ap (λ (w : List Tok). fixed key.In ∷ w) (expr_then_more e j k))
      ∙ path_then_more path (fixed key.In ∷ expr_then e j) k) ∙ bang_then_more bang (path_then path (fixed key.In ∷ expr_then e j)) k))
  expr_then_more (LetModule at at' x eq m e) j k =
      ap (λ (w : List Tok). placed key.Let at ∷ w)
      (ap (λ (w : List Tok). placed key.Module at' ∷ w)
      (ap (λ (w : List Tok). word class.Upper x ∷ w)
      (ap (λ (w : List Tok). placed key.Equals eq ∷ w)
      (ap (local_then m) (ap (λ (w : List Tok). fixed key.In ∷ w) (expr_then_more e j k)) ∙ local_then_more m (fixed key.In ∷ expr_then e j) k))))
  expr_then_more (Fun at ps e) j k =
      ap (λ (w : List Tok). placed key.Fun at ∷ w)
      (ap (params_then ps) (ap (λ (w : List Tok). fixed key.Arrow ∷ w) (expr_then_more e j k))
      ∙ params_then_more ps (fixed key.Arrow ∷ expr_then e j) k)
  expr_then_more (Function at bar c cs) j k =
      ap (λ (w : List Tok). placed key.Function at ∷ w)
      (ap (optional_then key.Bar bar) (ap (case_then c) (cases_then_more cs j k) ∙ case_then_more c (cases_then cs j) k)
      ∙ optional_then_more key.Bar bar (case_then c (cases_then cs j)) k)
  expr_then_more (Match at e bar c cs) j k =
      ap (λ (w : List Tok). placed key.Match at ∷ w)
      (ap (expr_then e) (ap (λ (w : List Tok). fixed key.With ∷ w)
      (ap (optional_then key.Bar bar) (ap (case_then c) (cases_then_more cs j k) ∙ case_then_more c (cases_then cs j) k)
      ∙ optional_then_more key.Bar bar (case_then c (cases_then cs j)) k))
      ∙ expr_then_more e (fixed key.With ∷ optional_then key.Bar bar (case_then c (cases_then cs j))) k)
  expr_then_more (Try at e bar c cs) j k =
      ap (λ (w : List Tok). placed key.Try at ∷ w)
      (ap (expr_then e) (ap (λ (w : List Tok). fixed key.With ∷ w)
      (ap (optional_then key.Bar bar) (ap (case_then c) (cases_then_more cs j k) ∙ case_then_more c (cases_then cs j) k)
      ∙ optional_then_more key.Bar bar (case_then c (cases_then cs j)) k))
      ∙ expr_then_more e (fixed key.With ∷ optional_then key.Bar bar (case_then c (cases_then cs j))) k)
  expr_then_more (If at c a tail) j k =
      ap (λ (w : List Tok). placed key.If at ∷ w)
      (ap (expr_then c) (ap (λ (w : List Tok). fixed key.Then ∷ w)
      (ap (expr_then a) (tail_then_more tail j k) ∙ expr_then_more a (tail_then tail j) k))
      ∙ expr_then_more c (fixed key.Then ∷ expr_then a (tail_then tail j)) k)
  expr_then_more (Chain n e es) j k = ap (expr_then e) (links_then_more es j k) ∙ expr_then_more e (links_then es j) k
  expr_then_more (Minus x e) j k = ap (λ (w : List Tok). word class.Infix x ∷ w) (expr_then_more e j k)
  expr_then_more (Apply f es) j k = ap (expr_then f) (arguments_then_more es j k) ∙ expr_then_more f (arguments_then es j) k
  expr_then_more (ConstrApply path e) j k = ap (path_then path) (expr_then_more e j k) ∙ path_then_more path (expr_then e j) k
  expr_then_more (TagApply x e) j k = ap (λ (w : List Tok). word class.Tag x ∷ w) (expr_then_more e j k)
  expr_then_more (Assert at e) j k = ap (λ (w : List Tok). placed key.Assert at ∷ w) (expr_then_more e j k)
  expr_then_more (Lazy at e) j k = ap (λ (w : List Tok). placed key.Lazy at ∷ w) (expr_then_more e j k)
  expr_then_more (Postfix e ps) j k = ap (expr_then e) (parts_then_more ps j k) ∙ expr_then_more e (parts_then ps j) k
  expr_then_more (Prefixed x e) j k = ap (λ (w : List Tok). word class.Prefix x ∷ w) (expr_then_more e j k)
  expr_then_more (Literal c x) j k = refl
  expr_then_more (BoolExpr at b) j k = refl
  expr_then_more (Value path x) j k = ap (qualified_then path) (name_then_more x j k) ∙ qualified_then_more path (name_then x j) k
  expr_then_more (Constr path) j k = path_then_more path j k
  expr_then_more (Tag x) j k = refl
  expr_then_more (UnitExpr at) j k = refl
  expr_then_more (Paren at e) j k = ap (λ (w : List Tok). placed key.LeftParen at ∷ w) (expr_then_more e (fixed key.RightParen ∷ j) k)
  expr_then_more (Typed at e run) j k =
      ap (λ (w : List Tok). placed key.LeftParen at ∷ w)
      (ap (expr_then e) (ap (λ (w : List Tok). fixed key.Colon ∷ w) (append_more run (fixed key.RightParen ∷ j) k))
      ∙ expr_then_more e (fixed key.Colon ∷ (run ++ (fixed key.RightParen ∷ j))) k)
  expr_then_more (Coerced at e from to) j k =
      ap (λ (w : List Tok). placed key.LeftParen at ∷ w)
      (ap (expr_then e) (ap (type_then from) (ap (λ (w : List Tok). fixed key.ColonGreater ∷ w) (append_more to (fixed key.RightParen ∷ j) k))
      ∙ type_then_more from (fixed key.ColonGreater ∷ (to ++ (fixed key.RightParen ∷ j))) k)
      ∙ expr_then_more e (type_then from (fixed key.ColonGreater ∷ (to ++ (fixed key.RightParen ∷ j)))) k)
  expr_then_more (EmptyBegin at) j k = refl
  expr_then_more (Begin at e) j k = ap (λ (w : List Tok). placed key.Begin at ∷ w) (expr_then_more e (fixed key.End ∷ j) k)
  expr_then_more (EmptyList at b) j k = refl
  expr_then_more (ListExpr at b e es last) j k =
      ap (λ (w : List Tok). placed (opening b) at ∷ w)
      (ap (expr_then e) (ap (links_then es) (optional_then_more key.Semicolon last (fixed (closing b) ∷ j) k)
      ∙ links_then_more es (optional_then key.Semicolon last (fixed (closing b) ∷ j)) k)
      ∙ expr_then_more e (links_then es (optional_then key.Semicolon last (fixed (closing b) ∷ j))) k)
  expr_then_more (Record at base f fs last) j k =
      ap (λ (w : List Tok). placed key.LeftBrace at ∷ w)
      (ap (base_then base) (ap (field_then f)
      (ap (fields_then fs) (optional_then_more key.Semicolon last (fixed key.RightBrace ∷ j) k)
      ∙ fields_then_more fs (optional_then key.Semicolon last (fixed key.RightBrace ∷ j)) k)
      ∙ field_then_more f (fields_then fs (optional_then key.Semicolon last (fixed key.RightBrace ∷ j))) k)
      ∙ base_then_more base (field_then f (fields_then fs (optional_then key.Semicolon last (fixed key.RightBrace ∷ j)))) k)
  expr_then_more (Opened path e) j k = ap (path_then path) (ap (λ (w : List Tok). fixed key.Dot ∷ w) (expr_then_more e j k))
      ∙ path_then_more path (fixed key.Dot ∷ expr_then e j) k
  expr_then_more (While at c e) j k =
      ap (λ (w : List Tok). placed key.While at ∷ w)
      (ap (expr_then c) (ap (λ (w : List Tok). fixed key.Do ∷ w) (expr_then_more e (fixed key.Done ∷ j) k))
      ∙ expr_then_more c (fixed key.Do ∷ expr_then e (fixed key.Done ∷ j)) k)
  expr_then_more (For at x eq a down b e) j k =
      ap (λ (w : List Tok). placed key.For at ∷ w)
      (ap (variable_then x) (ap (λ (w : List Tok). placed key.Equals eq ∷ w)
      (ap (expr_then a) (ap (λ (w : List Tok). fixed (direction down) ∷ w)
      (ap (expr_then b) (ap (λ (w : List Tok). fixed key.Do ∷ w) (expr_then_more e (fixed key.Done ∷ j) k))
      ∙ expr_then_more b (fixed key.Do ∷ expr_then e (fixed key.Done ∷ j)) k))
      ∙ expr_then_more a (fixed (direction down) ∷ expr_then b (fixed key.Do ∷ expr_then e (fixed key.Done ∷ j))) k))
      ∙ variable_then_more x (placed key.Equals eq ∷ expr_then a
      (fixed (direction down) ∷ expr_then b (fixed key.Do ∷ expr_then e (fixed key.Done ∷ j)))) k)

  pub links_then_more : (a : Links) (j k : List Tok) → links_then a (j ++ k) ≡ links_then a j ++ k
  links_then_more no_link j k = refl
  links_then_more (more_link t e es) j k =
      ap (λ (w : List Tok). t ∷ w) (ap (expr_then e) (links_then_more es j k) ∙ expr_then_more e (links_then es j) k)

  pub base_then_more : (a : MaybeExpr) (j k : List Tok) → base_then a (j ++ k) ≡ base_then a j ++ k
  base_then_more no_expr j k = refl
  base_then_more (some_expr e) j k = expr_then_more e (fixed key.With ∷ j) k

  pub guard_then_more : (a : MaybeExpr) (j k : List Tok) → guard_then a (j ++ k) ≡ guard_then a j ++ k
  guard_then_more no_expr j k = refl
  guard_then_more (some_expr e) j k = ap (λ (w : List Tok). fixed key.When ∷ w) (expr_then_more e j k)

  pub tail_then_more : (a : Tail) (j k : List Tok) → tail_then a (j ++ k) ≡ tail_then a j ++ k
  tail_then_more no_else j k = refl
  tail_then_more (or_else e) j k = ap (λ (w : List Tok). fixed key.Else ∷ w) (expr_then_more e j k)
  tail_then_more (or_if at c a tail) j k =
      ap (λ (w : List Tok). fixed key.Else ∷ w)
      (ap (λ (w : List Tok). placed key.If at ∷ w)
      (ap (expr_then c) (ap (λ (w : List Tok). fixed key.Then ∷ w)
      (ap (expr_then a) (tail_then_more tail j k) ∙ expr_then_more a (tail_then tail j) k))
      ∙ expr_then_more c (fixed key.Then ∷ expr_then a (tail_then tail j)) k))

  pub binding_then_more : (a : Binding) (j k : List Tok) → binding_then a (j ++ k) ≡ binding_then a j ++ k
  binding_then_more (PlainBinding p run at e) j k =
      ap (pat_then p) (ap (type_then run) (ap (λ (w : List Tok). placed key.Equals at ∷ w) (expr_then_more e j k))
      ∙ type_then_more run (placed key.Equals at ∷ expr_then e j) k) ∙ pat_then_more p (type_then run (placed key.Equals at ∷ expr_then e j)) k
  binding_then_more (AppliedBinding x ps run at e) j k =
      ap (name_then x) (ap (params_then ps)
      (ap (type_then run) (ap (λ (w : List Tok). placed key.Equals at ∷ w) (expr_then_more e j k))
      ∙ type_then_more run (placed key.Equals at ∷ expr_then e j) k) ∙ params_then_more ps (type_then run (placed key.Equals at ∷ expr_then e j)) k)
      ∙ name_then_more x (params_then ps (type_then run (placed key.Equals at ∷ expr_then e j))) k

  pub bindings_then_more : (a : Bindings) (j k : List Tok) → bindings_then a (j ++ k) ≡ bindings_then a j ++ k
  bindings_then_more no_binding j k = refl
  bindings_then_more (more_binding b bs) j k =
      ap (λ (w : List Tok). fixed key.And ∷ w) (ap (binding_then b) (bindings_then_more bs j k) ∙ binding_then_more b (bindings_then bs j) k)

  pub case_then_more : (a : Case) (j k : List Tok) → case_then a (j ++ k) ≡ case_then a j ++ k
  case_then_more (CaseOf p guard e) j k =
      ap (pat_then p) (ap (guard_then guard) (ap (λ (w : List Tok). fixed key.Arrow ∷ w) (expr_then_more e j k))
      ∙ guard_then_more guard (fixed key.Arrow ∷ expr_then e j) k) ∙ pat_then_more p (guard_then guard (fixed key.Arrow ∷ expr_then e j)) k

  pub cases_then_more : (a : Cases) (j k : List Tok) → cases_then a (j ++ k) ≡ cases_then a j ++ k
  cases_then_more no_case j k = refl
  cases_then_more (more_case c cs) j k =
      ap (λ (w : List Tok). fixed key.Bar ∷ w) (ap (case_then c) (cases_then_more cs j k) ∙ case_then_more c (cases_then cs j) k)

  pub argument_then_more : (a : Argument) (j k : List Tok) → argument_then a (j ++ k) ≡ argument_then a j ++ k
  argument_then_more (Positional e) j k = expr_then_more e j k
  argument_then_more (LabelPun x) j k = refl
  argument_then_more (Labelled x e) j k = ap (λ (w : List Tok). word class.Label x ∷ w) (expr_then_more e j k)

  pub arguments_then_more : (a : Arguments) (j k : List Tok) → arguments_then a (j ++ k) ≡ arguments_then a j ++ k
  arguments_then_more no_argument j k = refl
  arguments_then_more (more_argument a es) j k = ap (argument_then a) (arguments_then_more es j k) ∙ argument_then_more a (arguments_then es j) k

  pub param_then_more : (a : Param) (j k : List Tok) → param_then a (j ++ k) ≡ param_then a j ++ k
  param_then_more (PatternParam p) j k = pat_then_more p j k
  param_then_more (LabelParam x) j k = refl
  param_then_more (LabelPattern x p) j k = ap (λ (w : List Tok). word class.Label x ∷ w) (pat_then_more p j k)
  param_then_more (DefaultParam x at p run eq e) j k =
      ap (λ (w : List Tok). word class.Label x ∷ w)
      (ap (λ (w : List Tok). placed key.LeftParen at ∷ w)
      (ap (pat_then p) (ap (type_then run) (ap (λ (w : List Tok). placed key.Equals eq ∷ w) (expr_then_more e (fixed key.RightParen ∷ j) k))
      ∙ type_then_more run (placed key.Equals eq ∷ expr_then e (fixed key.RightParen ∷ j)) k)
      ∙ pat_then_more p (type_then run (placed key.Equals eq ∷ expr_then e (fixed key.RightParen ∷ j))) k))
  param_then_more (WrappedParam at optional at' x run) j k =
      ap (λ (w : List Tok). placed (wrap optional) at ∷ w)
      (ap (λ (w : List Tok). placed key.LeftParen at' ∷ w)
      (ap (λ (w : List Tok). word class.Lower x ∷ w) (type_then_more run (fixed key.RightParen ∷ j) k)))
  param_then_more (WrappedDefault at at' x run eq e) j k =
      ap (λ (w : List Tok). placed key.Question at ∷ w)
      (ap (λ (w : List Tok). placed key.LeftParen at' ∷ w)
      (ap (λ (w : List Tok). word class.Lower x ∷ w)
      (ap (type_then run) (ap (λ (w : List Tok). placed key.Equals eq ∷ w) (expr_then_more e (fixed key.RightParen ∷ j) k))
      ∙ type_then_more run (placed key.Equals eq ∷ expr_then e (fixed key.RightParen ∷ j)) k)))
  param_then_more (TypesParam at xs) j k =
      ap (λ (w : List Tok). placed key.LeftParen at ∷ w)
      (ap (λ (w : List Tok). fixed key.Type ∷ w) (lowers_then_more xs (fixed key.RightParen ∷ j) k))

  pub params_then_more : (a : Params) (j k : List Tok) → params_then a (j ++ k) ≡ params_then a j ++ k
  params_then_more no_param j k = refl
  params_then_more (more_param p ps) j k = ap (param_then p) (params_then_more ps j k) ∙ param_then_more p (params_then ps j) k

  pub part_then_more : (a : Part) (j k : List Tok) → part_then a (j ++ k) ≡ part_then a j ++ k
  part_then_more (LabelPart path x) j k = ap (λ (w : List Tok). fixed key.Dot ∷ w) (qualified_then_more path (word class.Lower x ∷ j) k)
  part_then_more (IndexPart at e) j k =
      ap (λ (w : List Tok). fixed key.Dot ∷ w) (ap (λ (w : List Tok). placed key.LeftParen at ∷ w) (expr_then_more e (fixed key.RightParen ∷ j) k))
  part_then_more (CharPart at e) j k =
      ap (λ (w : List Tok). fixed key.Dot ∷ w)
      (ap (λ (w : List Tok). placed key.LeftBracket at ∷ w) (expr_then_more e (fixed key.RightBracket ∷ j) k))

  pub parts_then_more : (a : Parts) (j k : List Tok) → parts_then a (j ++ k) ≡ parts_then a j ++ k
  parts_then_more no_part j k = refl
  parts_then_more (more_part p ps) j k = ap (part_then p) (parts_then_more ps j k) ∙ part_then_more p (parts_then ps j) k

  pub field_then_more : (a : Field) (j k : List Tok) → field_then a (j ++ k) ≡ field_then a j ++ k
  field_then_more (FieldPun path x run) j k = ap (qualified_then path) (ap (λ (w : List Tok). word class.Lower x ∷ w) (type_then_more run j k))
      ∙ qualified_then_more path (word class.Lower x ∷ type_then run j) k
  field_then_more (AssignedField path x run at e) j k =
      ap (qualified_then path)
      (ap (λ (w : List Tok). word class.Lower x ∷ w)
      (ap (type_then run) (ap (λ (w : List Tok). placed key.Equals at ∷ w) (expr_then_more e j k))
      ∙ type_then_more run (placed key.Equals at ∷ expr_then e j) k))
      ∙ qualified_then_more path (word class.Lower x ∷ type_then run (placed key.Equals at ∷ expr_then e j)) k

  pub fields_then_more : (a : Fields) (j k : List Tok) → fields_then a (j ++ k) ≡ fields_then a j ++ k
  fields_then_more no_field j k = refl
  fields_then_more (more_field f fs) j k =
      ap (λ (w : List Tok). fixed key.Semicolon ∷ w) (ap (field_then f) (fields_then_more fs j k) ∙ field_then_more f (fields_then fs j) k)

pub expr_front : (e : Expr) (k : List Tok) → expr_then e k ≡ expr_words e ++ k
expr_front e k = expr_then_more e [] k
