-- A tree with other words in the place of its lower-case ones (the OCaml manual, "Names").
use Rattle.std.specs.Prelude.{◌≡◌, ℕ, List, map, Option, Some, None}
use Rattle.rotor_base.specs.declared.token.Class.{Class}
use Rattle.rotor_base.specs.declared.token.Class.TheVariants as class
use Rattle.ml_trees.specs.Tok.{Name, Tok, fixed, placed, word}
use Rattle.ml_trees.specs.Tree.{ValueName, PlainName, OperatorName, Pat, AsPat, OrPat, TuplePat, ConsPat, ConstrApplyPat, TagApplyPat, LazyPat}
use Rattle.ml_trees.specs.Tree.{ExceptionPat, AnyPat, ValuePat, LiteralPat, NegativePat, RangePat, ConstrPat, TagPat, BoolPat, UnitPat, ParenPat}
use Rattle.ml_trees.specs.Tree.{TypedPat, EmptyPat, ListPat, RecordPat, OpenedPat, Pats, no_pat, more_pat, PatField, PunnedField, MatchedField}
use Rattle.ml_trees.specs.Tree.{PatFields, no_pat_field, more_pat_field, Variable, PlainVariable, AnyVariable, Expr, Seq, Let, LetOpen, LetModule}
use Rattle.ml_trees.specs.Tree.{Fun, Function, Match, Try, If, Chain, Minus, Apply, ConstrApply, TagApply, Assert, Lazy, Postfix, Prefixed, Literal}
use Rattle.ml_trees.specs.Tree.{BoolExpr, Value, Constr, Tag, UnitExpr, Paren, Typed, Coerced, EmptyBegin, Begin, EmptyList, ListExpr, Record}
use Rattle.ml_trees.specs.Tree.{Opened, While, For, Links, no_link, more_link, MaybeExpr, no_expr, some_expr, Tail, no_else, or_else, or_if, Binding}
use Rattle.ml_trees.specs.Tree.{PlainBinding, AppliedBinding, Bindings, no_binding, more_binding, Case, CaseOf, Cases, no_case, more_case, Argument}
use Rattle.ml_trees.specs.Tree.{Positional, LabelPun, Labelled, Arguments, no_argument, more_argument, Param, PatternParam, LabelParam, LabelPattern}
use Rattle.ml_trees.specs.Tree.{DefaultParam, WrappedParam, WrappedDefault, TypesParam, Params, no_param, more_param, Part, LabelPart, IndexPart}
use Rattle.ml_trees.specs.Tree.{CharPart, Parts, no_part, more_part, Field, FieldPun, AssignedField, Fields, no_field, more_field, Constraint}
use Rattle.ml_trees.specs.Tree.{ConstraintOf, WithClause, WithOf, ModExpr, ModPath, Struct, Functor, ModApply, ModParen, Sealed, ModArgument}
use Rattle.ml_trees.specs.Tree.{ModuleArgument, SealedArgument, NoArgument, ModArguments, no_mod_argument, more_mod_argument, FunctorParam}
use Rattle.ml_trees.specs.Tree.{NamedParam, NoParam, FunctorParams, no_functor_param, more_functor_param, ModType, TypePath, Sig, TypeOf, TypeParen}
use Rattle.ml_trees.specs.Tree.{With, FunctorType, ParamArrow, Arrow, MaybeType, no_type, some_type, Item, ExprItem, SeparatorItem, ValueItem}
use Rattle.ml_trees.specs.Tree.{ExternalItem, TypeItem, ExceptionItem, ModuleItem, ModuleTypeItem, OpenItem, IncludeItem, Items, no_item, more_item}
use Rattle.ml_trees.specs.Tree.{SigItem, SeparatorSig, ValSig, ExternalSig, TypeSig, ExceptionSig, ModuleSig, AliasSig, ModuleTypeSig, OpenSig}
use Rattle.ml_trees.specs.Tree.{IncludeSig, SigItems, no_sig_item, more_sig_item, FileTree, Body, Face}
use Rattle.ml_trees.specs.Words.{words}
use Rattle.ml_trees.specs.WellFormed.{WfFile}

-- the new word of a token and its word
abbrev pub Spelling : Type 0
Spelling = ℕ → List ℕ → List ℕ

abbrev pub spell : Spelling → Name → Name
spell w x = record { at = x.at; text = w x.at x.text }

-- only a lower-case name is respelled
abbrev pub spelled : Spelling → Class → Name → Name
spelled w class.Lower x = spell w x
spelled w c x = x

abbrev pub spell_tok : Spelling → Tok → Tok
spell_tok w (fixed x) = fixed x
spell_tok w (placed x at) = placed x at
spell_tok w (word c x) = word c (spelled w c x)

abbrev pub spell_run : Spelling → List Tok → List Tok
spell_run w = map (spell_tok w)

abbrev pub spell_type : Spelling → Option (List Tok) → Option (List Tok)
spell_type w None = None
spell_type w (Some run) = Some (spell_run w run)

abbrev pub spell_value_name : Spelling → ValueName → ValueName
spell_value_name w (PlainName x) = PlainName (spell w x)
spell_value_name w (OperatorName at t) = OperatorName at (spell_tok w t)

abbrev mutual
  pub spell_pat : Spelling → Pat → Pat
  spell_pat w (AsPat p xs) = AsPat (spell_pat w p) (map (spell_value_name w) xs)
  spell_pat w (OrPat p ps) = OrPat (spell_pat w p) (spell_pats w ps)
  spell_pat w (TuplePat p ps) = TuplePat (spell_pat w p) (spell_pats w ps)
  spell_pat w (ConsPat p ps) = ConsPat (spell_pat w p) (spell_pats w ps)
  spell_pat w (ConstrApplyPat xs p) = ConstrApplyPat xs (spell_pat w p)
  spell_pat w (TagApplyPat x p) = TagApplyPat x (spell_pat w p)
  spell_pat w (LazyPat at p) = LazyPat at (spell_pat w p)
  spell_pat w (ExceptionPat at p) = ExceptionPat at (spell_pat w p)
  spell_pat w (AnyPat at) = AnyPat at
  spell_pat w (ValuePat x) = ValuePat (spell_value_name w x)
  spell_pat w (LiteralPat c x) = LiteralPat c (spelled w c x)
  spell_pat w (NegativePat x c x') = NegativePat x c (spelled w c x')
  spell_pat w (RangePat x x') = RangePat x x'
  spell_pat w (ConstrPat xs) = ConstrPat xs
  spell_pat w (TagPat x) = TagPat x
  spell_pat w (BoolPat at b) = BoolPat at b
  spell_pat w (UnitPat at) = UnitPat at
  spell_pat w (ParenPat at p) = ParenPat at (spell_pat w p)
  spell_pat w (TypedPat at p run) = TypedPat at (spell_pat w p) (spell_run w run)
  spell_pat w (EmptyPat at k) = EmptyPat at k
  spell_pat w (ListPat at k p ps b) = ListPat at k (spell_pat w p) (spell_pats w ps) b
  spell_pat w (RecordPat at p p' o b) = RecordPat at (spell_pat_field w p) (spell_pat_fields w p') o b
  spell_pat w (OpenedPat xs at p) = OpenedPat xs at (spell_pat w p)

  pub spell_pats : Spelling → Pats → Pats
  spell_pats w no_pat = no_pat
  spell_pats w (more_pat p ps) = more_pat (spell_pat w p) (spell_pats w ps)

  pub spell_pat_field : Spelling → PatField → PatField
  spell_pat_field w (PunnedField xs x run) = PunnedField xs (spell w x) (spell_type w run)
  spell_pat_field w (MatchedField xs x run at p) = MatchedField xs (spell w x) (spell_type w run) at (spell_pat w p)

  pub spell_pat_fields : Spelling → PatFields → PatFields
  spell_pat_fields w no_pat_field = no_pat_field
  spell_pat_fields w (more_pat_field p p') = more_pat_field (spell_pat_field w p) (spell_pat_fields w p')

abbrev pub spell_variable : Spelling → Variable → Variable
spell_variable w (PlainVariable x) = PlainVariable (spell w x)
spell_variable w (AnyVariable at) = AnyVariable at

abbrev mutual
  pub spell_expr : Spelling → Expr → Expr
  spell_expr w (Seq e l b) = Seq (spell_expr w e) (spell_links w l) b
  spell_expr w (Let at b b' b'' e) = Let at b (spell_binding w b') (spell_bindings w b'') (spell_expr w e)
  spell_expr w (LetOpen at at' o xs e) = LetOpen at at' o xs (spell_expr w e)
  spell_expr w (LetModule at at' x at'' l e) = LetModule at at' x at'' l (spell_expr w e)
  spell_expr w (Fun at p e) = Fun at (spell_params w p) (spell_expr w e)
  spell_expr w (Function at b c c') = Function at b (spell_case w c) (spell_cases w c')
  spell_expr w (Match at e b c c') = Match at (spell_expr w e) b (spell_case w c) (spell_cases w c')
  spell_expr w (Try at e b c c') = Try at (spell_expr w e) b (spell_case w c) (spell_cases w c')
  spell_expr w (If at e e' t) = If at (spell_expr w e) (spell_expr w e') (spell_tail w t)
  spell_expr w (Chain at e l) = Chain at (spell_expr w e) (spell_links w l)
  spell_expr w (Minus x e) = Minus x (spell_expr w e)
  spell_expr w (Apply e a) = Apply (spell_expr w e) (spell_arguments w a)
  spell_expr w (ConstrApply xs e) = ConstrApply xs (spell_expr w e)
  spell_expr w (TagApply x e) = TagApply x (spell_expr w e)
  spell_expr w (Assert at e) = Assert at (spell_expr w e)
  spell_expr w (Lazy at e) = Lazy at (spell_expr w e)
  spell_expr w (Postfix e p) = Postfix (spell_expr w e) (spell_parts w p)
  spell_expr w (Prefixed x e) = Prefixed x (spell_expr w e)
  spell_expr w (Literal c x) = Literal c (spelled w c x)
  spell_expr w (BoolExpr at b) = BoolExpr at b
  spell_expr w (Value xs x) = Value xs (spell_value_name w x)
  spell_expr w (Constr xs) = Constr xs
  spell_expr w (Tag x) = Tag x
  spell_expr w (UnitExpr at) = UnitExpr at
  spell_expr w (Paren at e) = Paren at (spell_expr w e)
  spell_expr w (Typed at e run) = Typed at (spell_expr w e) (spell_run w run)
  spell_expr w (Coerced at e run run') = Coerced at (spell_expr w e) (spell_type w run) (spell_run w run')
  spell_expr w (EmptyBegin at) = EmptyBegin at
  spell_expr w (Begin at e) = Begin at (spell_expr w e)
  spell_expr w (EmptyList at k) = EmptyList at k
  spell_expr w (ListExpr at k e l b) = ListExpr at k (spell_expr w e) (spell_links w l) b
  spell_expr w (Record at m f f' b) = Record at (spell_maybe_expr w m) (spell_field w f) (spell_fields w f') b
  spell_expr w (Opened xs e) = Opened xs (spell_expr w e)
  spell_expr w (While at e e') = While at (spell_expr w e) (spell_expr w e')
  spell_expr w (For at v at' e b e' e'') = For at (spell_variable w v) at' (spell_expr w e) b (spell_expr w e') (spell_expr w e'')

  pub spell_links : Spelling → Links → Links
  spell_links w no_link = no_link
  spell_links w (more_link t e l) = more_link (spell_tok w t) (spell_expr w e) (spell_links w l)

  pub spell_maybe_expr : Spelling → MaybeExpr → MaybeExpr
  spell_maybe_expr w no_expr = no_expr
  spell_maybe_expr w (some_expr e) = some_expr (spell_expr w e)

  pub spell_tail : Spelling → Tail → Tail
  spell_tail w no_else = no_else
  spell_tail w (or_else e) = or_else (spell_expr w e)
  spell_tail w (or_if at e e' t) = or_if at (spell_expr w e) (spell_expr w e') (spell_tail w t)

  pub spell_binding : Spelling → Binding → Binding
  spell_binding w (PlainBinding p run at e) = PlainBinding (spell_pat w p) (spell_type w run) at (spell_expr w e)
  spell_binding w (AppliedBinding x p run at e) = AppliedBinding (spell_value_name w x) (spell_params w p) (spell_type w run) at (spell_expr w e)

  pub spell_bindings : Spelling → Bindings → Bindings
  spell_bindings w no_binding = no_binding
  spell_bindings w (more_binding b b') = more_binding (spell_binding w b) (spell_bindings w b')

  pub spell_case : Spelling → Case → Case
  spell_case w (CaseOf p m e) = CaseOf (spell_pat w p) (spell_maybe_expr w m) (spell_expr w e)

  pub spell_cases : Spelling → Cases → Cases
  spell_cases w no_case = no_case
  spell_cases w (more_case c c') = more_case (spell_case w c) (spell_cases w c')

  pub spell_argument : Spelling → Argument → Argument
  spell_argument w (Positional e) = Positional (spell_expr w e)
  spell_argument w (LabelPun x) = LabelPun x
  spell_argument w (Labelled x e) = Labelled x (spell_expr w e)

  pub spell_arguments : Spelling → Arguments → Arguments
  spell_arguments w no_argument = no_argument
  spell_arguments w (more_argument a a') = more_argument (spell_argument w a) (spell_arguments w a')

  pub spell_param : Spelling → Param → Param
  spell_param w (PatternParam p) = PatternParam (spell_pat w p)
  spell_param w (LabelParam x) = LabelParam x
  spell_param w (LabelPattern x p) = LabelPattern x (spell_pat w p)
  spell_param w (DefaultParam x at p run at' e) = DefaultParam x at (spell_pat w p) (spell_type w run) at' (spell_expr w e)
  spell_param w (WrappedParam at b at' x run) = WrappedParam at b at' (spell w x) (spell_type w run)
  spell_param w (WrappedDefault at at' x run at'' e) = WrappedDefault at at' (spell w x) (spell_type w run) at'' (spell_expr w e)
  spell_param w (TypesParam at xs) = TypesParam at (map (spell w) xs)

  pub spell_params : Spelling → Params → Params
  spell_params w no_param = no_param
  spell_params w (more_param p p') = more_param (spell_param w p) (spell_params w p')

  pub spell_part : Spelling → Part → Part
  spell_part w (LabelPart xs x) = LabelPart xs (spell w x)
  spell_part w (IndexPart at e) = IndexPart at (spell_expr w e)
  spell_part w (CharPart at e) = CharPart at (spell_expr w e)

  pub spell_parts : Spelling → Parts → Parts
  spell_parts w no_part = no_part
  spell_parts w (more_part p p') = more_part (spell_part w p) (spell_parts w p')

  pub spell_field : Spelling → Field → Field
  spell_field w (FieldPun xs x run) = FieldPun xs (spell w x) (spell_type w run)
  spell_field w (AssignedField xs x run at e) = AssignedField xs (spell w x) (spell_type w run) at (spell_expr w e)

  pub spell_fields : Spelling → Fields → Fields
  spell_fields w no_field = no_field
  spell_fields w (more_field f f') = more_field (spell_field w f) (spell_fields w f')

abbrev pub spell_constraint : Spelling → Constraint → Constraint
spell_constraint w (ConstraintOf run t b run') = ConstraintOf (spell_run w run) (spell_tok w t) b (spell_run w run')

abbrev pub spell_with_clause : Spelling → WithClause → WithClause
spell_with_clause w (WithOf c l) = WithOf (spell_constraint w c) (map (spell_constraint w) l)

abbrev mutual
  pub spell_mod_expr : Spelling → ModExpr → ModExpr
  spell_mod_expr w (ModPath xs) = ModPath xs
  spell_mod_expr w (Struct at i) = Struct at (spell_items w i)
  spell_mod_expr w (Functor at f m) = Functor at (spell_functor_params w f) (spell_mod_expr w m)
  spell_mod_expr w (ModApply m m') = ModApply (spell_mod_expr w m) (spell_mod_arguments w m')
  spell_mod_expr w (ModParen at m) = ModParen at (spell_mod_expr w m)
  spell_mod_expr w (Sealed at m m') = Sealed at (spell_mod_expr w m) (spell_mod_type w m')

  pub spell_mod_argument : Spelling → ModArgument → ModArgument
  spell_mod_argument w (ModuleArgument at m) = ModuleArgument at (spell_mod_expr w m)
  spell_mod_argument w (SealedArgument at m m') = SealedArgument at (spell_mod_expr w m) (spell_mod_type w m')
  spell_mod_argument w (NoArgument at) = NoArgument at

  pub spell_mod_arguments : Spelling → ModArguments → ModArguments
  spell_mod_arguments w no_mod_argument = no_mod_argument
  spell_mod_arguments w (more_mod_argument m m') = more_mod_argument (spell_mod_argument w m) (spell_mod_arguments w m')

  pub spell_functor_param : Spelling → FunctorParam → FunctorParam
  spell_functor_param w (NamedParam at m m') = NamedParam at m (spell_mod_type w m')
  spell_functor_param w (NoParam at) = NoParam at

  pub spell_functor_params : Spelling → FunctorParams → FunctorParams
  spell_functor_params w no_functor_param = no_functor_param
  spell_functor_params w (more_functor_param f f') = more_functor_param (spell_functor_param w f) (spell_functor_params w f')

  pub spell_mod_type : Spelling → ModType → ModType
  spell_mod_type w (TypePath xs) = TypePath xs
  spell_mod_type w (Sig at s) = Sig at (spell_sig_items w s)
  spell_mod_type w (TypeOf at m) = TypeOf at (spell_mod_expr w m)
  spell_mod_type w (TypeParen at m) = TypeParen at (spell_mod_type w m)
  spell_mod_type w (With m l) = With (spell_mod_type w m) (map (spell_with_clause w) l)
  spell_mod_type w (FunctorType at f m) = FunctorType at (spell_functor_params w f) (spell_mod_type w m)
  spell_mod_type w (ParamArrow f m) = ParamArrow (spell_functor_param w f) (spell_mod_type w m)
  spell_mod_type w (Arrow m m') = Arrow (spell_mod_type w m) (spell_mod_type w m')

  pub spell_maybe_type : Spelling → MaybeType → MaybeType
  spell_maybe_type w no_type = no_type
  spell_maybe_type w (some_type m) = some_type (spell_mod_type w m)

  pub spell_item : Spelling → Item → Item
  spell_item w (ExprItem e) = ExprItem (spell_expr w e)
  spell_item w SeparatorItem = SeparatorItem
  spell_item w (ValueItem at b b' b'') = ValueItem at b (spell_binding w b') (spell_bindings w b'')
  spell_item w (ExternalItem x run at xs) = ExternalItem (spell_value_name w x) (spell_run w run) at xs
  spell_item w (TypeItem run) = TypeItem (spell_run w run)
  spell_item w (ExceptionItem at run) = ExceptionItem at (spell_run w run)
  spell_item w (ModuleItem at m f m' at' m'') = ModuleItem at m (spell_functor_params w f) (spell_maybe_type w m') at' (spell_mod_expr w m'')
  spell_item w (ModuleTypeItem at x at' m) = ModuleTypeItem at x at' (spell_mod_type w m)
  spell_item w (OpenItem at o xs) = OpenItem at o xs
  spell_item w (IncludeItem at m) = IncludeItem at (spell_mod_expr w m)

  pub spell_items : Spelling → Items → Items
  spell_items w no_item = no_item
  spell_items w (more_item i i') = more_item (spell_item w i) (spell_items w i')

  pub spell_sig_item : Spelling → SigItem → SigItem
  spell_sig_item w SeparatorSig = SeparatorSig
  spell_sig_item w (ValSig x run) = ValSig (spell_value_name w x) (spell_run w run)
  spell_sig_item w (ExternalSig x run at xs) = ExternalSig (spell_value_name w x) (spell_run w run) at xs
  spell_sig_item w (TypeSig run) = TypeSig (spell_run w run)
  spell_sig_item w (ExceptionSig at run) = ExceptionSig at (spell_run w run)
  spell_sig_item w (ModuleSig at m f m') = ModuleSig at m (spell_functor_params w f) (spell_mod_type w m')
  spell_sig_item w (AliasSig at x at' xs) = AliasSig at x at' xs
  spell_sig_item w (ModuleTypeSig at x at' m) = ModuleTypeSig at x at' (spell_mod_type w m)
  spell_sig_item w (OpenSig at o xs) = OpenSig at o xs
  spell_sig_item w (IncludeSig at m) = IncludeSig at (spell_mod_type w m)

  pub spell_sig_items : Spelling → SigItems → SigItems
  spell_sig_items w no_sig_item = no_sig_item
  spell_sig_items w (more_sig_item s s') = more_sig_item (spell_sig_item w s) (spell_sig_items w s')

abbrev pub spell_file : Spelling → FileTree → FileTree
spell_file w (Body at i) = Body at (spell_items w i)
spell_file w (Face at s) = Face at (spell_sig_items w s)

-- the words of a respelled tree are its words, each lower-case one respelled: as many, of the same classes, and the
-- tree is well formed
abbrev pub RespellingKeepsTheTree : Type 0
RespellingKeepsTheTree = (w : Spelling) (t : FileTree) → WfFile t → WfFile (spell_file w t) × (words (spell_file w t) ≡ map (spell_tok w) (words t))
