-- The trees, without where they lie in memory (the OCaml manual, "Patterns", "Expressions", "Module types",
-- "Module expressions" and "Compilation units"). A number is the token of a word that the production fixes.
use Rattle.std.specs.Prelude.{ℕ, List, Bool, Option}
use Rattle.rotor_base.specs.declared.token.Class.{Class}
use Rattle.ml_trees.specs.declared.word.Bracket.{Bracket}
use Rattle.ml_trees.specs.Tok.{Name, Tok}

-- the name of a value: a lower-case name, or an operator after a `(`
pub data ValueName : Type 0 where
  PlainName : Name → ValueName
  OperatorName : ℕ → Tok → ValueName

-- ---- patterns

mutual
  pub data Pat : Type 0 where
    AsPat : Pat → List ValueName → Pat
    OrPat : Pat → Pats → Pat
    TuplePat : Pat → Pats → Pat
    ConsPat : Pat → Pats → Pat
    ConstrApplyPat : List Name → Pat → Pat
    TagApplyPat : Name → Pat → Pat
    LazyPat : ℕ → Pat → Pat
    ExceptionPat : ℕ → Pat → Pat
    AnyPat : ℕ → Pat
    ValuePat : ValueName → Pat
    LiteralPat : Class → Name → Pat
    -- a sign, and the class and text of a number
    NegativePat : Name → Class → Name → Pat
    RangePat : Name → Name → Pat
    ConstrPat : List Name → Pat
    TagPat : Name → Pat
    BoolPat : ℕ → Bool → Pat
    UnitPat : ℕ → Pat
    ParenPat : ℕ → Pat → Pat
    TypedPat : ℕ → Pat → List Tok → Pat
    EmptyPat : ℕ → Bracket → Pat
    -- whether there is a last `;`
    ListPat : ℕ → Bracket → Pat → Pats → Bool → Pat
    -- the token of a last `_`, and whether there is a last `;`
    RecordPat : ℕ → PatField → PatFields → Option ℕ → Bool → Pat
    OpenedPat : List Name → ℕ → Pat → Pat

  pub data Pats : Type 0 where
    no_pat : Pats
    more_pat : Pat → Pats → Pats

  pub data PatField : Type 0 where
    PunnedField : List Name → Name → Option (List Tok) → PatField
    -- the token of the `=`
    MatchedField : List Name → Name → Option (List Tok) → ℕ → Pat → PatField

  pub data PatFields : Type 0 where
    no_pat_field : PatFields
    more_pat_field : PatField → PatFields → PatFields

-- ---- expressions

-- the variable of a `for`
pub data Variable : Type 0 where
  PlainVariable : Name → Variable
  AnyVariable : ℕ → Variable

mutual
  -- a module path and the arguments after it
  pub data LocalModule : Type 0 where
    LocalPath : List Name → LocalArguments → LocalModule

  -- each after its `(`
  pub data LocalArguments : Type 0 where
    no_local : LocalArguments
    more_local : ℕ → LocalModule → LocalArguments → LocalArguments
    no_module : ℕ → LocalArguments → LocalArguments

mutual
  pub data Expr : Type 0 where
    -- whether there is a last `;`
    Seq : Expr → Links → Bool → Expr
    -- whether there is a `rec`
    Let : ℕ → Bool → Binding → Bindings → Expr → Expr
    -- the tokens of `let` and `open`, and a `!`
    LetOpen : ℕ → ℕ → Option Name → List Name → Expr → Expr
    -- the tokens of `let`, `module` and `=`
    LetModule : ℕ → ℕ → Name → ℕ → LocalModule → Expr → Expr
    Fun : ℕ → Params → Expr → Expr
    -- whether a `|` precedes the first case
    Function : ℕ → Bool → Case → Cases → Expr
    Match : ℕ → Expr → Bool → Case → Cases → Expr
    Try : ℕ → Expr → Bool → Case → Cases → Expr
    If : ℕ → Expr → Expr → Tail → Expr
    -- operators of one level from 3 to 12, each with the operand after it
    Chain : ℕ → Expr → Links → Expr
    Minus : Name → Expr → Expr
    Apply : Expr → Arguments → Expr
    ConstrApply : List Name → Expr → Expr
    TagApply : Name → Expr → Expr
    Assert : ℕ → Expr → Expr
    Lazy : ℕ → Expr → Expr
    Postfix : Expr → Parts → Expr
    Prefixed : Name → Expr → Expr
    Literal : Class → Name → Expr
    BoolExpr : ℕ → Bool → Expr
    Value : List Name → ValueName → Expr
    Constr : List Name → Expr
    Tag : Name → Expr
    UnitExpr : ℕ → Expr
    Paren : ℕ → Expr → Expr
    Typed : ℕ → Expr → List Tok → Expr
    Coerced : ℕ → Expr → Option (List Tok) → List Tok → Expr
    EmptyBegin : ℕ → Expr
    Begin : ℕ → Expr → Expr
    EmptyList : ℕ → Bracket → Expr
    ListExpr : ℕ → Bracket → Expr → Links → Bool → Expr
    Record : ℕ → MaybeExpr → Field → Fields → Bool → Expr
    Opened : List Name → Expr → Expr
    While : ℕ → Expr → Expr → Expr
    -- the tokens of `for` and `=`, and whether it is `downto`
    For : ℕ → Variable → ℕ → Expr → Bool → Expr → Expr → Expr

  -- each after a `;` or an operator
  pub data Links : Type 0 where
    no_link : Links
    more_link : Tok → Expr → Links → Links

  pub data MaybeExpr : Type 0 where
    no_expr : MaybeExpr
    some_expr : Expr → MaybeExpr

  -- what follows the first branch of an `if`
  pub data Tail : Type 0 where
    no_else : Tail
    or_else : Expr → Tail
    or_if : ℕ → Expr → Expr → Tail → Tail

  -- a pattern or a name with parameters, a type, the token of the `=`, and a value
  pub data Binding : Type 0 where
    PlainBinding : Pat → Option (List Tok) → ℕ → Expr → Binding
    AppliedBinding : ValueName → Params → Option (List Tok) → ℕ → Expr → Binding

  pub data Bindings : Type 0 where
    no_binding : Bindings
    more_binding : Binding → Bindings → Bindings

  -- a pattern, a guard and a body
  pub data Case : Type 0 where
    CaseOf : Pat → MaybeExpr → Expr → Case

  pub data Cases : Type 0 where
    no_case : Cases
    more_case : Case → Cases → Cases

  pub data Argument : Type 0 where
    Positional : Expr → Argument
    LabelPun : Name → Argument
    Labelled : Name → Expr → Argument

  pub data Arguments : Type 0 where
    no_argument : Arguments
    more_argument : Argument → Arguments → Arguments

  pub data Param : Type 0 where
    PatternParam : Pat → Param
    LabelParam : Name → Param
    LabelPattern : Name → Pat → Param
    -- a label, the token of the `(`, a pattern, its type, the token of the `=`, and a default value
    DefaultParam : Name → ℕ → Pat → Option (List Tok) → ℕ → Expr → Param
    -- the token of `~` or `?`, whether it is `?`, the token of the `(`, a label and its type
    WrappedParam : ℕ → Bool → ℕ → Name → Option (List Tok) → Param
    -- the tokens of `?` and `(`, a label, its type, the token of the `=`, and a default value
    WrappedDefault : ℕ → ℕ → Name → Option (List Tok) → ℕ → Expr → Param
    -- the token of the `(`, and names of types
    TypesParam : ℕ → List Name → Param

  pub data Params : Type 0 where
    no_param : Params
    more_param : Param → Params → Params

  -- what follows a `.`
  pub data Part : Type 0 where
    LabelPart : List Name → Name → Part
    IndexPart : ℕ → Expr → Part
    CharPart : ℕ → Expr → Part

  pub data Parts : Type 0 where
    no_part : Parts
    more_part : Part → Parts → Parts

  pub data Field : Type 0 where
    FieldPun : List Name → Name → Option (List Tok) → Field
    -- the token of the `=`
    AssignedField : List Name → Name → Option (List Tok) → ℕ → Expr → Field

  pub data Fields : Type 0 where
    no_field : Fields
    more_field : Field → Fields → Fields

-- ---- modules

-- the name of a module, or the token of a `_`
pub data ModuleName : Type 0 where
  UpperName : Name → ModuleName
  AnyName : ℕ → ModuleName

-- a type, `=` or `:=`, whether `private` follows, and a type
pub data Constraint : Type 0 where
  ConstraintOf : List Tok → Tok → Bool → List Tok → Constraint

-- the constraints of a `with`
pub data WithClause : Type 0 where
  WithOf : Constraint → List Constraint → WithClause

mutual
  pub data ModExpr : Type 0 where
    ModPath : List Name → ModExpr
    Struct : ℕ → Items → ModExpr
    Functor : ℕ → FunctorParams → ModExpr → ModExpr
    ModApply : ModExpr → ModArguments → ModExpr
    ModParen : ℕ → ModExpr → ModExpr
    Sealed : ℕ → ModExpr → ModType → ModExpr

  -- each with the token of its `(`
  pub data ModArgument : Type 0 where
    ModuleArgument : ℕ → ModExpr → ModArgument
    SealedArgument : ℕ → ModExpr → ModType → ModArgument
    NoArgument : ℕ → ModArgument

  pub data ModArguments : Type 0 where
    no_mod_argument : ModArguments
    more_mod_argument : ModArgument → ModArguments → ModArguments

  -- each with the token of its `(`
  pub data FunctorParam : Type 0 where
    NamedParam : ℕ → ModuleName → ModType → FunctorParam
    NoParam : ℕ → FunctorParam

  pub data FunctorParams : Type 0 where
    no_functor_param : FunctorParams
    more_functor_param : FunctorParam → FunctorParams → FunctorParams

  pub data ModType : Type 0 where
    TypePath : List Name → ModType
    Sig : ℕ → SigItems → ModType
    TypeOf : ℕ → ModExpr → ModType
    TypeParen : ℕ → ModType → ModType
    With : ModType → List WithClause → ModType
    FunctorType : ℕ → FunctorParams → ModType → ModType
    ParamArrow : FunctorParam → ModType → ModType
    Arrow : ModType → ModType → ModType

  pub data MaybeType : Type 0 where
    no_type : MaybeType
    some_type : ModType → MaybeType

  pub data Item : Type 0 where
    ExprItem : Expr → Item
    SeparatorItem : Item
    ValueItem : ℕ → Bool → Binding → Bindings → Item
    -- a name, a type, the token of the `=`, and texts
    ExternalItem : ValueName → List Tok → ℕ → List Name → Item
    TypeItem : List Tok → Item
    ExceptionItem : ℕ → List Tok → Item
    -- the token of `module`, a name, parameters, a signature, the token of the `=`, and a body
    ModuleItem : ℕ → ModuleName → FunctorParams → MaybeType → ℕ → ModExpr → Item
    -- the token of `module`, a name, the token of the `=`, and a signature
    ModuleTypeItem : ℕ → Name → ℕ → ModType → Item
    OpenItem : ℕ → Option Name → List Name → Item
    IncludeItem : ℕ → ModExpr → Item

  pub data Items : Type 0 where
    no_item : Items
    more_item : Item → Items → Items

  pub data SigItem : Type 0 where
    SeparatorSig : SigItem
    ValSig : ValueName → List Tok → SigItem
    ExternalSig : ValueName → List Tok → ℕ → List Name → SigItem
    TypeSig : List Tok → SigItem
    ExceptionSig : ℕ → List Tok → SigItem
    ModuleSig : ℕ → ModuleName → FunctorParams → ModType → SigItem
    AliasSig : ℕ → Name → ℕ → List Name → SigItem
    ModuleTypeSig : ℕ → Name → ℕ → ModType → SigItem
    OpenSig : ℕ → Option Name → List Name → SigItem
    IncludeSig : ℕ → ModType → SigItem

  pub data SigItems : Type 0 where
    no_sig_item : SigItems
    more_sig_item : SigItem → SigItems → SigItems

-- a file with its number
pub data FileTree : Type 0 where
  Body : ℕ → Items → FileTree
  Face : ℕ → SigItems → FileTree

-- a unit: its name, its body and its interface
pub record UnitTree : Type 0 where
  pub name : List ℕ
  pub body : Option FileTree
  pub face : Option FileTree
