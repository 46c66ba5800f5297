-- A respelled tree has the respelled words, and is well formed.
use Rattle.std.proofs.Common.{◌≡◌, ◌≢◌, ℕ, ◌⊎◌, inl, inr, List, [], ◌∷◌, ◌++◌, map, Bool, true, false, ◌||◌, Option, Some, None, refl, sym, ap, subst}
use Rattle.std.proofs.Common.{◌∙◌, arith}
use Rattle.rotor_base.specs.declared.token.Class.TheVariants as class
use Rattle.ml_trees.specs.declared.fixed.Fixed.{Fixed}
use Rattle.ml_trees.specs.declared.fixed.Fixed.TheVariants as key
use Rattle.ml_trees.specs.Tok.{Name, Tok, fixed, placed, word}
use Rattle.ml_trees.specs.Runs.{Bracketing, bracketing, after_bracket, is_matched, in_type, beside_type, begins_type, is_type_run, in_declaration}
use Rattle.ml_trees.specs.Runs.{is_declaration_run, opens, closes, neither}
use Rattle.ml_trees.specs.Tree.{ValueName, Pat, Pats, PatField, PatFields, Expr, Links, MaybeExpr, Tail}
use Rattle.ml_trees.specs.Tree.{Binding, Bindings, Case, Cases, Argument, Arguments, Param, Params, Part, Parts, Field, Fields}
use Rattle.ml_trees.specs.Tree.{Constraint, WithClause, ModExpr, ModArgument, ModArguments, FunctorParam, FunctorParams, ModType, MaybeType, Item}
use Rattle.ml_trees.specs.Tree.{Items, SigItem, SigItems, FileTree, PlainName, OperatorName, AsPat, OrPat, TuplePat, ConsPat, ConstrApplyPat}
use Rattle.ml_trees.specs.Tree.{TagApplyPat}
use Rattle.ml_trees.specs.Tree.{LazyPat, ExceptionPat, AnyPat, ValuePat, LiteralPat, NegativePat, RangePat, ConstrPat, TagPat, BoolPat, UnitPat}
use Rattle.ml_trees.specs.Tree.{ParenPat, TypedPat, EmptyPat, ListPat, RecordPat, OpenedPat, no_pat, more_pat, PunnedField, MatchedField}
use Rattle.ml_trees.specs.Tree.{no_pat_field, more_pat_field, Seq, Let}
use Rattle.ml_trees.specs.Tree.{LetOpen, LetModule, Fun, Function, Match, Try, If, Chain, Minus, Apply, ConstrApply, TagApply, Assert, Lazy, Postfix}
use Rattle.ml_trees.specs.Tree.{Prefixed, Literal, BoolExpr, Value, Constr, Tag, UnitExpr, Paren, Typed, Coerced, EmptyBegin, Begin, EmptyList}
use Rattle.ml_trees.specs.Tree.{ListExpr, Record, Opened, While, For, no_link, more_link, no_expr, some_expr, no_else, or_else, or_if, PlainBinding}
use Rattle.ml_trees.specs.Tree.{AppliedBinding, no_binding, more_binding, CaseOf, no_case, more_case, Positional, LabelPun, Labelled, no_argument}
use Rattle.ml_trees.specs.Tree.{more_argument, PatternParam, LabelParam, LabelPattern, DefaultParam, WrappedParam, WrappedDefault, TypesParam}
use Rattle.ml_trees.specs.Tree.{no_param, more_param, LabelPart, IndexPart, CharPart, no_part, more_part, FieldPun, AssignedField, no_field}
use Rattle.ml_trees.specs.Tree.{more_field, ConstraintOf, WithOf, ModPath, Struct, Functor, ModApply, ModParen, Sealed}
use Rattle.ml_trees.specs.Tree.{ModuleArgument, SealedArgument, NoArgument, no_mod_argument, more_mod_argument, NamedParam, NoParam}
use Rattle.ml_trees.specs.Tree.{no_functor_param, more_functor_param, TypePath, Sig, TypeOf, TypeParen, With, FunctorType, ParamArrow, Arrow}
use Rattle.ml_trees.specs.Tree.{no_type, some_type, ExprItem, SeparatorItem, ValueItem, ExternalItem, TypeItem, ExceptionItem, ModuleItem}
use Rattle.ml_trees.specs.Tree.{ModuleTypeItem, OpenItem, IncludeItem, no_item, more_item, SeparatorSig, ValSig, ExternalSig, TypeSig, ExceptionSig}
use Rattle.ml_trees.specs.Tree.{ModuleSig, AliasSig, ModuleTypeSig, OpenSig, IncludeSig, no_sig_item, more_sig_item, Body, Face}
use Rattle.ml_trees.specs.Events.{Event, said, run_of, value, field, label, operator, minus, module_path, last_path, qualifier}
use Rattle.ml_trees.specs.Words.{dotted_then, path_then, qualified_then, name_then, add_words, words}
use Rattle.ml_trees.specs.WellFormed.{is_operator, WfName, WfNames, WfType, pat_level, is_exception, WfPat, WfPats, WfPatField, WfPatFields, level}
use Rattle.ml_trees.specs.WellFormed.{op_level, is_form, is_if, has_else, is_open_if, has_cases, on_edge, on_links, on_body, on_cases, on_tail}
use Rattle.ml_trees.specs.WellFormed.{NoForm, Calm, NoOpenIf, NoCases, IsOperand, is_postfix, CanBeAssigned, is_bare, is_constr, is_bracketed}
use Rattle.ml_trees.specs.WellFormed.{EndsField, Wf, WfSeq, WfChain, WfBase, WfGuard, WfTail, WfBinding, WfBindings, WfCase, WfCases, WfArgument}
use Rattle.ml_trees.specs.WellFormed.{WfArguments, WfParam, WfParams, WfPart, WfParts, WfField, WfFields, is_constraint_sign, WfConstraint}
use Rattle.ml_trees.specs.WellFormed.{WfConstraints, WfWiths, is_functor, is_simple_mod, is_simple_type, is_separator, WfExternal, WfMod}
use Rattle.ml_trees.specs.WellFormed.{WfModArgument, WfModArguments, WfFunctorParam, WfFunctorParams, WfModType, WfSignature, WfItem, WfItems}
use Rattle.ml_trees.specs.WellFormed.{WfSigItem, WfSigItems}
use Rattle.value_sites.specs.Respelled.{Spelling, spell_tok, spell_run, spell_type, spell_value_name, spell_pat, spell_pats, spell_pat_field}
use Rattle.value_sites.specs.Respelled.{spell_pat_fields, spell_expr, spell_links, spell_maybe_expr, spell_tail, spell_binding}
use Rattle.value_sites.specs.Respelled.{spell_bindings, spell_case, spell_cases, spell_argument, spell_arguments, spell_param, spell_params}
use Rattle.value_sites.specs.Respelled.{spell_part}
use Rattle.value_sites.specs.Respelled.{spell_parts, spell_field, spell_fields, spell_constraint, spell_with_clause, spell_mod_expr}
use Rattle.value_sites.specs.Respelled.{spell_mod_argument}
use Rattle.value_sites.specs.Respelled.{spell_mod_arguments, spell_functor_param, spell_functor_params, spell_mod_type, spell_maybe_type, spell_item}
use Rattle.value_sites.specs.Respelled.{spell_items, spell_sig_item, spell_sig_items, spell_file, RespellingKeepsTheTree}
use Rattle.value_sites.proofs.SpelledEvents.{spell_event, file_spelled}

both : {a b c d : Bool} → a ≡ c → b ≡ d → a || b ≡ c || d
both p q = rw (p, q) refl

map_too : {A B : Type 0} (f : A → B) (xs : List A) → xs ≢ [] → map f xs ≢ []
map_too f [] h g = h refl
map_too f (x ∷ xs) h g = cc

-- A record, so that antt finds w, j and k.
record Spelled (w : Spelling) (j k : List Tok) : Type 0 where
  eq : j ≡ map (spell_tok w) k

module _ (w : Spelling) where
  -- ---- words

  one : {j k : List Tok} (t : Tok) → Spelled w j k → Spelled w (spell_tok w t ∷ j) (t ∷ k)
  one t h = record { eq = ap (λ (ts : List Tok). spell_tok w t ∷ ts) h.eq }

  run_same : {j k : List Tok} (run : List Tok) → Spelled w j k → Spelled w (spell_run w run ++ j) (run ++ k)
  run_same [] h = h
  run_same (t ∷ ts) h = one t (run_same ts h)

  dotted_same : (a : List Name) {j k : List Tok} → Spelled w j k → Spelled w (dotted_then a j) (dotted_then a k)
  dotted_same [] h = h
  dotted_same (x ∷ xs) h = one (fixed key.Dot) (one (word class.Upper x) (dotted_same xs h))

  path_same : (a : List Name) {j k : List Tok} → Spelled w j k → Spelled w (path_then a j) (path_then a k)
  path_same [] h = h
  path_same (x ∷ xs) h = one (word class.Upper x) (dotted_same xs h)

  qualified_same : (a : List Name) {j k : List Tok} → Spelled w j k → Spelled w (qualified_then a j) (qualified_then a k)
  qualified_same [] h = h
  qualified_same (x ∷ xs) h = one (word class.Upper x) (one (fixed key.Dot) (qualified_same xs h))

  name_same : (a : ValueName) {j k : List Tok} → Spelled w j k → Spelled w (name_then (spell_value_name w a) j) (name_then a k)
  name_same (PlainName x) h = one (word class.Lower x) h
  name_same (OperatorName at t) h = one (placed key.LeftParen at) (one t (one (fixed key.RightParen) h))

  event_same : (e : Event) (j k : List Tok) → Spelled w j k → Spelled w (add_words (spell_event w e) j) (add_words e k)
  event_same (said t) j k h = one t h
  event_same (run_of ts) j k h = run_same ts h
  event_same (value binds x) j k h = name_same x h
  event_same (field binds x) j k h = one (word class.Lower x) h
  event_same (label binds x) j k h = one (word class.Label x) h
  event_same (operator t) j k h = one t h
  event_same (minus x) j k h = one (word class.Infix x) h
  event_same (module_path path) j k h = path_same path h
  event_same (last_path path) j k h = path_same path h
  event_same (qualifier path) j k h = qualified_same path h
  event_same _ j k h = h

  words_same : (t : FileTree) → words (spell_file w t) ≡ map (spell_tok w) (words t)
  words_same t = (file_spelled add_words add_words (Spelled w) w event_same t (record { eq = refl })).eq

  -- ---- tokens and runs

  bracketing_too : (t : Tok) → bracketing (spell_tok w t) ≡ bracketing t
  bracketing_too (fixed x) = refl
  bracketing_too (placed x at) = refl
  bracketing_too (word c x) = refl

  in_type_too : (t : Tok) → in_type (spell_tok w t) ≡ in_type t
  in_type_too (fixed x) = refl
  in_type_too (placed x at) = refl
  in_type_too (word class.Lower x) = refl
  in_type_too (word class.Keyword x) = refl
  in_type_too (word _ x) = refl

  beside_type_too : (t : Tok) → beside_type (spell_tok w t) ≡ beside_type t
  beside_type_too (fixed x) = refl
  beside_type_too (placed x at) = refl
  beside_type_too (word class.Lower x) = refl
  beside_type_too (word class.Infix x) = refl
  beside_type_too (word class.Label x) = refl
  beside_type_too (word _ x) = refl

  begins_type_too : (t : Tok) → begins_type (spell_tok w t) ≡ begins_type t
  begins_type_too (fixed x) = refl
  begins_type_too (placed x at) = refl
  begins_type_too (word class.Lower x) = refl
  begins_type_too (word _ x) = refl

  in_declaration_too : (t : Tok) → in_declaration (spell_tok w t) ≡ in_declaration t
  in_declaration_too (fixed x) = refl
  in_declaration_too (placed x at) = refl
  in_declaration_too (word class.Lower x) = refl
  in_declaration_too (word class.Keyword x) = refl
  in_declaration_too (word _ x) = refl

  module _ (outside inside : Tok → Bool) (o : (t : Tok) → outside (spell_tok w t) ≡ outside t)
      (i : (t : Tok) → inside (spell_tok w t) ≡ inside t) where
    after_same : (t : Tok) (b : Bracketing) (xs : List Fixed)
        → after_bracket outside inside (spell_tok w t) b xs ≡ after_bracket outside inside t b xs
    after_same t (opens close) xs = refl
    after_same t (closes close) [] = refl
    after_same t (closes close) (x ∷ xs) = refl
    after_same t neither [] = rw (o t) refl
    after_same t neither (x ∷ xs) = rw (i t) refl

    after_too : (t : Tok) (xs : List Fixed) → after_bracket outside inside (spell_tok w t) (bracketing (spell_tok w t)) xs ≡ after_bracket outside
        inside t (bracketing t) xs
    after_too t xs = ap (λ b. after_bracket outside inside (spell_tok w t) b xs) (bracketing_too t) ∙ after_same t (bracketing t) xs

  matched_too : (outside inside : Tok → Bool) (o : (t : Tok) → outside (spell_tok w t) ≡ outside t)
      (i : (t : Tok) → inside (spell_tok w t) ≡ inside t) (st : Option (List Fixed)) (ts : List Tok)
      → is_matched outside inside st (spell_run w ts) ≡ is_matched outside inside st ts
  matched_too outside inside o i None [] = refl
  matched_too outside inside o i (Some []) [] = refl
  matched_too outside inside o i (Some (x ∷ xs)) [] = refl
  matched_too outside inside o i None (t ∷ ts) = refl
  matched_too outside inside o i (Some xs) (t ∷ ts) = ap (λ st. is_matched outside inside st (spell_run w ts)) (after_too outside inside o i t xs)
      ∙ matched_too outside inside o i (after_bracket outside inside t (bracketing t) xs) ts

  type_run_too : (run : List Tok) → is_type_run (spell_run w run) ≡ is_type_run run
  type_run_too [] = refl
  type_run_too (t ∷ ts) = ap (λ st. is_matched beside_type in_type st (spell_run w ts))
      (after_too begins_type in_type begins_type_too in_type_too t []) ∙ matched_too beside_type in_type beside_type_too in_type_too
      (after_bracket begins_type in_type t (bracketing t) []) ts

  declaration_run_too : (run : List Tok) → is_declaration_run (spell_run w run) ≡ is_declaration_run run
  declaration_run_too [] = refl
  declaration_run_too (t ∷ ts) = matched_too in_declaration in_declaration in_declaration_too in_declaration_too (Some []) (t ∷ ts)

  operator_too : (t : Tok) → is_operator (spell_tok w t) ≡ is_operator t
  operator_too (fixed x) = refl
  operator_too (placed x at) = refl
  operator_too (word class.Lower x) = refl
  operator_too (word _ x) = refl

  op_level_too : (t : Tok) → op_level (spell_tok w t) ≡ op_level t
  op_level_too (fixed x) = refl
  op_level_too (placed x at) = refl
  op_level_too (word class.Lower x) = refl
  op_level_too (word _ x) = refl

  constraint_sign_too : (t : Tok) → is_constraint_sign (spell_tok w t) ≡ is_constraint_sign t
  constraint_sign_too (fixed x) = refl
  constraint_sign_too (placed x at) = refl
  constraint_sign_too (word class.Lower x) = refl
  constraint_sign_too (word _ x) = refl

  -- ---- tests of a tree

  exception_too : (e : Pat) → is_exception (spell_pat w e) ≡ is_exception e
  exception_too (ExceptionPat at p) = refl
  exception_too _ = refl

  form_too : (e : Expr) → is_form (spell_expr w e) ≡ is_form e
  form_too (Let at rec b bs e) = refl
  form_too (LetOpen at at' bang path e) = refl
  form_too (LetModule at at' x eq m e) = refl
  form_too (Fun at ps e) = refl
  form_too (Function at bar c cs) = refl
  form_too (Match at e bar c cs) = refl
  form_too (Try at e bar c cs) = refl
  form_too _ = refl

  if_too : (e : Expr) → is_if (spell_expr w e) ≡ is_if e
  if_too (If at c a tail) = refl
  if_too _ = refl

  has_cases_too : (e : Expr) → has_cases (spell_expr w e) ≡ has_cases e
  has_cases_too (Function at bar c cs) = refl
  has_cases_too (Match at e bar c cs) = refl
  has_cases_too (Try at e bar c cs) = refl
  has_cases_too _ = refl

  postfix_too : (e : Expr) → is_postfix (spell_expr w e) ≡ is_postfix e
  postfix_too (Postfix e ps) = refl
  postfix_too _ = refl

  bare_too : (e : Expr) → is_bare (spell_expr w e) ≡ is_bare e
  bare_too (Constr path) = refl
  bare_too (Tag x) = refl
  bare_too _ = refl

  bracketed_too : (e : Expr) → is_bracketed (spell_expr w e) ≡ is_bracketed e
  bracketed_too (UnitExpr at) = refl
  bracketed_too (Paren at e) = refl
  bracketed_too (EmptyList at b) = refl
  bracketed_too (ListExpr at b e es last) = refl
  bracketed_too (Record at base f fs last) = refl
  bracketed_too _ = refl

  functor_too : (e : ModExpr) → is_functor (spell_mod_expr w e) ≡ is_functor e
  functor_too (Functor at ps m) = refl
  functor_too _ = refl

  simple_mod_too : (e : ModExpr) → is_simple_mod (spell_mod_expr w e) ≡ is_simple_mod e
  simple_mod_too (Functor at ps m) = refl
  simple_mod_too (ModApply m ms) = refl
  simple_mod_too _ = refl

  simple_type_too : (e : ModType) → is_simple_type (spell_mod_type w e) ≡ is_simple_type e
  simple_type_too (TypePath path) = refl
  simple_type_too (Sig at is) = refl
  simple_type_too (TypeOf at m) = refl
  simple_type_too (TypeParen at s) = refl
  simple_type_too _ = refl

  separator_too : (e : Item) → is_separator (spell_item w e) ≡ is_separator e
  separator_too SeparatorItem = refl
  separator_too _ = refl

  has_else_too : (tail : Tail) → has_else (spell_tail w tail) ≡ has_else tail
  has_else_too no_else = refl
  has_else_too (or_else e) = refl
  has_else_too (or_if at c a tail) = has_else_too tail

  open_if_too : (e : Expr) → is_open_if (spell_expr w e) ≡ is_open_if e
  open_if_too (If at c a tail) = rw (has_else_too tail) refl
  open_if_too _ = refl

  pats_too : (l : Pats) → l ≢ no_pat → spell_pats w l ≢ no_pat
  pats_too no_pat h g = h refl
  pats_too (more_pat p ps) h g = cc

  links_too : (l : Links) → l ≢ no_link → spell_links w l ≢ no_link
  links_too no_link h g = h refl
  links_too (more_link t e es) h g = cc

  params_too : (l : Params) → l ≢ no_param → spell_params w l ≢ no_param
  params_too no_param h g = h refl
  params_too (more_param p ps) h g = cc

  arguments_too : (l : Arguments) → l ≢ no_argument → spell_arguments w l ≢ no_argument
  arguments_too no_argument h g = h refl
  arguments_too (more_argument a es) h g = cc

  parts_too : (l : Parts) → l ≢ no_part → spell_parts w l ≢ no_part
  parts_too no_part h g = h refl
  parts_too (more_part p ps) h g = cc

  functor_params_too : (l : FunctorParams) → l ≢ no_functor_param → spell_functor_params w l ≢ no_functor_param
  functor_params_too no_functor_param h g = h refl
  functor_params_too (more_functor_param p ps) h g = cc

  mod_arguments_too : (l : ModArguments) → l ≢ no_mod_argument → spell_mod_arguments w l ≢ no_mod_argument
  mod_arguments_too no_mod_argument h g = h refl
  mod_arguments_too (more_mod_argument m ms) h g = cc

  name_wf : (x : ValueName) → WfName x → WfName (spell_value_name w x)
  name_wf (PlainName x) h = tt
  name_wf (OperatorName at t) h = operator_too t ∙ h

  names_wf : (xs : List ValueName) → WfNames xs → WfNames (map (spell_value_name w) xs)
  names_wf [] h = tt
  names_wf (x ∷ xs) h = (name_wf x h.0, names_wf xs h.1)

  type_wf : (run : Option (List Tok)) → WfType run → WfType (spell_type w run)
  type_wf None h = tt
  type_wf (Some run) h = type_run_too run ∙ h

  pat_level_too : (p : Pat) → pat_level (spell_pat w p) ≡ pat_level p
  pat_level_too (AsPat p xs) = refl
  pat_level_too (OrPat p ps) = refl
  pat_level_too (TuplePat p ps) = refl
  pat_level_too (ConsPat p ps) = refl
  pat_level_too (ConstrApplyPat path p) = refl
  pat_level_too (TagApplyPat x p) = refl
  pat_level_too (LazyPat at p) = refl
  pat_level_too (ExceptionPat at p) = refl
  pat_level_too _ = refl

  level_too : (e : Expr) → level (spell_expr w e) ≡ level e
  level_too (Seq e es last) = refl
  level_too (Let at rec b bs e) = refl
  level_too (LetOpen at at' bang path e) = refl
  level_too (LetModule at at' x eq m e) = refl
  level_too (Fun at ps e) = refl
  level_too (Function at bar c cs) = refl
  level_too (Match at e bar c cs) = refl
  level_too (Try at e bar c cs) = refl
  level_too (If at c a tail) = refl
  level_too (Chain n e es) = refl
  level_too (Minus x e) = refl
  level_too (Apply f es) = refl
  level_too (ConstrApply path e) = refl
  level_too (TagApply x e) = refl
  level_too (Assert at e) = refl
  level_too (Lazy at e) = refl
  level_too (Postfix e ps) = refl
  level_too _ = refl

  -- ---- the right edge, by a test of one node that names don't change

  module _ (q : Expr → Bool) (keeps : (e : Expr) → q (spell_expr w e) ≡ q e) where
    mutual
      edge_too : (e : Expr) → on_edge q (spell_expr w e) ≡ on_edge q e
      edge_too (Seq e es true) = both (keeps (Seq e es true)) refl
      edge_too (Seq e es false) = both (keeps (Seq e es false)) (links_edge _ _ es (edge_too e))
      edge_too (Let at rec b bs e) = both (keeps (Let at rec b bs e)) (edge_too e)
      edge_too (LetOpen at at' bang path e) = both (keeps (LetOpen at at' bang path e)) (edge_too e)
      edge_too (LetModule at at' x eq m e) = both (keeps (LetModule at at' x eq m e)) (edge_too e)
      edge_too (Fun at ps e) = both (keeps (Fun at ps e)) (edge_too e)
      edge_too (Function at bar c cs) = both (keeps (Function at bar c cs)) (cases_edge _ _ cs (body_edge c))
      edge_too (Match at e bar c cs) = both (keeps (Match at e bar c cs)) (cases_edge _ _ cs (body_edge c))
      edge_too (Try at e bar c cs) = both (keeps (Try at e bar c cs)) (cases_edge _ _ cs (body_edge c))
      edge_too (If at c a tail) = both (keeps (If at c a tail)) (tail_edge _ _ tail (edge_too a))
      edge_too (Chain n e es) = both (keeps (Chain n e es)) (links_edge _ _ es (edge_too e))
      edge_too (Minus x e) = both (keeps (Minus x e)) (edge_too e)
      edge_too (Apply f es) = keeps (Apply f es)
      edge_too (ConstrApply path e) = keeps (ConstrApply path e)
      edge_too (TagApply x e) = keeps (TagApply x e)
      edge_too (Assert at e) = keeps (Assert at e)
      edge_too (Lazy at e) = keeps (Lazy at e)
      edge_too (Postfix e ps) = keeps (Postfix e ps)
      edge_too (Prefixed x e) = keeps (Prefixed x e)
      edge_too (Literal c x) = keeps (Literal c x)
      edge_too (BoolExpr at b) = keeps (BoolExpr at b)
      edge_too (Value path x) = keeps (Value path x)
      edge_too (Constr path) = keeps (Constr path)
      edge_too (Tag x) = keeps (Tag x)
      edge_too (UnitExpr at) = keeps (UnitExpr at)
      edge_too (Paren at e) = keeps (Paren at e)
      edge_too (Typed at e run) = keeps (Typed at e run)
      edge_too (Coerced at e from to) = keeps (Coerced at e from to)
      edge_too (EmptyBegin at) = keeps (EmptyBegin at)
      edge_too (Begin at e) = keeps (Begin at e)
      edge_too (EmptyList at b) = keeps (EmptyList at b)
      edge_too (ListExpr at b e es last) = keeps (ListExpr at b e es last)
      edge_too (Record at base f fs last) = keeps (Record at base f fs last)
      edge_too (Opened path e) = keeps (Opened path e)
      edge_too (While at c e) = keeps (While at c e)
      edge_too (For at x eq a down b e) = keeps (For at x eq a down b e)

      links_edge : (x y : Bool) (es : Links) → x ≡ y → on_links q x (spell_links w es) ≡ on_links q y es
      links_edge x y no_link h = h
      links_edge x y (more_link t e es) h = links_edge _ _ es (edge_too e)

      body_edge : (c : Case) → on_body q (spell_case w c) ≡ on_body q c
      body_edge (CaseOf p guard e) = edge_too e

      cases_edge : (x y : Bool) (cs : Cases) → x ≡ y → on_cases q x (spell_cases w cs) ≡ on_cases q y cs
      cases_edge x y no_case h = h
      cases_edge x y (more_case c cs) h = cases_edge _ _ cs (body_edge c)

      tail_edge : (x y : Bool) (es : Tail) → x ≡ y → on_tail q x (spell_tail w es) ≡ on_tail q y es
      tail_edge x y no_else h = h
      tail_edge x y (or_else e) h = edge_too e
      tail_edge x y (or_if at c a tail) h = tail_edge _ _ tail (edge_too a)

  no_form_too : (e : Expr) → NoForm e → NoForm (spell_expr w e)
  no_form_too e h = edge_too is_form form_too e ∙ h

  calm_too : (e : Expr) → Calm e → Calm (spell_expr w e)
  calm_too e h = (no_form_too e h.0, edge_too is_if if_too e ∙ h.1)

  no_open_if_too : (e : Expr) → NoOpenIf e → NoOpenIf (spell_expr w e)
  no_open_if_too e h = edge_too is_open_if open_if_too e ∙ h

  no_cases_too : (c : Case) → NoCases c → NoCases (spell_case w c)
  no_cases_too (CaseOf p guard e) h = edge_too has_cases has_cases_too e ∙ h

  ends_field_too : (f : Field) → EndsField f → EndsField (spell_field w f)
  ends_field_too (FieldPun path x run) h = tt
  ends_field_too (AssignedField path x run at e) h = no_form_too e h

  operand_too : (n : ℕ) (e : Expr) → IsOperand n e → IsOperand n (spell_expr w e)
  operand_too n e (inl h) = inl (omega (arith, level_too e))
  operand_too n e (inr h) = inr (omega (arith, level_too e, h.0), omega (arith, level_too e, h.1))

  assigned_too : (t : Tok) (e : Expr) → CanBeAssigned t e → CanBeAssigned (spell_tok w t) (spell_expr w e)
  assigned_too (fixed key.LeftArrow) e h = postfix_too e ∙ h
  assigned_too (fixed _) e h = tt
  assigned_too (placed x at) e h = tt
  assigned_too (word c x) e h = tt

  constr_too : (e : Expr) → is_constr (spell_expr w e) ≡ is_constr e
  constr_too (Constr path) = refl
  constr_too (Prefixed x e) = constr_too e
  constr_too _ = refl

  some_row : (es : Links) (last : Bool) → (es ≢ no_link) ⊎ (last ≡ true) → (spell_links w es ≢ no_link) ⊎ (last ≡ true)
  some_row es last (inl h) = inl (links_too es h)
  some_row es last (inr h) = inr h

  constraint_wf : (c : Constraint) → WfConstraint c → WfConstraint (spell_constraint w c)
  constraint_wf (ConstraintOf a t private b) h = (type_run_too a ∙ h.0, constraint_sign_too t ∙ h.1, type_run_too b ∙ h.2)

  constraints_wf : (cs : List Constraint) → WfConstraints cs → WfConstraints (map (spell_constraint w) cs)
  constraints_wf [] h = tt
  constraints_wf (c ∷ cs) h = (constraint_wf c h.0, constraints_wf cs h.1)

  withs_wf : (ws : List WithClause) → WfWiths ws → WfWiths (map (spell_with_clause w) ws)
  withs_wf [] h = tt
  withs_wf (WithOf c cs ∷ ws) h = (constraint_wf c h.0, constraints_wf cs h.1, withs_wf ws h.2)

  external_wf : (x : ValueName) (run : List Tok) (texts : List Name) → WfExternal x run texts
      → WfExternal (spell_value_name w x) (spell_run w run) texts
  external_wf x run texts h = (name_wf x h.0, type_run_too run ∙ h.1, h.2)

  -- ---- well formed

  mutual
    pat_wf : (p : Pat) → WfPat p → WfPat (spell_pat w p)
    pat_wf (AsPat p xs) h = (omega (arith, pat_level_too p, h.0), map_too _ xs h.1, names_wf xs h.2, pat_wf p h.3)
    pat_wf (OrPat p ps) h = (omega (arith, pat_level_too p, h.0), pats_too ps h.1, pat_wf p h.2, pats_wf 2 ps h.3)
    pat_wf (TuplePat p ps) h = (omega (arith, pat_level_too p, h.0), pats_too ps h.1, pat_wf p h.2, pats_wf 3 ps h.3)
    pat_wf (ConsPat p ps) h = (omega (arith, pat_level_too p, h.0), pats_too ps h.1, pat_wf p h.2, pats_wf 4 ps h.3)
    pat_wf (ConstrApplyPat path p) h = (h.0, omega (arith, pat_level_too p, h.1), pat_wf p h.2)
    pat_wf (TagApplyPat x p) h = (omega (arith, pat_level_too p, h.0), pat_wf p h.1)
    pat_wf (LazyPat at p) h = (omega (arith, pat_level_too p, h.0), pat_wf p h.1)
    pat_wf (ExceptionPat at p) h = (omega (arith, pat_level_too p, h.0), exception_too p ∙ h.1, pat_wf p h.2)
    pat_wf (AnyPat at) h = tt
    pat_wf (ValuePat x) h = name_wf x h
    pat_wf (LiteralPat c x) h = h
    pat_wf (NegativePat x c y) h = (h.0, h.1)
    pat_wf (RangePat x y) h = tt
    pat_wf (ConstrPat path) h = h
    pat_wf (TagPat x) h = tt
    pat_wf (BoolPat at b) h = tt
    pat_wf (UnitPat at) h = tt
    pat_wf (ParenPat at p) h = pat_wf p h
    pat_wf (TypedPat at p run) h = (pat_wf p h.0, type_run_too run ∙ h.1)
    pat_wf (EmptyPat at b) h = tt
    pat_wf (ListPat at b p ps last) h = (pat_wf p h.0, pats_wf 0 ps h.1)
    pat_wf (RecordPat at f fs rest last) h = (pat_field_wf f h.0, pat_fields_wf fs h.1)
    pat_wf (OpenedPat path at p) h = (h.0, pat_wf p h.1)

    pats_wf : (n : ℕ) (p : Pats) → WfPats n p → WfPats n (spell_pats w p)
    pats_wf n no_pat h = tt
    pats_wf n (more_pat p ps) h = (omega (arith, pat_level_too p, h.0), pat_wf p h.1, pats_wf n ps h.2)

    pat_field_wf : (p : PatField) → WfPatField p → WfPatField (spell_pat_field w p)
    pat_field_wf (PunnedField path x run) h = type_wf run h
    pat_field_wf (MatchedField path x run at p) h = (type_wf run h.0, pat_wf p h.1)

    pat_fields_wf : (p : PatFields) → WfPatFields p → WfPatFields (spell_pat_fields w p)
    pat_fields_wf no_pat_field h = tt
    pat_fields_wf (more_pat_field f fs) h = (pat_field_wf f h.0, pat_fields_wf fs h.1)

  mutual
    wf : (e : Expr) → Wf e → Wf (spell_expr w e)
    wf (Seq e es last) h = (omega (arith, level_too e, h.0), wf e h.1, seq_wf e es last h.2, some_row es last h.3)
    wf (Let at rec b bs e) h = (binding_wf b h.0, bindings_wf bs h.1, wf e h.2)
    wf (LetOpen at at' bang path e) h = (h.0, h.1, wf e h.2)
    wf (LetModule at at' x eq m e) h = (h.0, wf e h.1)
    wf (Fun at ps e) h = (params_too ps h.0, params_wf ps h.1, wf e h.2)
    wf (Function at bar c cs) h = (case_wf c h.0, cases_wf c cs h.1)
    wf (Match at e bar c cs) h = (wf e h.0, case_wf c h.1, cases_wf c cs h.2)
    wf (Try at e bar c cs) h = (wf e h.0, case_wf c h.1, cases_wf c cs h.2)
    wf (If at c a tail) h = (wf c h.0, omega (arith, level_too a, h.1), wf a h.2, tail_wf a tail h.3)
    wf (Chain n e es) h = (h.0, h.1, links_too es h.2, omega (arith, level_too e, h.3), wf e h.4, chain_wf n e es h.5)
    wf (Minus x e) h = (h.0, operand_too 12 e h.1, wf e h.2)
    wf (Apply f es) h = (omega (arith, level_too f, h.0), bare_too f ∙ h.1, wf f h.2, arguments_too es h.3, arguments_wf es h.4)
    wf (ConstrApply path e) h = (h.0, omega (arith, level_too e, h.1), wf e h.2)
    wf (TagApply x e) h = (omega (arith, level_too e, h.0), wf e h.1)
    wf (Assert at e) h = (omega (arith, level_too e, h.0), wf e h.1)
    wf (Lazy at e) h = (omega (arith, level_too e, h.0), wf e h.1)
    wf (Postfix e ps) h = (omega (arith, level_too e, h.0), constr_too e ∙ h.1, wf e h.2, parts_too ps h.3, parts_wf ps h.4)
    wf (Prefixed x e) h = (omega (arith, level_too e, h.0), wf e h.1)
    wf (Literal c x) h = h
    wf (BoolExpr at b) h = tt
    wf (Value path x) h = name_wf x h
    wf (Constr path) h = h
    wf (Tag x) h = tt
    wf (UnitExpr at) h = tt
    wf (Paren at e) h = wf e h
    wf (Typed at e run) h = (wf e h.0, type_run_too run ∙ h.1)
    wf (Coerced at e from to) h = (wf e h.0, type_wf from h.1, type_run_too to ∙ h.2)
    wf (EmptyBegin at) h = tt
    wf (Begin at e) h = wf e h
    wf (EmptyList at b) h = tt
    wf (ListExpr at b e es last) h = (omega (arith, level_too e, h.0), wf e h.1, seq_wf e es last h.2)
    wf (Record at base f fs last) h = (base_wf base h.0, field_wf f h.1, fields_wf f fs last h.2)
    wf (Opened path e) h = (h.0, bracketed_too e ∙ h.1, wf e h.2)
    wf (While at c e) h = (wf c h.0, wf e h.1)
    wf (For at x eq a down b e) h = (wf a h.0, wf b h.1, wf e h.2)

    seq_wf : (e : Expr) (l : Links) (b : Bool) → WfSeq e l b → WfSeq (spell_expr w e) (spell_links w l) b
    seq_wf e no_link last h = (λ g. no_form_too e (h g))
    seq_wf e (more_link t e' es) last h =
        (no_form_too e h.0, ap (spell_tok w) h.1, omega (arith, level_too e', h.2), wf e' h.3, seq_wf e' es last h.4)

    chain_wf : (n : ℕ) (e : Expr) (l : Links) → WfChain n e l → WfChain n (spell_expr w e) (spell_links w l)
    chain_wf n e no_link h = tt
    chain_wf n e (more_link t e' es) h =
        (calm_too e h.0, assigned_too t e h.1, op_level_too t ∙ h.2, operand_too n e' h.3, wf e' h.4, chain_wf n e' es h.5)

    base_wf : (m : MaybeExpr) → WfBase m → WfBase (spell_maybe_expr w m)
    base_wf no_expr h = tt
    base_wf (some_expr e) h = (omega (arith, level_too e, h.0), wf e h.1)

    guard_wf : (m : MaybeExpr) → WfGuard m → WfGuard (spell_maybe_expr w m)
    guard_wf no_expr h = tt
    guard_wf (some_expr e) h = wf e h

    tail_wf : (e : Expr) (t : Tail) → WfTail e t → WfTail (spell_expr w e) (spell_tail w t)
    tail_wf a no_else h = tt
    tail_wf a (or_else e) h = (no_open_if_too a h.0, omega (arith, level_too e, h.1), (λ g. h.2 (sym (level_too e) ∙ g)), wf e h.3)
    tail_wf a (or_if at c b tail) h = (no_open_if_too a h.0, wf c h.1, omega (arith, level_too b, h.2), wf b h.3, tail_wf b tail h.4)

    binding_wf : (b : Binding) → WfBinding b → WfBinding (spell_binding w b)
    binding_wf (PlainBinding p run at e) h = (pat_wf p h.0, type_wf run h.1, wf e h.2)
    binding_wf (AppliedBinding x ps run at e) h = (name_wf x h.0, params_too ps h.1, params_wf ps h.2, type_wf run h.3, wf e h.4)

    bindings_wf : (b : Bindings) → WfBindings b → WfBindings (spell_bindings w b)
    bindings_wf no_binding h = tt
    bindings_wf (more_binding b bs) h = (binding_wf b h.0, bindings_wf bs h.1)

    case_wf : (c : Case) → WfCase c → WfCase (spell_case w c)
    case_wf (CaseOf p guard e) h = (pat_wf p h.0, guard_wf guard h.1, wf e h.2)

    cases_wf : (c : Case) (c1 : Cases) → WfCases c c1 → WfCases (spell_case w c) (spell_cases w c1)
    cases_wf c no_case h = tt
    cases_wf c (more_case c' cs) h = (no_cases_too c h.0, case_wf c' h.1, cases_wf c' cs h.2)

    argument_wf : (a : Argument) → WfArgument a → WfArgument (spell_argument w a)
    argument_wf (Positional e) h = (omega (arith, level_too e, h.0), wf e h.1)
    argument_wf (LabelPun x) h = h
    argument_wf (Labelled x e) h = (h.0, omega (arith, level_too e, h.1), wf e h.2)

    arguments_wf : (a : Arguments) → WfArguments a → WfArguments (spell_arguments w a)
    arguments_wf no_argument h = tt
    arguments_wf (more_argument a es) h = (argument_wf a h.0, arguments_wf es h.1)

    param_wf : (p : Param) → WfParam p → WfParam (spell_param w p)
    param_wf (PatternParam p) h = (omega (arith, pat_level_too p, h.0), pat_wf p h.1)
    param_wf (LabelParam x) h = h
    param_wf (LabelPattern x p) h = (h.0, omega (arith, pat_level_too p, h.1), pat_wf p h.2)
    param_wf (DefaultParam x at p run eq e) h = (h.0, h.1, pat_wf p h.2, type_wf run h.3, omega (arith, level_too e, h.4), wf e h.5)
    param_wf (WrappedParam at optional at' x run) h = type_wf run h
    param_wf (WrappedDefault at at' x run eq e) h = (type_wf run h.0, omega (arith, level_too e, h.1), wf e h.2)
    param_wf (TypesParam at xs) h = map_too _ xs h

    params_wf : (p : Params) → WfParams p → WfParams (spell_params w p)
    params_wf no_param h = tt
    params_wf (more_param p ps) h = (param_wf p h.0, params_wf ps h.1)

    part_wf : (p : Part) → WfPart p → WfPart (spell_part w p)
    part_wf (LabelPart path x) h = tt
    part_wf (IndexPart at e) h = wf e h
    part_wf (CharPart at e) h = wf e h

    parts_wf : (p : Parts) → WfParts p → WfParts (spell_parts w p)
    parts_wf no_part h = tt
    parts_wf (more_part p ps) h = (part_wf p h.0, parts_wf ps h.1)

    field_wf : (f : Field) → WfField f → WfField (spell_field w f)
    field_wf (FieldPun path x run) h = type_wf run h
    field_wf (AssignedField path x run at e) h = (type_wf run h.0, omega (arith, level_too e, h.1), wf e h.2)

    fields_wf : (f : Field) (f1 : Fields) (b : Bool) → WfFields f f1 b → WfFields (spell_field w f) (spell_fields w f1) b
    fields_wf f no_field last h = (λ g. ends_field_too f (h g))
    fields_wf f (more_field f' fs) last h = (ends_field_too f h.0, field_wf f' h.1, fields_wf f' fs last h.2)

  mutual
    mod_wf : (m : ModExpr) → WfMod m → WfMod (spell_mod_expr w m)
    mod_wf (ModPath path) h = h
    mod_wf (Struct at is) h = items_wf true is h
    mod_wf (Functor at ps m) h = (functor_params_too ps h.0, functor_params_wf ps h.1, mod_wf m h.2)
    mod_wf (ModApply m ms) h = (simple_mod_too m ∙ h.0, mod_wf m h.1, mod_arguments_too ms h.2, mod_arguments_wf ms h.3)
    mod_wf (ModParen at m) h = mod_wf m h
    mod_wf (Sealed at m s) h = (mod_wf m h.0, mod_type_wf s h.1)

    mod_argument_wf : (m : ModArgument) → WfModArgument m → WfModArgument (spell_mod_argument w m)
    mod_argument_wf (ModuleArgument at m) h = mod_wf m h
    mod_argument_wf (SealedArgument at m s) h = (mod_wf m h.0, mod_type_wf s h.1)
    mod_argument_wf (NoArgument at) h = tt

    mod_arguments_wf : (m : ModArguments) → WfModArguments m → WfModArguments (spell_mod_arguments w m)
    mod_arguments_wf no_mod_argument h = tt
    mod_arguments_wf (more_mod_argument m ms) h = (mod_argument_wf m h.0, mod_arguments_wf ms h.1)

    functor_param_wf : (f : FunctorParam) → WfFunctorParam f → WfFunctorParam (spell_functor_param w f)
    functor_param_wf (NamedParam at x s) h = mod_type_wf s h
    functor_param_wf (NoParam at) h = tt

    functor_params_wf : (f : FunctorParams) → WfFunctorParams f → WfFunctorParams (spell_functor_params w f)
    functor_params_wf no_functor_param h = tt
    functor_params_wf (more_functor_param p ps) h = (functor_param_wf p h.0, functor_params_wf ps h.1)

    mod_type_wf : (m : ModType) → WfModType m → WfModType (spell_mod_type w m)
    mod_type_wf (TypePath path) h = h
    mod_type_wf (Sig at is) h = sig_items_wf is h
    mod_type_wf (TypeOf at m) h = (functor_too m ∙ h.0, mod_wf m h.1)
    mod_type_wf (TypeParen at s) h = mod_type_wf s h
    mod_type_wf (With s ws) h = (simple_type_too s ∙ h.0, mod_type_wf s h.1, map_too _ ws h.2, withs_wf ws h.3)
    mod_type_wf (FunctorType at ps s) h = (functor_params_too ps h.0, functor_params_wf ps h.1, mod_type_wf s h.2)
    mod_type_wf (ParamArrow p s) h = (functor_param_wf p h.0, mod_type_wf s h.1)
    mod_type_wf (Arrow s s') h = (simple_type_too s ∙ h.0, mod_type_wf s h.1, mod_type_wf s' h.2)

    signature_wf : (m : MaybeType) → WfSignature m → WfSignature (spell_maybe_type w m)
    signature_wf no_type h = tt
    signature_wf (some_type s) h = mod_type_wf s h

    item_wf : (b : Bool) (i : Item) → WfItem b i → WfItem b (spell_item w i)
    item_wf fresh (ExprItem e) h = (h.0, wf e h.1)
    item_wf fresh SeparatorItem h = tt
    item_wf fresh (ValueItem at rec b bs) h = (binding_wf b h.0, bindings_wf bs h.1)
    item_wf fresh (ExternalItem x run at texts) h = external_wf x run texts h
    item_wf fresh (TypeItem run) h = declaration_run_too run ∙ h
    item_wf fresh (ExceptionItem at run) h = declaration_run_too run ∙ h
    item_wf fresh (ModuleItem at x ps s eq m) h = (functor_params_wf ps h.0, signature_wf s h.1, mod_wf m h.2)
    item_wf fresh (ModuleTypeItem at x eq s) h = mod_type_wf s h
    item_wf fresh (OpenItem at bang path) h = h
    item_wf fresh (IncludeItem at m) h = mod_wf m h

    items_wf : (b : Bool) (i : Items) → WfItems b i → WfItems b (spell_items w i)
    items_wf fresh no_item h = tt
    items_wf fresh (more_item i is) h =
        (item_wf fresh i h.0, subst (λ b. WfItems b (spell_items w is)) (sym (separator_too i)) (items_wf (is_separator i) is h.1))

    sig_item_wf : (s : SigItem) → WfSigItem s → WfSigItem (spell_sig_item w s)
    sig_item_wf SeparatorSig h = tt
    sig_item_wf (ValSig x run) h = (name_wf x h.0, type_run_too run ∙ h.1)
    sig_item_wf (ExternalSig x run at texts) h = external_wf x run texts h
    sig_item_wf (TypeSig run) h = declaration_run_too run ∙ h
    sig_item_wf (ExceptionSig at run) h = declaration_run_too run ∙ h
    sig_item_wf (ModuleSig at x ps s) h = (functor_params_wf ps h.0, mod_type_wf s h.1)
    sig_item_wf (AliasSig at x eq path) h = h
    sig_item_wf (ModuleTypeSig at x eq s) h = mod_type_wf s h
    sig_item_wf (OpenSig at bang path) h = h
    sig_item_wf (IncludeSig at s) h = mod_type_wf s h

    sig_items_wf : (s : SigItems) → WfSigItems s → WfSigItems (spell_sig_items w s)
    sig_items_wf no_sig_item h = tt
    sig_items_wf (more_sig_item i is) h = (sig_item_wf i h.0, sig_items_wf is h.1)

pub respelling_keeps_the_tree : RespellingKeepsTheTree
respelling_keeps_the_tree w (Body file is) h = (items_wf w true is h, words_same w (Body file is))
respelling_keeps_the_tree w (Face file is) h = (sig_items_wf w is h, words_same w (Face file is))
