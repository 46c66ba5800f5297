-- What expressions give, with more fuel.
use Rattle.std.proofs.Common.{ℕ, zero, suc, ℤ, Bool, true, false, List, [], ◌∷◌, Option, Some, None}
use Rattle.rotor_base.specs.declared.place.Place.{Place}
use Rattle.ml_trees.specs.declared.word.Bracket.TheVariants as bracket
use Rattle.ml_trees.specs.Tok.{Name as Word}
use Rattle.value_sites.specs.Places.{Site, name_sites, operator_sites}
use Rattle.ml_trees.specs.Tree.{ValueName, Expr, Seq, Let, LetOpen, LetModule, Fun, Function, Match, Try, If, Chain, Minus, Apply, ConstrApply}
use Rattle.ml_trees.specs.Tree.{TagApply, Assert, Lazy, Postfix, Prefixed, Literal, BoolExpr, Value, Constr, Tag, UnitExpr, Paren, Typed, Coerced}
use Rattle.ml_trees.specs.Tree.{EmptyBegin, Begin, EmptyList, ListExpr, Record, Opened, While, For, Links, no_link, more_link, MaybeExpr, no_expr}
use Rattle.ml_trees.specs.Tree.{some_expr, Tail, no_else, or_else, or_if, Binding, PlainBinding, AppliedBinding, Bindings, no_binding, more_binding}
use Rattle.ml_trees.specs.Tree.{Case, CaseOf, Cases, no_case, more_case, Argument, Positional, LabelPun, Labelled, Arguments, no_argument}
use Rattle.ml_trees.specs.Tree.{more_argument, PatternParam, TypesParam, Params, no_param, more_param, Part, LabelPart, IndexPart, CharPart, Parts}
use Rattle.ml_trees.specs.Tree.{no_part, more_part, Field, FieldPun, AssignedField, Fields, no_field, more_field, ModExpr}
use Rattle.shape_core.specs.Shape.{Name}
use Rattle.binding_model.specs.Scopes.{texts}
use Rattle.module_meaning.specs.Values.{Val, FunVal, CasesVal, UnaryVal, BinaryVal}
use Rattle.module_meaning.specs.Values.{RecordVal, Foreign, MaybeVal, no_arg, some_arg, ValFields, ModVal, StructVal}
use Rattle.module_meaning.specs.Values.{ForeignMod, Env, Binary, mod_walk, as_record}
use Rattle.module_meaning.specs.Patterns.{Fit, Fits, Misfit, UnrunFit, WrongFit}
use Rattle.module_meaning.specs.Acts.{Act, WrongAt}
use Rattle.module_meaning.specs.Eval.{Evals, found, alone, named_value, inside, value_under, site_value, site_under, path_value, opened, by_fit}
use Rattle.module_meaning.specs.Eval.{match_failure, updated, with_base, next_of, Kind, Commas, Conses, Leftwards, Rightwards, open_value}
use Rattle.module_meaning.specs.Eval.{unless_label, function_value, guarded, one_case, more_cases, all_cases, give_binary}
use Rattle.module_meaning.specs.Eval.{give_one, give_all, operate}
use Rattle.module_meaning.specs.Eval.{decide, operated_by, while_turn, for_turns, site_operated, rightwards, leftwards, parts_values, tuple_value}
use Rattle.module_meaning.specs.Eval.{conses_value, list_rest, list_value, chain_value, seq_rest, one_argument, argument_values, one_field}
use Rattle.module_meaning.specs.Eval.{field_values, base_value, one_part, part_values, branch_value, tail_value}
use Rattle.module_meaning.specs.Eval.{binding_values, more_values, let_values}
use Rattle.module_meaning.specs.Eval.{eval_expr}
use Rattle.run_laws.proofs.Steps.{GoesOn, gives, halts, raises, binds, rescues, pays, or_halts, chooses}
use Rattle.run_laws.proofs.Starting.{num_on, truth_on, unary_on, binary_on}

-- the second evaluators go on where the first end
pub record AllGoOn (go go' : Evals) : Type 0 where
  pub expr : (file : ℕ) (env : Env) (e : Expr) → GoesOn (go.expr file env e) (go'.expr file env e)
  pub modu : (file : ℕ) (env : Env) (m : ModExpr) → GoesOn (go.modu file env m) (go'.modu file env m)
  pub turn : (file : ℕ) (env : Env) (at : Place) (c e : Expr) → GoesOn (go.turn file env at c e) (go'.turn file env at c e)
  pub same : (v w : Val) → GoesOn (go.same v w) (go'.same v w)

-- ---- references

found_on : (at : Place) (v : Val) → GoesOn (found at v) (found at v)
found_on at Foreign = halts _
found_on at v = gives _

alone_on : (at : Place) (x : Name) (b : Bool) (o : Option Val) → GoesOn (alone at x b o) (alone at x b o)
alone_on at x true o = halts _
alone_on at x false (Some v) = found_on at v
alone_on at x false None = or_halts _ _

pub named_on : (env : Env) (at : Place) (x : Name) → GoesOn (named_value env at x) (named_value env at x)
named_on env at x = alone_on at x _ _

inside_on : (at : Place) (b : Bool) (o : Option Val) → GoesOn (inside at b o) (inside at b o)
inside_on at true o = halts _
inside_on at false (Some v) = found_on at v
inside_on at false None = halts _

under_on : (m : ModVal) (at : Place) (x : Name) → GoesOn (value_under m at x) (value_under m at x)
under_on (StructVal env) at x = inside_on at _ _
under_on _ at x = halts _

site_on : (file : ℕ) (env : Env) (xs : List Site) → GoesOn (site_value file env xs) (site_value file env xs)
site_on file env [] = halts _
site_on file env (x ∷ xs) = named_on env _ _

site_under_on : (file : ℕ) (m : ModVal) (xs : List Site) → GoesOn (site_under file m xs) (site_under file m xs)
site_under_on file m [] = halts _
site_under_on file m (x ∷ xs) = under_on m _ _

path_on : (file : ℕ) (env : Env) (path : List Word) (x : ValueName) → GoesOn (path_value file env path x) (path_value file env path x)
path_on file env [] x = site_on file env (name_sites [] false x)
path_on file env (X ∷ path) x = site_under_on file (mod_walk env (texts (X ∷ path))) (name_sites [] false x)

pub opened_on : (at : Place) (m : ModVal) → GoesOn (opened at m) (opened at m)
opened_on at (StructVal env) = gives _
opened_on at ForeignMod = gives _
opened_on at _ = halts _

-- ---- patterns and records

fit_on : {A : Type 0} (p : Fit) {f g : Env → Act A} {h k : Act A} → ((env : Env) → GoesOn (f env) (g env)) → GoesOn h k
    → GoesOn (by_fit p f h) (by_fit p g k)
fit_on (Fits env) p q = p env
fit_on Misfit p q = q
fit_on (UnrunFit at) p q = halts _
fit_on (WrongFit at) p q = halts _

no_match : {A : Type 0} → GoesOn {A = A} match_failure match_failure
no_match = raises _

with_on : (at : Place) (fs : ValFields) (v : Val) → GoesOn (with_base at fs v) (with_base at fs v)
with_on at fs v =
    binds (or_halts (as_record v) (WrongAt at)) (λ base. binds (or_halts (updated base fs) (WrongAt at)) (λ new. gives (RecordVal new)))

decide_on : (at : Place) (b : Bool) {f g h k : Act Val} → GoesOn f g → GoesOn h k → GoesOn (decide at b f h) (decide at b g k)
decide_on at b p q = binds p (λ v. binds (truth_on at v) (λ c. chooses _ (gives _) (binds q (λ w. binds (truth_on at w) (λ d. gives _)))))

module _ (go go' : Evals) (h : AllGoOn go go') where
  -- ---- functions

  module _ (file : ℕ) where
    open_on : (env : Env) (ps : Params) (e : Expr) → GoesOn (open_value go file env ps e) (open_value go' file env ps e)
    open_on env no_param e = h.expr file env e
    open_on env (more_param (PatternParam p) ps) e = gives _
    open_on env (more_param (TypesParam at xs) ps) e = open_on env ps e
    open_on env (more_param _ ps) e = halts _

    label_on : {A : Type 0} (o : Option ℕ) {f g : Act A} → GoesOn f g → GoesOn (unless_label go file o f) (unless_label go' file o g)
    label_on None p = p
    label_on (Some at) p = halts _

    function_on : (env : Env) (ps : Params) (e : Expr) → GoesOn (function_value go file env ps e) (function_value go' file env ps e)
    function_on env ps e = label_on _ (open_on env ps e)

    guarded_on : (env : Env) (o : MaybeExpr) (e : Expr) {f g : Act Val} → GoesOn f g → GoesOn (guarded go file env o e f) (guarded go' file env o e g)
    guarded_on env no_expr e p = h.expr file env e
    guarded_on env (some_expr x) e p = binds (h.expr file env x) (λ v. chooses _ (h.expr file env e) p)

    case_on : (env : Env) (c : Case) (v : Val) {f g : Act Val} → GoesOn f g → GoesOn (one_case go file env c v f) (one_case go' file env c v g)
    case_on env (CaseOf p o e) v q = fit_on _ (λ new. guarded_on _ o e q) q

    cases_on : (env : Env) (cs : Cases) (v : Val) {f g : Act Val} → GoesOn f g
        → GoesOn (more_cases go file env cs v f) (more_cases go' file env cs v g)
    cases_on env no_case v p = p
    cases_on env (more_case c cs) v p = case_on env c v (cases_on env cs v p)

    all_on : (env : Env) (c : Case) (cs : Cases) (v : Val) {f g : Act Val} → GoesOn f g
        → GoesOn (all_cases go file env c cs v f) (all_cases go' file env c cs v g)
    all_on env c cs v p = case_on env c v (cases_on env cs v p)

  given_on : (b : Binary) (at : Place) (o : MaybeVal) (v : Val) → GoesOn (give_binary go b at o v) (give_binary go' b at o v)
  given_on b at no_arg v = gives _
  given_on b at (some_arg u) v = binary_on go.same go'.same h.same b at u v

  one_on : (at : Place) (f v : Val) → GoesOn (give_one go at f v) (give_one go' at f v)
  one_on at (FunVal file env group p ps e) v = fit_on _ (λ new. open_on file _ ps e) no_match
  one_on at (CasesVal file env group c cs) v = all_on file _ c cs v no_match
  one_on at (UnaryVal u at') v = unary_on u at' v
  one_on at (BinaryVal b at' o) v = given_on b at' o v
  one_on at _ v = halts _

  each_on : (at : Place) (f : Val) (vs : List Val) → GoesOn (give_all go at f vs) (give_all go' at f vs)
  each_on at f [] = gives _
  each_on at f (v ∷ vs) = binds (one_on at f v) (λ g. each_on at g vs)

  operate_on : (env : Env) (form at : Place) (x : Name) {f g p q : Act Val} → GoesOn f g → GoesOn p q
      → GoesOn (operate go env form at x f p) (operate go' env form at x g q)
  operate_on env form at x i j =
      binds j (λ w. binds i (λ v. binds (named_on env at x) (λ f. binds (one_on form f v) (λ g. one_on form g w))))

  operated_on : (env : Env) (form at : Place) (x : Name) (o : Option Bool) {f g p q : Act Val} → GoesOn f g → GoesOn p q
      → GoesOn (operated_by go env form at x o f p) (operated_by go' env form at x o g q)
  operated_on env form at x (Some b) i j = decide_on at b i j
  operated_on env form at x None i j = operate_on env form at x i j

  -- ---- loops

  pub while_on : (file : ℕ) (env : Env) (at : Place) (c e : Expr) → GoesOn (while_turn go file env at c e) (while_turn go' file env at c e)
  while_on file env at c e =
      binds (h.expr file env c) (λ v.
      binds (truth_on at v) (λ b. chooses b (binds (pays (h.expr file env e)) (λ u. h.turn file env at c e)) (gives _)))

  for_on : (file : ℕ) (env : Env) (xs : List Site) (down : Bool) (e : Expr) (k : ℕ) (n : ℤ)
      → GoesOn (for_turns go file env xs down e k n) (for_turns go' file env xs down e k n)
  for_on file env xs down e zero n = gives _
  for_on file env xs down e (suc k) n = binds (pays (h.expr file _ e)) (λ u. for_on file env xs down e k (next_of down n))

  -- ---- the forms

  module _ (file : ℕ) where
    chained_on : (env : Env) (form : Place) (xs : List Site) {f g p q : Act Val} → GoesOn f g → GoesOn p q
        → GoesOn (site_operated go file env form xs f p) (site_operated go' file env form xs g q)
    chained_on env form [] i j = halts _
    chained_on env form (x ∷ xs) i j = operated_on env form _ _ _ i j

    rightwards_on : (env : Env) (form : Place) (e : Expr) (es : Links) → GoesOn (rightwards go file env form e es) (rightwards go' file env form e es)
    rightwards_on env form e no_link = h.expr file env e
    rightwards_on env form e (more_link t e' es) = chained_on env form (operator_sites [] false t) (h.expr file env e) (rightwards_on env form e' es)

    leftwards_on : (env : Env) (form : Place) (es : Links) {f g : Act Val} → GoesOn f g
        → GoesOn (leftwards go file env form f es) (leftwards go' file env form g es)
    leftwards_on env form no_link p = p
    leftwards_on env form (more_link t e es) p = leftwards_on env form es (chained_on env form (operator_sites [] false t) p (h.expr file env e))

    further_on : (env : Env) (es : Links) → GoesOn (parts_values go file env es) (parts_values go' file env es)
    further_on env no_link = gives _
    further_on env (more_link t e es) = binds (further_on env es) (λ vs. binds (h.expr file env e) (λ v. gives _))

    tuple_on : (env : Env) (e : Expr) (es : Links) → GoesOn (tuple_value go file env e es) (tuple_value go' file env e es)
    tuple_on env e es = binds (further_on env es) (λ vs. binds (h.expr file env e) (λ v. gives _))

    conses_on : (env : Env) (e : Expr) (es : Links) → GoesOn (conses_value go file env e es) (conses_value go' file env e es)
    conses_on env e no_link = h.expr file env e
    conses_on env e (more_link t e' es) = binds (conses_on env e' es) (λ tail. binds (h.expr file env e) (λ head. gives _))

    rest_on : (env : Env) (es : Links) → GoesOn (list_rest go file env es) (list_rest go' file env es)
    rest_on env no_link = gives _
    rest_on env (more_link t e es) = binds (rest_on env es) (λ tail. binds (h.expr file env e) (λ head. gives _))

    list_on : (env : Env) (e : Expr) (es : Links) → GoesOn (list_value go file env e es) (list_value go' file env e es)
    list_on env e es = binds (rest_on env es) (λ tail. binds (h.expr file env e) (λ head. gives _))

    chain_on : (env : Env) (form : Place) (kind : Kind) (e : Expr) (es : Links)
        → GoesOn (chain_value go file env form kind e es) (chain_value go' file env form kind e es)
    chain_on env form Commas e es = tuple_on env e es
    chain_on env form Conses e es = conses_on env e es
    chain_on env form Leftwards e es = leftwards_on env form es (h.expr file env e)
    chain_on env form Rightwards e es = rightwards_on env form e es

    seq_on : (env : Env) (v : Val) (es : Links) → GoesOn (seq_rest go file env v es) (seq_rest go' file env v es)
    seq_on env v no_link = gives _
    seq_on env v (more_link t e es) = binds (h.expr file env e) (λ w. seq_on env w es)

    argument_on : (env : Env) (a : Argument) → GoesOn (one_argument go file env a) (one_argument go' file env a)
    argument_on env (Positional e) = h.expr file env e
    argument_on env (LabelPun x) = halts _
    argument_on env (Labelled x e) = halts _

    arguments_on : (env : Env) (es : Arguments) → GoesOn (argument_values go file env es) (argument_values go' file env es)
    arguments_on env no_argument = gives _
    arguments_on env (more_argument a es) = binds (arguments_on env es) (λ vs. binds (argument_on env a) (λ v. gives _))

    field_on : (env : Env) (f : Field) → GoesOn (one_field go file env f) (one_field go' file env f)
    field_on env (FieldPun path x run) = binds (named_on env _ _) (λ v. gives _)
    field_on env (AssignedField path x run at e) = binds (h.expr file env e) (λ v. gives _)

    fields_on : (env : Env) (fs : Fields) → GoesOn (field_values go file env fs) (field_values go' file env fs)
    fields_on env no_field = gives _
    fields_on env (more_field f fs) = binds (fields_on env fs) (λ rest. binds (field_on env f) (λ v. gives _))

    base_on : (env : Env) (at : Place) (fs : ValFields) (o : MaybeExpr) → GoesOn (base_value go file env at fs o) (base_value go' file env at fs o)
    base_on env at fs no_expr = gives _
    base_on env at fs (some_expr e) = binds (h.expr file env e) (λ v. with_on at fs v)

    part_on : (p : Part) (v : Val) → GoesOn (one_part go file p v) (one_part go' file p v)
    part_on (LabelPart path x) v = or_halts _ _
    part_on (IndexPart at e) v = halts _
    part_on (CharPart at e) v = halts _

    parts_on : (v : Val) (ps : Parts) → GoesOn (part_values go file v ps) (part_values go' file v ps)
    parts_on v no_part = gives _
    parts_on v (more_part p ps) = binds (part_on p v) (λ w. parts_on w ps)

    branch_on : (env : Env) (e : Expr) (t : Tail) → GoesOn (branch_value go file env e t) (branch_value go' file env e t)
    branch_on env e no_else = binds (h.expr file env e) (λ v. gives _)
    branch_on env e (or_else e') = h.expr file env e
    branch_on env e (or_if at c a tail) = h.expr file env e

    tail_on : (env : Env) (at : Place) (t : Tail) → GoesOn (tail_value go file env at t) (tail_value go' file env at t)
    tail_on env at no_else = gives _
    tail_on env at (or_else e) = h.expr file env e
    tail_on env at (or_if at' c a tail) =
        binds (h.expr file env c) (λ v. binds (truth_on at v) (λ b. chooses b (branch_on env a tail) (tail_on env at tail)))

    binding_on : (env : Env) (b : Binding) → GoesOn (binding_values go file env b) (binding_values go' file env b)
    binding_on env (PlainBinding p run at e) = binds (h.expr file env e) (λ v. fit_on _ (λ new. gives _) no_match)
    binding_on env (AppliedBinding x ps run at e) = binds (function_on file env ps e) (λ v. gives _)

    bindings_on : (env : Env) (bs : Bindings) → GoesOn (more_values go file env bs) (more_values go' file env bs)
    bindings_on env no_binding = gives _
    bindings_on env (more_binding b bs) = binds (binding_on env b) (λ new. binds (bindings_on env bs) (λ rest. gives _))

    pub let_on : (env : Env) (rec : Bool) (b : Binding) (bs : Bindings) → GoesOn (let_values go file env rec b bs) (let_values go' file env rec b bs)
    let_on env true b bs = label_on file _ (gives _)
    let_on env false b bs = bindings_on env (more_binding b bs)

    pub expr_on : (env : Env) (e : Expr) → GoesOn (eval_expr go file env e) (eval_expr go' file env e)
    expr_on env (Seq e es last) = binds (h.expr file env e) (λ v. seq_on env v es)
    expr_on env (Let at rec b bs e) = binds (let_on env rec b bs) (λ new. h.expr file _ e)
    expr_on env (LetOpen at at' bang path e) = binds (opened_on _ _) (λ new. h.expr file _ e)
    expr_on env (LetModule at at' x eq m e) = binds (h.modu file env _) (λ v. h.expr file _ e)
    expr_on env (Fun at ps e) = function_on file env ps e
    expr_on env (Function at bar c cs) = gives _
    expr_on env (Match at e bar c cs) = binds (h.expr file env e) (λ v. all_on file env c cs v no_match)
    expr_on env (Try at e bar c cs) = rescues (h.expr file env e) (λ v. all_on file env c cs v (halts _))
    expr_on env (If at c a tail) =
        binds (h.expr file env c) (λ v. binds (truth_on _ v) (λ b. chooses b (branch_on env a tail) (tail_on env _ tail)))
    expr_on env (Chain n e es) = chooses _ (halts _) (chain_on env _ _ e es)
    expr_on env (Minus x e) = binds (h.expr file env e) (λ v. binds (named_on env _ _) (λ f. one_on _ f v))
    expr_on env (Apply f es) = binds (arguments_on env es) (λ vs. binds (h.expr file env f) (λ g. each_on _ g vs))
    expr_on env (ConstrApply path e) = binds (h.expr file env e) (λ v. gives _)
    expr_on env (TagApply x e) = binds (h.expr file env e) (λ v. gives _)
    expr_on env (Assert at e) = binds (h.expr file env e) (λ v. binds (truth_on _ v) (λ b. chooses b (gives _) (raises _)))
    expr_on env (Lazy at e) = halts _
    expr_on env (Postfix e ps) = binds (h.expr file env e) (λ v. parts_on v ps)
    expr_on env (Prefixed x e) = binds (h.expr file env e) (λ v. binds (named_on env _ _) (λ f. one_on _ f v))
    expr_on env (Literal c x) = or_halts _ _
    expr_on env (BoolExpr at b) = gives _
    expr_on env (Value path x) = path_on file env path x
    expr_on env (Constr path) = gives _
    expr_on env (Tag x) = gives _
    expr_on env (UnitExpr at) = gives _
    expr_on env (Paren at e) = h.expr file env e
    expr_on env (Typed at e run) = h.expr file env e
    expr_on env (Coerced at e from to) = h.expr file env e
    expr_on env (EmptyBegin at) = gives _
    expr_on env (Begin at e) = h.expr file env e
    expr_on env (EmptyList at bracket.List) = gives _
    expr_on env (EmptyList at bracket.Array) = halts _
    expr_on env (ListExpr at bracket.List e es last) = list_on env e es
    expr_on env (ListExpr at bracket.Array e es last) = halts _
    expr_on env (Record at base f fs last) = binds (fields_on env fs) (λ rest. binds (field_on env f) (λ v. base_on env _ _ base))
    expr_on env (Opened path e) = binds (opened_on _ _) (λ new. h.expr file _ e)
    expr_on env (While at c e) = while_on file env _ c e
    expr_on env (For at x eq a down b e) =
        binds (h.expr file env a) (λ v.
        binds (h.expr file env b) (λ w. binds (num_on _ v) (λ m. binds (num_on _ w) (λ n. for_on file env _ down e _ m))))
