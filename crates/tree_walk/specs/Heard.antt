-- The events of the program as events of the definitions (own).
use Rattle.std.specs.Prelude.{◌≡◌, ℕ}
use Rattle.rotor_base.specs.declared.token.Class.TheVariants as class
use Rattle.ml_trees.specs.Tok.{fixed, word}
use Rattle.ml_trees.specs.Tree.{PlainName, OperatorName, ModuleName, UpperName, FunctorParams, MaybeType, ModExpr, Item, ModuleItem}
use Rattle.ml_trees.specs.View.{view_word, view_tok, view_words}
use Rattle.tree_walk.specs.declared.event.Event.{Event}
use Rattle.tree_walk.specs.declared.event.Event.TheVariants as e
use Rattle.ml_trees.specs.Events as pure
use Rattle.tree_events.specs.Told.{brings_told}

abbrev pub view_event : Event → pure.Event
view_event (e.Plain binds w) = pure.value binds (PlainName (view_word w.now))
view_event (e.Operator binds at w) = pure.value binds (OperatorName at (view_tok w.now))
view_event (e.Field binds w) = pure.field binds (view_word w.now)
view_event (e.Label binds w) = pure.label binds (view_word w.now)
view_event (e.Infix w) = pure.operator (view_tok w.now)
view_event (e.Separator x) = pure.operator (fixed x)
view_event (e.Prefix w) = pure.operator (word class.Prefix (view_word w.now))
view_event (e.Minus w) = pure.minus (view_word w.now)
view_event (e.ModulePath path) = pure.module_path (view_words path.now)
view_event (e.LastPath path) = pure.last_path (view_words path.now)
view_event (e.Qualifier path) = pure.qualifier (view_words path.now)
view_event e.GroupBegins = pure.group_begins
view_event e.GroupEnds = pure.group_ends
view_event e.BindingsBegin = pure.bindings_begin
view_event (e.PartBegins x) = pure.part_begins x
view_event (e.PartEnds x) = pure.part_ends x
view_event e.AlternativesEnd = pure.alternatives_end
view_event e.ScopeBegins = pure.scope_begins
view_event e.ScopeEnds = pure.scope_ends
view_event (e.Brings w) = pure.brings (UpperName (view_word w.now))

-- if the item is a module, the new state is the old one after its name is bound
abbrev pub IsBoundIn : {S : Type 0} → (S → pure.Event → S) → Item → S → S → Type 0
IsBoundIn step item old new =
    (at : ℕ) (x : ModuleName) (ps : FunctorParams) (s : MaybeType) (eq : ℕ) (m : ModExpr) → item ≡ ModuleItem at x ps s eq m
    → new ≡ brings_told step old x
