-- The module type that a path names is found in the module before its last name.
use Rattle.std.proofs.Common.{◌≡◌, List, [], ◌∷◌, ◌++◌, Option, Some, None, ◌≤◌, length, arith, refl, sym, ap, ◌∙◌}
use Rattle.ml_trees.specs.declared.word.Word.{Word}
use Rattle.ml_trees.specs.View.{view_words}
use Rattle.shape_core.specs.Shape.{Name, Shape, Struct, Functor, Unitary, Opaque, Entries, or_value, step, step_from, inside, find_path, walk}
use Rattle.shape_core.specs.Shape.{find_mty, type_in, entries_in}
use Rattle.binding_model.specs.Scopes.{texts, type_under}

pub type_in_so : (s : Shape) (S : Name) → type_in s S ≡ or_value (find_mty (entries_in s) S) Opaque
type_in_so (Struct es) S = refl
type_in_so (Functor p r) S = refl
type_in_so (Unitary r) S = refl
type_in_so Opaque S = refl

step_so : (o : Option Shape) (X : Name) → step (or_value o Opaque) X ≡ step_from o X
step_so None X = refl
step_so (Some s) X = refl

last_under : (s : Shape) (X : Name) (p : List Name) (S : Name) → type_under s (X ∷ (p ++ S ∷ [])) ≡ type_in (or_value (inside (step s X) p) Opaque) S
last_under s X [] S = refl
last_under s X (Y ∷ p) S = last_under (or_value (step s X) Opaque) Y p S ∙ ap (λ o. type_in (or_value (inside o p) Opaque) S) (step_so (step s X) Y)

texts_last : (p : List Word) (w : Word) → texts (view_words (p ++ w ∷ [])) ≡ texts (view_words p) ++ w.name ∷ []
texts_last [] w = refl
texts_last (x ∷ p) w = ap (λ l. x.name ∷ l) (texts_last p w)

pub type_last : (sc : Entries) (x : Word) (p : List Word) (w : Word) → type_under (Struct sc) (texts (view_words ((x ∷ p) ++ w ∷ []))) ≡ type_in
    (walk sc (texts (view_words (x ∷ p)))) w.name
type_last sc x p w = ap (λ l. type_under (Struct sc) (x.name ∷ l)) (texts_last p w) ∙ last_under (Struct sc) x.name (texts (view_words p)) w.name

pub type_alone : (sc : Entries) (w : Word) → type_under (Struct sc) (texts (view_words (w ∷ []))) ≡ or_value (find_mty sc w.name) Opaque
type_alone sc w = refl

pub type_behind_so : (sc : Entries) (f : List Word) (w : Word) → 1 ≤ length f
    → type_in (or_value (find_path sc (texts (view_words f))) Opaque) w.name ≡ type_under (Struct sc) (texts (view_words (f ++ w ∷ [])))
type_behind_so sc [] w h = absurd (omega (arith, h))
type_behind_so sc (x ∷ p) w h = sym (type_last sc x p w)
