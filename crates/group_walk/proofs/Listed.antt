-- Groups that are listed one after another, and values that are declared one after another.
use Rattle.std.proofs.Common.{◌≡◌, ◌∙◌, ◌∷◌, ◌++◌, ℕ, List, [], ap, sym, refl, length, map, set, append-nil, append_assoc}
use Rattle.std.proofs.Math.Seq.{set-append_seam}
use Rattle.rotor_base.specs.declared.place.Place.{Place}
use Rattle.value_sites.specs.Places.{Site}
use Rattle.ml_trees.specs.Tree.{Binding, Bindings}
use Rattle.value_sites.proofs.KeptSites.{map-both}
use Rattle.shape_core.specs.Shape.{Entries}
use Rattle.binding_model.specs.Facts.{decls}
use Rattle.binding_model.specs.Scopes.{bound, let_bound}
use Rattle.binding_model.specs.Variables.{binding_variables, bindings_variables}
use Rattle.group_walk.specs.declared.groups.Begun.{Begun}
use Rattle.group_walk.specs.Grouping.{begun, joined}
use Rattle.group_walk.specs.Groups.{binding_groups, bindings_groups}

pub none_joined : (g : List (List Place)) → g ≡ g ++ map decls []
none_joined g = sym (append-nil g)

pub none_listed : (g : List (List Place)) → g ++ map decls [] ≡ g
none_listed g = append-nil g

pub two_joined : (g : List (List Place)) (a b : List Entries) → (g ++ map decls a) ++ map decls b ≡ g ++ map decls (a ++ b)
two_joined g a b = append_assoc g (map decls a) (map decls b) ∙ ap (λ x. g ++ x) (map-both decls a b)

pub three_joined : (g : List (List Place)) (a b c : List Entries)
    → ((g ++ map decls a) ++ map decls b) ++ map decls c ≡ g ++ map decls (a ++ (b ++ c))
three_joined g a b c = two_joined (g ++ map decls a) b c ∙ two_joined g a (b ++ c)

pub four_joined : (g : List (List Place)) (a b c d : List Entries)
    → (((g ++ map decls a) ++ map decls b) ++ map decls c) ++ map decls d ≡ g ++ map decls (a ++ (b ++ (c ++ d)))
four_joined g a b c d = three_joined (g ++ map decls a) b c d ∙ two_joined g a (b ++ (c ++ d))

-- the places of values that are declared one after another
both_declared : (file : ℕ) (xs ys : List Site) → decls (bound file xs) ++ decls (bound file ys) ≡ decls (bound file (xs ++ ys))
both_declared file [] ys = refl
both_declared file (x ∷ xs) ys = ap (λ l. record { file = file; token = x.at } ∷ l) (both_declared file xs ys)

pub none_declared : (file : ℕ) (b : List Place) → b ≡ b ++ decls (bound file [])
none_declared file b = sym (append-nil b)

pub two_declared : (file : ℕ) (b : List Place) (xs ys : List Site)
    → (b ++ decls (bound file xs)) ++ decls (bound file ys) ≡ b ++ decls (bound file (xs ++ ys))
two_declared file b xs ys = append_assoc b (decls (bound file xs)) (decls (bound file ys)) ∙ ap (λ l. b ++ l) (both_declared file xs ys)

-- the group of a `let` takes the position at which it began
at_its_place : (g more : List (List Place)) (empty group : List Place) → set ((g ++ empty ∷ []) ++ more) (length g) group ≡ g ++ group ∷ more
at_its_place g more empty group = ap (λ l. set l (length g) group) (append_assoc g (empty ∷ []) more) ∙ set-append_seam g empty more group

pub let_listed : (file : ℕ) (g : List (List Place)) (b : Binding) (bs : Bindings)
    → set (((g ++ [] ∷ []) ++ map decls (binding_groups file b)) ++ map decls (bindings_groups file bs)) (length g)
    (decls (bound file (binding_variables b)) ++ decls (bound file (bindings_variables bs)))
    ≡ g ++ map decls (let_bound file b bs ∷ (binding_groups file b ++ bindings_groups file bs))
let_listed file g b bs =
    let values = decls (bound file (binding_variables b)) ++ decls (bound file (bindings_variables bs)) in
    ap (λ l. set l (length g) values) (two_joined (g ++ [] ∷ []) (binding_groups file b) (bindings_groups file bs))
    ∙ at_its_place g (map decls (binding_groups file b ++ bindings_groups file bs)) [] values
    ∙ ap (λ v. g ++ v ∷ map decls (binding_groups file b ++ bindings_groups file bs)) (both_declared file (binding_variables b)
    (bindings_variables bs))

-- if no value is declared, nothing joins
pub none_join : (bs : List Begun) → joined [] bs ≡ bs
none_join [] = refl
none_join (b ∷ bs) = ap (λ l. begun l b.parts b.position ∷ bs) (append-nil b.places)
