-- Scopes that are appended.
use Rattle.std.proofs.Common.{◌≡◌, ℕ, take, length, refl, sym, List, [], ◌∷◌, ◌++◌, ap, ◌∙◌, map}
use Rattle.rotor_base.specs.declared.place.Goal.TheVariants.{Decl}
use Rattle.value_sites.specs.declared.mark.Mark.{Mark}
use Rattle.value_sites.specs.Places.{Site, mark}
use Rattle.shape_core.specs.declared.shared.SharedEntry.{SharedEntry}
use Rattle.shape_core.specs.Shape.{Entries, none, a_val, a_mod, a_mty, a_dark, ◌⊕◌}
use Rattle.shape_core.specs.Node.{entries_of}
use Rattle.shape_core.proofs.Shown.{entries_of-append}
use Rattle.shape_core.proofs.Lists.{append_assoc}
use Rattle.binding_model.specs.Scopes.{here, bound}
use Rattle.name_resolve.specs.Marked.{marked}

pub entries_appended : (xs ys : List SharedEntry) → entries_of (xs ++ ys) ≡ entries_of xs ⊕ entries_of ys
entries_appended = entries_of-append

pub joined : (a b c : Entries) → (a ⊕ b) ⊕ c ≡ a ⊕ (b ⊕ c)
joined = append_assoc

pub joined_none : (a : Entries) → a ⊕ none ≡ a
joined_none none = refl
joined_none (a_val x g a) = ap (a_val x g) (joined_none a)
joined_none (a_mod X s a) = ap (a_mod X s) (joined_none a)
joined_none (a_mty S s a) = ap (a_mty S s) (joined_none a)
joined_none (a_dark at a) = ap (a_dark at) (joined_none a)

pub bound_appended : (file : ℕ) (xs ys : List Site) → bound file (xs ++ ys) ≡ bound file xs ⊕ bound file ys
bound_appended file [] ys = refl
bound_appended file (x ∷ xs) ys = ap (a_val x.name (Decl (here file x.at))) (bound_appended file xs ys)

-- the values at the marks of some places are what the places bind
pub marked_bound : (file : ℕ) (xs : List Site) → marked file (map mark xs) ≡ bound file xs
marked_bound file [] = refl
marked_bound file (x ∷ xs) = ap (a_val x.name (Decl (here file x.at))) (marked_bound file xs)

pub marked_appended : (file : ℕ) (xs ys : List Mark) → marked file (xs ++ ys) ≡ marked file xs ⊕ marked file ys
marked_appended file [] ys = refl
marked_appended file (x ∷ xs) ys = ap (a_val x.name (Decl (here file x.token))) (marked_appended file xs ys)

pub ruleset marks_bound = (marked_bound)

pub ruleset scopes_joined = (entries_appended, joined, joined_none, bound_appended, marked_appended)

-- the front of two lists
pub front_appended : (xs ys : List SharedEntry) → take (length xs) (xs ++ ys) ≡ xs
front_appended [] ys = refl
front_appended (x ∷ xs) ys = ap (λ l. x ∷ l) (front_appended xs ys)

-- what is bound after one more
pub one_more : (file : ℕ) (m m' : Entries) (xs ys : List Site) → m' ≡ m ⊕ bound file xs → m' ⊕ bound file ys ≡ m ⊕ bound file (xs ++ ys)
one_more file m m' xs ys h = ap (λ l. l ⊕ bound file ys) h ∙ joined m (bound file xs) (bound file ys)
    ∙ sym (ap (λ l. m ⊕ l) (bound_appended file xs ys))
