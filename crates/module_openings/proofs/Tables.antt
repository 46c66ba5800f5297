-- The table of a list of names, behind one more.
use Rattle.std.proofs.Common.{◌≡◌, ℕ, Bool, true, false, ◌||◌, List, [], ◌∷◌, ◌++◌, Some, is_some, if◌then◌else◌, refl, sym, ap, ◌∙◌}
use Rattle.std.specs.Str.{bytes_eq}
use Rattle.name_tables.specs.Names.{at}
use Rattle.name_tables.specs.declared.names.Names.{Names}
use Rattle.module_openings.specs.Names.{is_among}
use Rattle.module_openings.specs.NameLists.{HasNames}

-- one more name is among them
among_more : (list : List (List ℕ)) (name x : List ℕ) → is_among (list ++ name ∷ []) x ≡ (bytes_eq name x || is_among list x)
among_more [] name x = refl
among_more (y ∷ ys) name x = ap (λ t. bytes_eq y x || t) (among_more ys name x) ∙ go (bytes_eq y x) (bytes_eq name x)
  where
    go : (s t : Bool) → (s || (t || is_among ys x)) ≡ (t || (s || is_among ys x))
    go true true = refl
    go true false = refl
    go false t = refl

-- a table with a value for one more name
pub has_more : (old new : Names Bool) (name : List ℕ) (list : List (List ℕ)) → HasNames old list
    → ((x : List ℕ) → at new x ≡ (if bytes_eq name x then Some true else at old x)) → HasNames new (list ++ name ∷ [])
has_more old new name list has put x = ap is_some (put x) ∙ go (bytes_eq name x) ∙ sym (among_more list name x)
  where
    go : (t : Bool) → is_some (if t then Some true else at old x) ≡ (t || is_among list x)
    go true = refl
    go false = has x
