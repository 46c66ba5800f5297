-- The laws of tokens, of values and of the places of a footprint (own).
use Rattle.std.specs.Prelude.{◌≡◌, ◌⊎◌, ◌↔◌, ℕ, List, Bool, true, false, Contains, IsTrue}
use Rattle.std.specs.List.{AllPairs}
use Rattle.rotor_base.specs.declared.place.Place.{Place}
use Rattle.rotor_base.specs.declared.place.Ref.{Ref}
use Rattle.rotor_base.specs.declared.place.Foot.{Foot}
use Rattle.ml_lexer.specs.Lexed.{Lexeme, Lexed}
use Rattle.value_sites.specs.Sound.{IsSound}
use Rattle.ml_trees.specs.Tree.{UnitTree}
use Rattle.binding_model.specs.Facts.{is_before}
use Rattle.rename_model.specs.Foot.{leads_in}
use Rattle.rename_model.specs.Target.{holds}
use Rattle.value_at.specs.declared.value.ValueAt.{ValueAt}
use Rattle.value_at.specs.declared.footprint_places.ValuePlace.{ValuePlace}
use Rattle.value_at.specs.Cursor.{is_word_before}
use Rattle.value_at.specs.Value.{IsValueAt}
use Rattle.value_at.specs.Places.{places_of}

-- one thing of a list at most passes a test
abbrev pub OnePasses : {A : Type 0} → (A → Bool) → List A → Type 0
OnePasses test xs = AllPairs (λ x y. IsTrue (test x) → IsTrue (test y) → ⊥) xs

-- one lexeme of a source at most holds a byte, and one word at most ends before it
abbrev pub TokensAreOne : Type 0
TokensAreOne =
    (bytes : List ℕ) (xs : List Lexeme) (offset : ℕ) → Lexed bytes xs → OnePasses (holds offset) xs × OnePasses (is_word_before offset) xs

-- a place of a sound project has one answer
abbrev pub ValuesAreOne : Type 0
ValuesAreOne =
    (us : List UnitTree) (p : Place) (one other : ValueAt) → IsSound us → IsValueAt us p one → IsValueAt us p other → one ≡ other

-- a place declares a member of the footprint, or it is that of a reference to one
abbrev pub IsPlaceOf : List Ref → Foot → ValuePlace → Type 0
IsPlaceOf refs foot q =
    ((q.is_declaration ≡ true) × Contains foot.decls q.at)
    ⊎ ((q.is_declaration ≡ false) × ((r : Ref) × Contains refs r × (r.at ≡ q.at) × IsTrue (leads_in foot r.goal)))

-- the places of a footprint are these
abbrev pub PlacesAreAll : Type 0
PlacesAreAll = (refs : List Ref) (foot : Foot) (q : ValuePlace) → Contains (places_of refs foot) q ↔ IsPlaceOf refs foot q

-- none is before an earlier one of the list
abbrev pub PlacesAreInOrder : Type 0
PlacesAreInOrder = (refs : List Ref) (foot : Foot) → AllPairs (λ q r. is_before r.at q.at ≡ false) (places_of refs foot)
