-- The shared entries that a list of entries shows.
use Rattle.std.proofs.Common.{◌≡◌, ℕ, suc, ◌≤◌, List, [], ◌∷◌, ◌++◌, length, take, refl, sym, ap, ◌∙◌, min}
use Rattle.std.proofs.lemmas.List.{take_all, take_min}
use Rattle.shape_core.specs.declared.shared.SharedEntry.{SharedEntry}
use Rattle.shape_core.specs.declared.shared.SharedEntry.TheVariants as e
use Rattle.shape_core.specs.Items.{items_of}
use Rattle.shape_core.specs.Node.{entries_of}
use Rattle.shape_core.specs.Shape.{Entries, none, a_val, a_mod, a_mty, a_dark, ◌⊕◌}
use Rattle.shape_core.proofs.Shown.{number, entries_of-append}

pub entries_of_items : (es : Entries) → entries_of (items_of es) ≡ es
entries_of_items none = refl
entries_of_items (a_val x g es) = ap (a_val x g) (entries_of_items es)
entries_of_items (a_mod X s es) = ap (a_mod X s) (entries_of_items es)
entries_of_items (a_mty S s es) = ap (a_mty S s) (entries_of_items es)
entries_of_items (a_dark at es) = ap (a_dark at) (entries_of_items es)

pub items_of_entries : (list : List SharedEntry) → items_of (entries_of list) ≡ list
items_of_entries [] = refl
items_of_entries (e.Val x g ∷ list) = ap (λ l. e.Val x g ∷ l) (items_of_entries list)
items_of_entries (e.Mod x s ∷ list) = ap (λ l. e.Mod x s ∷ l) (items_of_entries list)
items_of_entries (e.Mty x s ∷ list) = ap (λ l. e.Mty x s ∷ l) (items_of_entries list)
items_of_entries (e.Dark at ∷ list) = ap (λ l. e.Dark at ∷ l) (items_of_entries list)

pub items_of-append : (a b : Entries) → items_of (a ⊕ b) ≡ items_of a ++ items_of b
items_of-append none b = refl
items_of-append (a_val x g a) b = ap (λ l. e.Val x g ∷ l) (items_of-append a b)
items_of-append (a_mod X s a) b = ap (λ l. e.Mod X s ∷ l) (items_of-append a b)
items_of-append (a_mty S s a) b = ap (λ l. e.Mty S s ∷ l) (items_of-append a b)
items_of-append (a_dark at a) b = ap (λ l. e.Dark at ∷ l) (items_of-append a b)

pub length-items_of : (es : Entries) → length (items_of es) ≡ number es
length-items_of none = refl
length-items_of (a_val x g es) = ap suc (length-items_of es)
length-items_of (a_mod X s es) = ap suc (length-items_of es)
length-items_of (a_mty S s es) = ap suc (length-items_of es)
length-items_of (a_dark at es) = ap suc (length-items_of es)

-- a list that goes on with the items of some entries shows these behind its own
pub entries_opened : (list : List SharedEntry) (es : Entries) → entries_of (list ++ items_of es) ≡ entries_of list ⊕ es
entries_opened list es = entries_of-append list (items_of es) ∙ ap (λ l. entries_of list ⊕ l) (entries_of_items es)

-- a list that shows some entries is the list of these
pub items_are : (list : List SharedEntry) (es : Entries) → entries_of list ≡ es → list ≡ items_of es
items_are list es h = sym (items_of_entries list) ∙ ap items_of h

-- the first entries of a structure
pub first_items : (n m : ℕ) (list : List SharedEntry) (es : Entries) → entries_of list ≡ es → m ≡ min n (length list)
    → take m list ≡ take n (items_of es)
first_items n m list es h e = ap (λ k. take k list) e ∙ take_min n list ∙ ap (take n) (items_are list es h)

pub all_items : (n : ℕ) (list : List SharedEntry) (es : Entries) → entries_of list ≡ es → length list ≤ n → take n (items_of es) ≡ items_of es
all_items n list es h e = ap (take n) (sym (items_are list es h)) ∙ take_all n list e ∙ items_are list es h

pub all_entries : (n : ℕ) (list : List SharedEntry) (es : Entries) → entries_of list ≡ es → length list ≤ n → entries_of (take n (items_of es)) ≡ es
all_entries n list es h e = ap entries_of (all_items n list es h e) ∙ entries_of_items es
