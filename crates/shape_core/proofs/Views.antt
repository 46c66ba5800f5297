-- Views of lists of entries.
use Rattle.std.proofs.Common.{◌≡◌, ℕ, ◌<◌, ◌+◌, length, take, drop, get_or, List, [], ◌∷◌, ◌++◌, Option, Some, None, refl, sym, ap, ◌∙◌}
use Rattle.std.proofs.lemmas.List.{take_more, drop_more}
use Rattle.std.specs.Option.{option_or}
use Rattle.std.specs.Global.{Vec}
use Rattle.std.specs.Borrow.{Bor}
use Rattle.shape_core.specs.declared.shape.Shape.{Shape}
use Rattle.shape_core.specs.declared.shape.Entry.{Entry}
use Rattle.shape_core.specs.declared.shape.Entry.TheBlock as s
use Rattle.shape_core.specs.Shape as pure
use Rattle.shape_core.specs.Shape.{◌⊕◌}
use Rattle.shape_core.specs.View.{view_row, view_then, entries, found, found_shape}
use Rattle.shape_core.proofs.Lists.{append_assoc, find_vals, find_mods, find_mtys}

pub entries_then : (e : Entry) (rest : pure.Entries) → view_then e rest ≡ view_then e pure.none ⊕ rest
unfolding view_then
entries_then (s.Val x g) rest = refl
entries_then (s.Mod x m) rest = refl
entries_then (s.Mty x m) rest = refl
entries_then (s.Dark at) rest = refl

pub entries-append : (xs ys : List Entry) → entries (xs ++ ys) ≡ entries xs ⊕ entries ys
entries-append [] ys = refl
entries-append (e ∷ xs) ys =
    ap (view_then e) (entries-append xs ys)
    ∙ entries_then e (entries xs ⊕ entries ys)
    ∙ sym (append_assoc (view_then e pure.none) (entries xs) (entries ys))
    ∙ ap (λ l. l ⊕ entries ys) (sym (entries_then e (entries xs)))

-- one entry more at the end
pub entries_more : (xs : List Entry) (i : ℕ) (d : Entry) → i < length xs → entries (take (i + 1) xs) ≡ entries (take i xs) ⊕ view_then
    (get_or xs i d) pure.none
entries_more xs i d h = ap entries (take_more xs i d h) ∙ entries-append (take i xs) (get_or xs i d ∷ [])

pub vals_more : (xs : List Entry) (i : ℕ) (d : Entry) (x : List ℕ) → i < length xs
    → pure.last_of (pure.vals (entries (take (i + 1) xs))) x ≡ pure.or_else (pure.last_of (pure.vals (view_then (get_or xs i d) pure.none)) x)
    (pure.last_of (pure.vals (entries (take i xs))) x)
vals_more xs i d x h = ap (λ l. pure.last_of (pure.vals l) x) (entries_more xs i d h)
    ∙ find_vals (entries (take i xs)) (view_then (get_or xs i d) pure.none) x

pub mods_more : (xs : List Entry) (i : ℕ) (d : Entry) (x : List ℕ) → i < length xs
    → pure.last_of (pure.mods (entries (take (i + 1) xs))) x ≡ pure.or_else (pure.last_of (pure.mods (view_then (get_or xs i d) pure.none)) x)
    (pure.last_of (pure.mods (entries (take i xs))) x)
mods_more xs i d x h = ap (λ l. pure.last_of (pure.mods l) x) (entries_more xs i d h)
    ∙ find_mods (entries (take i xs)) (view_then (get_or xs i d) pure.none) x

pub mtys_more : (xs : List Entry) (i : ℕ) (d : Entry) (x : List ℕ) → i < length xs
    → pure.last_of (pure.mtys (entries (take (i + 1) xs))) x ≡ pure.or_else (pure.last_of (pure.mtys (view_then (get_or xs i d) pure.none)) x)
    (pure.last_of (pure.mtys (entries (take i xs))) x)
mtys_more xs i d x h = ap (λ l. pure.last_of (pure.mtys l) x) (entries_more xs i d h)
    ∙ find_mtys (entries (take i xs)) (view_then (get_or xs i d) pure.none) x

pub found_or : {A B : Type 0} (f : A → B) (o p : Option A) → found f (option_or o p) ≡ pure.or_else (found f o) (found f p)
found_or f None p = refl
found_or f (Some a) p = refl

pub or_or : {A : Type 0} (o p : Option A) → option_or o p ≡ pure.or_else o p
or_or None p = refl
or_or (Some a) p = refl

-- the entries in a shape, and those of a `Vec`
pub row_entries : {n : _} (es : s.Row_of-Entry n) → view_row es ≡ entries (s.items-the_row-Entry n es)
unfolding view_row
row_entries s.end_of-Entry = refl
row_entries (s.more_of-Entry e es) = ap (view_then e) (row_entries es)

pub entries_of : (v : Vec Entry) → view_row (s.hidden-the_row-Entry-0 v) ≡ entries v.items
entries_of v = row_entries (s.hidden-the_row-Entry-0 v) ∙ ap entries (s.items_hidden-the_row-Entry-0 v)

pub step_struct : (v : Vec Entry) (x : List ℕ) (o : Option (Bor Shape)) → found_shape o ≡ pure.find_mod (entries v.items) x
    → found_shape o ≡ pure.step (pure.Struct (view_row (s.hidden-the_row-Entry-0 v))) x
step_struct v x o e = e ∙ ap (λ l. pure.find_mod l x) (sym (entries_of v))

pub entries_pushed : (xs ys : List Entry) (i : ℕ) (d e : Entry) → i < length ys → entries xs ≡ entries (take i ys)
    → view_then e pure.none ≡ view_then (get_or ys i d) pure.none → entries (xs ++ e ∷ []) ≡ entries (take (i + 1) ys)
entries_pushed xs ys i d e h k v =
    entries-append xs (e ∷ []) ∙ ap (λ l. l ⊕ view_then e pure.none) k ∙ ap (λ l. entries (take i ys) ⊕ l) v ∙ sym (entries_more ys i d h)

inside-append : (s : Option pure.Shape) (p q : List (List ℕ)) → pure.inside s (p ++ q) ≡ pure.inside (pure.inside s p) q
inside-append s [] q = refl
inside-append s (X ∷ p) q = inside-append (pure.step_from s X) p q

pub inside_more : (s : Option pure.Shape) (xs : List (List ℕ)) (i : ℕ) (d : List ℕ) → i < length xs
    → pure.inside s (take (i + 1) xs) ≡ pure.step_from (pure.inside s (take i xs)) (get_or xs i d)
inside_more s xs i d h = ap (λ l. pure.inside s l) (take_more xs i d h) ∙ inside-append s (take i xs) (get_or xs i d ∷ [])

pub shown_here : (xs : List Entry) (i : ℕ) (e : Entry) → i < length xs → e ≡ get_or xs i e
    → pure.is_shown (view_then e (entries (drop (i + 1) xs))) ≡ pure.is_shown (entries (drop i xs))
shown_here xs i e h k = ap (λ z. pure.is_shown (view_then z (entries (drop (i + 1) xs)))) k
    ∙ ap (λ l. pure.is_shown (entries l)) (sym (drop_more xs i e h))

pub ruleset shown_rules = (shown_here)
