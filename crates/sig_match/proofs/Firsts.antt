-- The first entry of a list, and the entries after it.
use Rattle.std.proofs.Common.{◌≡◌, ℕ, zero, suc, ◌+◌, ◌<◌, ◌≤◌, Bool, true, false, List, [], ◌∷◌, length, get_or, Option, Some, None, refl, sym, ap}
use Rattle.std.proofs.Common.{◌∙◌, arith}
use Rattle.shape_core.specs.declared.shared.SharedEntry.{SharedEntry}
use Rattle.shape_core.specs.declared.shared.SharedEntry.TheVariants as e
use Rattle.shape_core.specs.Node.{entries_of, and_then}
use Rattle.shape_core.specs.Shape.{Name, Shape, Struct, Functor, Unitary, Opaque, Entries, none, a_mod, a_mty, entries_in, entries_from, param_of}
use Rattle.shape_core.specs.Shape.{result_of, find_mod, find_mty, unless_some, is_shown}
use Rattle.shape_core.specs.Links.{Trace, ◌&◌, nothing, a_step, pin, pin_entries, match_entries, matched}
use Rattle.shape_core.proofs.Matches.{then_nothing}
use Rattle.sig_match.specs.Walk.{Met, met}
use Rattle.sig_match.specs.Parts.{pin_part, pin_first, match_first}

-- an entry at a position, and those after it
pub from_at : (xs : List SharedEntry) (i : ℕ) (d : SharedEntry) → i < length xs → d ≡ get_or xs i d
    → entries_from i (entries_of xs) ≡ and_then d (entries_from (suc i) (entries_of xs))
from_at [] i d h k = absurd (omega (arith, h))
from_at (e.Val x g ∷ xs) zero d h k = ap (λ z. and_then z (entries_of xs)) (sym k)
from_at (e.Mod x s ∷ xs) zero d h k = ap (λ z. and_then z (entries_of xs)) (sym k)
from_at (e.Mty x s ∷ xs) zero d h k = ap (λ z. and_then z (entries_of xs)) (sym k)
from_at (e.Dark at ∷ xs) zero d h k = ap (λ z. and_then z (entries_of xs)) (sym k)
from_at (e.Val x g ∷ xs) (suc i) d h k = from_at xs i d (omega (arith, h)) k
from_at (e.Mod x s ∷ xs) (suc i) d h k = from_at xs i d (omega (arith, h)) k
from_at (e.Mty x s ∷ xs) (suc i) d h k = from_at xs i d (omega (arith, h)) k
from_at (e.Dark at ∷ xs) (suc i) d h k = from_at xs i d (omega (arith, h)) k

-- nothing is after the end
pub from_end : (xs : List SharedEntry) (i : ℕ) → length xs ≤ i → entries_from i (entries_of xs) ≡ none
from_end [] zero h = refl
from_end [] (suc i) h = refl
from_end (x ∷ xs) zero h = absurd (omega (arith, h))
from_end (e.Val x g ∷ xs) (suc i) h = from_end xs i (omega (arith, h))
from_end (e.Mod x s ∷ xs) (suc i) h = from_end xs i (omega (arith, h))
from_end (e.Mty x s ∷ xs) (suc i) h = from_end xs i (omega (arith, h))
from_end (e.Dark at ∷ xs) (suc i) h = from_end xs i (omega (arith, h))

-- the entries of a list one by one
pub pin_next : (d : SharedEntry) (es : Entries) → pin_entries met (and_then d es) ≡ pin_first (and_then d es) & pin_entries met es
pin_next (e.Val x g) es = refl
pin_next (e.Mod x s) es = refl
pin_next (e.Mty x s) es = refl
pin_next (e.Dark at) es = refl

pub match_next : (src : Entries) (d : SharedEntry) (es : Entries) → match_entries met (matched met) src (and_then d es) ≡ match_first src
    (and_then d es) & match_entries met (matched met) src es
match_next src (e.Val x g) es = refl
match_next src (e.Mod x s) es = refl
match_next src (e.Mty x s) es = refl
match_next src (e.Dark at) es = refl

-- the same of the entries of a structure
pub from_in : (xs : List SharedEntry) (es : Entries) (i : ℕ) (d : SharedEntry) → entries_of xs ≡ es → i < length xs → d ≡ get_or xs i d
    → entries_from i es ≡ and_then d (entries_from (i + 1) es)
from_in xs es i d f h k =
    let q : suc i ≡ i + 1 = omega arith in
    ap (entries_from i) (sym f) ∙ from_at xs i d h k ∙ ap (λ n. and_then d (entries_from n (entries_of xs))) q
    ∙ ap (λ l. and_then d (entries_from (i + 1) l)) f

pub end_in : (xs : List SharedEntry) (es : Entries) (i : ℕ) → entries_of xs ≡ es → length xs ≤ i → entries_from i es ≡ none
end_in xs es i f h = ap (entries_from i) (sym f) ∙ from_end xs i h

-- `rest` has the entries after the first of `es`
pub pin_rest : (es rest : Entries) (d : SharedEntry) → es ≡ and_then d rest → pin_entries met es ≡ pin_first es & pin_entries met rest
pin_rest es rest d h = ap (pin_entries met) h ∙ pin_next d rest ∙ ap (λ z. pin_first z & pin_entries met rest) (sym h)

pub match_rest : (src es rest : Entries) (d : SharedEntry) → es ≡ and_then d rest
    → match_entries met (matched met) src es ≡ match_first src es & match_entries met (matched met) src rest
match_rest src es rest d h = ap (match_entries met (matched met) src) h ∙ match_next src d rest
    ∙ ap (λ z. match_first src z & match_entries met (matched met) src rest) (sym h)

pub pin_over : (es : Entries) → es ≡ none → pin_entries met es ≡ nothing
pin_over es h = ap (pin_entries met) h

pub match_over : (src es : Entries) → es ≡ none → match_entries met (matched met) src es ≡ nothing
match_over src es h = ap (match_entries met (matched met) src) h

-- the first entry, by its kind
pub then_is : (es rest : Entries) (d b : SharedEntry) → es ≡ and_then d rest → d ≡ b → es ≡ and_then b rest
then_is es rest d b h k = h ∙ ap (λ z. and_then z rest) k

shown_part : (o : Option Shape) (a : Trace Met) → unless_some o true false ≡ true → unless_some o a nothing ≡ a
shown_part None a h = refl
shown_part (Some s) a h = absurd cc

hidden_part : (o : Option Shape) (a : Trace Met) → unless_some o true false ≡ false → unless_some o a nothing ≡ nothing
hidden_part None a h = absurd cc
hidden_part (Some s) a h = refl

pub shown_mod : (es rest : Entries) (X : Name) (s : Shape) (a : Trace Met) (b : Bool) → es ≡ a_mod X s rest → b ≡ is_shown es → b ≡ true
    → a_step & a ≡ a_step & unless_some (find_mod rest X) a nothing
shown_mod es rest X s a b h k l = ap (λ z. a_step & z) (sym (shown_part (find_mod rest X) a (sym (k ∙ ap is_shown h) ∙ l)))

pub shown_mty : (es rest : Entries) (X : Name) (s : Shape) (a : Trace Met) (b : Bool) → es ≡ a_mty X s rest → b ≡ is_shown es → b ≡ true
    → a_step & a ≡ a_step & unless_some (find_mty rest X) a nothing
shown_mty es rest X s a b h k l = ap (λ z. a_step & z) (sym (shown_part (find_mty rest X) a (sym (k ∙ ap is_shown h) ∙ l)))

pub hidden_mod : (es rest : Entries) (X : Name) (s : Shape) (a : Trace Met) (b : Bool) → es ≡ a_mod X s rest → b ≡ is_shown es → b ≡ false
    → a_step ≡ a_step & unless_some (find_mod rest X) a nothing
hidden_mod es rest X s a b h k l = sym (then_nothing a_step)
    ∙ ap (λ z. a_step & z) (sym (hidden_part (find_mod rest X) a (sym (k ∙ ap is_shown h) ∙ l)))

pub hidden_mty : (es rest : Entries) (X : Name) (s : Shape) (a : Trace Met) (b : Bool) → es ≡ a_mty X s rest → b ≡ is_shown es → b ≡ false
    → a_step ≡ a_step & unless_some (find_mty rest X) a nothing
hidden_mty es rest X s a b h k l = sym (then_nothing a_step)
    ∙ ap (λ z. a_step & z) (sym (hidden_part (find_mty rest X) a (sym (k ∙ ap is_shown h) ∙ l)))

-- a shape by its parts
pub pin_parts : (s : Shape) → a_step & pin_entries met (entries_in s) & pin_part (param_of s) & pin_part (result_of s) ≡ pin met s
pin_parts (Struct es) = then_nothing (a_step & pin_entries met es & nothing) ∙ then_nothing (a_step & pin_entries met es)
pin_parts (Functor p r) = ap (λ z. z & pin met p & pin met r) (then_nothing a_step)
pin_parts (Unitary r) = ap (λ z. z & pin met r) (then_nothing (a_step & nothing) ∙ then_nothing a_step)
pin_parts Opaque = then_nothing (a_step & nothing & nothing) ∙ then_nothing (a_step & nothing) ∙ then_nothing a_step
