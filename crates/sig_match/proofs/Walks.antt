-- Walks, one after another.
use Rattle.std.proofs.lemmas.List.{append-nil}
use Rattle.std.proofs.Common.{◌≡◌, ℕ, ◌+◌, ◌<◌, ◌≤◌, List, [], ◌∷◌, ◌++◌, refl, sym, ap, subst, ◌∙◌, arith, append_assoc}
use Rattle.std.specs.Prelude.{Result, Ok, Err}
use Rattle.std.specs.Result.{IsErr, IsErrAnd}
use Rattle.shape_core.specs.Links.{Trace, ◌&◌, nothing, a_step}
use Rattle.shape_core.proofs.Matches.{then_assoc, then_nothing, work-then}
use Rattle.sig_match.specs.declared.found.Stop.{Stop}
use Rattle.sig_match.specs.declared.found.Stop.TheVariants.{Over, Memory}
use Rattle.sig_match.specs.declared.found.Meeting.{Meeting}
use Rattle.sig_match.specs.Walk.{Met, Goes, Walks, met_at, mets, told_once}

-- work that is over the room stays over it with more work
more_work : (room : ℕ) (a b c : Trace Met) → room < (a & b).work → room < (a & (b & c)).work
more_work room a b c h = omega (arith, h, work-then a b, work-then a (b & c), work-then b c)

-- a part, and then another
pub walk_then : (r : Result Unit Stop) (room : ℕ) (t u v a b : Trace Met) → Goes room t u a → Walks r room u v b → Walks r room t v (a & b)
walk_then (Ok _) room t u v a b e h = (h.0 ∙ ap (λ z. z & b) e.0 ∙ then_assoc t a b, λ k. h.1 (e.1 k))
walk_then (Err Over) room t u v a b e h = subst (λ z. room < z.work) (ap (λ z. z & b) e.0 ∙ then_assoc t a b) h
walk_then (Err Memory) room t u v a b e h = tt

-- a part that stops, and another that would follow
pub walk_stops : (e : Stop) (room : ℕ) (t u v a b : Trace Met) → Walks (Err e) room t u a → Walks (Err e) room t v (a & b)
walk_stops Over room t u v a b h = more_work room t a b h
walk_stops Memory room t u v a b h = tt

-- nothing is left to do
pub walk_done : (room : ℕ) (t a : Trace Met) → a ≡ nothing → Goes room t t a
walk_done room t a e = (sym (then_nothing t) ∙ ap (λ z. t & z) (sym e), λ k. k)

-- another name of a part
pub walk_same : (r : Result Unit Stop) (room : ℕ) (t u a b : Trace Met) → a ≡ b → Walks r room t u a → Walks r room t u b
walk_same r room t u a b e h = subst (λ z. Walks r room t u z) e h

pub stops_same : (e : Stop) (room : ℕ) (t u a b : Trace Met) → a ≡ b → Walks (Err e) room t u a → Walks (Err e) room t u b
stops_same e room t u a b k h = walk_same (Err e) room t u a b k h

pub goes_same : (room : ℕ) (t u a b : Trace Met) → a ≡ b → Goes room t u a → Goes room t u b
goes_same room t u a b e h = (h.0 ∙ ap (λ z. t & z) e, h.1)

abbrev pub made : List Met → ℕ → Trace Met
made l n = record { told = l; work = n }

-- one unit of work, taken or refused
pub step_taken : (room : ℕ) (l : List Met) (n : ℕ) → n < room → Goes room (made l n) (made l (n + 1)) a_step
unfolding ◌&◌
step_taken room l n h = (ap (λ z. made z (n + 1)) (sym (append-nil l)), λ k. omega (arith, h))

pub step_refused : (room : ℕ) (l : List Met) (n : ℕ) → room ≤ n → room < (made l n & a_step).work
unfolding ◌&◌
step_refused room l n h = omega (arith, h)

-- one value more at one unit of work
pub mets-push : (ms : List Meeting) (m : Meeting) → mets (ms ++ m ∷ []) ≡ mets ms ++ met_at m
mets-push [] m = append-nil (met_at m)
mets-push (a ∷ ms) m = ap (λ l. met_at a ++ l) (mets-push ms m) ∙ sym (append_assoc (met_at a) (mets ms) (met_at m))

pub met_taken : (room : ℕ) (ms ns os : List Meeting) (m : Meeting) (n k : ℕ) → os ≡ ns ++ m ∷ []
    → Goes room (made (mets ms) n) (made (mets ns) k) a_step → Goes room (made (mets ms) n) (made (mets os) k) (told_once (met_at m))
unfolding ◌&◌
met_taken room ms ns os m n k o e = (
  ap (λ l. made (mets l) k) o
      ∙ ap (λ l. made l k) (mets-push ns m)
      ∙ ap (λ z. made (z.told ++ met_at m) z.work) e.0
      ∙ ap (λ l. made (l ++ met_at m) (n + 1)) (append-nil (mets ms)),
  e.1,
)

pub met_refused : (e : Stop) (room : ℕ) (t u v : Trace Met) (l : List Met) → Walks (Err e) room t u a_step → Walks (Err e) room t v (told_once l)
unfolding ◌&◌
met_refused Over room t u v l h = h
met_refused Memory room t u v l h = tt

-- what a `?` passes on
pub left : (r : Result Unit Stop) (e : Stop) (room : ℕ) (t u a : Trace Met) → IsErr r → IsErrAnd r (λ y. y ≡ e) → Walks (Err e) room t u a
    → Walks r room t u a
left (Ok x) e room t u a h k w = absurd cc
left (Err y) e room t u a h k w = subst (λ z. Walks (Err z) room t u a) (sym k) w

-- one part after another
pub joined : (room : ℕ) (t u v a b : Trace Met) → Goes room t u a → Goes room u v b → Goes room t v (a & b)
joined room t u v a b e f = (f.0 ∙ ap (λ z. z & b) e.0 ∙ then_assoc t a b, λ k. f.1 (e.1 k))

-- the parts of a list one by one: `rest` is what is left of `all`
abbrev pub Turns : ℕ → Trace Met → Trace Met → Trace Met → Trace Met → Type 0
Turns room s t all rest = (t & rest ≡ s & all) × (s.work ≤ room → t.work ≤ room)

pub loop_stops : (e : Stop) (room : ℕ) (s t v all rest a b : Trace Met) → Turns room s t all rest → rest ≡ a & b → Walks (Err e) room t v a
    → Walks (Err e) room s v all
loop_stops Over room s t v all rest a b e f h = subst (λ z. room < z.work) (ap (λ z. t & z) (sym f) ∙ e.0) (more_work room t a b h)
loop_stops Memory room s t v all rest a b e f h = tt

pub loop_turns : (room : ℕ) (s t u all rest a b : Trace Met) → Turns room s t all rest → rest ≡ a & b → Goes room t u a → Turns room s u all b
loop_turns room s t u all rest a b e f g = (ap (λ z. z & b) g.0 ∙ then_assoc t a b ∙ ap (λ z. t & z) (sym f) ∙ e.0, λ k. g.1 (e.1 k))

pub loop_ends : (room : ℕ) (s t all rest : Trace Met) → Turns room s t all rest → rest ≡ nothing → Goes room s t all
loop_ends room s t all rest e f = (sym (then_nothing t) ∙ ap (λ z. t & z) (sym f) ∙ e.0, e.1)

pub loop_begins : (room : ℕ) (s all : Trace Met) → Turns room s s all all
loop_begins room s all = (refl, λ k. k)
