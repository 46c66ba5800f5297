-- Chains and circles of needs.
use Rattle.std.proofs.lemmas.Bool.{true≢false}
use Rattle.std.proofs.Common.{◌≡◌, ◌<◌, ℕ, zero, suc, List, [], ◌∷◌, ◌++◌, Bool, true, false, ◌&&◌, ◌||◌, Option, Some, None, if◌then◌else◌, map}
use Rattle.std.proofs.Common.{refl, ap, sym, ◌∙◌, arith}
use Rattle.std.proofs.lemmas.List.{append-nil, append_assoc}
use Rattle.std.specs.Cmp.Lexicographic.{slice_cmp}
use Rattle.std.specs.List.{list_any}
use Rattle.std.specs.Ordering.{is_lt, nat_cmp}
use Rattle.need_chains.specs.Chains.{IsCircle, chain, earlier_name, first_marked, leads, mark_name, name_then, next_marks}
use Rattle.need_chains.specs.Needs.{needs}
use Rattle.need_chains.proofs.Nearest.{or_false}
use Rattle.need_chains.specs.declared.unit_heads.UnitHeads.{UnitHeads}

-- a chain of no needs
pub chain_none : (n : ℕ) (sources : List UnitHeads) (to unit : List ℕ) (names : List (List ℕ)) → n < 1 → names ≡ names ++ chain n sources to unit
unfolding chain
chain_none zero sources to unit names h = sym (append-nil names)
chain_none (suc n) sources to unit names h = absurd (omega arith)

-- no unit is the next one
pub chain_ends : (n m : ℕ) (sources : List UnitHeads) (to unit : List ℕ) (names : List (List ℕ)) (next : Option (List ℕ)) → m ≡ suc n
    → next ≡ first_marked None sources (next_marks n sources to unit) → next ≡ None → names ≡ names ++ chain m sources to unit
unfolding chain
chain_ends n zero sources to unit names next e is none = absurd (omega (arith, e))
chain_ends n (suc m) sources to unit names next e is none =
    let k : m ≡ n = omega (arith, e) in
    let found : first_marked None sources (next_marks m sources to unit) ≡ None
    = ap (λ (i : ℕ). first_marked None sources (next_marks i sources to unit)) k ∙ sym is ∙ none in
    sym (append-nil names) ∙ ap (λ (o : Option (List ℕ)). names ++ name_then o (chain m sources to)) (sym found)

-- a unit is the next one, and a chain goes on behind it
pub chain_goes_on : (n m : ℕ) (sources : List UnitHeads) (to unit name : List ℕ) (names more : List (List ℕ)) (next : Option (List ℕ)) → m ≡ suc n
    → next ≡ first_marked None sources (next_marks n sources to unit) → next ≡ Some name → more ≡ (names ++ name ∷ []) ++ chain n sources to name
    → more ≡ names ++ chain m sources to unit
unfolding chain
chain_goes_on n zero sources to unit name names more next e is some h = absurd (omega (arith, e))
chain_goes_on n (suc m) sources to unit name names more next e is some h =
    let k : m ≡ n = omega (arith, e) in
    let found : first_marked None sources (next_marks m sources to unit) ≡ Some name
    = ap (λ (i : ℕ). first_marked None sources (next_marks i sources to unit)) k ∙ sym is ∙ some in
    h ∙ append_assoc names (name ∷ []) (chain n sources to name) ∙ ap (λ (i : ℕ). names ++ name ∷ chain i sources to name) (sym k)
    ∙ ap (λ (o : Option (List ℕ)). names ++ name_then o (chain m sources to)) (sym found)

keeps_best : (sources : List UnitHeads) (marks : List Bool) (best : List ℕ) → first_marked (Some best) sources marks ≡ None → ⊥
keeps_best [] marks best h = absurd cc
keeps_best (s ∷ sources) [] best h = absurd cc
keeps_best (s ∷ sources) (false ∷ marks) best h = keeps_best sources marks best h
keeps_best (s ∷ sources) (true ∷ marks) best h = keeps_best sources marks (earlier_name (Some best) s.unit) h

-- if a source is marked, there is a first one
mark_first : (b : Bool) (p : UnitHeads → Bool) (unit : List ℕ) (sources : List UnitHeads)
    → (list_any p sources ≡ true → first_marked None sources (map p sources) ≡ None → ⊥) → (b || list_any p sources) ≡ true
    → first_marked (mark_name None unit b) sources (map p sources) ≡ None → ⊥
mark_first true p unit sources more any h = keeps_best sources (map p sources) unit h
mark_first false p unit sources more any h = more any h

marks_one : (p : UnitHeads → Bool) (sources : List UnitHeads) → list_any p sources ≡ true → first_marked None sources (map p sources) ≡ None → ⊥
marks_one p [] any h = true≢false (sym any)
marks_one p (s ∷ sources) any h = mark_first (p s) p s.unit sources (marks_one p sources) any h

names_none : (o : Option (List ℕ)) (more : List ℕ → List (List ℕ)) → [] ≡ name_then o more → o ≡ None
names_none None more h = refl
names_none (Some name) more h = absurd cc

-- a circle has units
pub circle_has_units : (sources : List UnitHeads) (unit : List ℕ) → IsCircle sources unit [] → ⊥
unfolding leads chain
circle_has_units sources unit c =
    marks_one (λ (s : UnitHeads). needs sources unit s.unit && leads c.between sources unit s.unit) sources c.leads_back
    (names_none (first_marked None sources (next_marks c.between sources unit unit)) (chain c.between sources unit) c.units)

if_false : (holds : List ℕ → Bool) (c : Bool) (a b : List ℕ) → holds a ≡ false → holds b ≡ false → holds (if c then a else b) ≡ false
if_false holds true a b ha hb = ha
if_false holds false a b ha hb = hb

earlier_false : (holds : List ℕ → Bool) (best : Option (List ℕ)) (unit : List ℕ) → ((b : List ℕ) → best ≡ Some b → holds b ≡ false)
    → holds unit ≡ false → holds (earlier_name best unit) ≡ false
earlier_false holds None unit h is = is
earlier_false holds (Some best) unit h is = if_false holds (is_lt (slice_cmp nat_cmp unit best)) unit best is (h best refl)

mark_false : (holds : List ℕ → Bool) (best : Option (List ℕ)) (unit : List ℕ) (need also : Bool) → ((b : List ℕ) → best ≡ Some b → holds b ≡ false)
    → (need && holds unit) ≡ false → (b : List ℕ) → mark_name best unit (need && also) ≡ Some b → holds b ≡ false
mark_false holds best unit false also h is b e = h b e
mark_false holds best unit true false h is b e = h b e
mark_false holds best unit true true h is b e =
    let same : earlier_name best unit ≡ b = cc in
    ap holds (sym same) ∙ earlier_false holds best unit h is

-- what holds of no unit that is needed does not hold of the first of these
first_false : (need also : UnitHeads → Bool) (holds : List ℕ → Bool) (sources : List UnitHeads) (best : Option (List ℕ)) (name : List ℕ)
    → ((b : List ℕ) → best ≡ Some b → holds b ≡ false) → list_any (λ s. need s && holds s.unit) sources ≡ false
    → first_marked best sources (map (λ s. need s && also s) sources) ≡ Some name → holds name ≡ false
first_false need also holds [] best name h none e = h name e
first_false need also holds (s ∷ sources) best name h none e =
    let parts = or_false (need s && holds s.unit) (list_any (λ (t : UnitHeads). need t && holds t.unit) sources) none in
    first_false need also holds sources (mark_name best s.unit (need s && also s)) name
    (mark_false holds best s.unit (need s) (also s) h parts.0) parts.1 e

-- behind a unit of a shortest chain, no chain of fewer needs leads on either
pub next_far : (n : ℕ) (sources : List UnitHeads) (to unit name : List ℕ) → ((d : ℕ) → d < n → leads (suc d) sources to unit ≡ false)
    → first_marked None sources (next_marks n sources to unit) ≡ Some name → (d : ℕ) → suc d < n → leads (suc d) sources to name ≡ false
unfolding leads
next_far n sources to unit name none e d lt =
    first_false (λ (s : UnitHeads). needs sources unit s.unit) (λ (s : UnitHeads). leads n sources to s.unit)
    (λ (u : List ℕ). leads (suc d) sources to u) sources None name (λ b none_is. absurd cc) (none (suc d) lt) e
