-- The search from one unit: the units that it has marked, and those in the queue.
use Rattle.std.proofs.Common.{◌≡◌, ℕ, suc, zero, ◌+◌, ◌<◌, ◌≤◌, ◌⊎◌, inl, inr, length, get_or, set, take, List, [], ◌∷◌, ◌++◌, All, Bool, true, false}
use Rattle.std.proofs.Common.{not, cond, count_by, replicate, map, refl, sym, subst, ap, ◌∙◌, arith, length-set, nat_eq}
use Rattle.std.proofs.lemmas.Bool.{eqb-true, eq-eqb, or_left, or_right, cases_eq, true≢false}
use Rattle.std.proofs.lemmas.List.{get_or-set_same, get_or-set_other, take-append-le, take_all, length_push, length-replicate, get_or-map, set-get_or}
use Rattle.std.proofs.lemmas.List.{get_or_append_left}
use Rattle.std.proofs.lemmas.List.Elements.{All-push, All-nil, All-cons, All-weaker, All-more}
use Rattle.std.proofs.lemmas.List.Sums.{sum_by-set}
use Rattle.std.proofs.lemmas.List.Folds.{Any-from_list_any, list_any-append, list_any_at, sum_by-replicate}
use Rattle.std.specs.List.{list_any}
use Rattle.ml_trees.specs.Tree.{UnitTree}
use Rattle.unit_order.specs.Order.{needs_unit, leads_to}
use Rattle.unit_order.specs.Positions.{unit_at}
use Rattle.unit_order.specs.Needs.{AreNeeds}
use Rattle.unit_order.proofs.Chains.{need_last, chain_second}

-- a chain of needs leads from one position to another
abbrev pub Leads : List UnitTree → ℕ → ℕ → Type 0
Leads us i j = (n : ℕ) × (leads_to n us (unit_at us i) (unit_at us j).name ≡ true)

-- all of these are marked
abbrev pub AreMarked : List Bool → List ℕ → Type 0
AreMarked marked list = All (λ at. get_or marked at false ≡ true) list

pub record Spread (us : List UnitTree) (lists : List (List ℕ)) (start : ℕ) (marked : List Bool) (queue : List ℕ) (done : ℕ) : Type 0 where
  pub size : length marked ≡ length us
  pub room : count_by not marked + length queue ≡ length us + 1
  pub inside : All (λ at. at < length us) queue
  pub first : list_any (nat_eq start) queue ≡ true
  pub led : All (λ at. (at ≡ start) ⊎ Leads us start at) queue
  pub told : (at : ℕ) → get_or marked at false ≡ true → Leads us start at
  pub held : (at : ℕ) → get_or marked at false ≡ true → list_any (nat_eq at) queue ≡ true
  pub closed : All (λ at. AreMarked marked (get_or lists at [])) (take done queue)

-- what holds of all holds of each that is among them
pub All_among : (P : ℕ → Type 0) (xs : List ℕ) (x : ℕ) → All P xs → list_any (nat_eq x) xs ≡ true → P x
All_among P xs x all h = let a = Any-from_list_any (nat_eq x) xs h in subst P (a.3 ∙ sym (eqb-true x a.1 a.4)) (all a.0 a.1 a.2)

-- no unit is marked at first
pub none_marked : (n at : ℕ) → get_or (replicate n false) at false ≡ false
none_marked zero at = refl
none_marked (suc n) zero = refl
none_marked (suc n) (suc at) = none_marked n at

not_marked : (n at : ℕ) → get_or (replicate n false) at false ≡ true → ⊥
not_marked n at h = true≢false (sym h ∙ none_marked n at)

all_open : (n : ℕ) → count_by not (replicate n false) ≡ n
all_open n = sum_by-replicate (λ b. cond (not b) 1 0) n false ∙ omega arith

pub spread_start : (us : List UnitTree) (lists : List (List ℕ)) (start : ℕ) → start < length us
    → Spread us lists start (replicate (length us) false) (start ∷ []) 0
spread_start us lists start lt = record {
  size = length-replicate (length us) false;
  room = omega (arith, all_open (length us));
  inside = All-cons (λ at. at < length us) start [] lt (All-nil (λ at. at < length us));
  first = or_left (nat_eq start start) false (eq-eqb start start refl);
  led = All-cons (λ at. (at ≡ start) ⊎ Leads us start at) start [] (inl refl) (All-nil (λ at. (at ≡ start) ⊎ Leads us start at));
  told = λ at h. absurd (not_marked (length us) at h);
  held = λ at h. absurd (not_marked (length us) at h);
  closed = All-nil (λ at. AreMarked (replicate (length us) false) (get_or lists at []));
}

-- what is marked stays so
pub still_marked : (marked : List Bool) (next at : ℕ) → next < length marked → get_or marked at false ≡ true
    → get_or (set marked next true) at false ≡ true
still_marked marked next at lt h =
    elim (cases_eq at next) [
      | inl e ↦ ap (λ k. get_or (set marked next true) k false) e ∙ get_or-set_same marked next true false lt
      | inr ne ↦ get_or-set_other marked next at true false ne ∙ h
    ]

-- what is newly marked is the one that was, or was marked before
newly : (marked : List Bool) (next at : ℕ) → get_or (set marked next true) at false ≡ true → (at ≡ next) ⊎ (get_or marked at false ≡ true)
newly marked next at h =
    elim (cases_eq at next) [ inl e ↦ inl e | inr ne ↦ inr (sym (get_or-set_other marked next at true false ne) ∙ h) ]

-- a further unit is marked and goes to the end of the queue
pub spread_more : (us : List UnitTree) (lists : List (List ℕ)) (start : ℕ) (marked : List Bool) (queue : List ℕ) (done next : ℕ)
    → Spread us lists start marked queue done → done ≤ length queue → next < length us → get_or marked next false ≡ false → Leads us start next
    → Spread us lists start (set marked next true) (queue ++ next ∷ []) done
spread_more us lists start marked queue done next s le lt fresh chain =
    let within : next < length marked = omega (arith, s.size) in
    record {
      size = length-set marked next true ∙ s.size;
      room = omega (
        arith,
        s.room,
        sum_by-set (λ b. cond (not b) 1 0) marked next true false within,
        ap {B = ℕ} (λ b. cond (not b) 1 0) fresh,
        length_push queue next,
      );
      inside = All-push (λ at. at < length us) queue next s.inside lt;
      first = list_any-append (nat_eq start) queue (next ∷ []) ∙ or_left _ _ s.first;
      led = All-push (λ at. (at ≡ start) ⊎ Leads us start at) queue next s.led (inr chain);
      told = λ at h. elim (newly marked next at h) [ inl e ↦ subst (Leads us start) (sym e) chain | inr old ↦ s.told at old ];
      held = λ at h. list_any-append (nat_eq at) queue (next ∷ [])
          ∙ elim (newly marked next at h) [ inl e ↦ or_right _ _ (or_left _ _ (eq-eqb at next e)) | inr old ↦ or_left _ _ (s.held at old) ];
      closed = subst (All (λ at. AreMarked (set marked next true) (get_or lists at []))) (sym (take-append-le done queue (next ∷ []) le))
          (All-weaker (λ at. AreMarked marked (get_or lists at [])) (λ at. AreMarked (set marked next true) (get_or lists at []))
          (λ at. All-weaker (λ k. get_or marked k false ≡ true) (λ k. get_or (set marked next true) k false ≡ true)
          (λ k. still_marked marked next k within) (get_or lists at []))
          (take done queue) s.closed);
    }

-- a unit of the queue is done once the units that it needs are marked
pub spread_next : (us : List UnitTree) (lists : List (List ℕ)) (start : ℕ) (marked : List Bool) (queue : List ℕ) (done : ℕ)
    → Spread us lists start marked queue done → done < length queue → AreMarked marked (get_or lists (get_or queue done 0) [])
    → Spread us lists start marked queue (done + 1)
spread_next us lists start marked queue done s lt all = record {
  size = s.size;
  room = s.room;
  inside = s.inside;
  first = s.first;
  led = s.led;
  told = s.told;
  held = s.held;
  closed = All-more (λ at. AreMarked marked (get_or lists at [])) queue done 0 lt s.closed all;
}

-- a unit that one of the queue needs
pub spread_need : (us : List UnitTree) (lists : List (List ℕ)) (start : ℕ) (marked : List Bool) (queue : List ℕ) (done at next : ℕ)
    → AreNeeds us lists → Spread us lists start marked queue done → done < length queue → at ≡ get_or queue done 0 → next < length us
    → list_any (nat_eq next) (get_or lists at []) ≡ true → Leads us start next
spread_need us lists start marked queue done at next needs s lt is within h =
    let inside : at < length us = subst (λ k. k < length us) (sym is) (s.inside done 0 lt) in
    let need : needs_unit (unit_at us at) (unit_at us next).name ≡ true = sym (needs.exact at next inside within) ∙ h in
    let from : (at ≡ start) ⊎ Leads us start at = subst (λ k. (k ≡ start) ⊎ Leads us start k) (sym is) (s.led done 0 lt) in
    elim from [
      | inl e ↦ (0, subst (λ k. needs_unit (unit_at us k) (unit_at us next).name ≡ true) e need)
      | inr chain ↦ (suc chain.0, need_last chain.0 us (unit_at us start) at (unit_at us next).name inside chain.1 need)
    ]

-- every chain from a unit whose needs are marked ends at a unit that is marked
chain_marked : (us : List UnitTree) (lists : List (List ℕ)) (marked : List Bool) (end : ℕ) → AreNeeds us lists → end < length us
    → ((at : ℕ) → get_or marked at false ≡ true → AreMarked marked (get_or lists at [])) → (n at : ℕ) → at < length us
    → AreMarked marked (get_or lists at []) → leads_to n us (unit_at us at) (unit_at us end).name ≡ true → get_or marked end false ≡ true
chain_marked us lists marked end needs le closed zero at lt all chain = All_among (λ k. get_or marked k false ≡ true) (get_or lists at []) end all
    (needs.exact at end lt le ∙ chain)
chain_marked us lists marked end needs le closed (suc n) at lt all chain =
    let next = chain_second n us (unit_at us at) (unit_at us end).name chain in
    let told : get_or marked next.0 false ≡ true = All_among (λ k. get_or marked k false ≡ true) (get_or lists at []) next.0 all
    (needs.exact at next.0 lt next.1 ∙ next.2) in
    chain_marked us lists marked end needs le closed n next.0 next.1 (closed next.0 told) next.3

-- once the whole queue is done, a chain that leads back has been found
pub spread_end : (us : List UnitTree) (lists : List (List ℕ)) (start : ℕ) (marked : List Bool) (queue : List ℕ) (done : ℕ) → AreNeeds us lists
    → start < length us → Spread us lists start marked queue done → length queue ≤ done → Leads us start start → get_or marked start false ≡ true
spread_end us lists start marked queue done needs lt s le chain =
    let all : All (λ at. AreMarked marked (get_or lists at [])) queue =
    subst (All (λ at. AreMarked marked (get_or lists at []))) (take_all done queue le) s.closed in
    chain_marked us lists marked start needs lt (λ at h. All_among (λ k. AreMarked marked (get_or lists k [])) queue at all (s.held at h)) chain.0
    start lt (All_among (λ k. AreMarked marked (get_or lists k [])) queue start all s.first) chain.1

-- the list of a unit
pub list_is : {L : Type 0} (out : L → List ℕ) (needs : List L) (at : ℕ) (list : L) (xs : List ℕ) → at < length needs → list ≡ get_or needs at list
    → xs ≡ out list → xs ≡ get_or (map out needs) at []
list_is out needs at list xs lt is e = e ∙ ap out is ∙ sym (get_or-map out needs at list [] lt)

-- it names units
pub next_inside : (us : List UnitTree) (lists : List (List ℕ)) (at k : ℕ) (xs : List ℕ) → AreNeeds us lists → at < length us → xs ≡ get_or lists at []
    → k < length xs → get_or xs k 0 < length us
next_inside us lists at k xs needs lt is within =
    subst (All (λ p. p < length us)) (sym is) (needs.inside at [] (omega (arith, needs.size))) k 0 within

-- the next of these is marked and is in the queue
pub spread_step : (us : List UnitTree) (lists : List (List ℕ)) (start : ℕ) (marked : List Bool) (queue : List ℕ) (done at k : ℕ) (xs : List ℕ)
    → AreNeeds us lists → Spread us lists start marked queue done → done < length queue → at ≡ get_or queue done 0 → xs ≡ get_or lists at []
    → k < length xs → Spread us lists start (set marked (get_or xs k 0) true)
    (cond (get_or marked (get_or xs k 0) false) queue (queue ++ get_or xs k 0 ∷ [])) done
spread_step us lists start marked queue done at k xs needs s lt is list within = by (get_or marked (get_or xs k 0) false) refl
  where
    inside : at < length us
    inside = subst (λ p. p < length us) (sym is) (s.inside done 0 lt)

    next : get_or xs k 0 < length us
    next = next_inside us lists at k xs needs inside list within

    among : list_any (nat_eq (get_or xs k 0)) (get_or lists at []) ≡ true
    among = subst (λ ys. list_any (nat_eq (get_or xs k 0)) ys ≡ true) list
        (list_any_at (nat_eq (get_or xs k 0)) xs k 0 within (eq-eqb (get_or xs k 0) (get_or xs k 0) refl))

    by : (b : Bool) → get_or marked (get_or xs k 0) false ≡ b
        → Spread us lists start (set marked (get_or xs k 0) true) (cond b queue (queue ++ get_or xs k 0 ∷ [])) done
    by true e = subst (λ m. Spread us lists start m queue done)
        (sym (ap (set marked (get_or xs k 0)) (sym e) ∙ set-get_or marked (get_or xs k 0) false)) s
    by false e = spread_more us lists start marked queue done (get_or xs k 0) s (omega (arith, lt)) next e
        (spread_need us lists start marked queue done at (get_or xs k 0) needs s lt is next among)

-- so one more of them is marked
pub marks_step : (marked : List Bool) (xs : List ℕ) (k : ℕ) → k < length xs → get_or xs k 0 < length marked → AreMarked marked (take k xs)
    → AreMarked (set marked (get_or xs k 0) true) (take (k + 1) xs)
marks_step marked xs k within lt all =
    All-more (λ at. get_or (set marked (get_or xs k 0) true) at false ≡ true) xs k 0 within
    (All-weaker (λ at. get_or marked at false ≡ true) (λ at. get_or (set marked (get_or xs k 0) true) at false ≡ true)
    (λ at. still_marked marked (get_or xs k 0) at lt) (take k xs) all)
    (get_or-set_same marked (get_or xs k 0) true false lt)

-- the place in the queue stays as it was
pub still_at : (queue : List ℕ) (b : Bool) (next done : ℕ) → done < length queue → (done < length (cond b queue (queue ++ next ∷ [])))
    × (get_or (cond b queue (queue ++ next ∷ [])) done 0 ≡ get_or queue done 0)
still_at queue true next done lt = (lt, refl)
still_at queue false next done lt = (omega (arith, lt, length_push queue next), get_or_append_left queue (next ∷ []) 0 done lt)

-- a unit that needs no other lies on no cycle
pub no_cycle : (us : List UnitTree) (lists : List (List ℕ)) (start : ℕ) → AreNeeds us lists → start < length us → get_or lists start [] ≡ []
    → Leads us start start → ⊥
no_cycle us lists start needs lt empty chain = by chain.0 chain.1
  where
    no_need : (j : ℕ) → j < length us → needs_unit (unit_at us start) (unit_at us j).name ≡ true → ⊥
    no_need j within need = true≢false (sym need ∙ sym (needs.exact start j lt within) ∙ ap (list_any (nat_eq j)) empty)

    by : (n : ℕ) → leads_to n us (unit_at us start) (unit_at us start).name ≡ true → ⊥
    by zero chain = no_need start lt chain
    by (suc n) chain = let next = chain_second n us (unit_at us start) (unit_at us start).name chain in no_need next.0 next.1 next.2
