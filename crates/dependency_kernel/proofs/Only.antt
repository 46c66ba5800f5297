-- Lists in order with the same members are the same.
use Rattle.std.proofs.Common.{◌≡◌, ℕ, zero, suc, ◌<◌, ◌⊎◌, refl, ap, sym, ◌∙◌, subst, inl, inr, arith, List, [], ◌∷◌, length, get_or, Contains}
use Rattle.std.proofs.Common.{AllPairs, Option, Some, None}
use Rattle.rotor_base.specs.declared.place.Place.{Place}
use Rattle.rotor_base.specs.declared.place.Link.{Link}
use Rattle.rotor_base.specs.declared.place.Foot.{Foot}
use Rattle.rotor_base.specs.Place.{IsBefore}
use Rattle.dependency_kernel.specs.Foot.{IsLeastFixed}
use Rattle.dependency_kernel.specs.Laws.{IsTheOnly}

-- no place is before itself, and of two not both are before the other
not_before : (p : Place) → IsBefore p p → ⊥
not_before p (inl h) = omega arith
not_before p (inr h) = let less : p.token < p.token = h.1 in omega arith

not_both : (p q : Place) → IsBefore p q → IsBefore q p → ⊥
not_both p q (inl h) (inl k) = omega arith
not_both p q (inl h) (inr k) = let same : q.file ≡ p.file = k.0 in omega arith
not_both p q (inr h) (inl k) = let same : p.file ≡ q.file = h.0 in omega arith
not_both p q (inr h) (inr k) = let less : p.token < q.token = h.1 in let more : q.token < p.token = k.1 in omega arith

-- the members of a list by its head and its tail
at_head : (p : Place) (ps : List Place) → Contains (p ∷ ps) p
at_head p ps = (0, omega arith, refl)

in_tail : (p q : Place) (ps : List Place) → Contains ps q → Contains (p ∷ ps) q
in_tail p q ps h = let below : h.0 < length ps = h.1 in (suc h.0, omega arith, h.2)

head_or_tail : (p q : Place) (ps : List Place) → Contains (p ∷ ps) q → (p ≡ q) ⊎ Contains ps q
head_or_tail p q ps h = go h.0 h.1 h.2 where
  go : (k : ℕ) → k < length (p ∷ ps) → get_or (p ∷ ps) k q ≡ q → (p ≡ q) ⊎ Contains ps q
  go zero below is = inl is
  go (suc k) below is = inr (k, omega arith, is)

-- the head of a list in order is before the others, which are in order
head_before : (p q : Place) (ps : List Place) → AllPairs IsBefore (p ∷ ps) → Contains ps q → IsBefore p q
head_before p q ps h in_ps = let below : in_ps.0 < length ps = in_ps.1 in subst (IsBefore p) in_ps.2 (h 0 (suc in_ps.0) q (omega arith) (omega arith))

tail_ordered : (p : Place) (ps : List Place) → AllPairs IsBefore (p ∷ ps) → AllPairs IsBefore ps
tail_ordered p ps h i j d ij jn = h (suc i) (suc j) d (omega arith) (omega arith)

-- each member of the one is a member of the other
abbrev Within : List Place → List Place → Type 0
Within ps qs = (x : Place) → Contains ps x → Contains qs x

same_head : (p q : Place) (ps qs : List Place) → AllPairs IsBefore (p ∷ ps) → AllPairs IsBefore (q ∷ qs) → Within (p ∷ ps) (q ∷ qs)
    → Within (q ∷ qs) (p ∷ ps) → p ≡ q
same_head p q ps qs op oq pq qp =
    elim (head_or_tail q p qs (pq p (at_head p ps))) [
      | inl e ↦ sym e
      | inr in_qs ↦ elim (head_or_tail p q ps (qp q (at_head q qs))) [
        | inl e ↦ e
        | inr in_ps ↦ absurd (not_both p q (head_before p q ps op in_ps) (head_before q p qs oq in_qs))
      ]
    ]

-- without the heads, which are the same, the members stay the same
tail_within : (p q : Place) (ps qs : List Place) → AllPairs IsBefore (p ∷ ps) → p ≡ q → Within (p ∷ ps) (q ∷ qs) → Within ps qs
tail_within p q ps qs op e pq x h =
    elim (head_or_tail q x qs (pq x (in_tail p x ps h))) [
      | inl f ↦ absurd (let P : Place → Type 0 = IsBefore p in not_before p (subst P (sym (e ∙ f)) (head_before p x ps op h)))
      | inr in_qs ↦ in_qs
    ]

no_member : (p : Place) (ps : List Place) → Within (p ∷ ps) [] → ⊥
no_member p ps w = let h : Contains [] p = w p (at_head p ps) in let below : h.0 < 0 = h.1 in omega arith

same_members : (ps qs : List Place) → AllPairs IsBefore ps → AllPairs IsBefore qs → Within ps qs → Within qs ps → ps ≡ qs
same_members [] [] op oq pq qp = refl
same_members [] (q ∷ qs) op oq pq qp = absurd (no_member q qs qp)
same_members (p ∷ ps) [] op oq pq qp = absurd (no_member p ps pq)
same_members (p ∷ ps) (q ∷ qs) op oq pq qp =
    let e : p ≡ q = same_head p q ps qs op oq pq qp in
    let rest : ps ≡ qs = same_members ps qs (tail_ordered p ps op) (tail_ordered q qs oq) (tail_within p q ps qs op e pq)
    (tail_within q p qs ps oq (sym e) qp) in
    ap (λ (x : Place). x ∷ ps) e ∙ ap (λ (xs : List Place). q ∷ xs) rest

-- there is one least
same_least : (links : List Link) (ps : List Place) (a b : Option Place) → IsLeastFixed links ps a → IsLeastFixed links ps b → a ≡ b
same_least links ps None None la lb = refl
same_least links ps None (Some q) la lb = absurd (la.none q lb.member lb.fixed)
same_least links ps (Some p) None la lb = absurd (lb.none p la.member la.fixed)
same_least links ps (Some p) (Some q) la lb = ap Some (either (la.least q lb.member lb.fixed) (lb.least p la.member la.fixed)) where
  either : (p ≡ q) ⊎ IsBefore p q → (q ≡ p) ⊎ IsBefore q p → p ≡ q
  either (inl e) h = e
  either (inr b) (inl e) = sym e
  either (inr b) (inr c) = absurd (not_both p q b c)

pub is_the_only : IsTheOnly
is_the_only links d foot other is too =
    let decls : foot.decls ≡ other.decls = same_members foot.decls other.decls is.ordered too.ordered (λ x h. too.all x (is.reached x h))
    (λ x h. is.all x (too.reached x h)) in
    let P : List Place → Type 0 = λ ps. IsLeastFixed links ps foot.outside in
    let outside : foot.outside ≡ other.outside = same_least links other.decls foot.outside other.outside (subst P decls is.outside) too.outside in
    let make : List Place → Option Place → Foot = λ ps o. record { decls = ps; outside = o } in
    ap (λ (ps : List Place). make ps foot.outside) decls ∙ ap (make other.decls) outside
