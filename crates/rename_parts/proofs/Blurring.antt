-- Where outside modules hide a member, reference by reference and link by link.
use Rattle.std.proofs.Common.{◌≡◌, ℕ, ◌+◌, ◌<◌, ◌≤◌, ◌⊎◌, inl, inr, List, Option, Some, None, length, get_or, sym, subst, ap, ◌∙◌}
use Rattle.std.proofs.lemmas.List.{get_or_default}
use Rattle.std.specs.BTreeSet.{BTreeSet}
use Rattle.rotor_base.specs.declared.place.Place.{Place}
use Rattle.rotor_base.specs.declared.place.Ref.{Ref}
use Rattle.rotor_base.specs.declared.place.Link.{Link}
use Rattle.dependency_kernel.proofs.Below.{FoundBelow, found_none, found_more, found_last, found_split, found_all, found_within}
use Rattle.rename_parts.specs.Blurs.{behind_in, blurred_ref, blurred_item, BlursRef, BlursLink, earlier_of}
use Rattle.rename_parts.specs.Leasts.{IsLeastOrNone}
use Rattle.rename_parts.proofs.Earliest.{least_same, option_more}

module _ (set : BTreeSet Place) where
  abbrev pub RefBelow : List Ref → ℕ → Place → Type 0
  RefBelow rs n p = (r : Ref) × FoundBelow n rs r × (blurred_ref set r ≡ Some p)

  pub refs_begin : (rs : List Ref) → IsLeastOrNone (RefBelow rs 0) None
  refs_begin rs = λ p k. found_none rs k.0 k.1

  pub refs_more : (rs : List Ref) (n : ℕ) (r : Ref) (best : Option Place) → n < length rs → r ≡ get_or rs n r → IsLeastOrNone (RefBelow rs n) best
      → IsLeastOrNone (RefBelow rs (n + 1)) (earlier_of best (blurred_ref set r))
  refs_more rs n r best w is h =
      option_more (RefBelow rs n) (RefBelow rs (n + 1)) best (blurred_ref set r) (λ q k. (k.0, found_more n rs k.0 k.1, k.2))
      (λ q e. (r, found_last n rs r is, e))
      (λ q k. elim (found_split n rs k.0 r w is k.1) [ inl b ↦ inl (k.0, b, k.2) | inr e ↦ inr (ap (blurred_ref set) (sym e) ∙ k.2) ]) h

  abbrev pub LinkBelow : List Link → ℕ → Place → Type 0
  LinkBelow ls n p = (l : Link) × FoundBelow n ls l × ((blurred_item set l ≡ Some p) ⊎ (behind_in set l.source ≡ Some p))

  abbrev pub Below : List Ref → List Link → ℕ → Place → Type 0
  Below rs ls n p = BlursRef set rs p ⊎ LinkBelow ls n p

  pub links_begin : (rs : List Ref) (ls : List Link) (n : ℕ) (best : Option Place) → n ≤ length rs → length rs ≤ n
      → IsLeastOrNone (RefBelow rs n) best → IsLeastOrNone (Below rs ls 0) best
  links_begin rs ls n best le ge h =
      least_same (RefBelow rs n) (Below rs ls 0) best (λ q k. inl (k.0, found_within n rs k.0 le k.1, k.2))
      (λ q k. elim k [ inl a ↦ (a.0, found_all n rs a.0 ge a.1, a.2) | inr b ↦ absurd (found_none ls b.0 b.1) ]) h

  -- with the item of one more link
  abbrev Half : List Ref → List Link → ℕ → Link → Place → Type 0
  Half rs ls n l p = Below rs ls n p ⊎ (blurred_item set l ≡ Some p)

  pub links_more : (rs : List Ref) (ls : List Link) (n : ℕ) (l : Link) (best : Option Place) → n < length ls → l ≡ get_or ls n l
      → IsLeastOrNone (Below rs ls n) best
      → IsLeastOrNone (Below rs ls (n + 1)) (earlier_of (earlier_of best (blurred_item set l)) (behind_in set l.source))
  links_more rs ls n l best w is h =
      let half : IsLeastOrNone (Half rs ls n l) (earlier_of best (blurred_item set l)) =
      option_more (Below rs ls n) (Half rs ls n l) best (blurred_item set l) (λ q k. inl k) (λ q e. inr e) (λ q k. k) h in
      option_more (Half rs ls n l) (Below rs ls (n + 1)) (earlier_of best (blurred_item set l)) (behind_in set l.source)
      (λ q k. elim k [ inl a ↦ up q a | inr e ↦ inr (l, found_last n ls l is, inl e) ])
      (λ q e. inr (l, found_last n ls l is, inr e)) split half
    where
      up : (q : Place) → Below rs ls n q → Below rs ls (n + 1) q
      up q (inl a) = inl a
      up q (inr b) = inr (b.0, found_more n ls b.0 b.1, b.2)

      last : (q : Place) (k : Link) → k ≡ l → (blurred_item set k ≡ Some q) ⊎ (behind_in set k.source ≡ Some q)
          → Half rs ls n l q ⊎ (behind_in set l.source ≡ Some q)
      last q k e (inl a) = inl (inr (ap (blurred_item set) (sym e) ∙ a))
      last q k e (inr a) = inr (ap (λ (x : Link). behind_in set x.source) (sym e) ∙ a)

      found : (q : Place) (b : LinkBelow ls (n + 1) q) → FoundBelow n ls b.0 ⊎ (b.0 ≡ l) → Half rs ls n l q ⊎ (behind_in set l.source ≡ Some q)
      found q b (inl f) = inl (inl (inr (b.0, f, b.2)))
      found q b (inr e) = last q b.0 e b.2

      split : (q : Place) → Below rs ls (n + 1) q → Half rs ls n l q ⊎ (behind_in set l.source ≡ Some q)
      split q (inl a) = inl (inl (inl a))
      split q (inr b) = found q b (found_split n ls b.0 l w is b.1)

  pub links_end : (rs : List Ref) (ls : List Link) (n : ℕ) (best : Option Place) → n ≤ length ls → length ls ≤ n → IsLeastOrNone (Below rs ls n) best
      → IsLeastOrNone (λ p. BlursRef set rs p ⊎ BlursLink set ls p) best
  links_end rs ls n best le ge h =
      least_same (Below rs ls n) (λ p. BlursRef set rs p ⊎ BlursLink set ls p) best
      (λ q k. elim k [ inl a ↦ inl a | inr b ↦ inr (b.0, found_within n ls b.0 le b.1, b.2) ])
      (λ q k. elim k [ inl a ↦ inl a | inr b ↦ inr (b.0, found_all n ls b.0 ge b.1, b.2) ]) h

  -- the same of the item at a position
  pub ref_step : (rs : List Ref) (n : ℕ) (d : Ref) (best new : Option Place) → n < length rs → new ≡ earlier_of best (blurred_ref set (get_or rs n d))
      → IsLeastOrNone (RefBelow rs n) best → IsLeastOrNone (RefBelow rs (n + 1)) new
  ref_step rs n d best new w e h =
      subst (IsLeastOrNone (RefBelow rs (n + 1))) (sym e) (refs_more rs n (get_or rs n d) best w (get_or_default rs n d (get_or rs n d) w) h)

  pub link_step : (rs : List Ref) (ls : List Link) (n : ℕ) (d : Link) (best new : Option Place) → n < length ls
      → new ≡ earlier_of (earlier_of best (blurred_item set (get_or ls n d))) (behind_in set (get_or ls n d).source)
      → IsLeastOrNone (Below rs ls n) best → IsLeastOrNone (Below rs ls (n + 1)) new
  link_step rs ls n d best new w e h =
      subst (IsLeastOrNone (Below rs ls (n + 1))) (sym e) (links_more rs ls n (get_or ls n d) best w (get_or_default ls n d (get_or ls n d) w) h)
