-- Where two lists part.
use Rattle.std.proofs.Common.{◌≡◌, ◌≢◌, ℕ, ◌+◌, ◌<◌, ◌≤◌, List, [], ◌∷◌, ◌++◌, Some, None, map, take, length, get_or, ap, sym, subst, ◌∙◌, arith}
use Rattle.std.proofs.lemmas.List.{get_or-map, length-map, take_more}
use Rattle.std.proofs.lemmas.Option.{slice_get-get_or, slice_get_past}
use Rattle.std.proofs.lemmas.Grind.{common_steps}
use Rattle.rename_verify.specs.Differ.{PartAt}
use Rattle.rotor_base.proofs.Rising.{some_is}

pub same_more : {A : Type 0} (xs ys : List A) (n : ℕ) (d e : A) → n < length xs → n < length ys → get_or xs n d ≡ get_or ys n e
    → take n xs ≡ take n ys → take (n + 1) xs ≡ take (n + 1) ys
same_more xs ys n d e v w x h = take_more xs n d v
    ∙ (ap (λ l. l ++ get_or xs n d ∷ []) h ∙ (ap (λ y. take n ys ++ y ∷ []) x ∙ sym (take_more ys n e w)))

pub parts_here : (xs ys : List ℕ) (n d e : ℕ) → n < length xs → n < length ys → get_or xs n d ≢ get_or ys n e → take n xs ≡ take n ys → PartAt xs ys n
parts_here xs ys n d e v w x h = record {
  same = h;
  other = λ k. x (some_is (get_or xs n d) (get_or ys n e) (sym (slice_get-get_or xs n d v) ∙ (k ∙ slice_get-get_or ys n e w)));
}

pub same_whole : {A : Type 0} (xs ys : List A) (n : ℕ) → length xs ≤ n → length ys ≤ n → take n xs ≡ take n ys → xs ≡ ys
same_whole xs ys n v w h = grind (arith, common_steps)

pub parts_ended : (xs ys : List ℕ) (n : ℕ) → n < length xs → length ys ≤ n → take n xs ≡ take n ys → PartAt xs ys n
parts_ended xs ys n v w h = record {
  same = h;
  other = λ k. let wrong : Some (get_or xs n 0) ≡ None = sym (slice_get-get_or xs n 0 v) ∙ (k ∙ slice_get_past ys n w) in cc;
}

pub parts_begun : (xs ys : List ℕ) (n : ℕ) → length xs ≤ n → n < length ys → take n xs ≡ take n ys → PartAt xs ys n
parts_begun xs ys n v w h = record {
  same = h;
  other = λ k. let wrong : Some (get_or ys n 0) ≡ None = sym (slice_get-get_or ys n 0 w) ∙ (sym k ∙ slice_get_past xs n v) in cc;
}

pub mapped_more : {A B C : Type 0} (f : A → C) (g : B → C) (xs : List A) (ys : List B) (n : ℕ) (d : A) (e : B) → n < length xs → n < length ys
    → f (get_or xs n d) ≡ g (get_or ys n e)
    → take n (map f xs) ≡ take n (map g ys) → take (n + 1) (map f xs) ≡ take (n + 1) (map g ys)
mapped_more f g xs ys n d e v w x h =
    let a : n < length (map f xs) = subst (λ m. n < m) (sym (length-map xs f)) v in
    let b : n < length (map g ys) = subst (λ m. n < m) (sym (length-map ys g)) w in
    same_more (map f xs) (map g ys) n (f d) (g e) a b (get_or-map f xs n d (f d) v ∙ (x ∙ sym (get_or-map g ys n e (g e) w))) h
