-- The new sources, one after the other.
use Rattle.std.proofs.Common.{◌≡◌, ℕ, suc, ◌+◌, ◌<◌, List, [], ◌∷◌, ◌++◌, take, length, get_or, ap, sym, ◌∙◌, subst, arith}
use Rattle.std.proofs.lemmas.List.{take_more}
use Rattle.std.proofs.lemmas.Grind.{common_steps}
use Rattle.std.specs.BTreeSet.{BTreeSet}
use Rattle.rotor_base.specs.declared.place.Place.{Place}
use Rattle.rotor_base.specs.declared.source.SourceFile.{SourceFile}
use Rattle.rename_parts.specs.Sources.{IsMade, AreMade}

-- one more
made_push : (set : BTreeSet Place) (new : List ℕ) (k m : ℕ) (front outs : List SourceFile) (x out : SourceFile) → m ≡ k + length front
    → AreMade set new k front outs → IsMade set new m x out → AreMade set new k (front ++ x ∷ []) (outs ++ out ∷ [])
made_push set new k m [] [] x out e h i = (subst (λ n. IsMade set new n x out) (let z : m ≡ k = omega (arith, e) in z) i, tt)
made_push set new k m [] (o ∷ outs) x out e h i = absurd h
made_push set new k m (a ∷ front) [] x out e h i = absurd h
made_push set new k m (a ∷ front) (o ∷ outs) x out e h i = (h.0, made_push set new (suc k) m front outs x out (omega (arith, e)) h.1 i)

pub made_more : (set : BTreeSet Place) (new : List ℕ) (xs : List SourceFile) (n : ℕ) (d : SourceFile) (outs all : List SourceFile) (out : SourceFile)
    → n < length xs → d ≡ get_or xs n d → AreMade set new 0 (take n xs) outs → IsMade set new n d out
    → all ≡ outs ++ out ∷ [] → AreMade set new 0 (take (n + 1) xs) all
made_more set new xs n d outs all out w is h i a =
    let long : n ≡ 0 + length (take n xs) = grind (arith, common_steps) in
    let more : take (n + 1) xs ≡ take n xs ++ d ∷ [] = take_more xs n d w ∙ ap (λ y. take n xs ++ y ∷ []) (sym is) in
    subst (λ l. AreMade set new 0 l all) (sym more)
    (subst (AreMade set new 0 (take n xs ++ d ∷ [])) (sym a) (made_push set new 0 n (take n xs) outs d out long h i))
