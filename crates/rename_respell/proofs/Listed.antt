-- The bytes of the sources, one after the other.
use Rattle.std.proofs.Common.{◌≡◌, ℕ, suc, ◌+◌, ◌<◌, List, [], ◌∷◌, ◌++◌, take, length, get_or, map, refl, ap, sym, ◌∙◌, subst, arith}
use Rattle.std.proofs.lemmas.List.{take_more}
use Rattle.std.proofs.lemmas.Grind.{common_steps}
use Rattle.std.specs.Global.{Vec}
use Rattle.rotor_base.specs.declared.source.SourceFile.{SourceFile}
use Rattle.rotor_base.specs.declared.token.Token.{Token}
use Rattle.ml_lexer.specs.Lexed.{Lexeme, Lexed, view_tokens}
use Rattle.project_reading.specs.Sources.{AreCut}
use Rattle.rename_project.proofs.Cuts.{lexed_at}
use Rattle.shape_core.specs.Respell.{Words}
use Rattle.rename_respell.specs.Respelled.{IsRespelledBytes, AreRespelledBytes}

abbrev pub view : Vec Token → List Lexeme
view list = view_tokens list.items

-- the tokens of a source cut it
pub cut_of : (ss : List SourceFile) (ls : List (Vec Token)) (n : ℕ) (s : SourceFile) (t : Vec Token) (bytes : List ℕ) (ts : List Token)
    → AreCut ss (map view ls) → n < length ss
    → s ≡ get_or ss n s → t ≡ get_or ls n t → bytes ≡ s.bytes → ts ≡ t.items → Lexed bytes (view_tokens ts)
cut_of ss ls n s t bytes ts cut less is_s is_t is_bytes is_ts =
    let whole : Lexed (get_or ss n s).bytes (view (get_or ls n t)) = lexed_at view ss ls cut n s t less in
    subst (λ (xs : List Token). Lexed bytes (view_tokens xs)) (sym (is_ts ∙ ap (λ (l : Vec Token). l.items) is_t))
    (subst (λ (b : List ℕ). Lexed b (view (get_or ls n t))) (sym (is_bytes ∙ ap (λ (f : SourceFile). f.bytes) is_s)) whole)

pub mapped_push : (xs : List (Vec ℕ)) (x : Vec ℕ) → map (λ (b : Vec ℕ). b.items) (xs ++ x ∷ []) ≡ map (λ (b : Vec ℕ). b.items) xs ++ x.items ∷ []
mapped_push [] x = refl
mapped_push (y ∷ xs) x = ap (λ l. y.items ∷ l) (mapped_push xs x)

module _ (w : Words) where
  push : (k m : ℕ) (front : List SourceFile) (outs : List (List ℕ)) (x : SourceFile) (out : List ℕ) → m ≡ k + length front
      → AreRespelledBytes w k front outs → IsRespelledBytes w m x.bytes out
      → AreRespelledBytes w k (front ++ x ∷ []) (outs ++ out ∷ [])
  push k m [] [] x out e h i = (subst (λ n. IsRespelledBytes w n x.bytes out) (let z : m ≡ k = omega (arith, e) in z) i, tt)
  push k m [] (o ∷ outs) x out e h i = absurd h
  push k m (a ∷ front) [] x out e h i = absurd h
  push k m (a ∷ front) (o ∷ outs) x out e h i = (h.0, push (suc k) m front outs x out (omega (arith, e)) h.1 i)

  -- one more
  pub bytes_more : (xs : List SourceFile) (n : ℕ) (d : SourceFile) (outs all : List (List ℕ)) (out : List ℕ) → n < length xs
      → AreRespelledBytes w 0 (take n xs) outs → IsRespelledBytes w n (get_or xs n d).bytes out
      → all ≡ outs ++ out ∷ [] → AreRespelledBytes w 0 (take (n + 1) xs) all
  bytes_more xs n d outs all out less h i a =
      let x = get_or xs n d in
      let long : n ≡ 0 + length (take n xs) = grind (arith, common_steps) in
      subst (λ l. AreRespelledBytes w 0 l all) (sym (take_more xs n d less))
      (subst (AreRespelledBytes w 0 (take n xs ++ x ∷ [])) (sym a) (push 0 n (take n xs) outs x out long h i))
