-- Files that were read are sound, and parts of numbered words are numbered.
use Rattle.std.proofs.Common.{◌≡◌, ℕ, zero, suc, ◌+◌, List, [], ◌∷◌, ◌++◌, All, length, refl, ap, sym, subst, ◌∙◌, arith}
use Rattle.rotor_base.specs.declared.token.Class.{Class}
use Rattle.ml_lexer.specs.Lexed.{Lexeme}
use Rattle.ml_lexer.proofs.Order.{lexemes_are_few}
use Rattle.ml_trees.specs.Tok.{Tok, tok, toks_from}
use Rattle.value_sites.specs.Sound.{IsLexeme, AreNumbered}
use Rattle.ml_syntax.specs.RespelledFile.{lexeme_toks, ReadFilesAreSound, PartsAreNumbered}
use Rattle.ml_syntax.proofs.RespelledNames.{lexemes_are_numbered}

as_many : (at : ℕ) (xs : List Lexeme) → length (lexeme_toks at xs) ≡ length xs
as_many at [] = refl
as_many at (x ∷ xs) = ap suc (as_many (suc at) xs)

pub read_files_are_sound : ReadFilesAreSound
read_files_are_sound t bytes xs short wf cut same =
    let few = lexemes_are_few bytes xs cut in
    let size = sym (ap length same) ∙ as_many 1 xs in
    (wf, subst (AreNumbered 1) same (lexemes_are_numbered bytes xs cut), omega (arith, short, few, size))

head_same : (a b : Tok) (u v : List Tok) → a ∷ u ≡ b ∷ v → a ≡ b
head_same a b u v e = cc

tail_same : (a b : Tok) (u v : List Tok) → a ∷ u ≡ b ∷ v → u ≡ v
tail_same a b u v e = cc

-- the tail of numbered lexemes
later : (x : Class × List ℕ) (xs : List (Class × List ℕ)) → All IsLexeme (x ∷ xs) → All IsLexeme xs
later x xs all k d less = all (suc k) d (omega (arith, less))

sooner : (x : Class × List ℕ) (xs : List (Class × List ℕ)) → IsLexeme x → All IsLexeme xs → All IsLexeme (x ∷ xs)
sooner x xs one all zero d less = one
sooner x xs one all (suc k) d less = all k d (omega (arith, less))

none : All IsLexeme []
none k d less = absurd (omega (arith, less))

record Parts (at : ℕ) (ts us : List Tok) : Type 0 where
  left : AreNumbered at ts
  right : AreNumbered (at + length ts) us

split : (at : ℕ) (ts us : List Tok) (xs : List (Class × List ℕ)) → ts ++ us ≡ toks_from at xs → All IsLexeme xs → Parts at ts us
split at [] us xs e all = let same : at + 0 ≡ at = omega arith in
    record { left = ([], refl, none); right = subst (λ n. AreNumbered n us) (sym same) (xs, e, all) }
split at (t ∷ ts) us [] e all = cc
split at (t ∷ ts) us (x ∷ xs) e all =
    let r = split (suc at) ts us xs (tail_same t (tok x.0 at x.1) (ts ++ us) (toks_from (suc at) xs) e) (later x xs all) in
    let here = head_same t (tok x.0 at x.1) (ts ++ us) (toks_from (suc at) xs) e in
    let one : IsLexeme x = all zero x (omega arith) in
    let same : suc at + length ts ≡ at + suc (length ts) = omega arith in
    record {
      left = (x ∷ r.left.0, ap (λ v. v ∷ ts) here ∙ ap (λ (v : List Tok). tok x.0 at x.1 ∷ v) r.left.1, sooner x r.left.0 one r.left.2);
      right = subst (λ n. AreNumbered n us) same r.right;
    }

pub parts_are_numbered : PartsAreNumbered
parts_are_numbered at ts us h = let r = split at ts us h.0 h.1 h.2 in (r.left, r.right)
