-- Respelled tokens nest as the tokens do.
use Rattle.std.proofs.Common.{◌≡◌, ℕ, zero, suc, ◌<◌, ◌≤◌, List, [], ◌∷◌, map, Option, Some, None, length, refl, ap, sym, subst, ◌∙◌}
use Rattle.rotor_base.specs.declared.token.Class.TheVariants as class
use Rattle.rotor_base.specs.declared.token.Token.{Token}
use Rattle.ml_trees.specs.Tok.{Tok, fixed, placed, word}
use Rattle.value_sites.specs.Respelled.{Spelling, spell_tok}
use Rattle.token_reading.specs.Tokens.{from}
use Rattle.parse_base.specs.Nesting.{role_of, first_role, role_at, role_before, after, marks, nesting, DeepIs}
use Rattle.respelled_tokens.specs.Kept.{AreRespelled, NestingIsKept}

module _ (w : Spelling) where
  role_kept : (t : Tok) → role_of (spell_tok w t) ≡ role_of t
  role_kept (fixed x) = refl
  role_kept (placed x at) = refl
  role_kept (word class.Lower x) = refl
  role_kept (word _ x) = refl

  first_kept : (ts : List Tok) → first_role (map (spell_tok w) ts) ≡ first_role ts
  first_kept [] = refl
  first_kept (t ∷ ts) = role_kept t

  module _ (ts us : List Token) (h : AreRespelled w ts us) where
    at_kept : (at : ℕ) → role_at us at ≡ role_at ts at
    at_kept at = ap first_role (h.same at) ∙ first_kept (from ts at)

    before_kept : (at : ℕ) → role_before us at ≡ role_before ts at
    before_kept zero = refl
    before_kept (suc at) = at_kept at

    marks_kept : (n : ℕ) → marks us n ≡ marks ts n
    unfolding marks
    marks_kept zero = refl
    marks_kept (suc n) =
        ap (λ r. after r (role_at us n) (role_at us (suc n)) (marks us n)) (before_kept n)
        ∙ ap (λ r. after (role_before ts n) r (role_at us (suc n)) (marks us n)) (at_kept n)
        ∙ ap (λ r. after (role_before ts n) (role_at ts n) r (marks us n)) (at_kept (suc n))
        ∙ ap (after (role_before ts n) (role_at ts n) (role_at ts (suc n))) (marks_kept n)

    nesting_kept : (n : ℕ) → nesting us n ≡ nesting ts n
    nesting_kept n = ap length (marks_kept n)

    deep_kept : (deep : Option ℕ) → DeepIs ts deep → DeepIs us deep
    deep_kept None d = λ k le. subst (λ n. n ≤ 256) (sym (nesting_kept k)) (d k (subst (λ n. k ≤ n) h.many le))
    deep_kept (Some n) d = record {
      there = subst (λ m. n ≤ m) (sym h.many) d.there;
      over = subst (λ m. 256 < m) (sym (nesting_kept n)) d.over;
      first = λ k less. subst (λ m. m ≤ 256) (sym (nesting_kept k)) (d.first k less);
    }

pub nesting_is_kept : NestingIsKept
nesting_is_kept w ts us deep h d = deep_kept w ts us h deep d
