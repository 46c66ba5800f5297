-- Words that a respelling keeps.
use Rattle.std.proofs.Common.{◌≡◌, List, [], ◌∷◌, ◌++◌, Bool, ◌||◌, IsTrue, map, refl, sym, ap, ◌∙◌, codes}
use Rattle.rotor_base.specs.declared.token.Class.{Class}
use Rattle.rotor_base.specs.declared.token.Class.TheVariants as class
use Rattle.ml_trees.specs.declared.fixed.Fixed.TheVariants as key
use Rattle.ml_trees.specs.Tok.{Name, Tok, placed, word}
use Rattle.value_sites.specs.Places.{Site, operated, operator_sites}
use Rattle.value_sites.specs.Respelled.{Spelling, spelled, spell_tok}
use Rattle.value_sites.specs.Each.{Each}
use Rattle.value_sites.specs.SpelledSites.{IsKept, spell_site}
use Rattle.value_sites.proofs.Sited.{back}

pub map-both : {A B : Type 0} (s : A → B) (a b : List A) → map s a ++ map s b ≡ map s (a ++ b)
map-both s [] b = refl
map-both s (x ∷ a) b = ap (λ l. s x ∷ l) (map-both s a b)

module _ (v : Spelling) where
  spelled_kept : (c : Class) (x : Name) → v x.at x.text ≡ x.text → spelled v c x ≡ x
  spelled_kept class.Lower x k = ap (λ t. record { at = x.at; text = t }) k
  spelled_kept c x k = refl

  -- a word that is kept
  pub one_kept : (x : Site) (found : List Site) → Each (IsKept v) (found ++ x ∷ []) → IsTrue (x.pun || x.operator)
      → map (spell_site v) (x ∷ []) ≡ x ∷ []
  one_kept x found h k =
      ap (λ t. record { binds = x.binds; at = x.at; name = t; pun = x.pun; operator = x.operator } ∷ []) ((back (IsKept v) found (x ∷ []) h).0 k)

  pub operator-spell : (b : Bool) (t : Tok) (found : List Site) → Each (IsKept v) (operator_sites found b t)
      → operator_sites [] b (spell_tok v t) ≡ map (spell_site v) (operator_sites [] b t)
  operator-spell b (placed key.Equals at) found h = sym (one_kept (operated b at (codes "=")) found h refl)
  operator-spell b (word c x) found h =
      ap (λ y. operated b y.at y.text ∷ []) (spelled_kept c x ((back (IsKept v) found (operated b x.at x.text ∷ []) h).0 refl))
      ∙ sym (one_kept (operated b x.at x.text) found h refl)
  operator-spell b _ found h = refl
