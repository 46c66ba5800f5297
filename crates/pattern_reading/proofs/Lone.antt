-- A chain with a further part is a chain, and one without is its first part.
use Rattle.std.proofs.Common.{◌≡◌, ◌<◌, List, [], ◌∷◌, length, map, cond, Option, None, refl, ap, arith}
use Rattle.ml_trees.specs.declared.word.Word.{Word}
use Rattle.ml_trees.specs.declared.word.ValueName.{ValueName}
use Rattle.ml_trees.specs.declared.pattern.Pat.{Pat}
use Rattle.ml_trees.specs.declared.pattern.Pat.TheVariants as pat_v
use Rattle.ml_trees.specs.declared.pattern.Pat.TheBlock as pat_b
use Rattle.ml_trees.specs.declared.pattern.PatField.{PatField}
use Rattle.ml_trees.specs.declared.word.Path.{Path}
use Rattle.ml_trees.specs.Tok.{Tok}
use Rattle.ml_trees.specs.Tree as pure
use Rattle.ml_trees.specs.View.{view_names, view_pat, view_pat_field, pats, pat_fields}
use Rattle.token_reading.specs.PatReading.{grown_as, grown_or, grown_tuple, grown_cons, applied_to, can_apply}
use Rattle.token_reading.proofs.Turns.{before}

-- ---- what a loop found, as a row

pub pats_before : (xs : List Pat) → before pure.more_pat (map view_pat xs) pure.no_pat ≡ pats xs
pats_before [] = refl
pats_before (x ∷ xs) = ap (pure.more_pat (view_pat x)) (pats_before xs)

pub pat_fields_before : (xs : List PatField) → before pure.more_pat_field (map view_pat_field xs) pure.no_pat_field ≡ pat_fields xs
pat_fields_before [] = refl
pat_fields_before (x ∷ xs) = ap (pure.more_pat_field (view_pat_field x)) (pat_fields_before xs)

-- ---- chains

pub as_more : (p : pure.Pat) (xs : List ValueName) → 0 < length xs → grown_as p (view_names xs) ≡ pure.AsPat p (view_names xs)
as_more p [] h = absurd (omega arith)
as_more p (x ∷ xs) h = refl

pub as_none : (p : pure.Pat) (xs : List ValueName) → length xs ≡ 0 → grown_as p (view_names xs) ≡ p
as_none p [] h = refl
as_none p (x ∷ xs) h = absurd (omega arith)

pub or_more : (p : pure.Pat) (xs : List Pat) → 0 < length xs → grown_or p (pats xs) ≡ pure.OrPat p (pats xs)
or_more p [] h = absurd (omega arith)
or_more p (x ∷ xs) h = refl

pub or_none : (p : pure.Pat) (xs : List Pat) → length xs ≡ 0 → grown_or p (pats xs) ≡ p
or_none p [] h = refl
or_none p (x ∷ xs) h = absurd (omega arith)

pub tuple_more : (p : pure.Pat) (xs : List Pat) → 0 < length xs → grown_tuple p (pats xs) ≡ pure.TuplePat p (pats xs)
tuple_more p [] h = absurd (omega arith)
tuple_more p (x ∷ xs) h = refl

pub tuple_none : (p : pure.Pat) (xs : List Pat) → length xs ≡ 0 → grown_tuple p (pats xs) ≡ p
tuple_none p [] h = refl
tuple_none p (x ∷ xs) h = absurd (omega arith)

pub cons_more : (p : pure.Pat) (xs : List Pat) → 0 < length xs → grown_cons p (pats xs) ≡ pure.ConsPat p (pats xs)
cons_more p [] h = absurd (omega arith)
cons_more p (x ∷ xs) h = refl

pub cons_none : (p : pure.Pat) (xs : List Pat) → length xs ≡ 0 → grown_cons p (pats xs) ≡ p
cons_none p [] h = refl
cons_none p (x ∷ xs) h = absurd (omega arith)

pub ruleset grown = (as_more, as_none, or_more, or_none, tuple_more, tuple_none, cons_more, cons_none)

-- a pattern that is neither a constructor nor a tag is applied to nothing
pub applied_other : (p : Pat) (ts : List Tok) (o : Option (pure.Pat × List Tok)) → ((x : Path) → p ≡ pat_v.Constr x → ⊥)
    → ((x : Word) → p ≡ pat_v.Tag x → ⊥) → applied_to (view_pat p) ts (cond (can_apply (view_pat p)) o None) ≡ (view_pat p, ts)
unfolding view_pat
applied_other (pat_b.Constr path) ts o h k = absurd (h path refl)
applied_other (pat_b.Tag w) ts o h k = absurd (k w refl)
applied_other _ ts o h k = refl
