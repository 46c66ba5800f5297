-- A dotted path, step by step.
use Rattle.std.proofs.Common.{◌≡◌, ◌<◌, List, [], ◌∷◌, length, Option, None, refl, ap, sym, ◌∙◌, arith}
use Rattle.shape_core.specs.Shape.{Name, Shape, Opaque, Entries, none, or_else, or_value, find_mod, find_mty, entries_in}
use Rattle.rename_model.specs.Target.{dotted}

-- a path in nothing names nothing
pub nothing_in : (path : List Name) → dotted none path ≡ None
nothing_in [] = refl
nothing_in (x ∷ []) = refl
nothing_in (X ∷ (Y ∷ path)) = nothing_in (Y ∷ path)

-- a step that ends nowhere
nowhere : (es : Entries) (X Y : Name) (path : List Name) (s : Option Shape) → or_else (find_mod es X) (find_mty es X) ≡ s → s ≡ None
    → dotted es (X ∷ (Y ∷ path)) ≡ None
nowhere es X Y path s e n = ap (λ o. dotted (entries_in (or_value o Opaque)) (Y ∷ path)) (e ∙ n) ∙ nothing_in (Y ∷ path)

pub ends_nowhere : (es : Entries) (X : Name) (rest : List Name) (s : Option Shape) → 0 < length rest → s ≡ or_else (find_mod es X) (find_mty es X)
    → s ≡ None → None ≡ dotted es (X ∷ rest)
ends_nowhere es X [] s w e n = absurd (omega arith)
ends_nowhere es X (Y ∷ rest) s w e n = sym (nowhere es X Y rest s (sym e) n)
