-- The last value of a name, by what the tables hold for the name.
use Rattle.std.proofs.Common.{◌≡◌, ℕ, suc, ◌-◌, Bool, true, false, length, Option, Some, None, bytes_eq, refl, ap, ◌∙◌, arith}
use Rattle.rotor_base.specs.declared.place.Goal.{Goal}
use Rattle.shape_core.specs.declared.index.Spot.{Spot}
use Rattle.shape_core.specs.Index.{last_spot, moved, one_more}
use Rattle.shape_core.specs.Looks as looks
use Rattle.shape_core.specs.Looks.{last_where, of_name, some_place}
use Rattle.shape_core.specs.Shape.{Name, Entries, none, a_val, a_mod, a_mty, a_dark, or_else, some_if, darks, decl_of}

-- what a look says of a spot, in a list with so many Dark entries
abbrev pub looked : ℕ → Option Spot → Option looks.Spot
looked n None = None
looked n (Some s) = Some (s.position, some_place (decl_of s.goal), n - s.darks)

-- one entry more in front
pub past_value : (n : ℕ) (o : Option Spot) (b : Bool) (g : Goal) → or_else (looks.moved (looked n o)) (some_if b (0, some_place (decl_of g), n))
    ≡ looked n (or_else (moved o) (some_if b (record { goal = g; position = 0; darks = 0 })))
past_value n None true g =
    let e : n ≡ n - 0 = omega arith in
    let at : ℕ → Option looks.Spot = λ m. Some (0, some_place (decl_of g), m) in ap at e
past_value n None false g = refl
past_value n (Some s) b g = refl

pub past_module : (n : ℕ) (o : Option Spot) → looks.moved (looked n o) ≡ looked n (moved o)
past_module n None = refl
past_module n (Some s) = refl

pub past_dark : (n : ℕ) (o : Option Spot) → looks.moved (looked n o) ≡ looked (suc n) (one_more o)
past_dark n None = refl
past_dark n (Some s) =
    let e : n - s.darks ≡ suc n - suc s.darks = omega arith in
    let at : ℕ → Option looks.Spot = λ m. Some (suc s.position, some_place (decl_of s.goal), m) in ap at e

pub last_looked : (x : Name) (es : Entries) → last_where (of_name x) es ≡ looked (length (darks es)) (last_spot es x)
last_looked x none = refl
last_looked x (a_val y g es) =
    ap (λ o. or_else (looks.moved o) (some_if (bytes_eq y x) (0, some_place (decl_of g), length (darks es)))) (last_looked x es)
    ∙ past_value (length (darks es)) (last_spot es x) (bytes_eq y x) g
last_looked x (a_mod X s es) = ap looks.moved (last_looked x es) ∙ past_module (length (darks es)) (last_spot es x)
last_looked x (a_mty S s es) = ap looks.moved (last_looked x es) ∙ past_module (length (darks es)) (last_spot es x)
last_looked x (a_dark at es) = ap looks.moved (last_looked x es) ∙ past_dark (length (darks es)) (last_spot es x)
