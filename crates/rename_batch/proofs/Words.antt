-- Lines whose parts are no words have no step.
use Rattle.std.proofs.Common.{◌≡◌, ◌≢◌, ◌∙◌, ℕ, ◌==◌, Bool, true, false, List, [], ◌∷◌, length, sym, subst}
use Rattle.rotor_base.specs.Spaces.{IsCut}
use Rattle.rotor_base.proofs.SpaceCuts.{one_cut}
use Rattle.rename_batch.specs.Reading.{IsNoStep, IsWord}

-- a line whose first or second part is no word has no step
pub no_first : (line front behind : List ℕ) → IsCut line front behind → (IsWord front → ⊥) → IsNoStep line
no_first line front behind h bad = λ target name w. bad (subst IsWord (sym (one_cut line front behind target name h w.split w.first.whole).0) w.first)

pub no_second : (line front behind : List ℕ) → IsCut line front behind → (IsWord behind → ⊥) → IsNoStep line
no_second line front behind h bad = λ target name w. bad (subst IsWord (sym (one_cut line front behind target name h w.split w.first.whole).1)
    w.second)

pub not_empty : (bs : List ℕ) (t : Bool) → t ≡ (length bs == 0) → t ≡ false → bs ≢ []
not_empty [] t e f = let bad : true ≡ false = sym e ∙ f in cc
not_empty (b ∷ bs) t e f = λ h. cc
