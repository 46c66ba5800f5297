-- The byte at a line and a column, byte by byte.
use Rattle.std.proofs.Common.{◌≡◌, ℕ, suc, ◌+◌, ◌==◌, List, [], ◌∷◌, Bool, true, false, cond, Option, Some, None, option_map, drop, refl, ap, sym}
use Rattle.std.proofs.Common.{◌∙◌, arith}
use Rattle.rename_model.specs.Target.{TextSpot, behind, is_spot, offset_from}
use Rattle.rename_parts.proofs.Searches.{counted, counted_on}

pass_at : (spot here : TextSpot) (b : ℕ) (bs : List ℕ) (n : ℕ) → is_spot here spot ≡ false
    → counted n (offset_from spot here (b ∷ bs)) ≡ counted (n + 1) (offset_from spot (behind here b) bs)
pass_at spot here b bs n e =
    ap (λ t. counted n (cond t (cond (b == 10) None (Some 0)) (option_map suc (offset_from spot (behind here b) bs)))) e
    ∙ counted_on n (offset_from spot (behind here b) bs)

stop_at : (spot here : TextSpot) (b : ℕ) (bs : List ℕ) (n : ℕ) → is_spot here spot ≡ true
    → counted n (offset_from spot here (b ∷ bs)) ≡ cond (b == 10) None (Some n)
stop_at spot here b bs n e = ap (λ t. counted n (cond t (cond (b == 10) None (Some 0)) (option_map suc (offset_from spot (behind here b) bs)))) e
    ∙ by (b == 10) where
      by : (t : Bool) → counted n (cond t None (Some 0)) ≡ cond t None (Some n)
      by true = refl
      by false = ap Some (omega arith)

pub spot_pass : (spot here next : TextSpot) (bytes : List ℕ) (i : ℕ) (b : ℕ) (o : Option ℕ) → drop i bytes ≡ b ∷ drop (i + 1) bytes
    → is_spot here spot ≡ false → behind here b ≡ next
    → counted i (offset_from spot here (drop i bytes)) ≡ o → counted (i + 1) (offset_from spot next (drop (i + 1) bytes)) ≡ o
spot_pass spot here next bytes i b o d e f h =
    sym (ap (λ s. counted (i + 1) (offset_from spot s (drop (i + 1) bytes))) f)
    ∙ (sym (pass_at spot here b (drop (i + 1) bytes) i e) ∙ (sym (ap (λ ys. counted i (offset_from spot here ys)) d) ∙ h))

pub spot_stop : (spot here : TextSpot) (bytes : List ℕ) (i : ℕ) (b : ℕ) (o : Option ℕ) → drop i bytes ≡ b ∷ drop (i + 1) bytes
    → is_spot here spot ≡ true
    → counted i (offset_from spot here (drop i bytes)) ≡ o → cond (b == 10) None (Some i) ≡ o
spot_stop spot here bytes i b o d e h = sym (stop_at spot here b (drop (i + 1) bytes) i e)
    ∙ (sym (ap (λ ys. counted i (offset_from spot here ys)) d) ∙ h)

pub spot_end : (spot here : TextSpot) (bytes : List ℕ) (i : ℕ) (o : Option ℕ) → drop i bytes ≡ []
    → counted i (offset_from spot here (drop i bytes)) ≡ o → None ≡ o
spot_end spot here bytes i o d h = sym (ap (λ ys. counted i (offset_from spot here ys)) d) ∙ h
