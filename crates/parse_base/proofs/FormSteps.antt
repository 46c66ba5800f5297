-- The scan of the refused forms, one token further.
use Rattle.std.proofs.Common.{◌≡◌, ℕ, zero, suc, ◌+◌, ◌-◌, ◌<◌, List, [], ◌∷◌, length, take, drop, Option, None, refl, sym, ap, ◌∙◌, arith}
use Rattle.std.proofs.lemmas.List.{take_all, length-drop}
use Rattle.rotor_base.specs.declared.token.Token.{Token}
use Rattle.rotor_base.specs.declared.token.FormKind.{FormKind}
use Rattle.parse_base.specs.Forms.{form_here, first_form}

pub form_passed : (n : ℕ) (ts : List Token) (at : ℕ) → at < length ts → form_here (drop at ts) ≡ None
    → first_form n (drop at ts) ≡ first_form (suc n) (drop (suc at) ts)
form_passed n [] at lt h = absurd (omega (arith, lt))
form_passed n (t ∷ ts) zero lt h = rw h refl
form_passed n (t ∷ ts) (suc at) lt h = form_passed n ts at (omega (arith, lt)) h

-- the tokens from one on, up to the end
rest_is : (ts : List Token) (at : ℕ) → take (length ts - at) (drop at ts) ≡ drop at ts
rest_is ts at = take_all (length ts - at) (drop at ts) (omega (arith, length-drop at ts))

pub no_form_there : (ts : List Token) (at : ℕ) → None ≡ form_here (take (length ts - at) (drop at ts)) → form_here (drop at ts) ≡ None
no_form_there ts at h = sym (h ∙ ap form_here (rest_is ts at))

pub form_next : (n : ℕ) (ts : List Token) (at : ℕ) (x : Option (ℕ × FormKind)) → at < length ts → form_here (drop at ts) ≡ None
    → first_form n (drop at ts) ≡ x → first_form (n + 1) (drop (at + 1) ts) ≡ x
form_next n ts at x lt h e =
    let p : suc n ≡ n + 1 = omega arith in
    let q : suc at ≡ at + 1 = omega arith in
    sym (ap (λ k. first_form k (drop (at + 1) ts)) p) ∙ sym (ap (λ k. first_form (suc n) (drop k ts)) q) ∙ sym (form_passed n ts at lt h) ∙ e
