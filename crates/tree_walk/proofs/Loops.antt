-- A walk over the items of a list, one after another: what each makes of a state, and what is left.
use Rattle.std.proofs.Common.{◌≡◌, ◌∙◌, ◌<◌, ◌≤◌, ◌+◌, ℕ, List, [], ◌∷◌, sym, ap, drop, length, get_or, Result, Ok, Err, OnOk}
use Rattle.std.proofs.lemmas.List.{drop_more, drop_all}

-- one item further
pub goes_further : {A B S : Type 0} (told : S → B → S) (views : List A → B) (list : List A) (i : ℕ) (x : A) (z z' start : S)
    → i < length list → x ≡ get_or list i x → ((xs : List A) → told z (views (x ∷ xs)) ≡ told z' (views xs))
    → told z (views (drop i list)) ≡ told start (views list) → told z' (views (drop (i + 1) list)) ≡ told start (views list)
goes_further told views list i x z z' start lt is more h =
    sym (more (drop (i + 1) list)) ∙ ap (λ (y : _). told z (views (y ∷ drop (i + 1) list))) is
    ∙ sym (ap (λ l. told z (views l)) (drop_more list i x lt)) ∙ h

-- at the end nothing is left
pub is_whole : {A B S : Type 0} (told : S → B → S) (views : List A → B) (list : List A) (i : ℕ) (z start : S)
    → length list ≤ i → told z (views []) ≡ z → told z (views (drop i list)) ≡ told start (views list) → z ≡ told start (views list)
is_whole told views list i z start le end h = sym end ∙ sym (ap (λ l. told z (views l)) (drop_all i list le)) ∙ h

-- the same where more follows the list
pub all_gone : {A B S : Type 0} (told : S → B → S) (views : List A → B) (list : List A) (i : ℕ) (z start : S)
    → length list ≤ i → told z (views (drop i list)) ≡ told start (views list) → told z (views []) ≡ told start (views list)
all_gone told views list i z start le h = sym (ap (λ l. told z (views l)) (drop_all i list le)) ∙ h

pub on_ok : {V E A B : Type 0} (r : Result V E) → (A → B) → OnOk r A → OnOk r B
on_ok (Ok x) f h = f h
on_ok (Err e) f h = h
