-- Name tables after a change at one name.
use Rattle.std.proofs.Common.{◌≡◌, ℕ, Bool, true, false, List, Option, Ordering, refl, sym, ap, ◌∙◌, true≢false}
use Rattle.std.proofs.lemmas.Slice.Eq.{bytes_eq-Decides}
use Rattle.std.proofs.lemmas.Map.Text.{is_eq-slice_cmp}
use Rattle.std.specs.Prelude.{bytes_eq, if◌then◌else◌}
use Rattle.std.specs.BTreeMap.{BTreeMap, UpdatesBy, get_by, is_at}
use Rattle.std.specs.Cmp.Lexicographic.{slice_cmp, nat_list_cmp_total}
use Rattle.std.specs.Cmp.{eq_by_cmp_equiv}
use Rattle.std.specs.Global.{Vec}
use Rattle.std.specs.Map.{KeepsOthers}
use Rattle.std.specs.Ordering.{nat_cmp}

abbrev Cmp : Vec ℕ → Vec ℕ → Ordering
Cmp a b = slice_cmp nat_cmp a.items b.items

-- how a name compares to a key
abbrev Compare : List ℕ → Vec ℕ → Ordering
Compare x k = slice_cmp nat_cmp x k.items

apart : (bs cs : List ℕ) → bytes_eq bs cs ≡ false → (k : Vec ℕ) → is_at (Compare bs) k ≡ true → is_at (Compare cs) k ≡ false
apart bs cs e k h = go (bytes_eq cs k.items) refl
  where
    go : (b : Bool) → bytes_eq cs k.items ≡ b → is_at (Compare cs) k ≡ false
    go false f = is_eq-slice_cmp cs k.items ∙ f
    go true f =
        let found : bytes_eq bs k.items ≡ true = sym (is_eq-slice_cmp bs k.items) ∙ h in
        let same : bs ≡ cs = (bytes_eq-Decides bs k.items).0 found ∙ sym ((bytes_eq-Decides cs k.items).0 f) in
        absurd (true≢false (sym ((bytes_eq-Decides bs cs).1 same) ∙ e))

pub updated : {V : Type 0} (m n : BTreeMap (Vec ℕ) V) (bs : List ℕ) (w : Option V) → UpdatesBy Cmp (Compare bs) m n w → (x : List ℕ)
    → get_by (Compare x) n ≡ (if bytes_eq bs x then w else get_by (Compare x) m)
unfolding KeepsOthers
updated m n bs w h x = go (bytes_eq bs x) refl
  where
    go : (b : Bool) → bytes_eq bs x ≡ b → get_by (Compare x) n ≡ (if b then w else get_by (Compare x) m)
    go true e = ap (λ z. get_by (Compare z) n) (sym ((bytes_eq-Decides bs x).0 e)) ∙ h.1
    go false e = h.3 (is_at (Compare x)) (λ a b. (eq_by_cmp_equiv nat_list_cmp_total).congr x a.items b.items) (apart bs x e)
