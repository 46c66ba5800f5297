-- The entries of some parts, and those of all but the last part.
use Rattle.std.proofs.Common.{◌≡◌, ℕ, zero, suc, ◌+◌, ◌-◌, ◌<◌, ◌≤◌, List, [], ◌∷◌, ◌++◌, length, take, slice_get, get_or, refl, sym, ap, ◌∙◌, ◌≢◌}
use Rattle.std.proofs.Common.{arith, append_assoc, append-nil, length-append}
use Rattle.std.specs.Prelude.{vec_len}
use Rattle.std.specs.Global.{Vec}
use Rattle.std.proofs.Math.ListN.{set}
use Rattle.std.proofs.Math.Seq.{take-append_seam, take-append-add, get_or-append_seam}
use Rattle.std.proofs.lemmas.List.{set-get_or, take_all, take_more, length-take-le, take-take, take-append-le}
use Rattle.shape_core.specs.declared.shared.SharedEntry.{SharedEntry}
use Rattle.shape_core.specs.declared.part.Part.{Part}
use Rattle.shape_core.specs.Parts.{opened_list, part_list, parts_list}
use Rattle.shape_core.proofs.Telling.{len_of}

parts_list-append : (ps qs : List Part) → parts_list (ps ++ qs) ≡ parts_list ps ++ parts_list qs
parts_list-append [] qs = refl
parts_list-append (p ∷ ps) qs =
    ap (λ l. part_list p ++ l) (parts_list-append ps qs) ∙ sym (append_assoc (part_list p) (parts_list ps) (parts_list qs))

pub split : (ps rest : List Part) (p : Part) → ps ≡ rest ++ p ∷ [] → parts_list ps ≡ parts_list rest ++ part_list p
split ps rest p h =
    ap parts_list h ∙ parts_list-append rest (p ∷ []) ∙ ap (λ l. parts_list rest ++ l) (append-nil (part_list p))

pub split_length : (ps rest : List Part) (p : Part) → ps ≡ rest ++ p ∷ [] → length (parts_list ps) ≡ length (parts_list rest) + length (part_list p)
split_length ps rest p h = ap length (split ps rest p h) ∙ length-append (parts_list rest) (part_list p)

-- the entry at a position of two lists
pub get_front : {A : Type 0} (a b : List A) (n : ℕ) → n < length a → slice_get (a ++ b) n ≡ slice_get a n
get_front [] b n h = absurd (omega arith)
get_front (x ∷ a) b zero h = refl
get_front (x ∷ a) b (suc n) h = get_front a b n (omega arith)

pub get_back : {A : Type 0} (a b : List A) (n : ℕ) → length a ≤ n → slice_get (a ++ b) n ≡ slice_get b (n - length a)
get_back [] b n h = let e : n ≡ n - 0 = omega arith in ap (slice_get b) e
get_back (x ∷ a) b zero h = absurd (omega arith)
get_back (x ∷ a) b (suc n) h =
    let e : n - length a ≡ suc n - suc (length a) = omega arith in get_back a b n (omega arith) ∙ ap (slice_get b) e

-- a part that is replaced by itself
pub set_same : (ps : List Part) (i : ℕ) (p q : Part) → q ≡ get_or ps i p → set ps i q ≡ ps
set_same ps i p q h = ap (set ps i) h ∙ set-get_or ps i p

-- the last of the first parts
pub record IsLastOf (ps : List Part) (n number : ℕ) (p : Part) : Type 0 where
  pub whole : parts_list (take n ps) ≡ parts_list (take (n - 1) ps) ++ part_list p
  pub total : number ≡ length (parts_list (take (n - 1) ps)) + length (part_list p)

pub last_of_taken : (ps : List Part) (n number : ℕ) (p : Part) → n ≢ 0 → n ≤ length ps → number ≡ length (parts_list (take n ps))
    → p ≡ get_or ps (n - 1) p → IsLastOf ps n number p
last_of_taken ps n number p some within count is =
    let next : n ≡ (n - 1) + 1 = omega (arith, some) in
    let cut : take n ps ≡ take (n - 1) ps ++ p ∷ [] =
    ap (λ k. take k ps) next ∙ take_more ps (n - 1) p (omega (arith, next, within)) ∙ ap (λ q. take (n - 1) ps ++ q ∷ []) (sym is) in
    record {
      whole = split (take n ps) (take (n - 1) ps) p cut;
      total = count ∙ split_length (take n ps) (take (n - 1) ps) p cut;
    }

-- where there are entries, there are parts
some_part : (ps : List Part) (n m : ℕ) → n ≡ length (parts_list ps) → m < n → 0 < length ps
some_part [] n m e h = absurd (omega (arith, e, h))
some_part (p ∷ ps) n m e h = omega arith

-- three lists of which the last is cut, and of which it goes
pub cut_third : (a o t : List SharedEntry) (n m number : ℕ) → number ≡ length (a ++ (o ++ t)) → m ≡ number - length t → m < n → n < number
    → a ++ (o ++ take (n - m) t) ≡ take n (a ++ (o ++ t))
cut_third a o t n m number e me mn h =
    let two : m ≡ length (a ++ o) = omega (arith, e, me, length-append a (o ++ t), length-append o t, length-append a o) in
    let long : n ≡ length (a ++ o) + (n - m) = omega (arith, two, mn) in
    sym (append_assoc a o (take (n - m) t)) ∙ sym (take-append-add (a ++ o) t (n - m)) ∙ ap (λ k. take k ((a ++ o) ++ t)) (sym long)
    ∙ ap (take n) (append_assoc a o t)

pub without_third : (a o t : List SharedEntry) (m number : ℕ) → number ≡ length (a ++ (o ++ t)) → m ≡ number - length t
    → a ++ o ≡ take m (a ++ (o ++ t))
without_third a o t m number e me =
    let two : length (a ++ o) ≡ m = omega (arith, e, me, length-append a (o ++ t), length-append o t, length-append a o) in
    sym (take-append_seam (a ++ o) t) ∙ ap (take (length (a ++ o))) (append_assoc a o t) ∙ ap (λ k. take k (a ++ (o ++ t))) two

-- the last of all parts, which have so many entries
pub record IsLast (ps : List Part) (i number : ℕ) (p : Part) : Type 0 where
  pub there : p ≡ get_or ps i p
  pub long : i + 1 ≡ length ps
  pub whole : parts_list ps ≡ parts_list (take i ps) ++ (p.own ++ opened_list p.opened)
  pub total : number ≡ length (parts_list (take i ps) ++ (p.own ++ opened_list p.opened))

pub last_of_all : (v : Vec Part) (n number len : ℕ) (p : Part) → n ≡ vec_len v → number ≡ length (parts_list v.items) → len < number
    → p ≡ get_or v.items (n - 1) p → IsLast v.items (n - 1) number p
last_of_all v n number len p count total more is =
    let ps = v.items in
    let long : (n - 1) + 1 ≡ length ps = omega (arith, count, len_of v, some_part ps number len total more) in
    let cut : ps ≡ take (n - 1) ps ++ p ∷ [] =
    sym (take_all ((n - 1) + 1) ps (omega (arith, long))) ∙ take_more ps (n - 1) p (omega (arith, long))
    ∙ ap (λ q. take (n - 1) ps ++ q ∷ []) (sym is) in
    let whole = split ps (take (n - 1) ps) p cut in record { there = is; long = long; whole = whole; total = total ∙ ap length whole }

set_last : (rest : List Part) (p q : Part) → set (rest ++ p ∷ []) (length rest) q ≡ rest ++ q ∷ []
set_last [] p q = refl
set_last (r ∷ rest) p q = ap (λ l. r ∷ l) (set_last rest p q)

module _ (ps : List Part) (i number : ℕ) (p : Part) (last : IsLast ps i number p) where
  all : ps ≡ take i ps ++ p ∷ []
  all =
      let long = last.long in
      sym (take_all (i + 1) ps (omega (arith, long))) ∙ take_more ps i p (omega (arith, long)) ∙ ap (λ q. take i ps ++ q ∷ []) (sym last.there)

  -- the last part keeps the first entries of its structure
  pub last_cut : (q : Part) (n m : ℕ) → q.own ≡ p.own → opened_list q.opened ≡ take (n - m) (opened_list p.opened)
      → m ≡ number - length (opened_list p.opened) → m < n → n < number → parts_list (set ps i q) ≡ take n (parts_list ps)
  last_cut q n m own cut e mn h =
      let long : length (take i ps) ≡ i = let k = last.long in length-take-le i ps (omega (arith, k)) in
      let front = parts_list (take i ps) in
      let set_is : set ps i q ≡ take i ps ++ q ∷ [] =
      ap (λ l. set l i q) all ∙ ap (λ k. set (take i ps ++ p ∷ []) k q) (sym long) ∙ set_last (take i ps) p q in
      split (set ps i q) (take i ps) q set_is
      ∙ ap (λ l. front ++ (l ++ opened_list q.opened)) own
      ∙ ap (λ l. front ++ (p.own ++ l)) cut
      ∙ cut_third front p.own (opened_list p.opened) n m number last.total e mn h
      ∙ ap (take n) (sym last.whole)

  -- the last part goes
  pub last_same : (rest : List Part) (q : Part) → set ps i p ≡ rest ++ q ∷ [] → q ≡ p
  last_same rest q h =
      let back : ps ≡ rest ++ q ∷ [] = sym (set_same ps i p p last.there) ∙ h in
      let long : length rest ≡ i = let k = ap length back ∙ length-append rest (q ∷ []) in let n = last.long in omega (arith, n, k) in
      sym (last.there ∙ ap (λ l. get_or l i p) back ∙ ap (λ k. get_or (rest ++ q ∷ []) k p) (sym long) ∙ get_or-append_seam rest q [] p)

  pub last_total : (rest : List Part) (q : Part) → set ps i p ≡ rest ++ q ∷ []
      → number ≡ length (parts_list rest) + (length q.own + length (opened_list q.opened))
  last_total rest q h =
      let back : ps ≡ rest ++ q ∷ [] = sym (set_same ps i p p last.there) ∙ h in
      last.total ∙ ap length (sym last.whole ∙ split ps rest q back) ∙ length-append (parts_list rest) (part_list q)
      ∙ ap (λ k. length (parts_list rest) + k) (length-append q.own (opened_list q.opened))

  pub last_gone : (rest : List Part) (q : Part) (m : ℕ) → set ps i p ≡ rest ++ q ∷ [] → m ≡ number - length (opened_list q.opened)
      → parts_list rest ++ q.own ≡ take m (parts_list ps)
  last_gone rest q m h e =
      let back : ps ≡ rest ++ q ∷ [] = sym (set_same ps i p p last.there) ∙ h in
      let whole = split ps rest q back in
      without_third (parts_list rest) q.own (opened_list q.opened) m number (last.total ∙ ap length (sym last.whole ∙ whole)) e
      ∙ ap (take m) (sym whole)

-- what a list and more begin with
pub begins : (n m : ℕ) (a b : List SharedEntry) → m ≤ n → m ≤ length a → take m (take n a) ≡ take m (a ++ b)
begins n m a b h k = take-take m n a h ∙ sym (take-append-le m a b k)

pub begins_past : (n m : ℕ) (a b : List SharedEntry) → n ≡ length a → n ≤ m → a ++ take (m - n) b ≡ take m (a ++ b)
begins_past n m a b e h =
    let long : length a + (m - n) ≡ m = omega (arith, e, h) in
    sym (take-append-add a b (m - n)) ∙ ap (λ k. take k (a ++ b)) long
