-- Reading a run, one token after the other.
use Rattle.std.proofs.Common.{◌≡◌, ℕ, zero, suc, ◌+◌, ◌-◌, ◌<◌, ◌≤◌, List, [], ◌∷◌, ◌++◌, ◌==◌, length, take, drop, map, reverse, Bool, true, false}
use Rattle.std.proofs.Common.{cond, Option, Some, None, refl, sym, ap, ◌∙◌, arith}
use Rattle.std.proofs.lemmas.Bool.{eqb-true}
use Rattle.std.proofs.lemmas.List.{length-reverse}
use Rattle.ml_trees.specs.declared.word.Word.{Word}
use Rattle.ml_trees.specs.View.{view_tok}
use Rattle.rotor_base.specs.declared.token.Token.{Token}
use Rattle.token_reading.specs.Tokens.{from}
use Rattle.token_reading.proofs.Places.{from_drop}
use Rattle.ml_trees.specs.declared.fixed.Fixed.{Fixed}
use Rattle.ml_trees.specs.Tok.{Tok}
use Rattle.ml_trees.specs.Runs.{bracketing, after_bracket}
use Rattle.token_reading.specs.Pieces.{or_none, one_more, longest, cut_at, type_run, declaration_run}
use Rattle.token_reading.specs.declared.runs.RunKind.{RunKind}
use Rattle.token_reading.specs.declared.runs.RunKind.TheVariants as run
use Rattle.token_reading.specs.RunRows.{is_inside, is_beside, is_first, first_after, StepsTo, count_after, run_length, counted}

-- behind so many tokens: the longest run that ends later, or else the one that was found
abbrev pub or_later : ℕ → ℕ → Option ℕ → Option ℕ
or_later count done (Some n) = Some (done + n)
or_later count done None = counted count

pub type_by_length : (ts : List Tok) → type_run ts ≡ cut_at ts (run_length run.Type ts)
unfolding type_run
type_by_length [] = refl
type_by_length (t ∷ ts) = refl

pub declaration_by_length : (ts : List Tok) → declaration_run ts ≡ cut_at ts (run_length run.Declaration ts)
unfolding declaration_run
declaration_by_length [] = refl
declaration_by_length (t ∷ ts) = refl

-- a count other than 0 is counted as it is
counts : (n : ℕ) → 0 < n → counted n ≡ Some n
counts n h = by (n == 0) refl
  where
    by : (b : Bool) → (n == 0) ≡ b → cond {A = Option ℕ} b None (Some n) ≡ Some n
    by true e = absurd (omega (arith, eqb-true n 0 e, h))
    by false e = refl

found_before : (count done : ℕ) → 0 < done → count ≡ done → Some (done + 0) ≡ counted count
found_before count done h e =
    let p : done + 0 ≡ count = omega arith in
    ap Some p ∙ sym (counts count (omega arith))

pub count_at_once : (ys : List Fixed) (done count : ℕ) → ys ≡ [] → count_after ys done count ≡ done
count_at_once [] done count e = refl
count_at_once (y ∷ ys) done count e = absurd cc

kept_count : (y : Fixed) (ys : List Fixed) (done count : ℕ) → cond {A = ℕ} (length (y ∷ ys) == 0) done count ≡ count
kept_count y ys done count = by (length (y ∷ ys) == 0) refl
  where
    by : (b : Bool) → (length (y ∷ ys) == 0) ≡ b → cond {A = ℕ} b done count ≡ count
    by true e = absurd (omega (arith, eqb-true (length (y ∷ ys)) 0 e))
    by false e = refl

pub count_least : (ys : List Fixed) (done count n : ℕ) → done ≤ n → count ≤ n → count_after ys done count ≤ n
count_least [] done count n h k = h
count_least (y ∷ ys) done count n h k = rw (kept_count y ys done count) k

-- the words to close lie last first in the code
pub none_unclosed : (xs : List Fixed) (done count : ℕ) → length xs ≡ 0 → done ≡ count_after (reverse xs) done count
none_unclosed [] done count e = refl
none_unclosed (x ∷ xs) done count e = absurd (omega (arith, e))

pub some_unclosed : (xs : List Fixed) (done count : ℕ) → 0 < length xs → count ≡ count_after (reverse xs) done count
some_unclosed xs done count h = by (reverse xs) (length-reverse xs)
  where
    by : (ys : List Fixed) → length ys ≡ length xs → count ≡ count_after ys done count
    by [] e = absurd (omega (arith, e, h))
    by (y ∷ ys) e = sym (kept_count y ys done count)

pub steps_on : (b : Bool) (o : Option (List Fixed)) (xs : List Fixed) → StepsTo b o xs → b ≡ true → o ≡ Some xs
steps_on true o xs h e = h
steps_on false o xs h e = absurd cc

pub steps_off : (b : Bool) (o : Option (List Fixed)) (xs : List Fixed) → StepsTo b o xs → b ≡ false → o ≡ None
steps_off true o xs h e = absurd cc
steps_off false o xs h e = h

module _ (outside inside : Tok → Bool) where
  abbrev Later : List Fixed → ℕ → ℕ → List Tok → Option ℕ
  Later xs count done here = or_later count done (longest outside inside (Some xs) here)

  none_more : (ts : List Tok) → longest outside inside None ts ≡ None
  unfolding longest
  none_more [] = refl
  none_more (t ∷ ts) = refl

  -- if nothing more is taken, the run is the one that was found
  stopped : (xs : List Fixed) (count done : ℕ) → 0 < done → (xs ≡ [] → count ≡ done) → or_later count done (or_none (Some xs)) ≡ counted count
  stopped [] count done h k = found_before count done h (k refl)
  stopped (x ∷ xs) count done h k = refl

  pub run_ends : (xs : List Fixed) (count done : ℕ) (here : List Tok) (whole : Option ℕ) → here ≡ [] → 0 < done → (xs ≡ [] → count ≡ done)
      → Later xs count done here ≡ whole → counted count ≡ whole
  unfolding longest
  run_ends xs count done here whole e h k l = sym (stopped xs count done h k) ∙ sym (ap (Later xs count done) e) ∙ l

  pub run_stops : (xs : List Fixed) (count done : ℕ) (here : List Tok) (whole : Option ℕ) → first_after outside inside here xs ≡ None → 0 < done
      → (xs ≡ [] → count ≡ done) → Later xs count done here ≡ whole → counted count ≡ whole
  unfolding longest
  run_stops xs count done [] whole e h k l = sym (stopped xs count done h k) ∙ l
  run_stops xs count done (t ∷ ts) whole e h k l =
      let one : longest outside inside (Some xs) (t ∷ ts) ≡ or_none (Some xs) = rw (e, none_more ts) refl in
      sym (stopped xs count done h k) ∙ sym (ap (or_later count done) one) ∙ l

  pub never_none : (ts : List Tok) → longest outside inside (Some []) ts ≡ None → ⊥
  unfolding longest
  never_none [] e = absurd cc
  never_none (t ∷ ts) e = by (longest outside inside (after_bracket outside inside t (bracketing t) []) ts) e
    where
      by : (o : Option ℕ) → one_more o (Some 0) ≡ None → ⊥
      by None e = absurd cc
      by (Some n) e = absurd cc

  on_by : (xs ys : List Fixed) (count done : ℕ) (o : Option ℕ) → (ys ≡ [] → o ≡ None → ⊥) → 0 < done → (xs ≡ [] → count ≡ done)
      → or_later (count_after ys (done + 1) count) (done + 1) o ≡ or_later count done (one_more o (or_none (Some xs)))
  on_by xs ys count done (Some n) never h k = let e : done + 1 + n ≡ done + suc n = omega arith in ap Some e
  on_by xs [] count done None never h k = absurd (never refl refl)
  on_by xs (y ∷ ys) count done None never h k = ap counted (kept_count y ys (done + 1) count) ∙ sym (stopped xs count done h k)

  pub run_goes_on : (xs ys : List Fixed) (count done : ℕ) (t : Tok) (next : List Tok) (whole : Option ℕ)
      → first_after outside inside (t ∷ next) xs ≡ Some ys → 0 < done → (xs ≡ [] → count ≡ done) → Later xs count done (t ∷ next) ≡ whole
      → Later ys (count_after ys (done + 1) count) (done + 1) next ≡ whole
  unfolding longest
  run_goes_on xs ys count done t next whole e h k l =
      let one : longest outside inside (Some xs) (t ∷ next) ≡ one_more (longest outside inside (Some ys) next) (or_none (Some xs)) = rw e refl in
      on_by xs ys count done (longest outside inside (Some ys) next)
      (λ e' o. never_none next (sym (ap (λ (z : List Fixed). longest outside inside (Some z) next) e') ∙ o)) h k
      ∙ sym (ap (or_later count done) one) ∙ l

-- ---- the first token

pub run_begins_not : (k : RunKind) (here : List Tok) → first_after (is_first k) (is_inside k) here [] ≡ None → run_length k here ≡ None
unfolding longest
run_begins_not k [] e = refl
run_begins_not k (t ∷ []) e = rw e refl
run_begins_not k (t ∷ u ∷ ts) e = rw e refl

begun : (ys : List Fixed) (o : Option ℕ) → (ys ≡ [] → o ≡ None → ⊥) → or_later (count_after ys 1 0) 1 o ≡ one_more o None
begun ys (Some n) never = let e : 1 + n ≡ suc n = omega arith in ap Some e
begun [] None never = absurd (never refl refl)
begun (y ∷ ys) None never = ap counted (kept_count y ys 1 0)

pub run_begins : (k : RunKind) (t : Tok) (next here : List Tok) (ys : List Fixed) → here ≡ t ∷ next
    → first_after (is_first k) (is_inside k) here [] ≡ Some ys → or_later (count_after ys 1 0) 1 (longest (is_beside k) (is_inside k) (Some ys) next)
    ≡ run_length k here
run_begins k t next here ys p e =
    let e' : first_after (is_first k) (is_inside k) (t ∷ next) [] ≡ Some ys = ap (λ (h : List Tok). first_after (is_first k) (is_inside k) h [])
    (sym p) ∙ e in
    rw (p, e') (begun ys (longest (is_beside k) (is_inside k) (Some ys) next)
    (λ q o. never_none (is_beside k) (is_inside k) next (sym (ap (λ (z : List Fixed). longest (is_beside k) (is_inside k) (Some z) next) q) ∙ o)))

-- ---- the tokens of a run

take_next : (n : ℕ) (l : List Tok) (x : Tok) (rest : List Tok) → drop n l ≡ x ∷ rest → take (suc n) l ≡ take n l ++ x ∷ []
take_next zero [] x rest e = absurd cc
take_next zero (y ∷ l) x rest e = cc
take_next (suc n) [] x rest e = absurd cc
take_next (suc n) (y ∷ l) x rest e = ap (λ (k : List Tok). y ∷ k) (take_next n l x rest e)

map_last : (xs : List Word) (w : Word) → map view_tok (xs ++ w ∷ []) ≡ map view_tok xs ++ view_tok w ∷ []
map_last [] w = refl
map_last (x ∷ xs) w = ap (λ (k : List Tok). view_tok x ∷ k) (map_last xs w)

pub word_pushed : (ts : List Token) (at next : ℕ) (xs ys : List Word) (w : Word) → at ≤ next → ys ≡ xs ++ w ∷ []
    → from ts next ≡ view_tok w ∷ from ts (next + 1) → map view_tok xs ≡ take (next - at) (from ts at)
    → map view_tok ys ≡ take (next + 1 - at) (from ts at)
word_pushed ts at next xs ys w le p q h =
    let e : at + (next - at) ≡ next = omega arith in
    let m : next + 1 - at ≡ suc (next - at) = omega arith in
    let d : drop (next - at) (from ts at) ≡ view_tok w ∷ from ts (next + 1) = from_drop ts (next - at) at ∙ ap (from ts) e ∙ q in
    ap (map view_tok) p ∙ map_last xs w ∙ ap (λ (k : List Tok). k ++ view_tok w ∷ []) h
    ∙ sym (take_next (next - at) (from ts at) (view_tok w) (from ts (next + 1)) d) ∙ sym (ap (λ (k : ℕ). take k (from ts at)) m)

pub cut_there : (ts : List Token) (at n : ℕ) (o : Option ℕ) (words : List Tok) → o ≡ Some n → words ≡ take n (from ts at)
    → cut_at (from ts at) o ≡ Some (words, from ts (at + n))
cut_there ts at n o words e w = rw (e, w) (ap (λ (k : List Tok). Some (take n (from ts at), k)) (from_drop ts n at))
