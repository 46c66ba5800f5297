-- The sources of a renaming, by their numbers.
use Rattle.std.proofs.Common.{◌≡◌, ℕ, zero, suc, ◌+◌, ◌<◌, ◌≤◌, ◌==◌, ◌&&◌, ◌||◌, List, [], ◌∷◌, Bool, true, false, true≢false, cond}
use Rattle.std.proofs.Common.{Some, All, Contains, length, refl, ap, sym, ◌∙◌, subst, arith}
use Rattle.std.specs.Prelude.{slice_get}
use Rattle.std.specs.BTreeSet.{BTreeSet, contains}
use Rattle.std.specs.List.{list_any}
use Rattle.std.proofs.lemmas.List.Elements.{All-cons, All-nil}
use Rattle.std.proofs.lemmas.Bool.Decides.{nat_tests}
use Rattle.rotor_base.specs.declared.place.Place.{Place}
use Rattle.rotor_base.specs.declared.source.SourceFile.{SourceFile}
use Rattle.rotor_base.specs.Place.{same_place, place_cmp}
use Rattle.ml_syntax.specs.RespelledSource.{Spellings, IsRespelled, AreRespelled}
use Rattle.binding_model.specs.Scopes.{here}
use Rattle.rename_model.specs.Report.{hit_files}
use Rattle.shape_core.specs.Places.{HasPlaces}

-- an item within a list
pub got : {X : Type 0} (xs : List X) (i : ℕ) → i < length xs → (x : X) × (slice_get xs i ≡ Some x)
got [] i lt = absurd (omega arith)
got (x ∷ xs) zero lt = (x, refl)
got (x ∷ xs) (suc i) lt = got xs i (omega arith)

-- the new source of a number, and how it is respelled
pub record Source (w : Spellings) (number i : ℕ) (news : List SourceFile) (old : SourceFile) : Type 0 where
  pub new : SourceFile
  pub is : slice_get news i ≡ Some new
  pub respelled : IsRespelled (w number) old new

pub respelled_at : (w : Spellings) (n i number : ℕ) (olds news : List SourceFile) (old : SourceFile) → n + i ≡ number → AreRespelled w n olds news
    → slice_get olds i ≡ Some old → Source w number i news old
respelled_at w n i number [] [] old sum h e = absurd cc
respelled_at w n i number [] (q ∷ news) old sum h e = absurd h
respelled_at w n i number (o ∷ olds) [] old sum h e = absurd h
respelled_at w n zero number (o ∷ olds) (q ∷ news) old sum h e =
    let same : o ≡ old = cc in
    let at : n ≡ number = omega arith in
    record { new = q; is = refl; respelled = subst (λ m. IsRespelled (w m) old q) at (subst (λ z. IsRespelled (w n) z q) same h.0) }
respelled_at w n (suc i) number (o ∷ olds) (q ∷ news) old sum h e =
    let found = respelled_at w (suc n) i number olds news old (omega arith) h.1 e in
    record { new = found.new; is = found.is; respelled = found.respelled }

-- ---- the numbers of the sources that changed

within_by : (b : Bool) (n : ℕ) (top : ℕ) (rest : List ℕ) → n < top → All (λ f. f < top) rest → All (λ f. f < top) (cond b (n ∷ rest) rest)
within_by true n top rest lt all = All-cons (λ f. f < top) n rest lt all
within_by false n top rest lt all = all

hits_below : (ps : List Place) (n top : ℕ) (files : List SourceFile) → n + length files ≤ top → All (λ f. f < top) (hit_files ps n files)
hits_below ps n top [] le = All-nil (λ f. f < top)
hits_below ps n top (file ∷ files) le =
    within_by (list_any (λ p. p.file == n) ps) n top (hit_files ps (suc n) files) (omega arith) (hits_below ps (suc n) top files (omega arith))

pub hits_within : (ps : List Place) (files : List SourceFile) → All (λ f. f < length files) (hit_files ps 0 files)
hits_within ps files = hits_below ps 0 (length files) files (omega arith)

contains_head : {A : Type 0} (x : A) (xs : List A) → Contains (x ∷ xs) x
contains_head x xs = (0, omega arith, refl)

contains_tail : {A : Type 0} (y x : A) (xs : List A) → Contains xs x → Contains (y ∷ xs) x
contains_tail y x xs (k, lt, e) = (suc k, omega (arith, lt), e)

has_by : (b : Bool) (n f : ℕ) (rest : List ℕ) → Contains rest f → Contains (cond b (n ∷ rest) rest) f
has_by true n f rest h = contains_tail n f rest h
has_by false n f rest h = h

hits_have : (ps : List Place) (n i number : ℕ) (files : List SourceFile) → n + i ≡ number → i < length files
    → list_any (λ p. p.file == number) ps ≡ true → Contains (hit_files ps n files) number
hits_have ps n i number [] sum lt hit = absurd (omega arith)
hits_have ps n zero number (file ∷ files) sum lt hit =
    let same : number ≡ n = omega arith in
    let P : ℕ → Type 0 = λ m. Contains (hit_files ps n (file ∷ files)) m in
    subst P (sym same) (subst (λ b. Contains (cond b (n ∷ hit_files ps (suc n) files) (hit_files ps (suc n) files)) n)
    (sym (ap (λ m. list_any (λ p. p.file == m) ps) (sym same) ∙ hit)) (contains_head n (hit_files ps (suc n) files)))
hits_have ps n (suc i) number (file ∷ files) sum lt hit =
    has_by (list_any (λ p. p.file == n) ps) n number (hit_files ps (suc n) files)
    (hits_have ps (suc n) i number files (omega arith) (omega arith) hit)

-- if the number of a source is not among them, no place is in it
pub no_hit : (ps : List Place) (files : List SourceFile) (file : ℕ) → file < length files → (Contains (hit_files ps 0 files) file → ⊥)
    → list_any (λ p. p.file == file) ps ≡ false
no_hit ps files file lt none = by (list_any (λ p. p.file == file) ps) refl
  where
    by : (b : Bool) → list_any (λ p. p.file == file) ps ≡ b → b ≡ false
    by true e = absurd (none (hits_have ps 0 file file files (omega arith) lt e))
    by false e = refl

neither : (a b : Bool) → (a || b) ≡ false → (a ≡ false) × (b ≡ false)
neither true b e = absurd (true≢false e)
neither false b e = (refl, e)

apart : (f g n t : ℕ) → (g == f) ≡ false → (f == g && n == t) ≡ false
apart f g n t h = grind (arith, nat_tests)

other_file : (file n : ℕ) (ps : List Place) → list_any (λ p. p.file == file) ps ≡ false → list_any (same_place (here file n)) ps ≡ false
other_file file n [] h = refl
other_file file n (p ∷ ps) h =
    let k = neither (p.file == file) (list_any (λ q. q.file == file) ps) h in
    ap (λ b. b || list_any (same_place (here file n)) ps) (apart file p.file n p.token k.0) ∙ other_file file n ps k.1

pub no_place_in : (ps : List Place) (set : BTreeSet Place) (file : ℕ) → HasPlaces ps set → list_any (λ p. p.file == file) ps ≡ false
    → (n : ℕ) → contains place_cmp set (here file n) ≡ false
no_place_in ps set file has none n = has (here file n) ∙ other_file file n ps none
