-- The numbers of the sources that have a place rise, and each numbers a source.
use Rattle.std.proofs.Common.{◌≡◌, ℕ, suc, All, ◌+◌, ◌<◌, ◌≤◌, ◌==◌, List, [], ◌∷◌, Bool, true, false, cond, length, sym, arith}
use Rattle.std.specs.List.{list_any, AllByRecursion}
use Rattle.std.specs.List.Sorted.{IsStrictlySortedBy}
use Rattle.std.specs.declared.cmp.Ordering.TheVariants.{Less}
use Rattle.std.specs.Ordering.{nat_cmp}
use Rattle.std.specs.Cmp.{nat_cmp_is}
use Rattle.std.proofs.lemmas.List.Elements.{All-from_recursion}
use Rattle.rotor_base.specs.declared.place.Place.{Place}
use Rattle.rotor_base.specs.declared.source.SourceFile.{SourceFile}
use Rattle.rename_model.specs.Report.{hit_files}

-- the numbers are at least `n`, less than `end`, and rise
record Rises (n end : ℕ) (ns : List ℕ) : Type 0 where
  pub above : AllByRecursion (λ m. n ≤ m) ns
  pub below : AllByRecursion (λ m. m < end) ns
  pub sorted : IsStrictlySortedBy nat_cmp ns

each : (P Q : ℕ → Type 0) → ((m : ℕ) → P m → Q m) → (ns : List ℕ) → AllByRecursion P ns → AllByRecursion Q ns
each P Q f [] h = tt
each P Q f (m ∷ ns) h = (f m h.0, each P Q f ns h.1)

none : (n end : ℕ) → Rises n end []
unfolding IsStrictlySortedBy
none n end = record { above = tt; below = tt; sorted = tt }

later : (n end : ℕ) (ns : List ℕ) → Rises (suc n) end ns → Rises n end ns
later n end ns h = record { above = each (λ m. suc n ≤ m) (λ m. n ≤ m) (λ m q. omega (arith, q)) ns h.above; below = h.below; sorted = h.sorted }

one_more : (n end : ℕ) (ns : List ℕ) → n < end → Rises (suc n) end ns → Rises n end (n ∷ ns)
unfolding IsStrictlySortedBy
one_more n end ns l h = record {
  above = (omega arith, (later n end ns h).above);
  below = (l, h.below);
  sorted = (each (λ m. suc n ≤ m) (λ m. nat_cmp n m ≡ Less) (λ m q. sym (nat_cmp_is n m Less (omega (arith, q)))) ns h.above, h.sorted);
}

rises : (ps : List Place) (n end : ℕ) (files : List SourceFile) → n + length files ≤ end → Rises n end (hit_files ps n files)
rises ps n end [] l = none n end
rises ps n end (file ∷ files) l = by (list_any (λ p. p.file == n) ps) (rises ps (suc n) end files (omega (arith, l))) where
  by : (b : Bool) → Rises (suc n) end (hit_files ps (suc n) files)
      → Rises n end (cond b (n ∷ hit_files ps (suc n) files) (hit_files ps (suc n) files))
  by true h = one_more n end (hit_files ps (suc n) files) (omega (arith, l)) h
  by false h = later n end (hit_files ps (suc n) files) h

pub hits_rise : (ps : List Place) (files : List SourceFile) → IsStrictlySortedBy nat_cmp (hit_files ps 0 files)
    × All (λ n. n < length files) (hit_files ps 0 files)
hits_rise ps files =
    let h = rises ps 0 (length files) files (omega arith) in
    (h.sorted, All-from_recursion (λ n. n < length files) (hit_files ps 0 files) h.below)
