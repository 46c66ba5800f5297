-- A batch rewrites sources, and nothing else.
use Rattle.std.proofs.Common.{◌≡◌, ◌∙◌, ◌⊎◌, inl, inr, ℕ, zero, suc, ◌+◌, ◌<◌, ◌≤◌, Bool, true, false, cond, All, Contains, List, [], ◌∷◌, length}
use Rattle.std.proofs.Common.{slice_get, None, refl, sym, ap, subst, arith}
use Rattle.std.specs.List.{AllByRecursion}
use Rattle.std.specs.List.Sorted.{IsStrictlySortedBy}
use Rattle.std.specs.Ordering.{nat_cmp}
use Rattle.std.specs.declared.cmp.Ordering.TheVariants.{Less}
use Rattle.std.specs.Str.{bytes_eq}
use Rattle.std.specs.Cmp.Lexicographic.{bytes_decides}
use Rattle.std.proofs.lemmas.List.Elements.{All-from_recursion, Contains-append_right}
use Rattle.std.proofs.lemmas.Grind.{common_steps}
use Rattle.rotor_base.specs.declared.source.SourceFile.{SourceFile}
use Rattle.rotor_base.specs.Files.{FileSet, IsProject, load_refusal, names_of}
use Rattle.rename_laws.specs.Laws.{RenamingsRewrite}
use Rattle.rename_batch.specs.declared.step.Step.{Step}
use Rattle.rename_batch.specs.declared.step.Change.{Change}
use Rattle.rename_batch.specs.Batch.{Answers, Runs, changed_from}
use Rattle.rename_batch.specs.Laws.{BatchesRewrite}
use Rattle.rename_batch.proofs.Backwards.{is_project}

-- ---- names and manifest

-- what the files of a run keep
pub record Keeps (files last : FileSet) : Type 0 where
  pub names : names_of last.entries ≡ names_of files.entries
  pub manifest : last.manifest ≡ files.manifest
  pub taken : load_refusal last.entries last.manifest ≡ None

pub kept : RenamingsRewrite → (files : FileSet) (steps : List Step) (last : FileSet) (changes : List Change) → IsProject files
    → Runs files steps last changes → Keeps files last
unfolding Answers
kept rewrite files [] last [] p r =
    record {
      names = ap (λ (fs : FileSet). names_of fs.entries) r;
      manifest = ap (λ (fs : FileSet). fs.manifest) r;
      taken = subst (λ (fs : FileSet). load_refusal fs.entries fs.manifest ≡ None) (sym r) p.taken;
    }
kept rewrite files [] last (change ∷ changes) p r = absurd r
kept rewrite files (step ∷ steps) last [] p r = absurd r
kept rewrite files (step ∷ steps) last (change ∷ changes) p r =
    let first = rewrite files step.target step.name r.0 p r.1 in
    let rest = kept rewrite r.0.files steps last changes (is_project rewrite files step r.0 p r.1) r.3 in
    record { names = rest.names ∙ first.names; manifest = rest.manifest ∙ first.manifest; taken = rest.taken }

-- ---- the numbers of the sources that changed

abbrev IsWithin : ℕ → ℕ → ℕ → Type 0
IsWithin low high n = (low ≤ n) × (n < high)

wider : (low lower high higher : ℕ) (ns : List ℕ) → lower ≤ low → high ≤ higher → AllByRecursion (IsWithin low high) ns
    → AllByRecursion (IsWithin lower higher) ns
wider low lower high higher [] l h a = tt
wider low lower high higher (n ∷ ns) l h a = ((omega (arith, l, a.0.0), omega (arith, h, a.0.1)), wider low lower high higher ns l h a.1)

within : (at : ℕ) (olds news : List SourceFile) → AllByRecursion (IsWithin at (at + length news)) (changed_from at olds news)
within at [] news = tt
within at (old ∷ olds) [] = tt
within at (old ∷ olds) (new ∷ news) =
    by (bytes_eq old.bytes new.bytes) (wider (at + 1) at (at + 1 + length news) (at + length (new ∷ news)) (changed_from (at + 1) olds news)
    (omega arith) (omega arith) (within (at + 1) olds news))
  where
    by : (t : Bool) → AllByRecursion (IsWithin at (at + length (new ∷ news))) (changed_from (at + 1) olds news)
        → AllByRecursion (IsWithin at (at + length (new ∷ news))) (cond t (changed_from (at + 1) olds news) (at ∷ changed_from (at + 1) olds news))
    by true rest = rest
    by false rest = ((omega arith, omega arith), rest)

less : (n m : ℕ) → n < m → nat_cmp n m ≡ Less
less n m h = grind (arith, common_steps)

all_less : (at low high : ℕ) (ns : List ℕ) → at < low → AllByRecursion (IsWithin low high) ns → AllByRecursion (λ n. nat_cmp at n ≡ Less) ns
all_less at low high [] l a = tt
all_less at low high (n ∷ ns) l a = (less at n (omega (arith, l, a.0.0)), all_less at low high ns l a.1)

rising : (at : ℕ) (olds news : List SourceFile) → IsStrictlySortedBy nat_cmp (changed_from at olds news)
unfolding IsStrictlySortedBy
rising at [] news = tt
rising at (old ∷ olds) [] = tt
rising at (old ∷ olds) (new ∷ news) = by (bytes_eq old.bytes new.bytes) (rising (at + 1) olds news) where
  by : (t : Bool) → IsStrictlySortedBy nat_cmp (changed_from (at + 1) olds news)
      → IsStrictlySortedBy nat_cmp (cond t (changed_from (at + 1) olds news) (at ∷ changed_from (at + 1) olds news))
  by true rest = rest
  by false rest = (all_less at (at + 1) (at + 1 + length news) (changed_from (at + 1) olds news) (omega arith) (within (at + 1) olds news), rest)

heads : (x y : List ℕ) (xs ys : List (List ℕ)) → x ∷ xs ≡ y ∷ ys → (x ≡ y) × (xs ≡ ys)
heads x y xs ys e = (cc, cc)

covered : (at : ℕ) (olds news : List SourceFile) → names_of news ≡ names_of olds → (k : ℕ)
    → (slice_get olds k ≡ slice_get news k) ⊎ Contains (changed_from at olds news) (at + k)
covered at [] [] e k = inl refl
covered at [] (new ∷ news) e k = let bad = e in absurd cc
covered at (old ∷ olds) [] e k = let bad = e in absurd cc
covered at (old ∷ olds) (new ∷ news) e zero = by (bytes_eq old.bytes new.bytes) refl where
  by : (t : Bool) → bytes_eq old.bytes new.bytes ≡ t
      → (slice_get (old ∷ olds) 0 ≡ slice_get (new ∷ news) 0) ⊎ Contains
      (cond t (changed_from (at + 1) olds news) (at ∷ changed_from (at + 1) olds news)) (at + 0)
  by true same =
      let bytes = (bytes_decides old.bytes new.bytes).0 same in
      let name = (heads new.name old.name (names_of news) (names_of olds) e).0 in
      inl (ap (λ (f : SourceFile). slice_get (f ∷ []) 0) (λ i. record { name = sym name i; bytes = bytes i }))
  by false same = inr (0, omega arith, omega arith)
covered at (old ∷ olds) (new ∷ news) e (suc k) = by (bytes_eq old.bytes new.bytes)
    (covered (at + 1) olds news (heads new.name old.name (names_of news) (names_of olds) e).1 k) where
      by : (t : Bool) → (slice_get olds k ≡ slice_get news k) ⊎ Contains (changed_from (at + 1) olds news) (at + 1 + k)
          → (slice_get olds k ≡ slice_get news k) ⊎ Contains (cond t (changed_from (at + 1) olds news) (at ∷ changed_from (at + 1) olds news))
          (at + suc k)
      by t (inl same) = inl same
      by true (inr among) = inr (subst (Contains (changed_from (at + 1) olds news)) (omega arith) among)
      by false (inr among) = inr (Contains-append_right (at ∷ []) (changed_from (at + 1) olds news) (at + suc k)
          (subst (Contains (changed_from (at + 1) olds news)) (omega arith) among))

below : (high : ℕ) (ns : List ℕ) → AllByRecursion (IsWithin 0 high) ns → AllByRecursion (λ n. n < high) ns
below high [] a = tt
below high (n ∷ ns) a = (a.0.1, below high ns a.1)

none_more : (n : ℕ) → 0 + n ≡ n
none_more n = omega arith

from_start : (olds news : List SourceFile) → AllByRecursion (IsWithin 0 (length news)) (changed_from 0 olds news)
from_start olds news = subst (λ (n : ℕ). AllByRecursion (IsWithin 0 n) (changed_from 0 olds news)) (none_more (length news)) (within 0 olds news)

pub batches_rewrite : RenamingsRewrite → BatchesRewrite
batches_rewrite rewrite files steps done p h =
    let same = kept rewrite files steps done.files done.done p h.run in
    let olds = files.entries in
    let news = done.files.entries in
    record {
      names = same.names;
      manifest = same.manifest;
      taken = same.taken;
      ordered = subst (IsStrictlySortedBy nat_cmp) (sym h.changed) (rising 0 olds news);
      known = subst (All (λ n. n < length news)) (sym h.changed) (All-from_recursion (λ n. n < length news) (changed_from 0 olds news)
          (below (length news) (changed_from 0 olds news) (from_start olds news)));
      covers = λ k. subst (λ (ns : List ℕ). (slice_get olds k ≡ slice_get news k) ⊎ Contains ns k) (sym h.changed)
          (subst (λ (j : ℕ). (slice_get olds k ≡ slice_get news k) ⊎ Contains (changed_from 0 olds news) j) (none_more k)
          (covered 0 olds news same.names k));
    }
