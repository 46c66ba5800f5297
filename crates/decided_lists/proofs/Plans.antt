-- Bytes are the plan of some files, or of none.
use Rattle.std.proofs.Common.{◌≡◌, ◌⊎◌, inl, inr, ℕ, zero, suc, ◌+◌, ◌≤◌, ◌<◌, List, [], ◌∷◌, ◌++◌, length, flat_map, codes}
use Rattle.std.proofs.Common.{refl, sym, ap, subst, ◌∙◌, append_assoc, length-append, arith}
use Rattle.std.specs.Cmp.Lexicographic.{slice_cmp}
use Rattle.std.specs.Fmt.{decimal}
use Rattle.std.specs.List.{AllByRecursion, list_all}
use Rattle.std.specs.List.Sorted.{IsStrictlySortedBy}
use Rattle.std.specs.Ordering.{nat_cmp}
use Rattle.std.specs.declared.cmp.Ordering.{Ordering}
use Rattle.std.specs.declared.cmp.Ordering.TheVariants.{Less, Equal, Greater}
use Rattle.rotor_base.specs.Files.{AreSources, names_of, too_large, too_many}
use Rattle.rotor_base.specs.Limits.{max_plan_bytes}
use Rattle.rotor_base.specs.Stem.{is_source_name}
use Rattle.rotor_base.specs.declared.source.SourceFile.{SourceFile}
use Rattle.apply_journal.specs.Plan.{IsPlan, file_of, line, plan_entry, plan_text}
use Rattle.decided_lists.specs.Laws.{PlansAreDecided}
use Rattle.decided_lists.proofs.Known.{Known, both_known, bytes_known, known_as, none_known, test_known, within_known}
use Rattle.decided_lists.proofs.Splits.{Split, split_known}

-- ---- whether bytes are the plan of given files

less_known : (o : Ordering) → Known (o ≡ Less)
less_known Less = inl refl
less_known Equal = inr (λ e. cc)
less_known Greater = inr (λ e. cc)

below_known : (x : List ℕ) (xs : List (List ℕ)) → Known (AllByRecursion (λ y. slice_cmp nat_cmp x y ≡ Less) xs)
below_known x [] = inl tt
below_known x (y ∷ ys) = both_known (less_known (slice_cmp nat_cmp x y)) (below_known x ys)

sorted_known : (xs : List (List ℕ)) → Known (IsStrictlySortedBy (slice_cmp nat_cmp) xs)
unfolding IsStrictlySortedBy
sorted_known [] = inl tt
sorted_known (x ∷ xs) = both_known (below_known x xs) (sorted_known xs)

sources_known : (files : List SourceFile) → Known (AreSources files)
sources_known files =
    known_as (λ k. record { named = k.0; ordered = k.1 }) (λ (s : AreSources files). (s.named, s.ordered))
    (both_known (test_known (list_all is_source_name (names_of files))) (sorted_known (names_of files)))

plan_known : (bytes : List ℕ) (files : List SourceFile) → Known (IsPlan bytes files)
plan_known bytes files =
    known_as (λ k. record { written = k.0; sources = k.1.0; few = k.1.1.0; small = k.1.1.1.0; short = k.1.1.1.1 })
    (λ (p : IsPlan bytes files). (p.written, (p.sources, (p.few, (p.small, p.short)))))
    (both_known (bytes_known bytes (plan_text files))
    (both_known (sources_known files)
    (both_known (none_known (too_many files)) (both_known (none_known (too_large files)) (within_known (length bytes) max_plan_bytes)))))

-- ---- the files that the entries of a text have

abbrev entries : List SourceFile → List ℕ
entries files = flat_map plan_entry files ++ line (codes "end")

-- files whose entries are the text, and that are so
abbrev Has : List ℕ → (List SourceFile → Type 0) → Type 0
Has text P = (files : List SourceFile) × (text ≡ entries files) × P files

entry_text : (name body : List ℕ) (files : List SourceFile)
    → name ++ 32 ∷ (decimal (length body) ++ 10 ∷ (body ++ 10 ∷ entries files)) ≡ entries (file_of name body ∷ files)
entry_text name body files =
    let entry = plan_entry (file_of name body) in
    let d = decimal (length body) in
    let more : line body ++ entries files ≡ body ++ 10 ∷ entries files = append_assoc body (10 ∷ []) (entries files) in
    let behind : (line d ++ line body) ++ entries files ≡ d ++ 10 ∷ (body ++ 10 ∷ entries files) =
    append_assoc (line d) (line body) (entries files)
    ∙ (append_assoc d (10 ∷ []) (line body ++ entries files) ∙ ap (λ l. d ++ 10 ∷ l) more)
    in
    let whole : entry ++ entries files ≡ name ++ 32 ∷ (d ++ 10 ∷ (body ++ 10 ∷ entries files)) =
    append_assoc (name ++ 32 ∷ []) (line d ++ line body) (entries files)
    ∙ (append_assoc name (32 ∷ []) ((line d ++ line body) ++ entries files) ∙ ap (λ l. name ++ 32 ∷ l) behind)
    in
    sym whole ∙ sym (append_assoc entry (flat_map plan_entry files) (line (codes "end")))

-- the size is that of the body, and behind it are the entries of files that are so behind this one
abbrev IsEntry : (List SourceFile → Type 0) → List ℕ → List ℕ → List ℕ → List ℕ → Type 0
IsEntry P name size body rest = (size ≡ decimal (length body)) × Has rest (λ files. P (file_of name body ∷ files))

-- the text begins with an entry, and the files are so
abbrev Begins : List ℕ → (List SourceFile → Type 0) → Type 0
Begins text P = Split text 32 (λ name behind. Split behind 10 (λ size sized. Split sized 10 (IsEntry P name size)))

module _ (text : List ℕ) (P : List SourceFile → Type 0) where
  begins_has : Begins text P → Has text P
  begins_has s =
      let name = s.front in
      let t = s.parts in
      let u = t.parts in
      let body = u.front in
      let size : t.front ≡ decimal (length body) = u.parts.0 in
      let rest = u.parts.1 in
      let sized : u.behind ≡ entries rest.0 = rest.1 in (
        file_of name body ∷ rest.0,
        s.split
            ∙ (ap (λ l. name ++ 32 ∷ l) (t.split ∙ (ap (λ l. l ++ 10 ∷ t.behind) size
            ∙ ap (λ l. decimal (length body) ++ 10 ∷ l) (u.split ∙ ap (λ l. body ++ 10 ∷ l) sized)))
            ∙ entry_text name body rest.0),
        rest.2,
      )

  has_begins : (file : SourceFile) (files : List SourceFile) → text ≡ entries (file ∷ files) → P (file ∷ files) → Begins text P
  has_begins file files e p = record {
    front = file.name;
    behind = decimal (length file.bytes) ++ 10 ∷ (file.bytes ++ 10 ∷ entries files);
    split = e ∙ sym (entry_text file.name file.bytes files);
    parts = record {
      front = decimal (length file.bytes);
      behind = file.bytes ++ 10 ∷ entries files;
      split = refl;
      parts = record { front = file.bytes; behind = entries files; split = refl; parts = (refl, (files, refl, p)) };
    };
  }

  by_front : Known ((text ≡ entries []) × P []) → Known (Begins text P) → Known (Has text P)
  by_front (inl h) b = inl ([], h.0, h.1)
  by_front (inr n) (inl b) = inl (begins_has b)
  by_front (inr n) (inr m) = inr none where
    none : Has text P → ⊥
    none ([], e, p) = n (e, p)
    none (file ∷ files, e, p) = m (has_begins file files e p)

-- what is behind a part is shorter
shorter : (text front : List ℕ) (between : ℕ) (behind : List ℕ) → text ≡ front ++ between ∷ behind → length behind < length text
shorter text front between behind e = omega (arith, ap (λ (l : List ℕ). length l) e, length-append front (between ∷ behind))

has_known : (fuel : ℕ) (text : List ℕ) → length text ≤ fuel → (P : List SourceFile → Type 0) → ((files : List SourceFile) → Known (P files))
    → Known (Has text P)
has_known zero text few P decide =
    by_front text P (both_known (bytes_known text (entries [])) (decide []))
    (inr (λ s. omega (arith, few, shorter text s.front 32 s.behind s.split)))
has_known (suc fuel) text few P decide =
    by_front text P (both_known (bytes_known text (entries [])) (decide []))
    (split_known text 32 (λ name behind. Split behind 10 (λ size sized. Split sized 10 (IsEntry P name size)))
    (λ name behind e. split_known behind 10 (λ size sized. Split sized 10 (IsEntry P name size))
    (λ size sized f. split_known sized 10 (IsEntry P name size)
    (λ body rest g. both_known (bytes_known size (decimal (length body)))
    (has_known fuel rest
    (omega (arith, few, shorter text name 32 behind e, shorter behind size 10 sized f, shorter sized body 10 rest g))
    (λ files. P (file_of name body ∷ files)) (λ files. decide (file_of name body ∷ files)))))))

-- ---- the entries behind the head of a plan

-- files that are so have their entries at the end of the text
abbrev EndsSo : List ℕ → (List SourceFile → Type 0) → Type 0
EndsSo text P = (front : List ℕ) × (behind : List ℕ) × (text ≡ front ++ behind) × Has behind P

cut_tail : (b c : ℕ) (bs cs : List ℕ) → ◌≡◌ {A = List ℕ} (b ∷ bs) (c ∷ cs) → bs ≡ cs
cut_tail b c bs cs e = cc

end_known : (text : List ℕ) (P : List SourceFile → Type 0) → ((files : List SourceFile) → Known (P files)) → Known (EndsSo text P)
end_known [] P decide = by (has_known 0 [] (omega arith) P decide) where
  none : (Has [] P → ⊥) → EndsSo [] P → ⊥
  none n ([], behind, e, h) = n (subst (λ l. Has l P) (sym e) h)
  none n (c ∷ front, behind, e, h) = let wrong : [] ≡ c ∷ (front ++ behind) = e in cc

  by : Known (Has [] P) → Known (EndsSo [] P)
  by (inl h) = inl ([], [], refl, h)
  by (inr n) = inr (none n)
end_known (b ∷ text) P decide = by (has_known (length (b ∷ text)) (b ∷ text) (omega arith) P decide) (end_known text P decide) where
  none : (Has (b ∷ text) P → ⊥) → (EndsSo text P → ⊥) → EndsSo (b ∷ text) P → ⊥
  none n m ([], behind, e, h) = n (subst (λ l. Has l P) (sym e) h)
  none n m (c ∷ front, behind, e, h) = m (front, behind, cut_tail b c text (front ++ behind) e, h)

  by : Known (Has (b ∷ text) P) → Known (EndsSo text P) → Known (EndsSo (b ∷ text) P)
  by (inl h) rest = inl ([], b ∷ text, refl, h)
  by (inr n) (inl s) = inl (b ∷ s.0, s.1, ap (λ l. b ∷ l) s.2, s.3)
  by (inr n) (inr m) = inr (none n m)

plan_ends : (files : List SourceFile)
    → plan_text files ≡ (line (codes "rotor-plan 1") ++ (codes "files " ++ line (decimal (length files)))) ++ entries files
plan_ends files = sym (append_assoc (line (codes "rotor-plan 1")) (codes "files " ++ line (decimal (length files))) (entries files))

pub plans_are_decided : PlansAreDecided
plans_are_decided bytes = by (end_known bytes (IsPlan bytes) (plan_known bytes)) where
  by : Known (EndsSo bytes (IsPlan bytes)) → ((files : List SourceFile) × IsPlan bytes files) ⊎ ((files : List SourceFile) → IsPlan bytes files → ⊥)
  by (inl s) = inl (s.3.0, s.3.2)
  by (inr n) =
      inr (λ files p.
      n (
        line (codes "rotor-plan 1") ++ (codes "files " ++ line (decimal (length files))),
        entries files,
        p.written
            ∙ plan_ends files,
        (files, refl, p),
      ))
