-- Two projects have at most one verdict.
use Rattle.std.proofs.Common.{◌≡◌, ◌⊎◌, inl, inr, ℕ, zero, suc, ◌<◌, List, [], ◌∷◌, Some, Result, Ok, Err, map, take, slice_get, refl, ap, sym, subst}
use Rattle.std.proofs.Common.{◌∙◌, arith}
use Rattle.std.proofs.lemmas.Bool.{cases_eq}
use Rattle.std.proofs.lemmas.Cmp.{nat_list_cmp_total, tied_itself}
use Rattle.std.specs.Cmp.Lexicographic.{slice_cmp}
use Rattle.std.specs.Ordering.{nat_cmp}
use Rattle.std.specs.declared.cmp.Ordering.TheVariants.{Less, Equal}
use Rattle.rotor_base.specs.Files.{FileSet, names_of}
use Rattle.rotor_base.specs.declared.place.Place.{Place}
use Rattle.rotor_base.specs.declared.refusal.Refusal.{Refusal}
use Rattle.rotor_base.specs.declared.report.Counts.{Counts}
use Rattle.rotor_base.specs.declared.source.SourceFile.{SourceFile}
use Rattle.rotor_base.proofs.Rising.{some_is}
use Rattle.ml_trees.specs.Tree.{UnitTree}
use Rattle.shape_core.specs.Shape.{Name}
use Rattle.binding_model.specs.Facts.{facts}
use Rattle.binding_model.specs.Renaming.{Renaming, name_of}
use Rattle.capture_check.specs.declared.fault.Fault.{Fault}
use Rattle.capture_check.specs.Fault.{faults}
use Rattle.capture_check.proofs.One.{faults_are_one, one_before}
use Rattle.project_reading.proofs.OneReading.{one_project}
use Rattle.rename_files.specs.Answer.{Accepts, Rejects}
use Rattle.rename_files.proofs.One.{one_check}
use Rattle.rename_model.specs.Ladder.{GivesOne}
use Rattle.rename_model.specs.Project.{counts_of}
use Rattle.rename_model.proofs.One.{one_least}
use Rattle.rename_respell.specs.Respelled.{mapped_words}
use Rattle.rename_survey.specs.Survey.{binders_of}
use Rattle.rename_verify.specs.declared.verdict.Verdict.{Verdict}
use Rattle.rename_verify.specs.declared.verdict.Verdict.TheVariants.{Yes, No}
use Rattle.rename_verify.specs.declared.verdict.Why.TheVariants as why
use Rattle.rename_verify.specs.Candidate.{candidate, changes}
use Rattle.rename_verify.specs.Changed.{Changed}
use Rattle.rename_verify.specs.Differ.{HasOtherSources, source, manifest, IsFirstAlone, PartAt, FilesPartAt}
use Rattle.rename_verify.specs.Laws.{AreSame, VerdictsAreOne}
use Rattle.rename_verify.specs.Verdict.{IsSources, IsBytes, IsFixed, IsFixedAt, IsBroken, ForCandidate, reasons, AreChanges, IsVerdict}
use Rattle.rename_verify.proofs.Cutting.{one_lexemes}
use Rattle.rename_verify.proofs.Reasons.{Rest, not_alone, one_bytes}

-- ---- the sources

one_alone : (olds news : List Name) (x y : Name) → IsFirstAlone olds news x → IsFirstAlone olds news y → x ≡ y
one_alone olds news x y h k = by (h.first y k.alone) (k.first x h.alone) where
  by : (x ≡ y) ⊎ (slice_cmp nat_cmp x y ≡ Less) → (y ≡ x) ⊎ (slice_cmp nat_cmp y x ≡ Less) → x ≡ y
  by (inl e) b = e
  by (inr a) (inl e) = sym e
  by (inr a) (inr b) = let wrong : Less ≡ Equal = sym (nat_list_cmp_total.trans x y x a b) ∙ tied_itself nat_list_cmp_total x in absurd cc

one_other : (old new : FileSet) (x y : Name) → HasOtherSources old new x → HasOtherSources old new y → x ≡ y
one_other old new x y (source a h) (source b k) = one_alone (names_of old.entries) (names_of new.entries) a b h k
one_other old new x y (source a h) (manifest e n) = absurd (not_alone (names_of old.entries) (names_of new.entries) a e h.alone)
one_other old new x y (manifest e n) (source b k) = absurd (not_alone (names_of old.entries) (names_of new.entries) b e k.alone)
one_other old new x y (manifest e n) (manifest f m) = refl

one_sources : (old new : FileSet) → GivesOne (IsSources old new)
one_sources old new (why.Sources x) (why.Sources y) h k = ap (λ (z : Name). why.Sources z) (one_other old new x y h k)
one_sources old new (why.Sources x) _ h k = absurd k
one_sources old new _ _ h k = absurd h

-- ---- the bytes

got_before : {A : Type 0} (xs : List A) (n k : ℕ) → k < n → slice_get (take n xs) k ≡ slice_get xs k
got_before xs zero k less = absurd (omega (arith, less))
got_before [] (suc n) k less = refl
got_before (x ∷ xs) (suc n) zero less = refl
got_before (x ∷ xs) (suc n) (suc k) less = got_before xs n k (omega (arith, less))

same_before : {A : Type 0} (xs ys : List A) (n k : ℕ) → k < n → take n xs ≡ take n ys → slice_get xs k ≡ slice_get ys k
same_before xs ys n k less e = sym (got_before xs n k less) ∙ (ap (λ l. slice_get l k) e ∙ got_before ys n k less)

below : (m n : ℕ) → (m ≡ n → ⊥) → (m < n) ⊎ (n < m)
below zero zero ne = absurd (ne refl)
below zero (suc n) ne = inl (omega arith)
below (suc m) zero ne = inr (omega arith)
below (suc m) (suc n) ne = elim (below m n (λ e. ne (ap suc e))) [ inl a ↦ inl (omega (arith, a)) | inr b ↦ inr (omega (arith, b)) ]

pub which : (m n : ℕ) → (m ≡ n) ⊎ ((m < n) ⊎ (n < m))
which m n = elim (cases_eq m n) [ inl e ↦ inl e | inr ne ↦ inr (below m n ne) ]

one_part : (a b : List ℕ) (m n : ℕ) → PartAt a b m → PartAt a b n → m ≡ n
one_part a b m n h k = elim (which m n) [
  | inl e ↦ e
  | inr o ↦ elim o [ inl less ↦ absurd (h.other (same_before a b n m less k.same)) | inr more ↦ absurd (k.other (same_before a b m n more h.same)) ]
]

apart : (xs ys : List (List ℕ)) (f o g : ℕ) → FilesPartAt xs ys f o → take g xs ≡ take g ys → f < g → ⊥
apart xs ys f o g h same less =
    let equal : h.old ≡ h.new = some_is h.old h.new (sym h.here ∙ (same_before xs ys g f less same ∙ h.there)) in
    h.part.other (ap (λ l. slice_get l o) equal)

-- two files and offsets
abbrev Both : ℕ → ℕ → ℕ → ℕ → Type 0
Both f o g p = (f ≡ g) × (o ≡ p)

one_files_part : (xs ys : List (List ℕ)) (f o g p : ℕ) → FilesPartAt xs ys f o → FilesPartAt xs ys g p → Both f o g p
one_files_part xs ys f o g p h k = elim (which f g) [
  | inl e ↦ here e
  | inr d ↦ elim d [ inl less ↦ absurd (apart xs ys f o g h k.same less) | inr more ↦ absurd (apart xs ys g p f k h.same more) ]
] where
  here : f ≡ g → Both f o g p
  here e =
      let a : h.old ≡ k.old = some_is h.old k.old (sym h.here ∙ (ap (slice_get xs) e ∙ k.here)) in
      let b : h.new ≡ k.new = some_is h.new k.new (sym h.there ∙ (ap (slice_get ys) e ∙ k.there)) in
      (e, one_part k.old k.new o p (subst (λ l. PartAt l k.new o) a (subst (λ l. PartAt h.old l o) b h.part)) k.part)

module _ (us : List UnitTree) (r : Renaming) (old new : FileSet) where
  one_bytes_part : GivesOne (IsBytes us r old new)
  one_bytes_part (why.Bytes f o) (why.Bytes g p) h k =
      let news = map (λ (s : SourceFile). s.bytes) new.entries in
      let same : h.0 ≡ k.0 = one_bytes (mapped_words us r) 0 old.entries h.0 k.0 h.1 k.1 in
      let e = one_files_part k.0 news f o g p (subst (λ l. FilesPartAt l news f o) same h.2) k.2 in
      ap (λ n. why.Bytes n o) e.0 ∙ ap (λ n. why.Bytes g n) e.1
  one_bytes_part (why.Bytes f o) _ h k = absurd k
  one_bytes_part _ _ h k = absurd h

  one_fixed : GivesOne (IsFixedAt us r)
  one_fixed (why.Fixed p) (why.Fixed q) h k = ap (λ (x : Place). why.Fixed x) (one_least (IsFixed us r) p q h k)
  one_fixed (why.Fixed p) _ h k = absurd k
  one_fixed _ _ h k = absurd h

  one_broken : GivesOne (IsBroken us new)
  one_broken (why.Broken a) (why.Broken b) h k =
      let same : h.0 ≡ k.0 = one_project new h.0 k.0 h.1 k.1 in
      let vs = k.0 in
      let there : faults (name_of vs) (facts us) (facts vs) a = subst (λ zs. faults (name_of zs) (facts us) (facts zs) a) same h.2 in
      ap (λ (f : Fault). why.Broken f) (some_is a b (faults_are_one (name_of vs) (facts us) (facts vs) (Some a) (Some b) there k.2))
  one_broken (why.Broken a) _ h k = absurd k
  one_broken _ _ h k = absurd h

  one_rest : GivesOne (Rest us old new r)
  one_rest = one_before (IsBytes us r old new) _ one_bytes_part (one_before (IsFixedAt us r) (IsBroken us new) one_fixed one_broken)

-- ---- the ladder

for_one : (us : List UnitTree) (old new : FileSet) → GivesOne (ForCandidate us new (Rest us old new))
for_one us old new a b h k =
    let same = one_lexemes new.entries h.0 k.0 h.1 k.1 in
    one_rest us (candidate k.0 (binders_of us)) old new a b (subst (λ ls. Rest us old new (candidate ls (binders_of us)) a) same h.2) k.2

one_reason : (us : List UnitTree) (old new : FileSet) → GivesOne (reasons us old new)
one_reason us old new = one_before (IsSources old new) (ForCandidate us new (Rest us old new)) (one_sources old new) (for_one us old new)

one_changes : (us : List UnitTree) (new : FileSet) (a b : List Changed) → AreChanges us new a → AreChanges us new b → a ≡ b
one_changes us new a b h k =
    h.2 ∙ (ap (λ ls. changes ls (binders_of us)) (one_lexemes new.entries h.0 k.0 h.1 k.1) ∙ sym k.2)

one_verdict : (old new : FileSet) (us : List UnitTree) (a b : Verdict) → IsVerdict old new us a → IsVerdict old new us b → AreSame a b
one_verdict old new us (Yes a) (Yes b) h k = one_changes us new a.items b.items h.1 k.1
one_verdict old new us (Yes a) (No b) h k = h.0 (b, k)
one_verdict old new us (No a) (Yes b) h k = k.0 (a, h)
one_verdict old new us (No a) (No b) h k = one_reason us old new a b h k

-- ---- the refusals

pub accepted_or_not : (old : FileSet) (us : List UnitTree) (e : Refusal) → Accepts old us → Rejects old e → ⊥
accepted_or_not old us e a h =
    let counts = counts_of old.entries us in
    let wrong : ◌≡◌ {A = Result Counts Refusal} (Ok counts) (Err e) = one_check old (Ok counts) (Err e) (us, a, refl) h in
    cc

err_is : (a b : Refusal) → ◌≡◌ {A = Result Counts Refusal} (Err a) (Err b) → a ≡ b
err_is a b e = cc

pub verdicts_are_one : VerdictsAreOne
verdicts_are_one old new (Ok a) (Ok b) h k =
    let same : h.0 ≡ k.0 = one_project old h.0 k.0 h.1.reads k.1.reads in
    one_verdict old new k.0 a b (subst (λ us. IsVerdict old new us a) same h.2) k.2
verdicts_are_one old new (Ok a) (Err b) h k = accepted_or_not old h.0 b h.1 k
verdicts_are_one old new (Err a) (Ok b) h k = accepted_or_not old k.0 a k.1 h
verdicts_are_one old new (Err a) (Err b) h k = err_is a b (one_check old (Err a) (Err b) h k)
