-- Why a verdict is no, and that there is no reason.
use Rattle.std.proofs.Common.{◌≡◌, inl, inr, ℕ, suc, List, [], ◌∷◌, None, map, length, Contains, slice_get, refl, ap, sym, subst, ◌∙◌}
use Rattle.rotor_base.specs.Files.{FileSet, names_of}
use Rattle.rotor_base.specs.declared.place.Place.{Place}
use Rattle.rotor_base.specs.declared.source.SourceFile.{SourceFile}
use Rattle.rotor_base.proofs.Rising.{some_is}
use Rattle.ml_lexer.specs.Lexed.{Lexeme}
use Rattle.ml_lexer.specs.Respelled.{respelled}
use Rattle.ml_lexer.proofs.OneCutting.{one_lexed}
use Rattle.ml_trees.specs.Tree.{UnitTree}
use Rattle.shape_core.specs.Respell.{Words}
use Rattle.shape_core.specs.Shape.{Name}
use Rattle.binding_model.specs.Facts.{facts}
use Rattle.binding_model.specs.Renaming.{Renaming, Changes, IsFree, in_file, name_of}
use Rattle.capture_check.specs.declared.fault.Fault.{Fault}
use Rattle.capture_check.specs.Fault.{IsMet, IsFirstFault, before, faults}
use Rattle.project_reading.specs.Reads.{Reads}
use Rattle.project_reading.proofs.OneReading.{one_project}
use Rattle.rename_model.specs.Ladder.{IsLeast}
use Rattle.rename_respell.specs.Respelled.{IsRespelledBytes, AreRespelledBytes, mapped_words, new_texts}
use Rattle.rename_verify.specs.declared.verdict.Why.{Why}
use Rattle.rename_verify.specs.declared.verdict.Why.TheVariants as why
use Rattle.rename_survey.specs.Survey.{binders_of}
use Rattle.rename_verify.specs.Candidate.{AreLexemesOf, candidate}
use Rattle.rename_verify.specs.Differ.{HasOtherSources, source, manifest, IsAlone, FilesPartAt}
use Rattle.rename_verify.proofs.Cutting.{one_lexemes}
use Rattle.rename_verify.specs.Verdict.{IsSources, IsBytes, IsFixed, IsFixedAt, IsBroken, reasons}

-- ---- respelled bytes are one

one_bytes_of : (w : Words) (n : ℕ) (old a b : List ℕ) → IsRespelledBytes w n old a → IsRespelledBytes w n old b → a ≡ b
one_bytes_of w n old a b h k = h.bytes
    ∙ (ap (λ (xs : List Lexeme). respelled old xs (new_texts (in_file w n) 1 xs)) (one_lexed h.cut k.cut) ∙ sym k.bytes)

pub one_bytes : (w : Words) (n : ℕ) (olds : List SourceFile) (a b : List (List ℕ)) → AreRespelledBytes w n olds a → AreRespelledBytes w n olds b
    → a ≡ b
one_bytes w n [] [] [] h k = refl
one_bytes w n [] [] (y ∷ b) h k = absurd k
one_bytes w n [] (x ∷ a) b h k = absurd h
one_bytes w n (o ∷ olds) [] b h k = absurd h
one_bytes w n (o ∷ olds) (x ∷ a) [] h k = absurd k
one_bytes w n (o ∷ olds) (x ∷ a) (y ∷ b) h k = ap (λ z. z ∷ a) (one_bytes_of w n o.bytes x y h.0 k.0)
    ∙ ap (λ l. y ∷ l) (one_bytes w (suc n) olds a b h.1 k.1)

pub as_many : (w : Words) (n : ℕ) (olds : List SourceFile) (a : List (List ℕ)) → AreRespelledBytes w n olds a → length olds ≡ length a
as_many w n [] [] h = refl
as_many w n [] (x ∷ a) h = absurd h
as_many w n (o ∷ olds) [] h = absurd h
as_many w n (o ∷ olds) (x ∷ a) h = ap suc (as_many w (suc n) olds a h.1)

-- ---- there is no reason of a kind

pub not_alone : (olds news : List Name) (x : Name) → olds ≡ news → IsAlone olds news x → ⊥
not_alone olds news x e (inl a) = a.1 (subst (λ l. Contains l x) e a.0)
not_alone olds news x e (inr a) = a.1 (subst (λ l. Contains l x) (sym e) a.0)

same_sources : (old new : FileSet) (x : Name) → names_of old.entries ≡ names_of new.entries → old.manifest ≡ new.manifest → HasOtherSources old new x
    → ⊥
same_sources old new x e m (source y a) = not_alone (names_of old.entries) (names_of new.entries) y e a.alone
same_sources old new x e m (manifest f n) = n m

pub no_sources : (old new : FileSet) → names_of old.entries ≡ names_of new.entries → old.manifest ≡ new.manifest → IsMet (IsSources old new) → ⊥
no_sources old new e m (why.Sources x, h) = same_sources old new x e m h
no_sources old new e m (_, h) = h

no_part : (files : List (List ℕ)) (file offset : ℕ) → FilesPartAt files files file offset → ⊥
no_part files file offset h =
    let same : h.old ≡ h.new = some_is h.old h.new (sym h.here ∙ h.there) in
    h.part.other (ap (λ l. slice_get l offset) same)

module _ (us : List UnitTree) (r : Renaming) (old new : FileSet) where
  abbrev news : List (List ℕ)
  news = map (λ (s : SourceFile). s.bytes) new.entries

  pub no_bytes : AreRespelledBytes (mapped_words us r) 0 old.entries news → IsMet (IsBytes us r old new) → ⊥
  no_bytes i (why.Bytes file offset, h) =
      let same : h.0 ≡ news = one_bytes (mapped_words us r) 0 old.entries h.0 news h.1 i in
      no_part news file offset (subst (λ l. FilesPartAt l news file offset) same h.2)
  no_bytes i (_, h) = h

  pub no_fixed : ((d : Place) (y : Name) → Changes us r d y → IsFree us d) → IsMet (IsFixedAt us r) → ⊥
  no_fixed free (why.Fixed at, h) = h.there.fixed (free at h.there.name h.there.changes)
  no_fixed free (_, h) = h

  pub no_broken : (vs : List UnitTree) → Reads new vs → IsFirstFault (name_of vs) (facts us) (facts vs) None → IsMet (IsBroken us new) → ⊥
  no_broken vs reads none (why.Broken fault, h) =
      let same : h.0 ≡ vs = one_project new h.0 vs h.1 reads in
      none (fault, subst (λ zs. faults (name_of zs) (facts us) (facts zs) fault) same h.2)
  no_broken vs reads none (_, h) = h

-- ---- the ladder

-- the reasons behind the first, for a candidate
abbrev pub Rest : List UnitTree → FileSet → FileSet → Renaming → Why → Type 0
Rest us old new r = before (IsBytes us r old new) (before (IsFixedAt us r) (IsBroken us new))

module _ (us : List UnitTree) (old new : FileSet) (lists : List (List Lexeme)) (cut : AreLexemesOf new.entries lists)
    (sources : IsMet (IsSources old new) → ⊥) where
  abbrev r : Renaming
  r = candidate lists (binders_of us)

  for_it : (w : Why) → Rest us old new r w → reasons us old new w
  for_it w h = inr (sources, (lists, cut, h))

  pub then_bytes : (file offset : ℕ) → IsBytes us r old new (why.Bytes file offset) → reasons us old new (why.Bytes file offset)
  then_bytes file offset h = for_it (why.Bytes file offset) (inl h)

  pub then_fixed : (IsMet (IsBytes us r old new) → ⊥) → (at : Place) → IsLeast (IsFixed us r) at → reasons us old new (why.Fixed at)
  then_fixed b at h = for_it (why.Fixed at) (inr (b, inl h))

  pub then_broken : (IsMet (IsBytes us r old new) → ⊥) → (IsMet (IsFixedAt us r) → ⊥) → (fault : Fault) → IsBroken us new (why.Broken fault)
      → reasons us old new (why.Broken fault)
  then_broken b f fault h = for_it (why.Broken fault) (inr (b, inr (f, h)))

  no_rest : (IsMet (IsBytes us r old new) → ⊥) → (IsMet (IsFixedAt us r) → ⊥) → (IsMet (IsBroken us new) → ⊥) → (w : Why) → Rest us old new r w → ⊥
  no_rest b f k w (inl h) = b (w, h)
  no_rest b f k w (inr (n, inl h)) = f (w, h)
  no_rest b f k w (inr (n, inr (m, h))) = k (w, h)

  pub no_reason : (IsMet (IsBytes us r old new) → ⊥) → (IsMet (IsFixedAt us r) → ⊥) → (IsMet (IsBroken us new) → ⊥) → IsMet (reasons us old new) → ⊥
  no_reason b f k (w, inl h) = sources (w, h)
  no_reason b f k (w, inr (n, h)) =
      no_rest b f k w (subst (λ ls. Rest us old new (candidate ls (binders_of us)) w) (one_lexemes new.entries h.0 lists h.1 cut) h.2)
