-- Lines of a list give a folder, or one of them is the first bad line.
use Rattle.std.proofs.Common.{◌≡◌, ◌⊎◌, inl, inr, ℕ, ◌+◌, ◌==◌, List, [], ◌∷◌, ◌++◌, true, Option, Some, None, length, refl, sym, ap, ◌∙◌}
use Rattle.std.specs.Prelude.{IsSome}
use Rattle.std.specs.FinMap.{empty, get, insert}
use Rattle.rotor_base.specs.Spaces.{IsWhole}
use Rattle.std.specs.List.{list_any}
use Rattle.tree_io.specs.Outside.{FileMap}
use Rattle.project_load.specs.Listed.{Gives, IsBadLine, IsEntry, is_listed_name}
use Rattle.decided_lists.proofs.Known.{Known, both_known, fails_known, none_known, test_known}
use Rattle.decided_lists.proofs.Splits.{Split, split_known}

is_some_or_none : {A : Type 0} (o : Option A) → (o ≡ None → ⊥) → IsSome o
is_some_or_none None n = absurd (n refl)
is_some_or_none (Some a) n = refl

module _ (held : FileMap) where
  -- the file that a line names is in the folder
  abbrev HasFile : List ℕ → Type 0
  HasFile file = (bytes : List ℕ) × (get held file ≡ Some bytes)

  file_known : (file : List ℕ) → Known (HasFile file)
  file_known file = by (get held file) refl where
    by : (o : Option (List ℕ)) → get held file ≡ o → Known (HasFile file)
    by (Some bytes) e = inl (bytes, e)
    by None e = inr (λ k. let wrong : None ≡ Some k.0 = sym e ∙ k.1 in cc)

  module _ (given : FileMap) where
    -- a new SOURCE and a FILE of the folder
    abbrev Names : List ℕ → List ℕ → Type 0
    Names source file = (is_listed_name source ≡ true) × (IsWhole file × (HasFile file × (get given source ≡ None)))

    names_known : (source file : List ℕ) → Known (Names source file)
    names_known source file =
        both_known (test_known (is_listed_name source))
        (both_known (fails_known (list_any (λ b. b == 32) file)) (both_known (file_known file) (none_known (get given source))))

    -- an entry with a new SOURCE, or each entry of the line repeats one
    abbrev Takes : List ℕ → Type 0
    Takes line = ((source : List ℕ) × (bytes : List ℕ) × IsEntry held line source bytes × (get given source ≡ None))
        ⊎ ((source bytes : List ℕ) → IsEntry held line source bytes → IsSome (get given source))

    line_known : (line : List ℕ) → Takes line
    line_known line = by (split_known line 32 Names (λ source file e. names_known source file)) where
      by : Known (Split line 32 Names) → Takes line
      by (inl s) =
          let p = s.parts in
          inl (
            s.front,
            p.1.1.0.0,
            record { file = s.behind; split = s.split; named = p.0; whole = p.1.0; there = p.1.1.0.1 },
            p.1.1.1,
          )
      by (inr none) =
          inr (λ source bytes h. is_some_or_none (get given source)
          (λ e. none (record { front = source; behind = h.file; split = h.split; parts = (h.named, (h.whole, ((bytes, h.there), e))) })))

  -- the lines from a folder on: what they give, or the first bad one
  pub record BadFrom (lines : List (List ℕ)) (given : FileMap) : Type 0 where
    pub before : List (List ℕ)
    pub line : List ℕ
    pub after : List (List ℕ)
    pub left : FileMap
    pub split : lines ≡ before ++ line ∷ after
    pub good : Gives held before given left
    pub bad : (source bytes : List ℕ) → IsEntry held line source bytes → IsSome (get left source)

  abbrev FoundFrom : List (List ℕ) → FileMap → Type 0
  FoundFrom lines given = ((all : FileMap) × Gives held lines given all) ⊎ BadFrom lines given

  found_from : (lines : List (List ℕ)) (given : FileMap) → FoundFrom lines given
  found_from [] given = inl (given, refl)
  found_from (line ∷ lines) given = by (line_known given line) (found_from lines) where
    behind : (source bytes : List ℕ) → IsEntry held line source bytes → get given source ≡ None → FoundFrom lines (insert given source bytes)
        → FoundFrom (line ∷ lines) given
    behind source bytes entry new (inl found) = inl (found.0, (source, bytes, entry, new, found.1))
    behind source bytes entry new (inr b) = inr (record {
      before = line ∷ b.before;
      line = b.line;
      after = b.after;
      left = b.left;
      split = ap (λ l. line ∷ l) b.split;
      good = (source, bytes, entry, new, b.good);
      bad = b.bad;
    })

    by : Takes given line → ((next : FileMap) → FoundFrom lines next) → FoundFrom (line ∷ lines) given
    by (inl t) more = behind t.0 t.1 t.2 t.3 (more (insert given t.0 t.1))
    by (inr bad) more = inr (record { before = []; line = line; after = lines; left = given; split = refl; good = refl; bad = bad })

  pub entries_known : (lines : List (List ℕ)) → ((all : FileMap) × Gives held lines empty all) ⊎ ((number : ℕ) × IsBadLine held lines number)
  entries_known lines = by (found_from lines empty) where
    by : FoundFrom lines empty → ((all : FileMap) × Gives held lines empty all) ⊎ ((number : ℕ) × IsBadLine held lines number)
    by (inl found) = inl found
    by (inr b) =
        inr (
          length b.before + 1,
          record {
            before = b.before;
            line = b.line;
            after = b.after;
            given = b.left;
            split = b.split;
            counted = refl;
            good = b.good;
            bad = b.bad;
          },
        )
