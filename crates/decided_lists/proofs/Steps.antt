-- Lines are a batch, or one of them is the first bad line.
use Rattle.std.proofs.Common.{◌≡◌, ◌⊎◌, inl, inr, ℕ, zero, suc, ◌+◌, ◌≤◌, ◌==◌, List, [], ◌∷◌, ◌++◌, true, length, refl, ap, arith}
use Rattle.std.specs.List.{list_any}
use Rattle.rotor_base.specs.Limits.{max_batch_lines}
use Rattle.cli_words.specs.Target.{target_of}
use Rattle.cli_words.specs.Words.{is_value}
use Rattle.rename_batch.specs.declared.step.Step.{Step}
use Rattle.rename_batch.specs.Reading.{AreSteps, IsBadLine, IsBatch, IsNoStep, IsStep, IsWord}
use Rattle.decided_lists.specs.Laws.{BatchLinesAreDecided}
use Rattle.decided_lists.proofs.Known.{Known, both_known, fails_known, known_as, some_known, test_known, text_known}
use Rattle.decided_lists.proofs.Splits.{Split, split_known}

word_known : (word : List ℕ) → Known (IsWord word)
word_known word =
    known_as (λ k. record { text = k.0; some = k.1.0; whole = k.1.1 }) (λ (w : IsWord word). (w.text, (w.some, w.whole)))
    (both_known (text_known word) (both_known (some_known word) (fails_known (list_any (λ b. b == 32) word))))

-- the words of a step
abbrev AreGood : List ℕ → List ℕ → Type 0
AreGood target name = IsWord target × (IsWord name × (is_value target ≡ true))

abbrev HasStep : List ℕ → Type 0
HasStep line = ((step : Step) × IsStep line step) ⊎ IsNoStep line

line_known : (line : List ℕ) → HasStep line
line_known line =
    by (split_known line 32 AreGood (λ target name e. both_known (word_known target) (both_known (word_known name) (test_known (is_value target)))))
  where
    by : Known (Split line 32 AreGood) → HasStep line
    by (inl s) =
        let step : Step = record { target = target_of s.front; name = s.behind } in
        inl (
          step,
          record {
            word = s.front;
            words = record { split = s.split; first = s.parts.0; second = s.parts.1.0; plain = s.parts.1.1 };
            target = refl;
          },
        )
    by (inr none) =
        inr (λ target name h. none (record { front = target; behind = name; split = h.split; parts = (h.first, (h.second, h.plain)) }))

-- the first bad line, when so many lines may come
record BadFrom (lines : List (List ℕ)) (room : ℕ) : Type 0 where
  before : List (List ℕ)
  steps : List Step
  line : List ℕ
  after : List (List ℕ)
  split : lines ≡ before ++ line ∷ after
  good : AreSteps before steps
  few : length before ≤ room
  bad : IsNoStep line ⊎ (length before ≡ room)

abbrev FoundFrom : List (List ℕ) → ℕ → Type 0
FoundFrom lines room = ((steps : List Step) × AreSteps lines steps × (length lines ≤ room)) ⊎ BadFrom lines room

found_from : (lines : List (List ℕ)) (room : ℕ) → FoundFrom lines room
found_from [] room = inl ([], tt, omega arith)
found_from (line ∷ lines) zero =
    inr (record { before = []; steps = []; line = line; after = lines; split = refl; good = tt; few = omega arith; bad = inr refl })
found_from (line ∷ lines) (suc room) = by (line_known line) (found_from lines room) where
  by : HasStep line → FoundFrom lines room → FoundFrom (line ∷ lines) (suc room)
  by (inr none) rest =
      inr (record { before = []; steps = []; line = line; after = lines; split = refl; good = tt; few = omega arith; bad = inl none })
  by (inl step) (inl rest) = inl (step.0 ∷ rest.0, (step.1, rest.1), omega (arith, rest.2))
  by (inl step) (inr b) = inr (record {
    before = line ∷ b.before;
    steps = step.0 ∷ b.steps;
    line = b.line;
    after = b.after;
    split = ap (λ l. line ∷ l) b.split;
    good = (step.1, b.good);
    few = omega (arith, b.few);
    bad = elim b.bad [ inl none ↦ inl none | inr full ↦ inr (ap suc full) ];
  })

pub batch_lines_are_decided : BatchLinesAreDecided
batch_lines_are_decided lines = by (found_from lines max_batch_lines) where
  by : FoundFrom lines max_batch_lines → ((steps : List Step) × IsBatch lines steps) ⊎ ((number : ℕ) × IsBadLine lines number)
  by (inl all) = inl (all.0, record { each = all.1; few = all.2 })
  by (inr b) =
      inr (
        length b.before + 1,
        record {
          before = b.before;
          steps = b.steps;
          line = b.line;
          after = b.after;
          split = b.split;
          counted = refl;
          good = b.good;
          few = b.few;
          bad = b.bad;
        },
      )
