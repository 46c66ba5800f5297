-- Reading a batch: lines `TARGET NAME` (own).
use Rattle.std.specs.Prelude.{◌≡◌, ◌≢◌, ◌⊎◌, ℕ, ◌+◌, ◌≤◌, List, [], ◌∷◌, ◌++◌, true, length}
use Rattle.std.specs.Str.{IsUtf8}
use Rattle.rotor_base.specs.Spaces.{IsWhole}
use Rattle.rotor_base.specs.Limits.{max_batch_lines}
use Rattle.cli_words.specs.Target.{target_of}
use Rattle.cli_words.specs.Words.{is_value}
use Rattle.rename_batch.specs.declared.error.BatchReadError.{BatchReadError}
use Rattle.rename_batch.specs.declared.error.BatchReadError.TheVariants.{Line, Memory}
use Rattle.rename_batch.specs.declared.step.Step.{Step}

-- a word: UTF-8, not empty, without a space
pub record IsWord (word : List ℕ) : Type 0 where
  pub text : IsUtf8 word
  pub some : word ≢ []
  pub whole : IsWhole word

-- the line is two words with one space between, and the first does not begin with `-`
pub record AreWords (line target name : List ℕ) : Type 0 where
  pub split : line ≡ target ++ 32 ∷ name
  pub first : IsWord target
  pub second : IsWord name
  pub plain : is_value target ≡ true

-- the line has this step
pub record IsStep (line : List ℕ) (step : Step) : Type 0 where
  pub word : List ℕ
  pub words : AreWords line word step.name
  pub target : step.target ≡ target_of word

-- the line has no step
abbrev pub IsNoStep : List ℕ → Type 0
IsNoStep line = (target name : List ℕ) → AreWords line target name → ⊥

-- each line has the step of its number
abbrev pub AreSteps : List (List ℕ) → List Step → Type 0
AreSteps [] [] = Unit {0}
AreSteps (line ∷ lines) (step ∷ steps) = IsStep line step × AreSteps lines steps
AreSteps [] (step ∷ steps) = ⊥
AreSteps (line ∷ lines) [] = ⊥

-- the lines are a batch of these steps
pub record IsBatch (lines : List (List ℕ)) (steps : List Step) : Type 0 where
  pub each : AreSteps lines steps
  pub few : length lines ≤ max_batch_lines

-- The line of this number, counted from 1, is the first bad one: it has no step, or has 1,000 lines before it, and each
-- line before it has a step.
pub record IsBadLine (lines : List (List ℕ)) (number : ℕ) : Type 0 where
  pub before : List (List ℕ)
  pub steps : List Step
  pub line : List ℕ
  pub after : List (List ℕ)
  pub split : lines ≡ before ++ line ∷ after
  pub counted : number ≡ length before + 1
  pub good : AreSteps before steps
  pub few : length before ≤ max_batch_lines
  pub bad : IsNoStep line ⊎ (length before ≡ max_batch_lines)

-- why lines are not read: the first bad line, or want of memory
abbrev pub IsUnread : List (List ℕ) → BatchReadError → Type 0
IsUnread lines (Line number) = IsBadLine lines number
IsUnread lines Memory = Unit {0}
