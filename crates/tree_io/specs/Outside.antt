-- What the calls of a tree do to its folder, and those of a sink to its output (own).
use Rattle.std.specs.Prelude.{◌≡◌, ◌⊎◌, ℕ, ◌-◌, ◌^◌, ◌<◌, ◌≤◌, List, ◌++◌, take, length, Option, Some, option_map, Result, IsErrOf, OnOk, OnErr}
use Rattle.std.specs.Ordering.{nat_cmp}
use Rattle.std.specs.Cmp.Lexicographic.{slice_cmp}
use Rattle.std.specs.FinMap.{FinMap, insert}
use Rattle.rotor_base.specs.declared.fault.Failed.{Failed}
use Rattle.tree_io.specs.declared.outside.TreeError.{TreeError}
use Rattle.tree_io.specs.declared.outside.TreeError.TheVariants as variant

-- the files of a folder: the bytes of each name, in byte order of the names
abbrev pub FileMap : Type 0
FileMap = FinMap (slice_cmp nat_cmp) (List ℕ)

-- the count of faults rose, or is the greatest u64
abbrev pub Rose : ℕ → ℕ → Type 0
Rose before now = (before < now) ⊎ (now ≡ 2 ^ 64 - 1)

-- the count of faults never falls; if the answer is `Failed`, it rose; at every other answer it is as it was
pub record HasCause {T : Type 0} (before now : ℕ) (result : Result T TreeError) : Type 0 where
  pub later : before ≤ now
  pub failed : IsErrOf result variant.Failed → Rose before now
  pub memory : IsErrOf result variant.Memory → now ≡ before
  pub ok : OnOk result (now ≡ before)

-- the same, of a call whose only Err is a fault
pub record HasFault {T : Type 0} (before now : ℕ) (result : Result T Failed) : Type 0 where
  pub later : before ≤ now
  pub failed : OnErr result (Rose before now)
  pub ok : OnOk result (now ≡ before)

-- if no call would fail before, none will now, and this call did not fail
abbrev pub StaysSteady : Type 0 → Type 0 → Type 0 → Type 0
StaysSteady before now failed = before → now × (¬ failed)

-- no name has less room than before
abbrev pub KeepsRoom : (List ℕ → ℕ) → (List ℕ → ℕ) → Type 0
KeepsRoom before now = (name : List ℕ) → before name ≤ now name

-- if the content is modelled, the file of this name now holds these bytes, and all other files are as they were
abbrev pub Writes : List ℕ → List ℕ → Option FileMap → Option FileMap → Type 0
Writes name bytes before now = now ≡ option_map (λ files. insert files name bytes) before

-- the same with any bytes in the file of this name
abbrev pub Spoils : List ℕ → Option FileMap → Option FileMap → Type 0
Spoils name before now = (bytes : List ℕ) × Writes name bytes before now

-- these are the first bytes of the file, as many as the limit; if it has fewer, all of them
abbrev pub IsFront : ℕ → Option (List ℕ) → List ℕ → Type 0
IsFront limit file bytes = option_map (take limit) file ≡ Some bytes

-- if the bytes taken are modelled, these were added at the end
abbrev pub Takes : List ℕ → Option (List ℕ) → Option (List ℕ) → Type 0
Takes bytes before now = now ≡ option_map (λ taken. taken ++ bytes) before

-- the same with a prefix of these bytes
abbrev pub TakesPrefix : List ℕ → Option (List ℕ) → Option (List ℕ) → Type 0
TakesPrefix bytes before now = (n : ℕ) × (n ≤ length bytes) × Takes (take n bytes) before now
