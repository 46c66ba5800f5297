-- Where two lists of files differ: in the names of the sources, in the manifest, or in the bytes
-- of a source (own).
use Rattle.std.specs.Prelude.{◌≡◌, ◌≢◌, ◌⊎◌, ℕ, List, Some, Contains, codes, slice_get, take}
use Rattle.std.specs.Cmp.Lexicographic.{slice_cmp}
use Rattle.std.specs.Ordering.{nat_cmp}
use Rattle.std.specs.declared.cmp.Ordering.TheVariants.{Less}
use Rattle.rotor_base.specs.Files.{FileSet, names_of}
use Rattle.shape_core.specs.Shape.{Name}

-- one of two lists has this name alone
abbrev pub IsAlone : List Name → List Name → Name → Type 0
IsAlone olds news x = (Contains olds x × (Contains news x → ⊥)) ⊎ (Contains news x × (Contains olds x → ⊥))

-- the first such name in byte order
pub record IsFirstAlone (olds news : List Name) (x : Name) : Type 0 where
  pub alone : IsAlone olds news x
  pub first : (y : Name) → IsAlone olds news y → (x ≡ y) ⊎ (slice_cmp nat_cmp x y ≡ Less)

-- the names of the sources differ, and this is the first that one has alone; or the manifests differ
pub data HasOtherSources (old new : FileSet) : Name → Type 0 where
  source : (x : Name) → IsFirstAlone (names_of old.entries) (names_of new.entries) x → HasOtherSources old new x
  manifest : names_of old.entries ≡ names_of new.entries → old.manifest ≢ new.manifest → HasOtherSources old new (codes "rotor.units")

-- the bytes are the same up to an offset, and there they differ or one list of them ends
pub record PartAt (old new : List ℕ) (offset : ℕ) : Type 0 where
  pub same : take offset old ≡ take offset new
  pub other : slice_get old offset ≢ slice_get new offset

-- the files are the same up to one, and that one's bytes part at an offset
pub record FilesPartAt (olds news : List (List ℕ)) (file offset : ℕ) : Type 0 where
  pub old : List ℕ
  pub new : List ℕ
  pub same : take file olds ≡ take file news
  pub here : slice_get olds file ≡ Some old
  pub there : slice_get news file ≡ Some new
  pub part : PartAt old new offset
