-- Files written to a folder, one after another (own).
use Rattle.std.specs.Prelude.{◌≡◌, ℕ, ◌≤◌, List, [], ◌∷◌, ◌++◌, length, Option, option_map}
use Rattle.std.specs.List.{AllByRecursion}
use Rattle.std.specs.FinMap.{insert}
use Rattle.rotor_base.specs.declared.source.SourceFile.{SourceFile}
use Rattle.tree_io.specs.Outside.{FileMap}

-- the files after some of them were written, one after another
abbrev pub after : List SourceFile → FileMap → FileMap
after [] files = files
after (f ∷ fs) files = after fs (insert files f.name f.bytes)

-- there is room for each of these files
abbrev pub HasRoom : (List ℕ → ℕ) → List SourceFile → Type 0
HasRoom room writes = AllByRecursion (λ f. (length f.bytes ≤ room f.name) × (1 ≤ room f.name)) writes

-- if the content is modelled, all these files were written
abbrev pub Written : List SourceFile → Option FileMap → Option FileMap → Type 0
Written writes before now = now ≡ option_map (after writes) before

-- a write failed: the files before it hold their new bytes, that one any bytes, all others their old
abbrev pub StoppedWriting : List SourceFile → Option FileMap → Option FileMap → Type 0
StoppedWriting writes before now =
    (done : List SourceFile) × (failed : SourceFile) × (rest : List SourceFile) × (any : List ℕ)
    × (writes ≡ done ++ failed ∷ rest) × (now ≡ option_map (λ files. insert (after done files) failed.name any) before)
