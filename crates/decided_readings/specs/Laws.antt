-- What is decided of files (own).
use Rattle.std.specs.Prelude.{◌≡◌, ◌≢◌, ◌⊎◌, ℕ, ◌<◌, List, length, true}
use Rattle.rotor_base.specs.Files.{FileSet}
use Rattle.rotor_base.specs.declared.refusal.Refusal.{Refusal}
use Rattle.rotor_base.specs.declared.source.SourceFile.{SourceFile}
use Rattle.ml_lexer.specs.Lexed.{Fault, LexFault, Lexed, Lexeme}
use Rattle.ml_trees.specs.Tree.{FileTree, UnitTree}
use Rattle.unit_order.specs.Order.{IsStuck, takes_all}
use Rattle.unit_order.specs.Positions.{unit_at}
use Rattle.project_reading.specs.Reads.{Reads, Unread}
use Rattle.project_reading.specs.Source.{IsUnread, ReadsAs}

-- Law: each file of bytes is cut into lexemes, or it has a fault
abbrev pub FilesAreCut : Type 0
FilesAreCut = (bytes : List ℕ) → ((xs : List Lexeme) × Lexed bytes xs) ⊎ ((fault : Fault) × LexFault bytes fault)

-- Law: each source is read as a tree, or something says why it is not
abbrev pub SourcesAreDecided : Type 0
SourcesAreDecided =
    (number : ℕ) (source : SourceFile)
    → ((tree : FileTree) × ReadsAs number source tree) ⊎ ((why : Refusal) × IsUnread number source why)

-- units of different positions have different names
abbrev pub HaveDifferentNames : List UnitTree → Type 0
HaveDifferentNames units =
    (i j : ℕ) → i < length units → j < length units → i ≢ j → (unit_at units i).name ≢ (unit_at units j).name

-- Law: the taking takes all units, whose names are different, or the first unit that lies on a cycle is named
abbrev pub OrdersAreDecided : Type 0
OrdersAreDecided = (units : List UnitTree) → HaveDifferentNames units → (takes_all units ≡ true) ⊎ ((name : List ℕ) × IsStuck units name)

-- the files are read as a project, or they are not, and something says why
abbrev pub HasReading : FileSet → Type 0
HasReading files = ((us : List UnitTree) × Reads files us) ⊎ ((why : Refusal) × Unread files why)

-- Law: all files have a reading
abbrev pub FilesAreDecided : Type 0
FilesAreDecided = (files : FileSet) → HasReading files
