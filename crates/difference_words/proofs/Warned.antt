-- What is said of the places of a folder.
use Rattle.std.proofs.Common.{◌≡◌, ◌==◌, List, [], ◌∷◌, true, length, map, subst, sym, arith}
use Rattle.std.proofs.lemmas.Bool.Decides.{nat_tests}
use Rattle.rotor_base.specs.Files.{FileSet}
use Rattle.ml_lexer.specs.Lexed.{Lexeme}
use Rattle.ml_trees.specs.Tree.{UnitTree}
use Rattle.messages.specs.declared.parts.Message.{Message}
use Rattle.project_reading.specs.Reads.{Reads}
use Rattle.project_reading.specs.Sources.{AreCut}
use Rattle.reading_differences.specs.Differences.{AreDifferences, differences_of}
use Rattle.reading_differences.specs.declared.difference.Difference.{Difference}
use Rattle.refusal_words.specs.Cut.{AreCuts, Cut}
use Rattle.report.specs.Pieces.{Word}
use Rattle.difference_words.specs.Warning.{warning_of}
use Rattle.difference_words.specs.Warnings.{AreWarnings, AreWarningsOf, CountsWarnings, count_line, none, some}

pub differences_known : (files : FileSet) (us : List UnitTree) (lists : List (List Lexeme)) (list : List Difference) → Reads files us
    → AreCut files.entries lists → list ≡ differences_of files us lists
    → AreDifferences files list
differences_known files us lists list reads cut e = record { project = us; lists = lists; reads = reads; cut = cut; are = e }

pub none_said : (files : FileSet) (list : List Difference) (messages : List Message) → (length list == 0) ≡ true → messages ≡ []
    → AreWarningsOf files list messages
none_said files [] messages e m = subst (AreWarningsOf files []) (sym m) none
none_said files (d ∷ list) messages e m = absurd (let zero : length (d ∷ list) ≡ 0 = grind (arith, nat_tests, e) in omega (arith, zero))

pub some_said : (files : FileSet) (list : List Difference) (cuts : List Cut) (messages : List Message) → AreCuts files.entries cuts
    → messages ≡ map (warning_of cuts) list
    → AreWarningsOf files list messages
some_said files list cuts messages cut m = subst (AreWarningsOf files list) (sym m) (some list cuts cut)

pub warned : (files : FileSet) (list : List Difference) (messages : List Message) → AreDifferences files list → AreWarningsOf files list messages
    → AreWarnings files messages
warned files list messages d said = record { list = list; differences = d; said = said }

pub line_known : (files : FileSet) (list : List Difference) (line : Word) → AreDifferences files list → line ≡ count_line (length list)
    → CountsWarnings files line
line_known files list line d e = record { list = list; differences = d; said = e }
