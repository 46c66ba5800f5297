-- Sources that are renamed have the respelled bytes.
use Rattle.std.proofs.Common.{◌≡◌, ℕ, suc, List, [], ◌∷◌, map, refl, ap, subst}
use Rattle.rotor_base.specs.Files.{FileSet, IsProject, names_of}
use Rattle.rotor_base.specs.declared.source.SourceFile.{SourceFile}
use Rattle.ml_lexer.specs.Lexed.{Lexeme}
use Rattle.ml_lexer.specs.Respelled.{respelled}
use Rattle.ml_syntax.specs.RespelledSource.{AreRespelled}
use Rattle.ml_trees.specs.Tree.{UnitTree}
use Rattle.shape_core.specs.Respell.{Words}
use Rattle.binding_model.specs.Laws.{KeepsFixed}
use Rattle.binding_model.specs.Renaming.{in_file}
use Rattle.project_reading.specs.Reads.{Reads}
use Rattle.project_reading.specs.Sources.{AreCut}
use Rattle.respelled_reading.proofs.Changed.{ChangesPlaces}
use Rattle.rename_model.proofs.One.{one_sources}
use Rattle.rename_respell.specs.Respelled.{AreRespelledBytes, new_texts}
use Rattle.rename_verify.proofs.Sources.{sources_are_renamed}

-- sources that are cut have respelled bytes
respelled_bytes : (w : Words) (n : ℕ) (olds : List SourceFile) (lists : List (List Lexeme)) → AreCut olds lists
    → (news : List SourceFile) × AreRespelledBytes w n olds (map (λ s. s.bytes) news) × (names_of olds ≡ names_of news)
respelled_bytes w n [] lists cut = ([], tt, refl)
respelled_bytes w n (old ∷ olds) [] cut = absurd cut
respelled_bytes w n (old ∷ olds) (xs ∷ lists) cut =
    let new : SourceFile = record { name = old.name; bytes = respelled old.bytes xs (new_texts (in_file w n) 1 xs) } in
    let rest = respelled_bytes w (suc n) olds lists cut.1 in (
      new ∷ rest.0,
      (record { lexemes = xs; cut = cut.0; bytes = refl }, rest.1),
      ap (λ (names : List (List ℕ)). old.name ∷ names) rest.2,
    )

-- so the renamed sources, of which there is one list, have them
pub renamed_have_bytes : (old : FileSet) (us : List UnitTree) → IsProject old → Reads old us → (w : Words) → ChangesPlaces us w → KeepsFixed w us
    → (lists : List (List Lexeme)) → AreCut old.entries lists → (news : List SourceFile) → AreRespelled (in_file w) 0 old.entries news
    → AreRespelledBytes w 0 old.entries (map (λ s. s.bytes) news)
renamed_have_bytes old us p reads w changes keeps lists cut news renamed =
    let made = respelled_bytes w 0 old.entries lists cut in
    let same : made.0 ≡ news =
    one_sources w 0 old.entries made.0 news (sources_are_renamed old us p reads w changes keeps made.0 made.1 made.2) renamed
    in
    subst (λ (ss : List SourceFile). AreRespelledBytes w 0 old.entries (map (λ s. s.bytes) ss)) same made.1
