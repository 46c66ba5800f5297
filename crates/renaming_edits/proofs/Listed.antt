-- The edits of the sources that changed are those of the renaming.
use Rattle.std.proofs.Common.{◌≡◌, ℕ, suc, ◌<◌, List, [], ◌∷◌, ◌++◌, All, Contains, Some, length, map, get_or, refl, ap, sym, ◌∙◌, subst, arith}
use Rattle.std.specs.Prelude.{slice_get}
use Rattle.std.specs.BTreeSet.{BTreeSet}
use Rattle.std.proofs.lemmas.List.Elements.{All-cons, All-nil}
use Rattle.std.proofs.lemmas.Option.{get_or_from_slice_get, slice_get_within}
use Rattle.rotor_base.specs.declared.place.Place.{Place}
use Rattle.rotor_base.specs.declared.place.Facts.{Facts}
use Rattle.rotor_base.specs.declared.report.Renamed.{Renamed}
use Rattle.rotor_base.specs.declared.source.SourceFile.{SourceFile}
use Rattle.rotor_base.specs.Files.{FileSet}
use Rattle.text_places.specs.declared.counting.Counting.{Counting}
use Rattle.ml_lexer.specs.Lexed.{Lexeme, Lexed}
use Rattle.ml_lexer.specs.Respelled.{respelled}
use Rattle.ml_syntax.specs.RespelledSource.{Spellings}
use Rattle.binding_model.specs.Facts.{facts as facts_of}
use Rattle.binding_model.specs.Renaming.{in_file}
use Rattle.shape_core.specs.Places.{HasPlaces}
use Rattle.rename_model.specs.Foot.{hits}
use Rattle.rename_model.specs.Renaming.{watch_of, renamed_words}
use Rattle.rename_model.specs.Report.{hit_files}
use Rattle.rename_parts.specs.Hits.{hit_words}
use Rattle.rename_parts.proofs.Bridge.{texts_are}
use Rattle.source_edits.specs.Edited.{IsEdited}
use Rattle.renaming_edits.specs.declared.renaming.FileEdits.{FileEdits}
use Rattle.renaming_edits.specs.Edits.{IsDone, EditsSource, AreEdits, GivesWords, AreListed}
use Rattle.renaming_edits.proofs.Words.{none_changed}
use Rattle.renaming_edits.proofs.Members.{members_bind}
use Rattle.renaming_edits.proofs.Files.{got, respelled_at, hits_within, no_hit, no_place_in}

-- ---- one more source

pub listed_more : (c : Counting) (set : BTreeSet Place) (new : List ℕ) (sources : List SourceFile) (fs : List ℕ) (es : List FileEdits) (f : ℕ)
    (e : FileEdits)
    → AreListed c set new sources fs es → GivesWords c set new sources f e → AreListed c set new sources (fs ++ f ∷ []) (es ++ e ∷ [])
listed_more c set new sources [] [] f e h g = (g, tt)
listed_more c set new sources [] (x ∷ es) f e h g = absurd h
listed_more c set new sources (x ∷ fs) [] f e h g = absurd h
listed_more c set new sources (x ∷ fs) (y ∷ es) f e h g = (h.0, listed_more c set new sources fs es f e h.1 g)

pub gives_words : (c : Counting) (set : BTreeSet Place) (new : List ℕ) (sources : List SourceFile) (f : ℕ) (e : FileEdits) (at : SourceFile)
    (bytes word : List ℕ) → e.file ≡ f → at ≡ get_or sources f at → bytes ≡ at.bytes → word ≡ new
    → ((xs : List Lexeme) → Lexed bytes xs → IsEdited c bytes e.edits.items (respelled bytes xs (hit_words set f word 1 xs)))
    → GivesWords c set new sources f e
gives_words c set new sources f e at bytes word number is same words h = (
  number,
  λ source xs there cut.
      let one : at ≡ source = is ∙ get_or_from_slice_get sources f source at there in
      let P : List ℕ → List ℕ → Type 0 = λ b w. (ys : List Lexeme) → Lexed b ys
      → IsEdited c b e.edits.items (respelled b ys (hit_words set f w 1 ys)) in
      let here : P source.bytes new = subst (λ b. P b new) (same ∙ ap (λ (s : SourceFile). s.bytes) one) (subst (P bytes) words h) in
      here xs cut,
)

-- the numbers are those of sources
pub changed_within : (files : FileSet) (facts : Facts) (done : Renamed) → IsDone files facts done → All (λ f. f < length files.entries) done.changed
changed_within files facts done is =
    let Q : List ℕ → Type 0 = λ fs. All (λ f. f < length files.entries) fs in
    subst Q (sym is.renaming.changed) (hits_within (hits (facts_of is.project).refs done.foot) files.entries)

-- ---- the whole

listed_files : (c : Counting) (set : BTreeSet Place) (new : List ℕ) (sources : List SourceFile) (fs : List ℕ) (es : List FileEdits)
    → AreListed c set new sources fs es → map (λ (e : FileEdits). e.file) es ≡ fs
listed_files c set new sources [] [] h = refl
listed_files c set new sources [] (x ∷ es) h = absurd h
listed_files c set new sources (x ∷ fs) [] h = absurd h
listed_files c set new sources (x ∷ fs) (y ∷ es) h =
    ap (λ n. n ∷ map (λ (e : FileEdits). e.file) es) h.0.0 ∙ ap (λ l. x ∷ l) (listed_files c set new sources fs es h.1)

module _ (c : Counting) (files : FileSet) (facts : Facts) (done : Renamed) (is : IsDone files facts done) (set : BTreeSet Place)
    (has : HasPlaces (hits facts.refs done.foot) set) where
  abbrev Old : List SourceFile
  Old = files.entries

  abbrev New : List SourceFile
  New = done.files.entries

  abbrev W : Spellings
  W = in_file (renamed_words is.project (watch_of is.project done.undo_at done.foot done.new))

  refs_are : facts.refs ≡ (facts_of is.project).refs
  refs_are = ap (λ (f : Facts). f.refs) is.resolved

  has_hits : HasPlaces (hits (facts_of is.project).refs done.foot) set
  has_hits = subst (λ rs. HasPlaces (hits rs done.foot) set) refs_are has

  changed_are : done.changed ≡ hit_files (hits facts.refs done.foot) 0 Old
  changed_are = is.renaming.changed ∙ ap (λ rs. hit_files (hits rs done.foot) 0 Old) (sym refs_are)

  one_source : (file : ℕ) (e : FileEdits) → file < length Old → GivesWords c set done.new Old file e → EditsSource c Old New e
  one_source file e lt g =
      let old = got Old file lt in
      let source = respelled_at W 0 file file Old New old.0 (omega arith) is.renaming.sources old.1 in
      let xs = source.respelled.lexemes in
      let words = texts_are is.project done.undo_at done.foot done.new is.sound
      (members_bind is.project is.sound done.undo_at done.foot is.binds is.foot) set has_hits file 1 xs in
      let bytes : respelled old.0.bytes xs (hit_words set file done.new 1 xs) ≡ source.new.bytes
      = ap (respelled old.0.bytes xs) (sym words) ∙ sym source.respelled.bytes in
      record {
        old = old.0;
        new = source.new;
        is_old = ap (slice_get Old) g.0 ∙ old.1;
        is_new = ap (slice_get New) g.0 ∙ source.is;
        edited = subst (IsEdited c old.0.bytes e.edits.items) bytes (g.1 old.0 xs old.1 source.respelled.cut);
      }

  each_source : (fs : List ℕ) (es : List FileEdits) → All (λ f. f < length Old) fs → AreListed c set done.new Old fs es
      → All (EditsSource c Old New) es
  each_source [] [] within h = All-nil (EditsSource c Old New)
  each_source [] (e ∷ es) within h = absurd h
  each_source (f ∷ fs) [] within h = absurd h
  each_source (f ∷ fs) (e ∷ es) within h =
      All-cons (EditsSource c Old New) e es (one_source f e (within 0 f (omega arith)) h.0)
      (each_source fs es (λ k d lt. within (suc k) d (omega arith)) h.1)

  other_source : (file : ℕ) (old new : SourceFile) → slice_get Old file ≡ Some old → slice_get New file ≡ Some new → (Contains done.changed file → ⊥)
      → new.bytes ≡ old.bytes
  other_source file old new is_old is_new none =
      let lt : file < length Old = slice_get_within Old file old is_old in
      let source = respelled_at W 0 file file Old New old (omega arith) is.renaming.sources is_old in
      let same : source.new ≡ new = (let two : Some source.new ≡ Some new = sym source.is ∙ is_new in cc) in
      let xs = source.respelled.lexemes in
      let words = texts_are is.project done.undo_at done.foot done.new is.sound
      (members_bind is.project is.sound done.undo_at done.foot is.binds is.foot) set has_hits file 1 xs in
      let ps = hits facts.refs done.foot in
      let gone = no_place_in ps set file has (no_hit ps Old file lt (λ h. none (subst (λ l. Contains l file) (sym changed_are) h))) in
      ap (λ (f : SourceFile). f.bytes) (sym same) ∙ source.respelled.bytes ∙ ap (respelled old.bytes xs) words
      ∙ none_changed old.bytes xs set file done.new source.respelled.cut gone

  pub are_edits : (es : List FileEdits) → AreListed c set done.new Old done.changed es → AreEdits c files done es
  are_edits es h = record {
    changed = listed_files c set done.new Old done.changed es h;
    each = each_source done.changed es (changed_within files facts done is) h;
    others = other_source;
  }
