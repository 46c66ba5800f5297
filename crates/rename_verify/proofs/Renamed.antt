-- New sources with the bytes of the respelled old ones are read as the respelled project.
use Rattle.std.proofs.Common.{◌≡◌, List, map, sym}
use Rattle.rotor_base.specs.Files.{FileSet, IsProject, names_of}
use Rattle.rotor_base.specs.declared.place.Place.{Place}
use Rattle.ml_lexer.specs.Lexed.{Lexeme}
use Rattle.value_sites.specs.Sound.{IsSound}
use Rattle.ml_trees.specs.Tree.{UnitTree}
use Rattle.shape_core.specs.Shape.{Name}
use Rattle.binding_model.specs.Facts.{facts}
use Rattle.binding_model.specs.Laws.{KeepsFixed, StaysPut}
use Rattle.binding_model.specs.Renaming.{Renaming, Changes, IsFree, respell, words_of}
use Rattle.binding_model.proofs.Staying.{places_stay}
use Rattle.project_reading.specs.Reads.{Reads}
use Rattle.project_reading.proofs.RespellingKept.{respelling_keeps_the_reading}
use Rattle.project_reading.proofs.Soundness.{read_is_sound}
use Rattle.respelled_reading.specs.Renamed.{AreRenamed, GivesValueNames}
use Rattle.respelled_reading.proofs.Renamed.{changes_places, renamed_files_are_read}
use Rattle.rename_respell.specs.Respelled.{AreRespelledBytes, changed, mapped_words}
use Rattle.rename_survey.specs.Survey.{binders_of}
use Rattle.rename_verify.specs.Candidate.{AreLexemesOf, candidate}
use Rattle.rename_verify.proofs.Given as given
use Rattle.rename_verify.proofs.Sources.{sources_are_renamed}

-- new files that have the names, the manifest and the bytes of the respelled old ones, if what is changed may be
-- renamed
pub record AreRespelling (old new : FileSet) (us : List UnitTree) (lists : List (List Lexeme)) : Type 0 where
  pub project : IsProject old
  pub reads : Reads old us
  pub cut : AreLexemesOf new.entries lists
  pub names : names_of old.entries ≡ names_of new.entries
  pub manifest : old.manifest ≡ new.manifest
  pub bytes : AreRespelledBytes (mapped_words us (candidate lists (binders_of us))) 0 old.entries (map (λ s. s.bytes) new.entries)
  pub free : (d : Place) (y : Name) → Changes us (candidate lists (binders_of us)) d y → IsFree us d

module _ (old new : FileSet) (us : List UnitTree) (lists : List (List Lexeme)) (h : AreRespelling old new us lists) where
  abbrev r : Renaming
  r = candidate lists (binders_of us)

  pub sound : IsSound us
  sound = read_is_sound old us h.project h.reads

  pub gives : GivesValueNames us (changed us r)
  gives = given.gives us sound lists new.entries h.cut h.free

  keeps : KeepsFixed (words_of (changed us r) (facts us).refs) us
  keeps = given.keeps_fixed us (changed us r) gives sound

  pub renamed : AreRenamed us (changed us r) old new
  renamed = record {
    sources = sources_are_renamed old us h.project h.reads (mapped_words us r)
        (changes_places us (changed us r) sound gives) keeps new.entries h.bytes h.names;
    manifest = sym h.manifest;
  }

  -- the new files are read as the respelled project
  pub still : Reads new (respell us (changed us r))
  still = renamed_files_are_read respelling_keeps_the_reading us (changed us r) old new h.project h.reads gives renamed

  -- which has the places, the items and the groups of the old one, and is as heavy
  pub stays : StaysPut us (respell us (changed us r))
  stays = places_stay us (words_of (changed us r) (facts us).refs) keeps
