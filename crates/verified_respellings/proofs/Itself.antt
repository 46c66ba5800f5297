-- Files that `check` accepts are validly renamed as they are.
use Rattle.std.proofs.Common.{◌≡◌, inl, List, [], Option, None, Some, refl}
use Rattle.rotor_base.specs.Files.{FileSet, IsProject}
use Rattle.rotor_base.specs.declared.place.Goal.{Goal}
use Rattle.rotor_base.specs.declared.place.Goal.TheVariants.{Decl, Outside, Missing, Hidden, Blur}
use Rattle.rotor_base.specs.declared.place.Place.{Place}
use Rattle.value_sites.specs.Sound.{IsSound}
use Rattle.ml_trees.specs.Tree.{UnitTree}
use Rattle.shape_core.specs.Shape.{Name}
use Rattle.binding_model.specs.Facts.{facts}
use Rattle.binding_model.specs.Renaming.{goal_at, new_word, words_of}
use Rattle.group_laws.proofs.Apartness.{unrefused_is_good}
use Rattle.project_reading.proofs.Cut.{all_cut}
use Rattle.project_reading.proofs.Soundness.{read_is_sound}
use Rattle.rename_files.specs.Answer.{Accepts}
use Rattle.rename_laws.proofs.Free.{none_repeats, none_unmatched}
use Rattle.valid_renamings.proofs.Back.{nothing_is_valid}
use Rattle.accepted_renamings.specs.Laws.{AreValidlyRenamed}
use Rattle.verified_respellings.proofs.OwnFiles.{sources_alike}
use Rattle.verified_respellings.proofs.Same.{sources_own}

-- no place has an entry
no_entry : {A : Type 0} (y : Name) → None ≡ Some y → A
no_entry y e = absurd cc

same_word : (o : Option Goal) (q : Place) (x : Name) → x ≡ new_word [] o q x
same_word None q x = refl
same_word (Some (Decl d)) q x = refl
same_word (Some Outside) q x = refl
same_word (Some Missing) q x = refl
same_word (Some Hidden) q x = refl
same_word (Some (Blur by n k)) q x = refl

pub are_themselves : (files : FileSet) (us : List UnitTree) → IsProject files → Accepts files us → AreValidlyRenamed files files
are_themselves files us p accepts =
    let sound : IsSound us = read_is_sound files us p accepts.reads in
    let cut = all_cut 0 files.entries accepts.reads.trees accepts.reads.read in
    record {
      project = us;
      reads = accepts.reads;
      names = [];
      valid = nothing_is_valid us sound (unrefused_is_good us sound (none_repeats us accepts.none) (none_unmatched us accepts.none));
      gives = record {
        word = λ d y e. no_entry y e;
        place = λ d y e. no_entry y e;
        free = λ d y e. no_entry y e;
        uses = λ d y x e. no_entry y e;
      };
      renamed = record {
        sources = sources_alike files us p accepts.reads (λ q x. x) (words_of [] (facts us).refs)
            (λ q x. inl (same_word (goal_at (facts us).refs q) q x)) files.entries
            (sources_own 0 files.entries cut.0 cut.1);
        manifest = refl;
      };
    }
