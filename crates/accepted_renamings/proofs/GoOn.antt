-- Files that are validly renamed one after another.
use Rattle.std.proofs.Common.{◌≡◌, List, Option, Some, None, Contains, refl, ap, sym, subst, ◌∙◌}
use Rattle.std.specs.Prelude.{IsTrue}
use Rattle.rotor_base.specs.Files.{FileSet, IsProject}
use Rattle.rotor_base.specs.Name.{is_value_name}
use Rattle.rotor_base.specs.declared.place.Goal.TheVariants.{Decl}
use Rattle.rotor_base.specs.declared.place.Place.{Place}
use Rattle.value_sites.specs.Places.{Site}
use Rattle.ml_syntax.specs.RespelledSource.{AreRespelled}
use Rattle.value_sites.specs.Sound.{IsSound}
use Rattle.ml_trees.specs.Tree.{UnitTree}
use Rattle.shape_core.specs.Shape.{Name, or_else}
use Rattle.binding_model.specs.Facts.{facts}
use Rattle.binding_model.specs.Renaming.{renaming}
use Rattle.binding_model.specs.Renaming.{Renaming, places, at_place, in_file, words_of, respell, IsFixedSite, IsValid}
use Rattle.project_reading.specs.Reads.{Reads}
use Rattle.project_reading.proofs.Cut.{all_cut}
use Rattle.project_reading.proofs.OneReading.{one_project}
use Rattle.project_reading.proofs.RespellingKept.{respelling_keeps_the_reading}
use Rattle.project_reading.proofs.Soundness.{read_is_sound}
use Rattle.respelled_reading.specs.Renamed.{AreRenamed, GivesValueNames}
use Rattle.respelled_reading.proofs.Renamed.{renamed_files_are_cut, renamed_files_are_read}
use Rattle.rename_model.specs.Renaming.{watch_of}
use Rattle.rename_laws.proofs.Accepted.{renamable}
use Rattle.rename_laws.proofs.Kept as kept
use Rattle.valid_renamings.specs.Laws.{together}
use Rattle.valid_renamings.proofs.Kept.{is_fixed, is_place}
use Rattle.valid_renamings.proofs.Together.{at_together, together_is_valid, words_both}
use Rattle.accepted_renamings.specs.Laws.{AcceptedAreValid, AreValidlyRenamed, ValidRenamingsGoOn}
use Rattle.accepted_renamings.proofs.Sources.{sources_twice}

pub accepted_are_valid : AcceptedAreValid
accepted_are_valid files target new done p a =
    let h = renamable files target new done p a in
    record {
      project = a.project;
      reads = a.accepts.reads;
      names = renaming (watch_of a.project a.binder a.foot new);
      valid = kept.valid files a.project a.binder a.foot new h done.files a.renaming.sources a.renaming.manifest;
      gives = kept.gives files a.project a.binder a.foot new h;
      renamed = record { sources = a.renaming.sources; manifest = a.renaming.manifest };
    }

-- ---- two renamings

module _ (first middle last : FileSet) (p : IsProject first) (q : IsProject middle) (us : List UnitTree) (reads : Reads first us) (r s : Renaming)
    (valid : IsValid us r) (gives : GivesValueNames us r) (renamed : AreRenamed us r first middle) (valid_too : IsValid (respell us r) s)
    (gives_too : GivesValueNames (respell us r) s) (renamed_too : AreRenamed (respell us r) s middle last) where
  abbrev vs : List UnitTree
  vs = respell us r

  sound : IsSound us
  sound = read_is_sound first us p reads

  still : Reads middle vs
  still = renamed_files_are_read respelling_keeps_the_reading us r first middle p reads gives renamed

  sound_too : IsSound vs
  sound_too = read_is_sound middle vs q still

  abbrev both : Renaming
  both = together r s

  valid_both : IsValid us both
  valid_both = together_is_valid us r s sound sound_too valid valid_too

  -- an entry of both is one of the later renaming, or of the first
  entry : (P : Place → Name → Type 0) → ((d : Place) (y : Name) → at_place s d ≡ Some y → P d y)
      → ((d : Place) (y : Name) → at_place r d ≡ Some y → P d y) → (d : Place) (y : Name) → at_place both d ≡ Some y → P d y
  entry P f g d y e = by (at_place s d) refl where
    found : or_else (at_place s d) (at_place r d) ≡ Some y
    found = sym (at_together s r d) ∙ e

    by : (o : Option Name) → at_place s d ≡ o → P d y
    by None i = g d y (ap (λ o. or_else o (at_place r d)) (sym i) ∙ found)
    by (Some z) i = f d y (i ∙ (ap (λ o. or_else o (at_place r d)) (sym i) ∙ found))

  gives_both : GivesValueNames us both
  gives_both = record {
    word = entry (λ d y. IsTrue (is_value_name y)) gives_too.word gives.word;
    place = entry (λ d y. (x : Site) × (at_place (places us) d ≡ Some x)) (λ d y e. is_place us r sound valid d (gives_too.place d y e)) gives.place;
    free = entry (λ d y. IsFixedSite (at_place (places us) d) → ⊥) (λ d y e k. gives_too.free d y e (is_fixed us r sound valid d k)) gives.free;
    uses = λ d y x e c g k.
        entry (λ d y. x.goal ≡ Decl d → ⊥)
        (λ d y e g. gives_too.uses d y x e (subst (λ f. Contains f.refs x) (sym valid.same) c) g (is_fixed us r sound valid x.at k))
        (λ d y e g. gives.uses d y x e c g k) d y e g;
  }

  pub sources : AreRespelled (in_file (words_of both (facts us).refs)) 0 first.entries last.entries
  sources =
      let cut = all_cut 0 first.entries reads.trees reads.read in
      sources_twice (in_file (words_of both (facts us).refs)) (in_file (words_of s (facts vs).refs)) (in_file (words_of r (facts us).refs))
      (λ file at x. words_both us r s sound sound_too valid valid_too (record { file = file; token = at }) x) 0 first.entries middle.entries
      last.entries cut.0 cut.1 (renamed_files_are_cut us r first middle cut.0 p reads gives renamed cut.1) renamed.sources renamed_too.sources

  pub renamed_both : AreValidlyRenamed first last
  renamed_both = record {
    project = us;
    reads = reads;
    names = both;
    valid = valid_both;
    gives = gives_both;
    renamed = record { sources = sources; manifest = renamed_too.manifest ∙ renamed.manifest };
  }

pub valid_renamings_go_on : ValidRenamingsGoOn
valid_renamings_go_on first middle last p q a b =
    let us = a.project in
    let r = a.names in
    let still : Reads middle (respell us r) =
    renamed_files_are_read respelling_keeps_the_reading us r first middle p a.reads a.gives a.renamed in
    let same : b.project ≡ respell us r = one_project middle b.project (respell us r) b.reads still in
    renamed_both first middle last p q us a.reads r b.names a.valid a.gives a.renamed
    (subst (λ vs. IsValid vs b.names) same b.valid)
    (subst (λ vs. GivesValueNames vs b.names) same b.gives)
    (subst (λ vs. AreRenamed vs b.names middle last) same b.renamed)
