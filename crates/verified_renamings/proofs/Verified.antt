-- What an accepted renaming gives is a valid respelling.
use Rattle.std.proofs.Common.{◌≡◌, ◌≢◌, zero, suc, List, [], ◌∷◌, Bool, true, false, Contains, map, refl, sym, ap, subst, ◌∙◌, arith}
use Rattle.std.proofs.lemmas.Slice.Eq.{bytes_eq-Decides}
use Rattle.std.specs.Str.{bytes_eq}
use Rattle.rotor_base.specs.declared.place.Place.{Place}
use Rattle.rotor_base.specs.declared.source.SourceFile.{SourceFile}
use Rattle.value_sites.specs.Sound.{IsSound}
use Rattle.ml_trees.specs.Tree.{UnitTree}
use Rattle.shape_core.specs.Shape.{Name}
use Rattle.binding_model.specs.Facts.{facts}
use Rattle.binding_model.specs.Renaming.{renaming}
use Rattle.binding_model.specs.Renaming.{Renaming, name_of, words_of}
use Rattle.project_reading.proofs.Cut.{all_cut}
use Rattle.project_reading.proofs.Soundness.{read_is_sound}
use Rattle.respelled_reading.proofs.Renamed.{changes_places}
use Rattle.rename_model.specs.Renaming.{watch_of}
use Rattle.rename_respell.specs.Respelled.{AreRespelledBytes, changed}
use Rattle.rename_laws.proofs.Accepted.{renamable, renamings_rewrite}
use Rattle.rename_laws.proofs.Kept as kept
use Rattle.rename_verify.proofs.Given.{keeps_fixed}
use Rattle.rename_verify.proofs.Said.{valid_says_yes}
use Rattle.verified_renamings.specs.Laws.{RenamingsAreVerified, RenamingsSayYes}
use Rattle.verified_renamings.proofs.Bytes.{renamed_have_bytes}

-- a map that gives each place a name other than its own is changed whole
all_changed : (us : List UnitTree) (new : Name) (ds : List Place) → ((d : Place) → Contains ds d → new ≢ name_of us d)
    → changed us (map (λ (d : Place). (d, new)) ds) ≡ map (λ (d : Place). (d, new)) ds
all_changed us new [] other = refl
all_changed us new (d ∷ ds) other =
    by (bytes_eq new (name_of us d)) refl
    (all_changed us new ds (λ e c. other e (suc c.0, omega (arith, c.1), c.2)))
  where
    by : (t : Bool) → bytes_eq new (name_of us d) ≡ t
        → changed us (map (λ (e : Place). (e, new)) ds) ≡ map (λ (e : Place). (e, new)) ds
        → changed us (map (λ (e : Place). (e, new)) (d ∷ ds)) ≡ map (λ (e : Place). (e, new)) (d ∷ ds)
    by true t rest = absurd (other d (zero, omega arith, refl) ((bytes_eq-Decides new (name_of us d)).0 t))
    by false t rest = rw t (ap (λ (r : Renaming). (d, new) ∷ r) rest)

-- the entries of such a map
given_new : (new : Name) (ds : List Place) (d : Place) (y : Name) → Contains {X = Place × Name} (map (λ (e : Place). (e, new)) ds) (d, y) → y ≡ new
given_new new [] d y c = absurd (omega (arith, c.1))
given_new new (e ∷ ds) d y (zero, l, is) = sym (ap (λ (p : Place × Name). p.1) is)
given_new new (e ∷ ds) d y (suc k, l, is) =
    let c : Contains {X = Place × Name} (map (λ (e : Place). (e, new)) ds) (d, y) = (k, omega (arith, l), is) in
    given_new new ds d y c

pub renamings_are_verified : RenamingsAreVerified
renamings_are_verified files target new done p a =
    let us = a.project in
    let h = renamable files target new done p a in
    let r : Renaming = renaming (watch_of us a.binder a.foot new) in
    let sound : IsSound us = read_is_sound files us p a.accepts.reads in
    let gives = kept.gives files us a.binder a.foot new h in
    let cut = all_cut 0 files.entries a.accepts.reads.trees a.accepts.reads.read in
    let watched = (kept.both files us a.binder a.foot new h).0 in
    let whole : changed us r ≡ r = all_changed us new a.foot.decls (λ d c e. watched.other (e ∙ watched.named d c)) in
    let bytes =
    renamed_have_bytes files us p a.accepts.reads (words_of r (facts us).refs) (changes_places us r sound gives) (keeps_fixed us r gives sound)
    cut.0 cut.1 done.files.entries a.renaming.sources
    in
    record {
      project = us;
      accepts = a.accepts;
      renaming = r;
      single = λ d y z c k. given_new new a.foot.decls d y c ∙ sym (given_new new a.foot.decls d z k);
      valid = kept.valid files us a.binder a.foot new h done.files a.renaming.sources a.renaming.manifest;
      respelled =
          record {
            names = sym (renamings_rewrite files target new done p a).names;
            manifest = sym a.renaming.manifest;
            bytes = subst (λ (m : Renaming). AreRespelledBytes (words_of m (facts us).refs) 0 files.entries
                (map (λ (s : SourceFile). s.bytes) done.files.entries))
                (sym whole) bytes;
          };
    }

pub renamings_say_yes : RenamingsSayYes
renamings_say_yes files target new done answer p a =
    let h = renamable files target new done p a in
    valid_says_yes files done.files answer p
    (kept.out_is files a.project a.binder a.foot new h done.files a.renaming.sources a.renaming.manifest)
    (renamings_are_verified files target new done p a)
