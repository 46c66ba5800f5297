-- Files that are validly renamed, and the verdicts on them.
use Rattle.std.proofs.Common.{◌≡◌, ◌≢◌, zero, suc, List, [], ◌∷◌, Bool, true, false, Contains, Ok, refl, ap, sym, subst, arith}
use Rattle.std.proofs.lemmas.Slice.Eq.{bytes_eq-Decides}
use Rattle.std.specs.Str.{bytes_eq}
use Rattle.rotor_base.specs.Files.{FileSet, IsProject}
use Rattle.rotor_base.specs.declared.place.Place.{Place}
use Rattle.ml_syntax.specs.RespelledSource.{AreRespelled}
use Rattle.value_sites.specs.Sound.{IsSound}
use Rattle.ml_trees.specs.Tree.{UnitTree}
use Rattle.shape_core.specs.Shape.{Name}
use Rattle.binding_model.specs.Facts.{facts}
use Rattle.binding_model.specs.Renaming.{Renaming, in_file, name_of, respell, words_of}
use Rattle.project_reading.proofs.Cut.{all_cut}
use Rattle.project_reading.proofs.OneReading.{one_project}
use Rattle.project_reading.proofs.Soundness.{read_is_sound}
use Rattle.respelled_reading.specs.Renamed.{GivesValueNames}
use Rattle.respelled_reading.proofs.Renamed.{changes_places}
use Rattle.renamed_sources.proofs.Respelling.{renamed_keep_names}
use Rattle.valid_renamings.proofs.Together.{at_contains}
use Rattle.accepted_renamings.specs.Laws.{AreValidlyRenamed}
use Rattle.accepted_renamings.proofs.GoOn.{valid_renamings_go_on}
use Rattle.batch_laws.proofs.Valid.{batches_are_valid, batches_leave_projects}
use Rattle.rename_batch.specs.declared.step.Batched.{Batched}
use Rattle.rename_batch.specs.declared.step.Change.{Change}
use Rattle.rename_batch.specs.declared.step.Step.{Step}
use Rattle.rename_batch.specs.Batch.{Answers, Batches, Runs}
use Rattle.rename_files.specs.Answer.{Accepts}
use Rattle.rename_respell.specs.Respelled.{changed}
use Rattle.rename_verify.specs.Changed.{Changed}
use Rattle.rename_verify.specs.Laws.{AreValidlyRespelled}
use Rattle.rename_verify.proofs.Given.{keeps_fixed}
use Rattle.rename_verify.proofs.Said.{valid_says_yes}
use Rattle.rename_verify.proofs.Sources.{sources_are_renamed}
use Rattle.rename_verify.proofs.Valid.{yes_is_valid}
use Rattle.verified_renamings.proofs.Bytes.{renamed_have_bytes}
use Rattle.verified_respellings.specs.Laws.{BatchesSayYes, SaysYesOfItself, ValidlyRenamedAreVerified, VerifiedAreValidlyRenamed, YesGoesBack}
use Rattle.verified_respellings.specs.Laws.{YesGoesOn}
use Rattle.verified_respellings.proofs.Itself.{are_themselves}
use Rattle.verified_respellings.proofs.OwnFiles.{sources_alike}
use Rattle.verified_respellings.proofs.OwnNames.{alike, gives_others, is_map, others, plain, plain_is_valid, v, w}
use Rattle.verified_respellings.proofs.WayBack.{still_accepted, turns_back}

-- ---- validly renamed files are a valid respelling

pub validly_renamed_are_verified : ValidlyRenamedAreVerified
validly_renamed_are_verified old new vs p accepts a =
    let us = a.project in
    let r = a.names in
    let sound : IsSound us = read_is_sound old us p a.reads in
    let same : vs ≡ us = one_project old vs us accepts.reads a.reads in
    let fewer = others us r sound a.valid a.gives in
    let gives : GivesValueNames us fewer = gives_others us r sound a.valid a.gives in
    let cut = all_cut 0 old.entries a.reads.trees a.reads.read in
    let sources : AreRespelled (in_file (words_of fewer (facts us).refs)) 0 old.entries new.entries =
    sources_alike old us p a.reads (v us r sound a.valid a.gives) (w us r sound a.valid a.gives) (alike us r sound a.valid a.gives)
    new.entries a.renamed.sources
    in
    record {
      project = us;
      accepts = subst (Accepts old) same accepts;
      renaming = plain us r sound a.valid a.gives;
      single = is_map us r sound a.valid a.gives;
      valid = plain_is_valid us r sound a.valid a.gives;
      respelled = record {
        names = sym (renamed_keep_names (words_of r (facts us).refs) 0 old.entries new.entries a.renamed.sources);
        manifest = sym a.renamed.manifest;
        bytes = renamed_have_bytes old us p a.reads (words_of fewer (facts us).refs) (changes_places us fewer sound gives)
            (keeps_fixed us fewer gives sound) cut.0 cut.1 new.entries sources;
      };
    }

-- ---- files to which the verdict is yes are validly renamed

-- a map that gives each place a name other than its own is changed whole
all_changed : (us : List UnitTree) (r : Renaming) → ((d : Place) (y : Name) → Contains r (d, y) → y ≢ name_of us d) → changed us r ≡ r
all_changed us [] other = refl
all_changed us (e ∷ r) other =
    by (bytes_eq e.1 (name_of us e.0)) refl (all_changed us r (λ d y c. other d y (suc c.0, omega (arith, c.1), c.2)))
  where
    by : (t : Bool) → bytes_eq e.1 (name_of us e.0) ≡ t → changed us r ≡ r → changed us (e ∷ r) ≡ e ∷ r
    by true t rest = absurd (other e.0 e.1 (zero, omega arith, refl) ((bytes_eq-Decides e.1 (name_of us e.0)).0 t))
    by false t rest = rw t (ap (λ (l : Renaming). e ∷ l) rest)

respelled_is_renamed : (old new : FileSet) (list : List Changed) → IsProject old → AreValidlyRespelled old new list → AreValidlyRenamed old new
respelled_is_renamed old new list p a =
    let us = a.project in
    let r = a.renaming in
    let sound : IsSound us = read_is_sound old us p a.reads in
    let whole : changed us r ≡ r = all_changed us r a.other in
    let gives : GivesValueNames us r = record {
      word = λ d y e. a.valid.names d y (e, a.other d y (at_contains r d y e));
      place = λ d y e. let b = a.valid.binders d y (at_contains r d y e) in (b.0, b.1);
      free = λ d y e. (a.valid.free d y (e, a.other d y (at_contains r d y e))).word;
      uses = λ d y u e c g. (a.valid.free d y (e, a.other d y (at_contains r d y e))).uses u c g;
    } in
    let gives_changed : GivesValueNames us (changed us r) = subst (GivesValueNames us) (sym whole) gives in
    let sources : AreRespelled (in_file (words_of (changed us r) (facts us).refs)) 0 old.entries new.entries =
    sources_are_renamed old us p a.reads (words_of (changed us r) (facts us).refs) (changes_places us (changed us r) sound gives_changed)
    (keeps_fixed us (changed us r) gives_changed sound) new.entries a.respelled.bytes a.respelled.names
    in
    record {
      project = us;
      reads = a.reads;
      names = r;
      valid = a.valid;
      gives = gives;
      renamed = record {
        sources = subst (λ (m : Renaming). AreRespelled (in_file (words_of m (facts us).refs)) 0 old.entries new.entries) whole sources;
        manifest = sym a.respelled.manifest;
      };
    }

pub verified_are_validly_renamed : VerifiedAreValidlyRenamed
verified_are_validly_renamed old new list p q h = respelled_is_renamed old new list.items p (yes_is_valid old new list p q h)

-- ---- verdicts

pub yes_goes_on : YesGoesOn
yes_goes_on first next last one other answer p q s h k verdict =
    let a = verified_are_validly_renamed first next one p q h in
    let b = verified_are_validly_renamed next last other q s k in
    valid_says_yes first last answer p s
    (validly_renamed_are_verified first last h.0 p h.1 (valid_renamings_go_on first next last p q a b)) verdict

pub says_yes_of_itself : SaysYesOfItself
says_yes_of_itself files us answer p accepts verdict =
    valid_says_yes files files answer p p
    (validly_renamed_are_verified files files us p accepts (are_themselves files us p accepts)) verdict

pub yes_goes_back : YesGoesBack
yes_goes_back old new list answer p q h verdict =
    let a = verified_are_validly_renamed old new list p q h in
    let same : h.0 ≡ a.project = one_project old h.0 a.project h.1.reads a.reads in
    let accepts : Accepts old a.project = subst (Accepts old) same h.1 in
    let turned = turns_back old new p q a.project accepts a.names a.valid a.gives a.renamed in
    let still = still_accepted old new p q a.project accepts a.names a.valid a.gives a.renamed in
    valid_says_yes new old answer q p (validly_renamed_are_verified new old (respell a.project a.names) q still turned) verdict

runs_accept : (files : FileSet) (step : Step) (steps : List Step) (last : FileSet) (changes : List Change) → Runs files (step ∷ steps) last changes
    → (us : List UnitTree) × Accepts files us
unfolding Answers
runs_accept files step steps last [] r = absurd r
runs_accept files step steps last (c ∷ cs) r = (r.1.project, r.1.accepts)

first_accepts : (files : FileSet) (steps : List Step) (done : Batched) → steps ≢ [] → Batches files steps (Ok done)
    → (us : List UnitTree) × Accepts files us
first_accepts files [] done some h = absurd (some refl)
first_accepts files (step ∷ steps) done some h = runs_accept files step steps done.files done.done h.run

pub batches_say_yes : BatchesSayYes
batches_say_yes files steps done answer p some h verdict =
    let accepts = first_accepts files steps done some h in
    let q = batches_leave_projects files steps done p h in
    valid_says_yes files done.files answer p q
    (validly_renamed_are_verified files done.files accepts.0 p accepts.1 (batches_are_valid files steps done p some h)) verdict
