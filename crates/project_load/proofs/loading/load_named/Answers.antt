use Rattle.std.proofs.Common.{◌≡◌, ◌⊎◌, Some, Option, Result, IfSome, option_map, take, map, length, string_bytes, sym, ap, ◌∙◌, arith, codes}
use Rattle.std.specs.List.{list_any}
use Rattle.std.specs.Str.{bytes_eq}
use Rattle.std.proofs.lemmas.Grind.{common_steps}
use Rattle.rotor_base.specs.Files.{FileSet, too_large}
use Rattle.rotor_base.specs.declared.refusal.LoadError.{LoadError}
use Rattle.tree_io.specs.Outside.{FileMap}
use Rattle.project_load.specs.Load.{IsLoad, IsOutside, files_in, manifest_of}
use Rattle.project_load.specs.Naming.{seen}
use Rattle.project_load.proofs.Causes.{same_count, passed_on, telling}
use Rattle.project_load.proofs.Kept.{any_map}
use Rattle.project_load.proofs.Loaded.{IsListing, listing_there, listing_manifest, many_answer_at, large_answer, made_answer, made_not_read}
use Rattle.project_load.proofs.loading.load_named.Goals as goal

pub returns-then-count-gt-MAX_SOURCES-clause-answer :
    goal.returns-then-count-gt-MAX_SOURCES-clause-answer
returns-then-count-gt-MAX_SOURCES-clause-answer g c =
    let content : Option FileMap = seen c.args.naming.now (g.T.Tree.content c.args.tree.now) in
    let h : IsListing content (map string_bytes c.args.listed.items) (map string_bytes c.source_names-names.result.items) = record {
      moved = telling content _ c.requires;
      ordered = c.source_names-names.ensures.ordered;
      same = c.source_names-names.ensures.same;
    } in
    let count : c.len-count.result ≡ length (map string_bytes c.source_names-names.result.items) = grind (arith, common_steps) in
    many_answer_at content _ _ c.len-count.result h count c.if-count-gt-MAX_SOURCES.true

pub read_sources-requires : goal.read_sources-requires
read_sources-requires g c =
    let content : Option FileMap = seen c.args.naming.now (g.T.Tree.content c.args.tree.now) in
    let h : IsListing content (map string_bytes c.args.listed.items) (map string_bytes c.source_names-names.result.items) = record {
      moved = telling content _ c.requires;
      ordered = c.source_names-names.ensures.ordered;
      same = c.source_names-names.ensures.same;
    } in
    λ held e. rw c.deref-2.ensures.value (listing_there content _ _ h held e)

pub returns-in_err-entries-clause-answer : goal.returns-in_err-entries-clause-answer
returns-in_err-entries-clause-answer g c =
    let content : Option FileMap = seen c.args.naming.now (g.T.Tree.content c.args.tree.now) in
    let h : IsListing content (map string_bytes c.args.listed.items) (map string_bytes c.source_names-names.result.items) = record {
      moved = telling content _ c.requires;
      ordered = c.source_names-names.ensures.ordered;
      same = c.source_names-names.ensures.same;
    } in
    let count : c.len-count.result ≡ length (map string_bytes c.source_names-names.result.items) = grind (arith, common_steps) in
    let error : LoadError = c.in_err-entries.field-0.0 in
    let large : IfSome content (λ held. IsOutside c.in_err-entries.field-0.0 ⊎
    (too_large (files_in held (map string_bytes c.source_names-names.result.items)) ≡ Some c.in_err-entries.field-0.0)) =
    rw (← c.deref-2.ensures.value) c.in_err-entries.ensures.refused
    in
    passed_on c.from_residual.result error (λ (r : Result FileSet LoadError). IfSome content
    (λ held. IsLoad held r)) c.from_residual.ensures.0 c.from_residual.ensures.1
    (large_answer content _ _ error h (omega (arith, count, c.if-count-gt-MAX_SOURCES.false)) large)

pub read_manifest-requires : goal.read_manifest-requires
read_manifest-requires g c =
    let content : Option FileMap = seen c.args.naming.now (g.T.Tree.content c.args.tree.now) in
    let h : IsListing content (map string_bytes c.args.listed.items) (map string_bytes c.source_names-names.result.items) = record {
      moved = telling content _ c.requires;
      ordered = c.source_names-names.ensures.ordered;
      same = c.source_names-names.ensures.same;
    } in
    let there : c.has_manifest-is_there.result ≡ list_any (bytes_eq (codes "rotor.units")) (map string_bytes c.args.listed.items) =
    rw (any_map string_bytes (bytes_eq (codes "rotor.units")) c.args.listed.items, ← c.deref.ensures.value) c.has_manifest-is_there.ensures
    in
    λ held e. listing_manifest content _ _ c.has_manifest-is_there.result h there held
    (ap (seen c.args.naming.now) (sym c.read_sources.ensures.content) ∙ e)

pub returns-clause-answer : goal.returns-clause-answer
returns-clause-answer g c =
    let content : Option FileMap = seen c.args.naming.now (g.T.Tree.content c.args.tree.now) in
    let h : IsListing content (map string_bytes c.args.listed.items) (map string_bytes c.source_names-names.result.items) = record {
      moved = telling content _ c.requires;
      ordered = c.source_names-names.ensures.ordered;
      same = c.source_names-names.ensures.same;
    } in
    let read : IfSome content (λ held. c.in_ok-entries.entries.items ≡ files_in held (map string_bytes c.source_names-names.result.items)) =
    rw (← c.deref-2.ensures.value) c.in_ok-entries.ensures.read
    in
    let manifest : IfSome content (λ held. option_map (λ bytes. bytes.items) c.in_ok-manifest.manifest ≡
    option_map (take 1048577) (manifest_of held)) =
    rw (← c.read_sources.ensures.content) c.in_ok-manifest.ensures.read
    in
    made_answer content _ _ c.in_ok-entries.entries.items _ c.make_files.result h read manifest
    c.make_files.ensures.files c.make_files.ensures.taken c.make_files.ensures.refused

pub returns-clause-cause : goal.returns-clause-cause
returns-clause-cause g c =
    let same : g.T.Tree.faults c.read_manifest.new.tree ≡ g.T.Tree.faults c.args.tree.now =
    same_count _ _ _ _ c.in_ok-manifest.was c.read_manifest.ensures.cause ∙ same_count _ _ _ _ c.in_ok-entries.was c.read_sources.ensures.cause
    in
    record {
      later = omega (arith, same);
      read = λ e. absurd (made_not_read _ _ c.make_files.result c.make_files.ensures.refused e);
      passed = λ l. absurd (omega (arith, same));
    }

pub returns-clause-steady : goal.returns-clause-steady
returns-clause-steady g c =
    λ s. ((c.read_manifest.ensures.steady (c.read_sources.ensures.steady s).0).0, made_not_read _ _ c.make_files.result c.make_files.ensures.refused)
