use Rattle.std.proofs.Common.{◌≡◌, ap, sym, subst, ◌∙◌, List, option_copied}
use Rattle.rotor_base.specs.declared.source.SourceFile.{SourceFile}
use Rattle.rotor_base.specs.Files.{names_of}
use Rattle.rename_verify.specs.Differ.{HasOtherSources, manifest}
use Rattle.rename_verify.specs.Scans.{first_alone}
use Rattle.rename_verify.proofs.Alone.{found, none}
use Rattle.rename_verify.proofs.names.other_source.Goals as goal

pub returns-in-Some-clause-name : goal.returns-in-Some-clause-name
returns-in-Some-clause-name c =
    let old = c.args.old.now in
    let new = c.args.new.now in
    let e : option_copied c.find_first_alone.result ≡ first_alone (names_of old.entries) (names_of new.entries) =
    c.find_first_alone.ensures ∙ (ap (λ (l : List SourceFile). first_alone (names_of l) (names_of c.entries-2.result.now)) c.entries.ensures.entries
    ∙ ap (λ (l : List SourceFile). first_alone (names_of old.entries) (names_of l)) c.entries-2.ensures.entries) in
    subst (HasOtherSources old new) (sym c.in_ok-new.ensures)
    (found old new c.entries.ensures.project c.entries-2.ensures.project (option_copied c.find_first_alone.result) e c.in-Some.name.now
    (ap option_copied c.in-Some.is))

pub returns-then-has_same_manifest-clause-name : goal.returns-then-has_same_manifest-clause-name
returns-then-has_same_manifest-clause-name c =
    let old = c.args.old.now in
    let new = c.args.new.now in
    let e : option_copied c.find_first_alone.result ≡ first_alone (names_of old.entries) (names_of new.entries) =
    c.find_first_alone.ensures ∙ (ap (λ (l : List SourceFile). first_alone (names_of l) (names_of c.entries-2.result.now)) c.entries.ensures.entries
    ∙ ap (λ (l : List SourceFile). first_alone (names_of old.entries) (names_of l)) c.entries-2.ensures.entries) in (
      none old new c.entries.ensures.project c.entries-2.ensures.project (option_copied c.find_first_alone.result) e
          (ap option_copied c.in_default.is),
      c.has_same_manifest.ensures.0 c.if-has_same_manifest.true,
    )

pub returns-clause-name : goal.returns-clause-name
returns-clause-name c =
    let old = c.args.old.now in
    let new = c.args.new.now in
    let e : option_copied c.find_first_alone.result ≡ first_alone (names_of old.entries) (names_of new.entries) =
    c.find_first_alone.ensures ∙ (ap (λ (l : List SourceFile). first_alone (names_of l) (names_of c.entries-2.result.now)) c.entries.ensures.entries
    ∙ ap (λ (l : List SourceFile). first_alone (names_of old.entries) (names_of l)) c.entries-2.ensures.entries) in
    subst (HasOtherSources old new) (sym c.in_ok-new-2.ensures)
    (manifest (none old new c.entries.ensures.project c.entries-2.ensures.project (option_copied c.find_first_alone.result) e
    (ap option_copied c.in_default.is))
    (λ same. let yes = c.has_same_manifest.ensures.1 same in let no = c.if-has_same_manifest.false in cc))
