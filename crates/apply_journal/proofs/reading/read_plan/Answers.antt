use Rattle.std.proofs.Common.{◌↔◌, ◌≤◌, List, All, IsTrue, length, sum_by, sym, subst, arith}
use Rattle.std.specs.List.Sorted.{IsStrictlySortedBy}
use Rattle.std.specs.Ordering.{nat_cmp}
use Rattle.std.specs.Cmp.Lexicographic.{slice_cmp}
use Rattle.rotor_base.specs.Files.{names_of}
use Rattle.rotor_base.specs.declared.source.SourceFile.{SourceFile}
use Rattle.apply_journal.specs.declared.error.PlanError.TheVariants.{Bad}
use Rattle.apply_journal.proofs.Readings.{no_head, no_files, wrong_end, no_order, no_total, all_small, is_plan, alike}
use Rattle.apply_journal.proofs.Recovering.{goes_on}
use Rattle.apply_journal.proofs.reading.read_plan.Goals as goal

pub returns-in_default-clause-bad : goal.returns-in_default-clause-bad
returns-in_default-clause-bad c = λ _. no_head c.args.bytes.now c.in_default.ensures.none

pub returns-in_err-files-clause-bad : goal.returns-in_err-files-clause-bad
returns-in_err-files-clause-bad c = λ is.
    let r = c.from_residual in
    no_files c.args.bytes.now c.in-Some.count c.in-Some.rest.now c.in-Some.ensures.read
    (c.in_err-files.ensures.bad (goes_on r.result c.in_err-files.field-0.0 Bad r.ensures.0 r.ensures.1 is))

pub returns-then-ne-clause-bad : goal.returns-then-ne-clause-bad
returns-then-ne-clause-bad c = λ _.
    wrong_end c.args.bytes.now c.in_ok-files.files.items c.in-Some.count c.in-Some.rest.now c.in_ok-files.rest.now c.ne.result
    c.in-Some.ensures.read c.in_ok-files.ensures.count c.in_ok-files.ensures.read
    c.ne.ensures c.if-ne.true

pub returns-then-not-is_ordered-clause-bad : goal.returns-then-not-is_ordered-clause-bad
returns-then-not-is_ordered-clause-bad c = λ _.
    no_order c.args.bytes.now c.in_ok-files.files.items c.in-Some.count c.in-Some.rest.now c.in_ok-files.rest.now c.is_ordered.result
    c.in-Some.ensures.read c.in_ok-files.ensures.count c.in_ok-files.ensures.read
    (subst (λ (fs : List SourceFile). IsTrue c.is_ordered.result ↔ IsStrictlySortedBy (slice_cmp nat_cmp) (names_of fs)) c.deref.ensures.value
    c.is_ordered.ensures) c.if-not-is_ordered.true

pub is_within-requires-clause-small : goal.is_within-requires-clause-small
is_within-requires-clause-small c =
    subst (λ (fs : List SourceFile). All (λ file. length file.bytes ≤ 1048576) fs) (sym c.deref-2.ensures.value)
    (all_small c.in-Some.rest.now c.in_ok-files.files.items c.in_ok-files.rest.now c.in_ok-files.ensures.read)

pub returns-then-not-is_within-clause-bad : goal.returns-then-not-is_within-clause-bad
returns-then-not-is_within-clause-bad c = λ _.
    no_total c.args.bytes.now c.in_ok-files.files.items c.in-Some.count c.in-Some.rest.now c.in_ok-files.rest.now c.is_within.result
    c.in-Some.ensures.read c.in_ok-files.ensures.count c.in_ok-files.ensures.read
    (subst (λ (fs : List SourceFile). IsTrue c.is_within.result ↔ (sum_by (λ file. length file.bytes) fs ≤ 8388608)) c.deref-2.ensures.value
    c.is_within.ensures) c.if-not-is_within.true

pub returns-clause-plan : goal.returns-clause-plan
returns-clause-plan c =
    let ordered = (subst (λ (fs : List SourceFile). IsTrue c.is_ordered.result ↔ IsStrictlySortedBy (slice_cmp nat_cmp) (names_of fs))
    c.deref.ensures.value c.is_ordered.ensures).0 c.if-not-is_ordered.false in
    let within = (subst (λ (fs : List SourceFile). IsTrue c.is_within.result ↔ (sum_by (λ file. length file.bytes) fs ≤ 8388608))
    c.deref-2.ensures.value c.is_within.ensures).0 c.if-not-is_within.false in
    is_plan c.args.bytes.now c.in_ok-files.files.items c.in-Some.count c.in-Some.rest.now c.in_ok-files.rest.now
    (omega (arith, c.if-bytes.false)) c.in-Some.ensures.read c.in_ok-files.ensures.count
    c.in_ok-files.ensures.read (alike c.in_ok-files.rest.now _ c.ne.result c.ne.ensures c.if-ne.false) ordered within
