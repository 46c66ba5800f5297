use Rattle.std.proofs.Common.{List, [], ◌∷◌, length, length-append, ap, sym, subst, arith}
use Rattle.rotor_base.specs.declared.source.SourceFile.{SourceFile}
use Rattle.apply_journal.specs.Reading.{AreEntries}
use Rattle.apply_journal.proofs.Readings.{no_more_entries, entries_push}
use Rattle.apply_journal.specs.declared.error.PlanError.TheVariants.{Bad}
use Rattle.apply_journal.proofs.Recovering.{goes_on}
use Rattle.apply_journal.proofs.reading.read_entries.Goals as goal

pub returns-in_err-file-clause-bad : goal.returns-in_err-file-clause-bad
returns-in_err-file-clause-bad c = λ is.
    no_more_entries c.args.bytes.now c.loop.files.items c.loop.rest.now c.args.count c.loop.invariant.read
    (omega (arith, c.loop.invariant.count, c.loop-test.true))
    (c.in_err-file.ensures.bad
    (goes_on c.from_residual.result c.in_err-file.field-0.0 Bad c.from_residual.ensures.0 c.from_residual.ensures.1 is))

pub loop-preserved : goal.loop-preserved
loop-preserved c =
    let pushed = c.in_ok-push.ensures.items in
    record {
      count = omega (arith, c.loop.invariant.count, ap length pushed, length-append c.loop.files.items (c.in_ok-file.file ∷ []));
      read = subst (λ (fs : List SourceFile). AreEntries c.args.bytes.now fs c.in_ok-file.behind.now) (sym pushed)
          (entries_push c.args.bytes.now c.loop.files.items c.in_ok-file.file c.loop.rest.now c.in_ok-file.behind.now c.loop.invariant.read
          c.in_ok-file.ensures.read);
    }
