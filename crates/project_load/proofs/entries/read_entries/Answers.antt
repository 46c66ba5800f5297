use Rattle.std.proofs.Common.{ap, arith}
use Rattle.rotor_base.specs.Lines.{feed_lines}
use Rattle.project_load.specs.Entries.{table_of}
use Rattle.project_load.proofs.ListLines.{all_read, bad_next, more_read, none_read}
use Rattle.project_load.proofs.entries.read_entries.Goals as goal

pub loop-line-init : goal.loop-line-init
loop-line-init c = record {
  within = omega (arith, c.requires);
  so_far = none_read c.args.folder.now (feed_lines c.args.bytes.now) (table_of c.new-entries.result) c.new-entries.ensures;
}

pub returns-in_default-new_entry-clause-unread : goal.returns-in_default-new_entry-clause-unread
returns-in_default-new_entry-clause-unread c =
    bad_next c.args.folder.now (feed_lines c.args.bytes.now) (feed_lines c.loop-line.rest.now) (feed_lines c.in-Some.behind.now) c.loop-line.before
    (table_of c.loop-line.entries) c.in-Some.line.now c.loop-line.invariant.so_far c.in-Some.ensures.line c.in_default-new_entry.ensures.none

pub loop-line-preserved : goal.loop-line-preserved
loop-line-preserved c = record {
  within = omega (arith, c.in-Some.ensures.shorter);
  so_far =
      more_read c.args.folder.now (feed_lines c.args.bytes.now) (feed_lines c.loop-line.rest.now) (feed_lines c.in-Some.behind.now)
      c.loop-line.before (table_of c.loop-line.entries) c.in-Some.line.now c.loop-line.invariant.so_far c.in-Some.ensures.line
      c.in-Some-new_entry.source.now c.in-Some-new_entry.file.now c.in-Some-new_entry.ensures.entry c.in-Some-new_entry.ensures.fresh
      (table_of c.insert.new.self) c.in_ok-insert.ensures;
}

pub returns-clause-gives : goal.returns-clause-gives
returns-clause-gives c =
    all_read c.args.folder.now (feed_lines c.args.bytes.now) (feed_lines c.loop-line.rest.now) c.loop-line.before (table_of c.loop-line.entries)
    c.loop-line.invariant.so_far (ap feed_lines c.in_default.ensures.end)

pub returns-clause-there : goal.returns-clause-there
returns-clause-there c = c.loop-line.invariant.so_far.there
