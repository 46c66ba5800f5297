use Rattle.std.proofs.Common.{◌≡◌, ◌++◌, ◌∷◌, [], false, true, ◌||◌, ◌+◌, nat_lt, length, Some, string_bytes, sym, ◌∙◌, ap, inr, arith}
use Rattle.std.proofs.lemmas.Grind.{common_steps}
use Rattle.rotor_base.specs.declared.source.SourceFile.{SourceFile}
use Rattle.std.specs.FinMap.{get}
use Rattle.rotor_base.specs.declared.refusal.LoadError.{LoadError}
use Rattle.rotor_base.specs.declared.refusal.LoadError.TheVariants.{TooLarge}
use Rattle.tree_io.specs.Outside.{IsFront}
use Rattle.project_load.specs.Naming.{seen}
use Rattle.project_load.proofs.Causes.{same_count, told, telling}
use Rattle.project_load.proofs.SourcesRead.{there_at, read_over, read_more, passed_more, total_more, within_more, named_more}
use Rattle.project_load.proofs.reading.read_sources.Goals as goal

pub read_source-requires : goal.read_source-requires
read_source-requires g c =
    λ held e. rw c.as_str.ensures.value
    (there_at string_bytes held c.args.names.now c.loop-name.name-index c.name-item.result c.loop-name-test.true c.name-item.is
    (c.requires held (ap (seen c.args.naming.now) (sym c.loop-name.invariant.content) ∙ e)))

pub returns-then-is_over-clause-refused : goal.returns-then-is_over-clause-refused
returns-then-is_over-clause-refused g c =
    let over : (nat_lt 1048576 (length c.in_ok-bytes.bytes.items) || nat_lt 8388608 (c.loop-name.total + length c.in_ok-bytes.bytes.items)) ≡ true =
    grind (arith, common_steps) in
    let large : c.in_ok-too_large_file.field-0 ≡ TooLarge (string_bytes c.name-item.result) =
    rw (← c.as_str-then-is_over.ensures.value) c.in_ok-too_large_file.ensures in
    telling _ _ (λ held e.
    let got : IsFront 1048577 (get held (string_bytes c.name-item.result)) c.in_ok-bytes.bytes.items =
    rw (← c.as_str.ensures.value) (told _ _ held (ap (seen c.args.naming.now) c.loop-name.invariant.content ∙ e) c.in_ok-bytes.ensures.bytes) in
    inr (read_over string_bytes held c.args.names.now c.loop-name.name-index c.name-item.result c.loop-name-test.true c.name-item.is
    c.loop-name.files.items (c.loop-name.invariant.read held e) c.in_ok-bytes.bytes.items got
    c.loop-name.total c.loop-name.invariant.total c.loop-name.invariant.passed over ∙ ap (λ (error : LoadError). Some error) (sym large)))

pub loop-name-preserved : goal.loop-name-preserved
loop-name-preserved g c =
    let file : SourceFile = record { name = string_bytes c.name-item.result; bytes = c.in_ok-bytes.bytes.items } in
    let pushed : c.push.new.self.items ≡ c.loop-name.files.items
    ++ record { name = string_bytes c.name-item.result; bytes = c.in_ok-bytes.bytes.items } ∷ [] = grind (arith, common_steps) in
    let len : c.len-len.result ≡ length c.in_ok-bytes.bytes.items = grind (arith, common_steps) in
    let over : (nat_lt 1048576 (length c.in_ok-bytes.bytes.items) || nat_lt 8388608 (c.loop-name.total + length c.in_ok-bytes.bytes.items)) ≡ false =
    grind (arith, common_steps) in
    record {
      named = rw pushed (named_more string_bytes c.args.names.now c.loop-name.name-index c.name-item.result c.loop-name-test.true c.name-item.is
          c.loop-name.files.items _ c.loop-name.invariant.named);
      total = rw (pushed, len) (total_more c.loop-name.files.items file c.loop-name.total c.loop-name.invariant.total);
      within = rw len (within_more c.loop-name.total _ over);
      passed = rw pushed (passed_more c.loop-name.files.items file c.loop-name.total c.loop-name.invariant.total c.loop-name.invariant.passed over);
      read = λ held e.
          let got : IsFront 1048577 (get held (string_bytes c.name-item.result)) c.in_ok-bytes.bytes.items =
          rw (← c.as_str.ensures.value)
          (told _ _ held (ap (seen c.args.naming.now) c.loop-name.invariant.content ∙ e) c.in_ok-bytes.ensures.bytes) in
          pushed ∙ read_more string_bytes held c.args.names.now c.loop-name.name-index c.name-item.result c.loop-name-test.true c.name-item.is
          c.loop-name.files.items (c.loop-name.invariant.read held e) c.in_ok-bytes.bytes.items got
          c.loop-name.total over;
      content = c.read_source.ensures.content ∙ c.loop-name.invariant.content;
      room = λ name. omega (arith, c.loop-name.invariant.room name, c.read_source.ensures.room name);
      count = same_count _ _ _ _ c.in_ok-bytes.was c.read_source.ensures.cause ∙ c.loop-name.invariant.count;
      steady = λ s. (c.read_source.ensures.steady (c.loop-name.invariant.steady s)).0;
    }
