use Rattle.std.proofs.Common.{◌≡◌, ◌&&◌, ◌||◌, ℕ, Vec, Global, Bool, bytes_eq, length, map, take, ap, sym, ◌∙◌}
use Rattle.std.proofs.lemmas.List.{take_all, with_items_is}
use Rattle.std.proofs.lemmas.List.Folds.{list_any_more}
use Rattle.std.specs.List.{list_any}
use Rattle.name_tables.specs.Names.{at}
use Rattle.need_chains.specs.Rows.{hits, is_hit, row_at}
use Rattle.need_chains.specs.declared.unit_heads.UnitHeads.{UnitHeads}
use Rattle.need_chains.proofs.Rowing.{is_unit_here, rows_all}
use Rattle.need_chains.proofs.rows.need_rows.Goals as goal

pub loop-source-preserved : goal.loop-source-preserved
loop-source-preserved c =
    let out = λ (row : Vec ℕ Global). row.items in
    let rows = c.loop-source.rows in
    let later = c.push_source.new.rows in
    let sources = c.args.sources.now in
    let places = c.args.places.now in
    let size : length later ≡ length rows.items = c.push_source.ensures.size ∙ ap length c.deref_mut.ensures.value in
    let wide : length c.deref_mut.result.now ≡ length sources = ap length c.deref_mut.ensures.value ∙ c.loop-source.invariant.size in
    let i = c.loop-source.source-index in
    let s = c.source-item.result in
    rw (with_items_is rows later (size ∙ sym rows.ok.0)) (record {
      size = size ∙ c.loop-source.invariant.size;
      rows = λ unit n number.
          let test = λ (x : UnitHeads). bytes_eq x.unit unit && list_any (is_hit sources unit n number) x.heads in
          c.in_ok-push_source.ensures.row sources c.requires wide (is_unit_here sources i s c.loop-source-test.true c.source-item.is) unit n number
          ∙ ap (λ l. hits sources n number (row_at (map out l) (at places unit)) || test s) c.deref_mut.ensures.value
          ∙ ap (λ (b : Bool). b || test s) (c.loop-source.invariant.rows unit n number)
          ∙ ap (λ (x : UnitHeads). list_any test (take i sources) || test x) c.source-item.is
          ∙ sym (list_any_more test sources i s c.loop-source-test.true);
    })

pub returns : goal.returns
returns c = λ unit n number.
    let sources = c.args.sources.now in
    c.loop-source.invariant.rows unit n number
    ∙ ap (list_any (λ (x : UnitHeads). bytes_eq x.unit unit && list_any (is_hit sources unit n number) x.heads))
    (take_all c.loop-source.source-index sources c.loop-source-test.false)
    ∙ rows_all sources unit n number
