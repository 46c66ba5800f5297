use Rattle.std.proofs.Common.{All, map, subst, sym}
use Rattle.ml_trees.specs.View.{view_project, view_unit}
use Rattle.project_reading.specs.Known.{IsReadAs, file_of}
use Rattle.project_reading.proofs.Knowing.{IsReadUnit, last_unit, part_in_code, units_before, units_read}
use Rattle.project_reading.proofs.known.KnownTrees.from_project.Goals as goal

pub loop-unit-init : goal.loop-unit-init
loop-unit-init c =
    let us = view_project c.args.project in (
      subst (λ sources. All (IsReadUnit sources) us) (sym c.entries-olds.ensures.entries)
          (units_read c.args.olds.now us c.entries-olds.ensures.project c.requires),
      c.in_ok-known.ensures c.entries-news.result.now,
    )

pub keep_parts-requires-clause-body : goal.keep_parts-requires-clause-body
keep_parts-requires-clause-body c =
    let olds = c.entries-olds.result.now in
    let left = subst (λ l. All (IsReadUnit olds) (map view_unit l)) c.in-Some.ensures.items c.loop-unit.invariant.0 in
    part_in_code (λ tree. IsReadAs olds (file_of tree) tree) c.in-Some.unit.body
    (last_unit (IsReadUnit olds) c.pop.new.self.items c.in-Some.unit left).body

pub keep_parts-requires-clause-face : goal.keep_parts-requires-clause-face
keep_parts-requires-clause-face c =
    let olds = c.entries-olds.result.now in
    let left = subst (λ l. All (IsReadUnit olds) (map view_unit l)) c.in-Some.ensures.items c.loop-unit.invariant.0 in
    part_in_code (λ tree. IsReadAs olds (file_of tree) tree) c.in-Some.unit.face
    (last_unit (IsReadUnit olds) c.pop.new.self.items c.in-Some.unit left).face

pub loop-unit-preserved : goal.loop-unit-preserved
loop-unit-preserved c =
    let olds = c.entries-olds.result.now in
    let left = subst (λ l. All (IsReadUnit olds) (map view_unit l)) c.in-Some.ensures.items c.loop-unit.invariant.0 in
    (units_before (IsReadUnit olds) c.pop.new.self.items c.in-Some.unit left, c.keep_parts.ensures)
