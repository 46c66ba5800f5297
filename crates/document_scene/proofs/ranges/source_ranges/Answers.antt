use Rattle.document_scene.specs.Scene.{view_scene}
use Rattle.document_scene.proofs.Grouping.{ranged}
use Rattle.document_scene.proofs.ranges.source_ranges.Goals as goal

pub returns : goal.returns
returns c =
    ranged (view_scene c.args.scene) c.args.file c.args.places.now c.bytes_of.result.now c.in_ok-spans.spans.items c.deref.result.now
    c.span_ranges.result c.requires c.bytes_of.ensures.value c.deref.ensures.value c.in_ok-spans.ensures c.span_ranges.ensures
