use Rattle.std.proofs.Common.{◌≡◌, ◌++◌, map, filter}
use Rattle.document_scene.specs.Changes.{document_of, document_words, is_asked, is_other, is_rest}
use Rattle.document_scene.specs.Scene.{view_scene}
use Rattle.document_scene.proofs.changes.document_edits.Given as goal

-- the documents so far and those that are left are all, of each of the three kinds
abbrev pub invariant-loop-source : goal.invariant-loop-source
invariant-loop-source l = record {
  first : map document_words l.first.items ++ map (document_of (view_scene l.scene)) (filter (is_asked l.asked) l.source-iterator.rest.items)
      ≡ map (document_of (view_scene l.scene)) (filter (is_asked l.asked) l.initial.source-iterator.rest.items);
  others : map document_words l.others.items
      ++ map (document_of (view_scene l.scene)) (filter (is_other (view_scene l.scene) l.asked) l.source-iterator.rest.items)
      ≡ map (document_of (view_scene l.scene)) (filter (is_other (view_scene l.scene) l.asked) l.initial.source-iterator.rest.items);
  rest : map document_words l.rest.items
      ++ map (document_of (view_scene l.scene)) (filter (is_rest (view_scene l.scene) l.asked) l.source-iterator.rest.items)
      ≡ map (document_of (view_scene l.scene)) (filter (is_rest (view_scene l.scene) l.asked) l.initial.source-iterator.rest.items);
}
