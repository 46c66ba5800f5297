use Rattle.std.proofs.Common.{arith, ap, Result, Ok, Err, IsErr, OnOk}
use Rattle.open_documents.specs.OpenTree.{open_faults, open_files}
use Rattle.open_documents.proofs.open_tree.OpenTreeTree.TheImpl.Goals as goal

not_ok : {T E : Type 0} (P : Type 0) (r : Result T E) → IsErr r → OnOk r P
not_ok P (Ok x) e = cc
not_ok P (Err error) e = tt

pub list-tells : goal.list-tells
list-tells g c = record {
  names = c.ensures.names;
  content = c.ensures.content;
  room = λ _. omega arith;
  cause = c.ensures.cause;
  steady = λ failing. absurd failing;
}

pub read-tells : goal.read-tells
read-tells g c = record {
  bytes = c.ensures.bytes;
  limit = c.ensures.limit;
  content = c.ensures.content;
  room = λ _. omega arith;
  cause = c.ensures.cause;
  steady = λ failing. absurd failing;
}

pub room-tells : goal.room-tells
room-tells g c = record {
  made = not_ok _ c.result c.ensures.refused;
  room = λ _. omega arith;
  content = ap (open_files g.T.Tree.content) c.ensures.same;
  count = ap open_faults c.ensures.same;
  steady = λ failing. absurd failing;
}

pub write-tells : goal.write-tells
write-tells g c = record {
  written = not_ok _ c.result c.ensures.refused;
  spoiled = c.ensures.spoiled;
  room = λ _. omega arith;
  cause = c.ensures.cause;
  steady = λ failing. absurd failing;
}
