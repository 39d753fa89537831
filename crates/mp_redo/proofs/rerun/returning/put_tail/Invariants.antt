use Rattle.std.proofs.Common.{drop}
use Rattle.mp_redo.proofs.lemmas.rerun.PutLemmas.{ArePutUpTo}
use Rattle.mp_redo.proofs.rerun.returning.put_tail.Given as goal

abbrev pub invariant-loop-place : goal.invariant-loop-place
invariant-loop-place l = ArePutUpTo l.wire.has_data l.wire.number l.now (drop l.from l.list) (drop l.place l.list) l.fn.others.items l.fn.simulation l.simulation l.others.items
