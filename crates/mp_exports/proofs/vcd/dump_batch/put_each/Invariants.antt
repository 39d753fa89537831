use Rattle.mp_exports.proofs.lemmas.vcd.Names.{drop, flat_map, passage_text, Left}
use Rattle.mp_exports.proofs.vcd.dump_batch.put_each.Given as goal

-- the texts of the passages from the place on are left
abbrev pub invariant-loop-place : goal.invariant-loop-place
invariant-loop-place g l = Left (flat_map passage_text l.passages) l.fn.out l.out (flat_map passage_text (drop l.place l.passages))
