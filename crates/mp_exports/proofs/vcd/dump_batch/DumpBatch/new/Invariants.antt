use Rattle.mp_exports.proofs.lemmas.vcd.Names.{◌≡◌, vec_len}
use Rattle.mp_exports.proofs.vcd.dump_batch.DumpBatch.new.Given as goal

-- so many rooms are there
abbrev pub invariant-loop : goal.invariant-loop
invariant-loop l = vec_len l.list ≡ l.counter
