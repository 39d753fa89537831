use Rattle.mp_exports.proofs.lemmas.vcd.Names.{◌-◌, ◌<◌, ◌≤◌, Left, passage_text, times_text}
use Rattle.mp_exports.proofs.vcd.time_chunk.TimeChunk.put.Given as goal

-- the units from the time on are left
abbrev pub invariant-loop-from : goal.invariant-loop-from
invariant-loop-from g l = record {
  some : 0 < l.from;
  within : l.from ≤ l.self.to;
  left : Left (passage_text l.self) l.fn.out l.out (times_text l.self.of.netlist.now l.from l.self.to);
}

abbrev pub decreases-loop-from : goal.decreases-loop-from
decreases-loop-from g l = l.self.to - l.from
