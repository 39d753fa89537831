use Rattle.mp_exports.proofs.lemmas.vcd.Names.{◌≡◌, ◌-◌, ◌<◌, ◌≤◌, flat_map, passage_text, times_text}
use Rattle.mp_exports.proofs.vcd.division.passages_of.Given as goal

-- the passages so far are those of the times before the next
abbrev pub invariant-loop-from : goal.invariant-loop-from
invariant-loop-from l = record {
  some : 0 < l.from;
  text : flat_map passage_text l.passages.items ≡ times_text l.of.netlist.now 1 l.from;
  within : l.from ≤ l.horizon;
}

abbrev pub decreases-loop-from : goal.decreases-loop-from
decreases-loop-from l = l.horizon - l.from
