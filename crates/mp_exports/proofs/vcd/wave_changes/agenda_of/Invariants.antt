use Rattle.mp_exports.proofs.lemmas.vcd.Names.{◌≡◌, ◌-◌, ◌≤◌, drop, length, vec_len, filter, standing_from, is_changed, Tells, told_from, with_levels}
use Rattle.mp_exports.proofs.vcd.wave_changes.agenda_of.Given as goal

-- the changes of the wires from the number on are told
abbrev pub invariant-loop-number : goal.invariant-loop-number
invariant-loop-number l = record {
  within : l.number ≤ length l.of.netlist.now.wires;
  from : l.agenda.from ≡ l.from;
  times : vec_len l.agenda.firsts ≡ l.to - l.from;
  told : Tells l.agenda.firsts.items l.agenda.entries.items
      (told_from l.from (λ t. with_levels l.of.netlist.now t (filter (is_changed l.of.netlist.now t) (standing_from l.number (drop l.number l.of.netlist.now.wires)))));
}

abbrev pub decreases-loop-number : goal.decreases-loop-number
decreases-loop-number l = l.number
