use Rattle.mp_exports.proofs.lemmas.vcd.Names.{◌-◌, flat_map, range_with_len, unit_text, Left}
use Rattle.mp_exports.proofs.vcd.units.put_agenda.Given as goal

-- the units from the time on are left
abbrev pub invariant-loop-time : goal.invariant-loop-time
invariant-loop-time g l =
    Left (flat_map (unit_text l.of.netlist.now) (range_with_len l.agenda.from (l.to - l.agenda.from))) l.fn.out l.out (flat_map (unit_text l.of.netlist.now) (range_with_len l.time (l.to - l.time)))
