use Rattle.std.proofs.Common.{Ok, flat_map, take}
use Rattle.mp_streams.specs.Outgoing.{Writes}
use Rattle.mp_check.specs.CheckLines.{deadlock_line}
use Rattle.mp_check.specs.Selections.{keeps_deadlock, selected}
use Rattle.mp_check.proofs.SelectedLemmas.{kept}
use Rattle.mp_check.proofs.selected.put_deadlocks.Given as goal

-- the lines so far are written
abbrev pub invariant-loop-deadlock : goal.invariant-loop-deadlock
invariant-loop-deadlock g l =
    Writes {T = Unit {0}} (Ok tt) l.fn.out l.out (flat_map (kept (keeps_deadlock l.end.at.netlist.now (selected l.selection)) (deadlock_line l.end.at.netlist.now)) (take l.deadlock-index l.deadlocks))
