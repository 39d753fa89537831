use Rattle.std.proofs.Common.{Ok, flat_map, take}
use Rattle.mp_streams.specs.Outgoing.{Writes}
use Rattle.mp_check.specs.CheckLines.{late_line}
use Rattle.mp_check.specs.Selections.{keeps_late, selected}
use Rattle.mp_check.proofs.SelectedLemmas.{kept}
use Rattle.mp_check.proofs.selected.put_all_late.Given as goal

-- the lines so far are written
abbrev pub invariant-loop-one : goal.invariant-loop-one
invariant-loop-one g l = Writes {T = Unit {0}} (Ok tt) l.fn.out l.out (flat_map (kept (keeps_late l.netlist (selected l.selection)) (late_line l.netlist)) (take l.one-index l.late))
