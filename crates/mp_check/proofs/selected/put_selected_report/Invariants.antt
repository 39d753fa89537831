use Rattle.std.proofs.Common.{Ok, flat_map, take}
use Rattle.mp_streams.specs.Outgoing.{Writes}
use Rattle.mp_report.specs.Lines.{finding_line}
use Rattle.mp_check.specs.Selections.{keeps_finding, selected}
use Rattle.mp_check.proofs.SelectedLemmas.{kept}
use Rattle.mp_check.proofs.selected.put_selected_report.Given as goal

-- the lines of the findings so far are written
abbrev pub invariant-loop-finding : goal.invariant-loop-finding
invariant-loop-finding g l =
    Writes {T = Unit {0}} (Ok tt) l.fn.out l.out (flat_map (kept (keeps_finding l.netlist (selected l.selection)) (finding_line l.netlist)) (take l.finding-index l.findings))
