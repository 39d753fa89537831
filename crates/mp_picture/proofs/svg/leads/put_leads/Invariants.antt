use Rattle.std.proofs.Common.{Ok, ◌+◌, length, take}
use Rattle.std.specs.List.{flat_map}
use Rattle.mp_streams.specs.Outgoing.{Writes}
use Rattle.mp_model.specs.declared.finding.Finding.{Finding}
use Rattle.mp_picture.specs.svg.Frames.{lane}
use Rattle.mp_picture.specs.svg.FoundGroups.{lead, row_among}
use Rattle.mp_picture.proofs.svg.leads.put_leads.Given as goal

-- the lines so far are written
abbrev pub invariant-loop-finding : goal.invariant-loop-finding
invariant-loop-finding g l =
    Writes {T = Unit {0}} (Ok tt) l.fn.out l.out
    (flat_map (λ (f : Finding). lead l.netlist l.frame l.wires (lane l.frame (length l.wires + row_among l.rows f)) f) (take l.finding-index l.found))
