use Rattle.std.proofs.Common.{Ok, ◌+◌, take}
use Rattle.std.specs.List.{flat_map}
use Rattle.mp_streams.specs.Outgoing.{Writes}
use Rattle.mp_model.specs.declared.finding.Finding.{Finding}
use Rattle.mp_picture.specs.svg.Frames.{lane}
use Rattle.mp_picture.specs.svg.FoundGroups.{finding_group, row_among}
use Rattle.mp_picture.proofs.svg.found_groups.put_findings.Given as goal

-- the marks so far are written
abbrev pub invariant-loop-finding : goal.invariant-loop-finding
invariant-loop-finding g l =
    Writes {T = Unit {0}} (Ok tt) l.fn.out l.out
    (flat_map (λ (f : Finding). finding_group l.netlist l.frame (lane l.frame (l.first + row_among l.rows f)) f) (take l.finding-index l.found))
