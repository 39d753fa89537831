use Rattle.std.proofs.Common.{Ok, take}
use Rattle.std.specs.List.{flat_map}
use Rattle.mp_streams.specs.Outgoing.{Writes}
use Rattle.mp_records.specs.declared.ports.Input.{Input}
use Rattle.mp_picture.specs.svg.FoundGroups.{lead_to}
use Rattle.mp_picture.proofs.svg.leads.put_input_leads.Given as goal

-- the lines so far are written
abbrev pub invariant-loop-input : goal.invariant-loop-input
invariant-loop-input g l =
    Writes {T = Unit {0}} (Ok tt) l.fn.out l.out
    (flat_map (λ (input : Input). lead_to l.start.frame l.start.wires.now l.start.x l.start.y input.wire) (take l.input-index l.inputs))
