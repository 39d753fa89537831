use Rattle.std.proofs.Common.{Ok, take}
use Rattle.std.specs.List.{flat_map, range_with_len}
use Rattle.mp_streams.specs.Outgoing.{Writes}
use Rattle.mp_picture.specs.GraphSections.{slot_count, section_line}
use Rattle.mp_picture.proofs.graph.put_section.Given as goal

-- the lines of the numbers so far are written
abbrev pub invariant-loop-number : goal.invariant-loop-number
invariant-loop-number g l =
    Writes {T = Unit {0}} (Ok tt) l.fn.out l.out (flat_map (section_line l.wired.netlist.now l.section) (take l.number (range_with_len 0 (slot_count l.wired.netlist.now l.section))))
