use Rattle.std.proofs.Common.{Ok, take}
use Rattle.std.specs.List.{flat_map}
use Rattle.mp_streams.specs.Outgoing.{Writes}
use Rattle.mp_exports.specs.verilog.Kinds.{kind_section}
use Rattle.mp_exports.proofs.verilog.kinds.put_kinds.Given as goal

-- the modules of the kinds so far are written
abbrev pub invariant-loop-kind : goal.invariant-loop-kind
invariant-loop-kind g l = Writes {T = Unit {0}} (Ok tt) l.fn.out l.out (flat_map (kind_section l.netlist) (take l.kind-index l.kinds))
