use Rattle.std.proofs.Common.{◌≡◌, false, take}
use Rattle.std.specs.List.{list_any}
use Rattle.mp_exports.specs.verilog.Kinds.{is_of_kind}
use Rattle.mp_exports.proofs.verilog.kinds.occurs.Given as goal

-- none of the modules so far is of the kind
abbrev pub invariant-loop-number : goal.invariant-loop-number
invariant-loop-number l = list_any (is_of_kind l.kind) (take l.number l.netlist.modules) ≡ false
