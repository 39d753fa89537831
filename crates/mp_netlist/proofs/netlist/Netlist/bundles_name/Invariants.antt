use Rattle.std.proofs.Common.{◌≡◌, drop}
use Rattle.std.specs.List.{list_any}
use Rattle.mp_records.specs.NamedWires.{bundle_names}
use Rattle.mp_netlist.specs.Slots.{stands_and}
use Rattle.mp_netlist.proofs.netlist.Netlist.bundles_name.Given as goal

-- what is left decides
abbrev pub invariant-loop-number : goal.invariant-loop-number
invariant-loop-number l = list_any (stands_and (bundle_names l.wire.0)) (drop l.number l.self.bundles) ≡ list_any (stands_and (bundle_names l.wire.0)) l.self.bundles
