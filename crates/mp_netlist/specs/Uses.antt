-- Which wires are named by a module or a bundle.
use Rattle.std.specs.Prelude.{ℕ, Bool, ◌||◌}
use Rattle.std.specs.List.{list_any}
use Rattle.mp_records.specs.NamedWires.{module_names, bundle_names}
use Rattle.mp_netlist.specs.Slots.{stands_and}
use Rattle.mp_netlist.specs.Circuit.{Circuit}

-- a module or a bundle names the wire
unfoldable pub is_used : Circuit → ℕ → Bool
is_used n w = list_any (stands_and (module_names w)) n.modules || list_any (stands_and (bundle_names w)) n.bundles
