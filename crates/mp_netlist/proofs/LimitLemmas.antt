-- No netlist is larger than one of any format may be.
use Rattle.std.proofs.Common.{ℕ, ◌<◌, ◌≤◌, Bool, true, false, if◌then◌else◌, nat_le, length, arith}
use Rattle.mp_netlist.specs.declared.format.Format.{Format}
use Rattle.mp_netlist.specs.declared.format.Format.TheVariants.{Standard, Large}
use Rattle.mp_netlist.specs.Limits.{max_horizon, max_wires, max_modules, max_bundles, horizon_limit, wire_limit, module_limit, bundle_limit, checkpoint_units}
use Rattle.mp_netlist.specs.Circuit.{Circuit, IsCircuit}

longest : (f : Format) → horizon_limit f ≤ max_horizon
longest Standard = omega arith
longest Large = omega arith

most_wires : (f : Format) → wire_limit f ≤ max_wires
most_wires Standard = omega arith
most_wires Large = omega arith

most_modules : (f : Format) → module_limit f ≤ max_modules
most_modules Standard = omega arith
most_modules Large = omega arith

most_bundles : (f : Format) → bundle_limit f ≤ max_bundles
most_bundles Standard = omega arith
most_bundles Large = omega arith

pub horizon_within : (n : Circuit) → IsCircuit n → n.horizon ≤ max_horizon
horizon_within n ok = omega (arith, ok.horizon_high, longest n.format)

pub wires_within : (n : Circuit) → IsCircuit n → length n.wires ≤ max_wires
wires_within n ok = omega (arith, ok.wires_few, most_wires n.format)

pub modules_within : (n : Circuit) → IsCircuit n → length n.modules ≤ max_modules
modules_within n ok = omega (arith, ok.modules_few, most_modules n.format)

pub bundles_within : (n : Circuit) → IsCircuit n → length n.bundles ≤ max_bundles
bundles_within n ok = omega (arith, ok.bundles_few, most_bundles n.format)

pub units_positive : (horizon : ℕ) → 0 < checkpoint_units horizon
unfolding checkpoint_units
units_positive horizon = by (nat_le horizon (horizon_limit Standard))
  where
    by : (short : Bool) → 0 < (if short then 1024 else 1048576)
    by true = omega arith
    by false = omega arith
