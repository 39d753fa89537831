-- The limits of a netlist.
use Rattle.std.specs.Prelude.{ℕ, nat_le, if◌then◌else◌}
use Rattle.mp_netlist.specs.declared.format.Format.{Format}
use Rattle.mp_netlist.specs.declared.format.Format.TheVariants.{Standard, Large}

-- the longest time that a netlist of any format runs for, in units
abbrev pub max_horizon : ℕ
max_horizon = 1073741824

-- how many wires may ever be added to a netlist of any format
abbrev pub max_wires : ℕ
max_wires = 2097152

-- how many modules may ever be added to a netlist of any format
abbrev pub max_modules : ℕ
max_modules = 1048576

-- how many bundles may ever be added to a netlist of any format
abbrev pub max_bundles : ℕ
max_bundles = 262144

-- the longest time that a netlist of a format runs for
abbrev pub horizon_limit : Format → ℕ
horizon_limit Standard = 1048576
horizon_limit Large = max_horizon

-- how many wires may ever be added to a netlist of a format
abbrev pub wire_limit : Format → ℕ
wire_limit Standard = 8192
wire_limit Large = max_wires

-- how many modules
abbrev pub module_limit : Format → ℕ
module_limit Standard = 4096
module_limit Large = max_modules

-- how many bundles
abbrev pub bundle_limit : Format → ℕ
bundle_limit Standard = 1024
bundle_limit Large = max_bundles

-- the states of modules are kept each so many units, in a run up to a horizon
unfoldable pub checkpoint_units : ℕ → ℕ
checkpoint_units horizon = if nat_le horizon (horizon_limit Standard) then 1024 else 1048576

-- the longest delay of a port, in units
abbrev pub max_delay : ℕ
max_delay = 65535

-- the longest setup of a bundle, in units
abbrev pub max_setup : ℕ
max_setup = 65535

-- how many edits a batch may have
abbrev pub max_batch : ℕ
max_batch = 256
