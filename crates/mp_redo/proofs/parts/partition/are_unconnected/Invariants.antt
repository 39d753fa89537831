use Rattle.std.proofs.Common.{◌≡◌, ℕ, ◌<◌}
use Rattle.mp_netlist.specs.Circuit.{Drives}
use Rattle.mp_partition.specs.regions.Readers.{Reads}
use Rattle.mp_partition.specs.regions.Regions.{partition_of}
use Rattle.mp_redo.proofs.parts.partition.are_unconnected.Given as goal

-- those so far
abbrev pub invariant-loop-m : goal.invariant-loop-m
invariant-loop-m l = (m : ℕ) → m < l.m → (w q p : ℕ) → Reads l.netlist m w → Drives l.netlist q p w → partition_of l.homes m ≡ partition_of l.homes q
