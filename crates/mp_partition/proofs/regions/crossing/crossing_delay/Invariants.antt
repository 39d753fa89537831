use Rattle.std.proofs.Common.{◌≡◌, ◌<◌, ◌≤◌, ℕ, true}
use Rattle.mp_records.specs.Outputs.{delay_of}
use Rattle.mp_netlist.specs.Circuit.{Drives}
use Rattle.mp_partition.specs.runs.Marks.{is_marked}
use Rattle.mp_partition.specs.regions.Divisions.{heard_by}
use Rattle.mp_partition.proofs.regions.crossing.crossing_delay.Given as goal

-- that of the modules so far
abbrev pub invariant-loop-m : goal.invariant-loop-m
invariant-loop-m l = (k m p w : ℕ) (drives : Drives l.netlist m p w) → m < l.m → is_marked (heard_by l.heards k) w ≡ true → l.delay ≤ delay_of drives.part p
