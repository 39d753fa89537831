-- The copies of wires of one sort, and the levels of numbers at time 0.
use Rattle.std.specs.Prelude.{◌≡◌, ℕ, ◌<◌, Bool, not, List, length, slice_index_or, if◌then◌else◌}
use Rattle.mp_netlist.specs.Circuit.{Circuit, wire_at}
use Rattle.mp_model.specs.Levels.{initial_of}
use Rattle.mp_kernel.specs.declared.events.output_port.OutputPort.{OutputPort}
use Rattle.mp_kernel.specs.events.Firing.{no_port, copy_at}
use Rattle.mp_simulation.specs.units.DataLevels.{is_data}

abbrev pub is_bit : Circuit → ℕ → Bool
is_bit n w = not (is_data n w)

abbrev pub level_of_wire : Circuit → ℕ → ℕ
level_of_wire n w = initial_of (wire_at n w)

-- what is next after the numbers of some wires, the wire of each number being listed
pub record AreCopiesOf (is_kept : ℕ → Bool) (wires : List ℕ) (next copies : List OutputPort) : Type 0 where
  pub long : length copies ≡ length next
  pub each : (x : ℕ) → x < length next → copy_at copies x ≡ (if is_kept (slice_index_or wires x 0) then copy_at next x else no_port)
