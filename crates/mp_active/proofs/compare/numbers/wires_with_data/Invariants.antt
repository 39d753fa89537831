use Rattle.std.proofs.Common.{◌≡◌, ◌<◌, ℕ, false, length}
use Rattle.std.specs.Prelude.{slice_index_or}
use Rattle.mp_netlist.specs.Circuit.{wire_at}
use Rattle.mp_active.specs.compare.Numbering.{has_data}
use Rattle.mp_active.proofs.compare.numbers.wires_with_data.Given as goal

-- those so far
abbrev pub invariant-loop-w : goal.invariant-loop-w
invariant-loop-w l = record {
  places : length l.have_data.items ≡ l.w;
  each : (k : ℕ) → k < l.w → slice_index_or l.have_data.items k false ≡ has_data (wire_at l.netlist k);
}
