use Rattle.std.proofs.Common.{◌≡◌, ℕ, ◌<◌, ◌==◌, ◌||◌, length, take}
use Rattle.std.specs.List.{list_any}
use Rattle.mp_records.specs.declared.ports.Input.{Input}
use Rattle.mp_check.specs.ReadWires.{mark_at}
use Rattle.mp_check.proofs.read_wires.mark_inputs.Given as goal

-- what the inputs so far read
abbrev pub invariant-loop-input : goal.invariant-loop-input
invariant-loop-input l = record {
  places : length l.marks.items ≡ length l.fn.marks.items;
  each : (w : ℕ) → w < length l.fn.marks.items → mark_at l.marks.items w ≡ (mark_at l.fn.marks.items w || list_any (λ (i : Input). i.wire.0 == w) (take l.input-index l.inputs));
}
