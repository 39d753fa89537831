use Rattle.std.proofs.Common.{◌≡◌, [], ℕ, length, slice_index_or}
use Rattle.mp_kernel.proofs.events.wheel.Wheel.new.Given as goal

abbrev pub invariant-loop-unit : goal.invariant-loop-unit
invariant-loop-unit g l = (length l.slots.items ≡ l._unit) × ((k : ℕ) → slice_index_or l.slots.items k [] ≡ [])
