use Rattle.std.proofs.Common.{◌≡◌, [], ℕ, slice_index_or}
use Rattle.mp_kernel.proofs.events.wave_table.empty_lists.Given as goal

-- none waits
abbrev pub invariant-loop-share : goal.invariant-loop-share
invariant-loop-share l = (k : ℕ) → slice_index_or l.late.items k [] ≡ []
