use Rattle.std.proofs.Common.{◌≡◌, ℕ, ◌+◌, ◌-◌, length, slice_index_or}
use Rattle.mp_records.proofs.lists.pieces.Pieces.grow.Given as goal

-- every entry is as before, and so is what is read beyond them
abbrev pub invariant-loop-self : goal.invariant-loop-self
invariant-loop-self g l = (n : ℕ) → slice_index_or l.self n l.blank ≡ slice_index_or l.fn.self n l.blank

-- the places that are left to make
abbrev pub decreases-loop-self : goal.decreases-loop-self
decreases-loop-self g l = l.place + 1 - length l.self
