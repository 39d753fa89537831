use Rattle.std.proofs.Common.{◌≡◌, ℕ, ◌<◌, slice_index_or}
use Rattle.mp_records.proofs.same.same_list.Given as goal

-- those before are the same
abbrev pub invariant-loop-index : goal.invariant-loop-index
invariant-loop-index g l = (k : ℕ) (d : g.row.T.Denot) → k < l.index → slice_index_or l.a k d ≡ slice_index_or l.b k d
