use Rattle.std.proofs.Common.{◌≡◌, map, take}
use Rattle.mp_partition.specs.runs.StateLists.{opened}
use Rattle.mp_partition.proofs.runs.state_list.widened.Given as goal

-- those so far
abbrev pub invariant-loop-kept : goal.invariant-loop-kept
invariant-loop-kept l = l.wide.items ≡ map opened (take l.kept-index l.list.items)
