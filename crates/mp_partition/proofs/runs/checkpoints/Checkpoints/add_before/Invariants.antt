use Rattle.std.proofs.Common.{◌≡◌, ◌++◌, drop}
use Rattle.mp_partition.specs.runs.Checkpoints.{kept_before}
use Rattle.mp_partition.specs.runs.StateLists.{states_of}
use Rattle.mp_partition.proofs.lemmas.runs.SearchLemmas.{AreOver}
use Rattle.mp_partition.proofs.runs.checkpoints.Checkpoints.add_before.Given as goal

-- with what is left to be added it is all, and that is for no earlier times
abbrev pub invariant-loop-place : goal.invariant-loop-place
invariant-loop-place l =
    (l.self ++ kept_before l.end (drop l.place (states_of l.list)) ≡ l.fn.self ++ kept_before l.end (drop l.from (states_of l.list)))
    × AreOver l.self (drop l.place (states_of l.list))
