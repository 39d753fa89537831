use Rattle.std.proofs.Common.{All, length}
use Rattle.mp_wave.specs.WaveChanges.{changes_in}
use Rattle.mp_active.specs.steps.Putting.{IsAhead, entries_of, room}
use Rattle.mp_active.proofs.lemmas.steps.PutLemmas.{PutSoFar}
use Rattle.mp_active.proofs.steps.wheel_entries.put_changes.Given as goal

-- what is left to be put leads where all does
abbrev pub invariant-loop-change : goal.invariant-loop-change
invariant-loop-change l =
    PutSoFar l.wire.has_data (entries_of l.wire.number l.now (changes_in l.changes)) (entries_of l.wire.number l.now (changes_in l.rest)) l.fn.simulation l.simulation
    × All (IsAhead l.now (room l.wire.has_data l.fn.simulation)) (changes_in l.rest)

abbrev pub decreases-loop-change : goal.decreases-loop-change
decreases-loop-change l = length (changes_in l.rest)
