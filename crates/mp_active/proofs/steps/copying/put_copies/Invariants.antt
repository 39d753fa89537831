use Rattle.std.proofs.Common.{◌≤◌, ℕ, All, length}
use Rattle.mp_wave.specs.WaveChanges.{changes_in}
use Rattle.mp_active.specs.steps.Putting.{IsAhead, entries_of}
use Rattle.mp_active.specs.steps.Copying.{copy_room, delayed}
use Rattle.mp_active.proofs.lemmas.steps.CopyPutLemmas.{PutCopiesSoFar}
use Rattle.mp_active.proofs.steps.copying.put_copies.Given as goal

-- what is left to be put leads where all does
abbrev pub invariant-loop-change : goal.invariant-loop-change
invariant-loop-change l =
    PutCopiesSoFar l.has_data (entries_of l.copy.number l.now (delayed l.copy.delay (changes_in l.changes))) (entries_of l.copy.number l.now (delayed l.copy.delay (changes_in l.rest))) l.fn.simulation l.simulation
    × All (λ (c : ℕ × ℕ). c.0 ≤ l.now) (changes_in l.rest)
    × All (IsAhead l.now (copy_room l.has_data l.fn.simulation)) (delayed l.copy.delay (changes_in l.rest))

abbrev pub decreases-loop-change : goal.decreases-loop-change
decreases-loop-change l = length (changes_in l.rest)
