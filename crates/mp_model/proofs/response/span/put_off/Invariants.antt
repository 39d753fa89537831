use Rattle.std.proofs.Common.{◌≡◌, ◌≤◌, length, take}
use Rattle.mp_wave.specs.WaveChanges.{changes_in}
use Rattle.mp_model.specs.response.Pieces.{put_off}
use Rattle.mp_model.proofs.response.span.put_off.Given as goal

-- the changes so far
abbrev pub invariant-loop-place : goal.invariant-loop-place
invariant-loop-place l = (l.place ≤ length (changes_in l.changes)) × (l.late.items ≡ put_off l.delay (take l.place (changes_in l.changes)))
