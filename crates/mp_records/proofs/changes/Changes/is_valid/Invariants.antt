use Rattle.std.proofs.Common.{◌≡◌, drop}
use Rattle.mp_records.specs.Stimuli.{is_stimulus}
use Rattle.mp_records.proofs.changes.Changes.is_valid.Given as goal

-- what is left of the changes decides
abbrev pub invariant-loop-time : goal.invariant-loop-time
invariant-loop-time l =
    is_stimulus l.horizon l.width 0 l.time-items ≡ is_stimulus l.horizon l.width l.before (drop l.time-index l.time-items)
