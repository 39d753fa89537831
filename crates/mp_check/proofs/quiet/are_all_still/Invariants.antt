use Rattle.std.proofs.Common.{◌≡◌, true, take}
use Rattle.mp_check.specs.Quiet.{are_all_still}
use Rattle.mp_check.proofs.quiet.are_all_still.Given as goal

-- the inputs so far are still
abbrev pub invariant-loop-input : goal.invariant-loop-input
invariant-loop-input l = are_all_still l.end.at.netlist.now l.after (take l.input-index l.input-items) ≡ true
