use Rattle.std.proofs.Common.{◌≡◌, ◌++◌, take, map}
use Rattle.mp_simulation.specs.units.DataLevels.{number_of_change}
use Rattle.mp_simulation.proofs.units.data_wires.list_numbers.Given as goal

-- the numbers before are listed
abbrev pub invariant-loop-change : goal.invariant-loop-change
invariant-loop-change l = l.heard.items ≡ l.initial.heard.items ++ map number_of_change (take l.change-index l.changes)
