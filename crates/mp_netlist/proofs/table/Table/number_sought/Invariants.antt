use Rattle.std.proofs.Common.{◌≡◌, ℕ, ◌<◌, false, get_or, None}
use Rattle.mp_netlist.specs.Slots.{has_name}
use Rattle.mp_netlist.proofs.table.Table.number_sought.Given as goal

-- no thing before has the name
abbrev pub invariant-loop-number : goal.invariant-loop-number
invariant-loop-number g l = (k : ℕ) → k < l.number → has_name g.R.Named.name_of l.text (get_or l.self-inside.slots k None) ≡ false
