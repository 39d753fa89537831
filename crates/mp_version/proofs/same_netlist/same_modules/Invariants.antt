use Rattle.std.proofs.Common.{◌≡◌, ℕ, ◌<◌}
use Rattle.mp_netlist.specs.Circuit.{module_at}
use Rattle.mp_version.proofs.same_netlist.same_modules.Given as goal

-- those before are the same
abbrev pub invariant-loop-number : goal.invariant-loop-number
invariant-loop-number l = (k : ℕ) → k < l.number → module_at l.a k ≡ module_at l.b k
