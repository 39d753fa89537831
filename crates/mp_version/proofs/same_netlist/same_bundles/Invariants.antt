use Rattle.std.proofs.Common.{◌≡◌, ℕ, ◌<◌}
use Rattle.mp_netlist.specs.Circuit.{bundle_at}
use Rattle.mp_version.proofs.same_netlist.same_bundles.Given as goal

-- those before are the same
abbrev pub invariant-loop-number : goal.invariant-loop-number
invariant-loop-number l = (k : ℕ) → k < l.number → bundle_at l.a k ≡ bundle_at l.b k
