use Rattle.std.proofs.Common.{◌<◌, ◌≤◌, Bool, if◌then◌else◌, ap, sym, arith}
use Rattle.std.proofs.lemmas.Bool.{le-leb, lt-leb}
use Rattle.mp_netlist.specs.Limits.{checkpoint_units}
use Rattle.mp_netlist.proofs.checkpoint.checkpoint_units.Goals as goal

pub returns-then-from-max_horizon-clause-value : goal.returns-then-from-max_horizon-clause-value
unfolding checkpoint_units
returns-then-from-max_horizon-clause-value c =
    let short : c.args.horizon ≤ 1048576 = omega arith in
    sym (ap (λ (b : Bool). if b then 1024 else 1048576) (le-leb c.args.horizon 1048576 short))

pub returns-else-from-max_horizon-clause-value : goal.returns-else-from-max_horizon-clause-value
unfolding checkpoint_units
returns-else-from-max_horizon-clause-value c =
    let long : 1048576 < c.args.horizon = omega arith in
    sym (ap (λ (b : Bool). if b then 1024 else 1048576) (lt-leb c.args.horizon 1048576 long))
