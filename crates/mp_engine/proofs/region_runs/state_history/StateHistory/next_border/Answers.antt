use Rattle.std.proofs.Common.{◌≡◌, ℕ, ◌+◌, ◌-◌, ◌%◌, ◌<◌, ap, sym, subst, ◌∙◌, arith}
use Rattle.mp_netlist.specs.Limits.{checkpoint_units}
use Rattle.mp_partition.proofs.lemmas.runs.MultipleLemmas.{none_between}
use Rattle.mp_engine.proofs.region_runs.state_history.StateHistory.next_border.Goals as goal

pub returns-clause-passed : goal.returns-clause-passed
returns-clause-passed c b above below border =
    let units = c.checkpoint_units-units.result in
    let value : c.checkpoint_units-units.result ≡ checkpoint_units c.args.netlist.now.horizon = c.checkpoint_units-units.ensures.value ∙ ap checkpoint_units c.horizon.ensures.value in
    let some = c.checkpoint_units-units.ensures.some in
    let near : b < c.args.time - c.args.time % c.checkpoint_units-units.result + c.checkpoint_units-units.result = omega (arith, below) in
    absurd (none_between units c.args.time b some above near (subst (λ (k : ℕ). b % k ≡ 0) (sym value) border))
