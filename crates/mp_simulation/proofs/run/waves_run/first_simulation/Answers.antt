use Rattle.std.proofs.Common.{subst}
use Rattle.mp_netlist.specs.Circuit.{Circuit}
use Rattle.mp_simulation.specs.run.Evaluations.{IsEvaluated}
use Rattle.mp_simulation.proofs.run.waves_run.first_simulation.Goals as goal

pub returns-in_ok-begin_bits : goal.returns-in_ok-begin_bits
returns-in_ok-begin_bits c = (c.is_narrow.ensures.0 c.if-is_narrow.true, subst (λ (n : Circuit). IsEvaluated n 0 c.in_ok-begin_bits.field-0) c.whole-region.ensures c.in_ok-begin_bits.ensures)
