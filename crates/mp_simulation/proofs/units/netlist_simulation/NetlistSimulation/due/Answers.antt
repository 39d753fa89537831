use Rattle.std.proofs.Common.{◌≡◌, ℕ, List, subst}
use Rattle.mp_kernel.specs.events.Adding.{listed}
use Rattle.mp_simulation.proofs.lemmas.units.RestLemmas.{stays}
use Rattle.mp_simulation.proofs.units.netlist_simulation.NetlistSimulation.due.Goals as goal

pub returns : goal.returns
returns c n t m r ok is at idle =
    stays n ok t c.args.self.now is m r at (subst (λ (due : List ℕ). listed m due ≡ 0) c.as_slice.ensures.value idle)
