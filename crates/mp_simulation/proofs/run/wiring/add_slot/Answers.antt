use Rattle.std.proofs.Common.{[], List, ap, subst}
use Rattle.mp_records.specs.declared.ports.Input.{Input}
use Rattle.mp_simulation.specs.run.Wirings.{HasRead, inputs_in}
use Rattle.mp_simulation.proofs.lemmas.run.MoreInputsLemmas.{adds_none, no_numbers, none_by_port}
use Rattle.mp_simulation.proofs.run.wiring.add_slot.Goals as goal

pub returns-in-None : goal.returns-in-None
returns-in-None c =
    subst (λ (xs : List Input). HasRead c.args.wiring.now c.args.wiring.now c.args.id.0 xs no_numbers) (ap inputs_in c.in-None.ensures.value)
    (record { numbers = []; adds = adds_none c.args.wiring.now c.args.id.0 0; by_port = none_by_port })
