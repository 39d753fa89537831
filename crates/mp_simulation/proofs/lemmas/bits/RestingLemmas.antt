-- A simulation in which nothing is known to change.
use Rattle.std.proofs.Common.{refl, sym}
use Rattle.mp_kernel.proofs.lemmas.events.EmptyLemmas.{empty_turned, empty_next}
use Rattle.mp_simulation.specs.declared.bits.simulation.Simulation.{Simulation}
use Rattle.mp_simulation.specs.bits.Simulations.{IsQuiet, IsIdle, StaysIdle}
use Rattle.mp_simulation.proofs.lemmas.bits.QuietLemmas.{quiet_before, quiet_copies}
use Rattle.mp_simulation.proofs.lemmas.bits.SimulationLemmas.{running}

pub quiet : (s : Simulation) → IsIdle s → IsQuiet s
quiet s idle = record { wires = empty_next s.simulator.wheel idle.wires; copies = empty_next s.copies.wheel idle.copies }

pub stays_idle : StaysIdle
stays_idle n ok scope before t s sound idle whole sets is =
    let still = quiet s idle in
    running n scope before t s s.copies s.simulator is refl
    (quiet_copies n ok scope before t s sound still whole sets is s.copies.wheel (sym (empty_turned s.copies.wheel sound.copies.some idle.copies)))
    (quiet_before n ok scope before t s sound still whole sets is s.simulator.wheel (sym (empty_turned s.simulator.wheel sound.simulator.some idle.wires)))
