-- What a simulator has of a netlist lets it go on.
use Rattle.std.specs.Prelude.{ℕ, ◌+◌, ◌<◌, List, All, length, ◌++◌}
use Rattle.mp_netlist.specs.Circuit.{Circuit, IsCircuit}
use Rattle.mp_simulation.specs.declared.bits.simulator.Simulator.{Simulator}
use Rattle.mp_simulation.specs.bits.Scopes.{Scope}
use Rattle.mp_simulation.specs.bits.Simulators.{next_slot, IsSound, CanApply}
use Rattle.mp_simulation.specs.bits.Units.{IsBefore, AreDue}

-- before a unit the wires and numbers that change in it can have their events, where they have waves and rows
abbrev pub CanApplyWhenDue : Type 0
CanApplyWhenDue = (n : Circuit) → IsCircuit n → (scope : Scope) (t : ℕ) (s : Simulator) (set others : List ℕ) → IsSound s → IsBefore n scope t s →
    AreDue n scope t (next_slot s ++ set) others → All (λ w. w < length s.waves) set → All (λ x. x < length s.fanout) others →
    CanApply s set others (t + 1)
