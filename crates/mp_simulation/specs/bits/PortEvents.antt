-- Which events the ports of a module have where wires and their delayed copies toggle.
use Rattle.std.specs.Prelude.{◌≡◌, ℕ, ◌+◌, List, All, Some, map}
use Rattle.mp_records.specs.declared.module_record.ModuleRecord.{ModuleRecord}
use Rattle.mp_records.specs.declared.ports.Input.{Input}
use Rattle.mp_netlist.specs.Circuit.{Circuit, IsCircuit, module_at}
use Rattle.mp_model.specs.Levels.{inputs_by}
use Rattle.mp_model.specs.Waves.{level, state}
use Rattle.mp_modules.specs.automata.BitModules.{events_in}
use Rattle.mp_modules.specs.automata.Codes.{bit}
use Rattle.mp_kernel.specs.events.Adding.{listed}
use Rattle.mp_kernel.specs.events.Ports.{AreEvents}
use Rattle.mp_simulation.specs.bits.Changes.{late_change}

-- the wire that an input reads, and how many units later
abbrev pub source_of : Input → ℕ × ℕ
source_of i = (i.wire.0, i.delay)

-- each of these numbers is listed once where its source has a change at a time, and else not
abbrev pub AreHeard : Circuit → (ℕ → ℕ × ℕ) → List ℕ → ℕ → List ℕ → Type 0
AreHeard n source heard time numbers = All (λ x. listed x heard ≡ bit (late_change n (source x) time)) numbers

-- then the ports that read these numbers have the module's events
abbrev pub PortsHaveEvents : Type 0
PortsHaveEvents = (n : Circuit) → IsCircuit n → (m t : ℕ) (r : ModuleRecord) (source : ℕ → ℕ × ℕ) (ports heard : List ℕ) → module_at n m ≡ Some r →
    map source ports ≡ map source_of r.inputs → AreHeard n source heard (t + 1) ports →
    AreEvents ports heard (events_in (state n m t) (inputs_by n (level n) r (t + 1)))
