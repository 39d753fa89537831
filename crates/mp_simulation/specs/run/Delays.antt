-- Longest delays.
use Rattle.std.specs.Prelude.{◌≡◌, ℕ, ◌<◌, ◌≤◌, All, Some}
use Rattle.mp_records.specs.declared.module_record.ModuleRecord.{ModuleRecord}
use Rattle.mp_records.specs.declared.ports.Input.{Input}
use Rattle.mp_records.specs.declared.ports.Output.{Output}
use Rattle.mp_netlist.specs.Circuit.{Circuit, module_at}
use Rattle.mp_simulation.specs.declared.run.delays.Delays.{Delays}

-- no port of a module has a longer delay
pub record IsWithin (d : Delays) (r : ModuleRecord) : Type 0 where
  pub outputs : All (λ (o : Output). o.delay ≤ d.outputs) r.outputs
  pub inputs : All (λ (i : Input). i.delay ≤ d.inputs) r.inputs

-- nor has one of a module below a number
abbrev pub AreWithin : Circuit → ℕ → Delays → Type 0
AreWithin n modules d = (m : ℕ) (r : ModuleRecord) → m < modules → module_at n m ≡ Some r → IsWithin d r

pub record AreNotBelow (d longer : Delays) : Type 0 where
  pub outputs : d.outputs ≤ longer.outputs
  pub inputs : d.inputs ≤ longer.inputs
