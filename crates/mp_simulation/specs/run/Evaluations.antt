-- A simulation of a whole netlist.
use Rattle.std.specs.Prelude.{◌≡◌, ℕ, true, Option, Some, is_some, length, nat_lt}
use Rattle.mp_records.specs.declared.module_record.ModuleRecord.{ModuleRecord}
use Rattle.mp_netlist.specs.Circuit.{Circuit, module_at}
use Rattle.mp_simulation.specs.declared.bits.simulation.Simulation.{Simulation}
use Rattle.mp_simulation.specs.bits.Scopes.{Scope}
use Rattle.mp_simulation.specs.bits.Simulations.{IsSoundRun, IsRunning}
use Rattle.mp_simulation.specs.bits.WholeRuns.{IsWhole}

-- the unit t is over: all modules have answered, and each wire has its wave up to t
pub record IsEvaluated (n : Circuit) (t : ℕ) (s : Simulation) : Type 0 where
  pub scope : Scope
  pub before : ℕ → Option ℕ
  pub sound : IsSoundRun s
  pub running : IsRunning n scope before t s
  pub whole : IsWhole n scope before t
  pub own : (w u : ℕ) → scope.owns w u ≡ scope.traces w
  pub placed : (m : ℕ) (r : ModuleRecord) → module_at n m ≡ Some r → is_some (scope.place m) ≡ true
  pub traces : (w : ℕ) → scope.traces w ≡ nat_lt w (length n.wires)
  pub waves : length s.simulator.waves ≡ length n.wires
