-- The numbers of a netlist that is evaluated again, and who reads them.
use Rattle.std.specs.Prelude.{◌≡◌, ℕ, ◌+◌, ◌<◌, Bool, true, List, [], ◌∷◌, All, Option, Some, None, length, slice_index_or, ◌==◌, if◌then◌else◌}
use Rattle.mp_records.specs.declared.module_record.ModuleRecord.{ModuleRecord}
use Rattle.mp_netlist.specs.Circuit.{Circuit, module_at, module_width}
use Rattle.mp_kernel.specs.events.Adding.{listed}
use Rattle.mp_simulation.specs.declared.units.netlist_simulation.NetlistSimulation.{NetlistSimulation}
use Rattle.mp_simulation.specs.units.DataLevels.{is_data}
use Rattle.mp_simulation.specs.run.Seating.{AreOutputsWithin}
use Rattle.mp_simulation.specs.run.Wirings.{AreByPort}
use Rattle.mp_active.specs.excerpt.Numberings.{Numbering, ReadsNumbers}
use Rattle.mp_active.specs.steps.Activated.{IsWired}
use Rattle.mp_active.specs.declared.compare.comparison.Comparison.{Comparison}
use Rattle.mp_active.specs.compare.Comparing.{wire_of, delay_of as late_by, asleep_at}
use Rattle.mp_active.specs.compare.Listing.{AreLinked}
use Rattle.mp_active.specs.compare.Passing.{has_data_at}

-- the numbers that a module's inputs read, by port
abbrev pub ports_at : List (List (Option ℕ)) → ℕ → List (Option ℕ)
ports_at inputs m = slice_index_or inputs m []

-- the modules that stand have their inputs and outputs in the simulation, though they may sleep there: each input reads its number, and the wheels
-- have room for each delay
pub record AreWired (n : Circuit) (numbering : Numbering) (s : NetlistSimulation) : Type 0 where
  pub reads : (m : ℕ) (r : ModuleRecord) → module_at n m ≡ Some r → ReadsNumbers numbering m r
  pub gone : (m : ℕ) → module_at n m ≡ None → numbering.inputs m ≡ []
  pub bits : (m : ℕ) (r : ModuleRecord) → module_at n m ≡ Some r → (module_width n r == 1) ≡ true → IsWired n numbering m r s
  pub low : (m : ℕ) → All (λ x. x < length s.bits.simulator.fanout) (numbering.inputs m)
  pub room : AreOutputsWithin n (length s.bits.simulator.wheel)
  pub data_room : AreOutputsWithin n (length s.wires.wheel)

-- the comparison has the numbers of the simulation
pub record AreNumbered (n : Circuit) (numbering : Numbering) (inputs : List (List (Option ℕ))) (c : Comparison) (s : NetlistSimulation) : Type 0 where
  pub count : length c.numbers.wires.items ≡ length s.bits.simulator.fanout
  pub wires : length c.sources.items ≡ length n.wires
  pub source : (x : ℕ) → x < length c.numbers.wires.items → numbering.source x ≡ (wire_of c.numbers x, late_by c.numbers x)
  pub linked : AreLinked c.numbers
  pub with_data : (w : ℕ) → w < length n.wires → has_data_at c w ≡ is_data n w
  pub modules : length inputs ≡ length n.modules
  pub by_port : (m : ℕ) → m < length n.modules → AreByPort (numbering.inputs m) (ports_at inputs m)
  pub wired : AreWired n numbering s

-- how often what stands in a module's slot reads a number, if it sleeps
abbrev pub reads_asleep : (ℕ → Bool) → Numbering → ℕ → ℕ → Option ModuleRecord → ℕ
reads_asleep active numbering x m None = 0
reads_asleep active numbering x m (Some r) = if active m then 0 else listed x (numbering.inputs m)

-- how many inputs of modules that sleep read a number, m being the number of the first slot
abbrev pub readers_asleep : (ℕ → Bool) → Numbering → ℕ → ℕ → List (Option ModuleRecord) → ℕ
readers_asleep active numbering x m [] = 0
readers_asleep active numbering x m (slot ∷ slots) = reads_asleep active numbering x m slot + readers_asleep active numbering x (m + 1) slots

-- they are counted
abbrev pub AreCounted : Circuit → (ℕ → Bool) → Numbering → Comparison → Type 0
AreCounted n active numbering c = (x : ℕ) → x < length c.numbers.wires.items → asleep_at c x ≡ readers_asleep active numbering x 0 n.modules
