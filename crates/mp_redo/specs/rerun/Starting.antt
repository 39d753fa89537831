-- A simulation with which a re-evaluation begins.
use Rattle.std.specs.Prelude.{◌≡◌, ℕ, ◌<◌, Bool, List, [], length}
use Rattle.mp_netlist.specs.Circuit.{Circuit}
use Rattle.mp_partition.specs.runs.Marks.{is_marked}
use Rattle.mp_partition.specs.runs.Outcomes.{Outcome}
use Rattle.mp_simulation.specs.declared.run.wiring.WiredInputs.{WiredInputs}
use Rattle.mp_simulation.specs.run.Wirings.{AreByPort}
use Rattle.mp_active.specs.excerpt.Excerpts.{ArePortsOn}
use Rattle.mp_active.specs.excerpt.Numberings.{Numbering}
use Rattle.mp_active.specs.excerpt.Showing.{Shows}
use Rattle.mp_active.specs.compare.Comparing.{wire_of, delay_of, HasCursors, AreUnseen, IsComplete}
use Rattle.mp_active.specs.compare.First.{AreFirst}
use Rattle.mp_active.specs.compare.Numbering.{AreNumbered as AreOfWires, AreNumbersOf}
use Rattle.mp_redo.specs.declared.rerun.first_simulation.First.{First}
use Rattle.mp_redo.specs.declared.rerun.starting.FirstRun.{FirstRun}
use Rattle.mp_redo.specs.rerun.Numbered.{AreWired, ports_at}
use Rattle.mp_redo.specs.rerun.Seats.{AreSeats}

-- at time 0 it has the active modules, whichever wires are on; it is told which wire each number is of, and which numbers the inputs of each module read
pub record IsFirst (n : Circuit) (active : ℕ → Bool) (first : First) : Type 0 where
  pub numbering : Numbering
  pub shows : (on : ℕ → Bool) → ArePortsOn n active on → Shows n active on numbering 0 first.simulation
  pub wired : AreWired n numbering first.simulation
  pub numbers : AreOfWires (length n.wires) numbering.source first.wired.wiring.wires.items first.wired.wiring.next.items
  pub count : length first.wired.wiring.next.items ≡ length first.simulation.bits.simulator.fanout
  pub modules : length first.wired.inputs.items ≡ length n.modules
  pub by_port : (m : ℕ) → m < length n.modules → AreByPort (numbering.inputs m) (ports_at first.wired.inputs.items m)
  pub seats : AreSeats (length n.modules) first.simulation.modules.places.items first.simulation.modules

-- it is made of a first simulation, and of a first comparison by its numbers
pub record IsFirstRun (old new : Circuit) (run : Outcome) (active : List Bool) (it : FirstRun) : Type 0 where
  pub wired : WiredInputs
  pub first : IsFirst new (is_marked active) (record { simulation = it.simulation; wired = wired })
  pub wires : it.comparison.numbers.wires.items ≡ wired.wiring.wires.items
  pub inputs : it.inputs.items ≡ wired.inputs.items
  pub sources : (x : ℕ) → x < length wired.wiring.next.items → first.numbering.source x ≡ (wire_of it.comparison.numbers x, delay_of it.comparison.numbers x)
  pub numbers : AreNumbersOf new it.comparison.numbers
  pub compared : AreFirst old new active it.inputs.items it.comparison
  pub cursors : HasCursors run 0 [] it.comparison
  pub unseen : AreUnseen 1 it.comparison
  pub complete : IsComplete run 0 it.comparison
