-- A module that sleeps takes its place in the simulation again, and what is known of its wires is put back into the wheels.
use Rattle.std.specs.Prelude.{◌≡◌, ◌==◌, ◌&&◌, ◌||◌, ℕ, ◌+◌, ◌-◌, ◌<◌, ◌≤◌, ◌^◌, Bool, true, false, not, List, [], ◌∷◌, All, Option, Some, length, slice_index_or, slice_set, if◌then◌else◌}
use Rattle.mp_modules.specs.declared.memory.Memory.{Memory}
use Rattle.mp_records.specs.declared.module_record.ModuleRecord.{ModuleRecord}
use Rattle.mp_records.specs.declared.ports.Output.{Output}
use Rattle.mp_records.specs.Outputs.{output_at, delay_of}
use Rattle.mp_records.specs.NamedWires.{is_wire}
use Rattle.mp_netlist.specs.Circuit.{Circuit, Drives, module_at, module_width}
use Rattle.mp_model.specs.Levels.{built}
use Rattle.mp_model.specs.Waves.{level}
use Rattle.mp_kernel.specs.declared.datapath.data_module.DataModule.{DataModule}
use Rattle.mp_kernel.specs.declared.datapath.level_change.LevelChange.{LevelChange}
use Rattle.mp_modules.specs.storage.DataParts.{data_part, outputs_in}
use Rattle.mp_simulation.specs.units.DataLevels.{is_data}
use Rattle.mp_simulation.specs.units.DataSeats.{bit_ports_of, level_port_of}
use Rattle.mp_partition.specs.runs.Outcomes.{Outcome}
use Rattle.mp_partition.specs.regions.Readers.{Reads}
use Rattle.mp_simulation.specs.declared.run.stimuli.HeardChanges.{HeardChanges}
use Rattle.mp_simulation.specs.declared.run.stimuli.StimulusChange.{StimulusChange}
use Rattle.mp_simulation.specs.run.Stimuli.{left_of}
use Rattle.mp_active.specs.excerpt.Numberings.{Numbering}
use Rattle.mp_active.specs.excerpt.Showing.{Shows}
use Rattle.mp_active.specs.excerpt.Activating.{with_module}
use Rattle.mp_active.specs.steps.Ahead.{AreAhead, AreChangesOf, HasNothingAhead}
use Rattle.mp_active.specs.steps.Putting.{HasPut, room as room_of}
use Rattle.mp_depend.specs.work.Revisions.{IsKept}
use Rattle.mp_active.specs.steps.Seating.{IsBitSeated, HasTakenSeat}
use Rattle.mp_redo.specs.declared.rerun.rerun.Rerun.{Rerun}
use Rattle.mp_redo.specs.rerun.Numbered.{ports_at}
use Rattle.mp_redo.specs.rerun.Following.{AreToCome, is_tail, AreTails}
use Rattle.mp_redo.specs.rerun.Seats.{seat_at}
use Rattle.mp_redo.specs.rerun.Reruns.{active_of, on_of, until_of, IsFollowed}

-- all wires are on that a module reads or drives
pub record ArePortsLit (n : Circuit) (m : ℕ) (on : ℕ → Bool) : Type 0 where
  pub read : (w : ℕ) → Reads n m w → on w ≡ true
  pub driven : (p w : ℕ) → Drives n m p w → on w ≡ true

-- it has places in the simulation and a row of inputs; its seat, if it has had one, is one of few
pub record HasPlaces (m : ℕ) (s : Rerun) : Type 0 where
  pub states : m < length s.simulation.bits.simulator.states.items
  pub levels : m < length s.simulation.bits.simulator.levels.items
  pub places : m < length s.simulation.modules.places.items
  pub inputs : m < length s.inputs.items
  pub seats : m < length s.activity.seats.items
  pub within : (k : ℕ) → seat_at s.activity.seats.items m ≡ Some k → k < length s.simulation.modules.modules.items
  pub few : length s.simulation.modules.modules.items < 2 ^ 32 - 1

-- a module with data in a state, whose inputs read the numbers at these ports
pub record IsPartIn (n : Circuit) (r : ModuleRecord) (memory : Memory) (ports : List (Option ℕ)) (part : DataModule) : Type 0 where
  pub does : part.part ≡ data_part (built n r)
  pub outputs : part.outputs ≡ outputs_in memory
  pub inputs : part.inputs ≡ ports
  pub level : part.ports.level ≡ level_port_of n r
  pub bits : part.ports.bits ≡ bit_ports_of n r

-- a module with data is at its seat in a state
pub record TakesSeat (n : Circuit) (m : ℕ) (r : ModuleRecord) (memory : Memory) (s new : Rerun) : Type 0 where
  pub part : DataModule
  pub is : IsPartIn n r memory (ports_at s.inputs.items m) part
  pub place : ℕ
  pub taken : HasTakenSeat m (seat_at s.activity.seats.items m) part place s.simulation new.simulation
  pub seats : new.activity.seats.items ≡ slice_set s.activity.seats.items m (Some place)

-- a module is at its place in a state; all else is as it was
pub record HasSeat (n : Circuit) (m : ℕ) (r : ModuleRecord) (memory : Memory) (s new : Rerun) : Type 0 where
  pub kept : new ≡ record s { simulation = new.simulation; activity = record (s.activity) { seats = new.activity.seats } }
  pub narrow : (module_width n r == 1) ≡ true → IsBitSeated m (built n r) memory s.simulation new.simulation
  pub no_seat : (module_width n r == 1) ≡ true → new.activity.seats.items ≡ s.activity.seats.items
  pub wide : (module_width n r == 1) ≡ false → TakesSeat n m r memory s new

-- after t a module sleeps, and the wheels have nothing of its wires
pub record CanReturn (old new : Circuit) (run : Outcome) (numbering : Numbering) (since : ℕ → ℕ) (t m : ℕ) (s : Rerun) : Type 0 where
  pub followed : IsFollowed old new run numbering since t s
  pub asleep : active_of s m ≡ false
  pub nothing : (p w : ℕ) → Drives new m p w → HasNothingAhead new numbering w s.simulation

-- what is known of these wires after t is in the wheels again, and they have no tails any more; all else is as it was
pub record AreBack (n : Circuit) (numbering : Numbering) (t : ℕ) (wires : ℕ → Bool) (s new : Rerun) : Type 0 where
  pub kept : new ≡ record s { simulation = new.simulation; pending_outputs = new.pending_outputs }
  pub ahead : AreAhead n numbering t wires s.simulation new.simulation
  pub pending_outputs : AreToCome n (λ w u. is_tail n (active_of s) (until_of s) w u && not (wires w)) t (left_of new.pending_outputs)

-- the wheels have the changes of a wire more that come after t, later than one time and earlier than another; all else is as it was
pub record HasPutSpan (n : Circuit) (w t from to : ℕ) (s new : Rerun) : Type 0 where
  pub entries : List (ℕ × LevelChange)
  pub are : AreChangesOf n w t from to entries
  pub put : HasPut (is_data n w) entries s.simulation new.simulation
  pub kept : new ≡ record s { simulation = new.simulation }

-- an output of a module of both netlists has a wire, whose levels are those of the old run from the unit before a time on, as far as they rest on
-- states up to t; and its wheel has room
pub record CanPutLast (old new : Circuit) (t m port : ℕ) (part : ModuleRecord) (wire from : ℕ) (s : Rerun) : Type 0 where
  pub kept : IsKept old new m part
  pub output : (output_at part port).wire ≡ Some (record { 0 = wire })
  pub some : from < t + 1 + delay_of part port
  pub agrees : (u : ℕ) → from ≤ u + 1 → u ≤ t + delay_of part port → level old wire u ≡ level new wire u
  pub place : wire < length s.comparison.numbers.have_data.items
  pub sort : slice_index_or s.comparison.numbers.have_data.items wire false ≡ is_data new wire
  pub room : (wide : Bool) → delay_of part port ≤ room_of wide s.simulation

-- one of the outputs drives the wire
abbrev pub is_output : List Output → ℕ → Bool
is_output [] w = false
is_output (o ∷ outputs) w = is_wire o.wire w || is_output outputs w

-- some wires are back that aren't this output's, and it is an output of the module that returns
pub record IsNextBack (old new : Circuit) (run : Outcome) (t number port : ℕ) (output : Output) (s : Rerun) : Type 0 where
  pub numbering : Numbering
  pub since : ℕ → ℕ
  pub part : ModuleRecord
  pub stands : module_at new number ≡ Some part
  pub own : output_at part port ≡ output
  pub start : Rerun
  pub can : CanReturn old new run numbering since t number start
  pub wires : ℕ → Bool
  pub back : AreBack new numbering t wires start s
  pub fresh : (w : ℕ) → output.wire ≡ Some (record { 0 = w }) → wires w ≡ false

-- a change after t and before a time, within so many units, of a wire that has data or not
pub record IsTailIn (t until units : ℕ) (wide : Bool) (change : StimulusChange) : Type 0 where
  pub later : t < change.time
  pub before : change.time < until
  pub within : change.time - t ≤ units
  pub sort : change.has_data ≡ wide

-- those of a wire are such
abbrev pub AreTailsIn : ℕ → ℕ → ℕ → ℕ → Bool → List StimulusChange → Type 0
AreTailsIn w t until units wide changes = All (λ (s : StimulusChange). s.wire ≡ w → IsTailIn t until units wide s) changes

-- those of a wire, each a time and a level
abbrev pub tail_of : ℕ → List StimulusChange → List (ℕ × ℕ)
tail_of w [] = []
tail_of w (s ∷ changes) = if s.wire == w then (s.time, s.level) ∷ tail_of w changes else tail_of w changes

-- those of other wires
abbrev pub others_of : ℕ → List StimulusChange → List StimulusChange
others_of w [] = []
others_of w (s ∷ changes) = if s.wire == w then others_of w changes else s ∷ others_of w changes

-- after t the simulation has a module as active, which isn't told to be so
pub record HasReturned (old new : Circuit) (run : Outcome) (numbering : Numbering) (since : ℕ → ℕ) (t m : ℕ) (s : Rerun) : Type 0 where
  pub shows : Shows new (with_module (active_of s) m) (on_of s) numbering t s.simulation
  pub asleep : active_of s m ≡ false
  pub lit : ArePortsLit new m (on_of s)
  pub were : HeardChanges
  pub followed : IsFollowed old new run numbering since t (record s { pending_outputs = were })
  pub pending_outputs : AreTails new (with_module (active_of s) m) (until_of s) t (left_of s.pending_outputs)

-- a module is told to be active; all else is as it was but for what is compared
pub record IsToldAwake (m : ℕ) (s new : Rerun) : Type 0 where
  pub kept : new ≡ record s { comparison = new.comparison; activity = record (s.activity) { active = new.activity.active; joined = new.activity.joined } }
  pub seen : new.comparison.seen ≡ s.comparison.seen
  pub active : (k : ℕ) → active_of new k ≡ (active_of s k || (k == m))
