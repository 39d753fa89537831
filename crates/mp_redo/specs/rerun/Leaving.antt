-- Modules that fall asleep between two units.
use Rattle.std.specs.Prelude.{◌≡◌, ◌⊎◌, ℕ, ◌+◌, ◌-◌, ◌<◌, ◌≤◌, ◌^◌, ◌++◌, [], Bool, true, false, List, All, Some, IsSome, length, slice_set}
use Rattle.std.specs.List.{Contains}
use Rattle.std.specs.List.Sorted.{IsPermutation}
use Rattle.mp_records.specs.declared.ids.ModuleId.{ModuleId}
use Rattle.mp_records.specs.declared.module_record.ModuleRecord.{ModuleRecord}
use Rattle.mp_records.specs.declared.ports.Output.{Output}
use Rattle.mp_netlist.specs.Circuit.{Circuit, module_at}
use Rattle.mp_model.specs.Waves.{state}
use Rattle.mp_kernel.specs.events.Adding.{listed}
use Rattle.mp_partition.specs.runs.Outcomes.{Outcome}
use Rattle.mp_simulation.specs.run.Stimuli.{left_of, AreInOrder}
use Rattle.mp_depend.specs.work.Revisions.{IsKept}
use Rattle.mp_depend.specs.recording.Recorders.{IsRecorder}
use Rattle.mp_depend.specs.recording.Live.{LeavesAt}
use Rattle.mp_active.specs.compare.Comparing.{asleep_at, source_at, HasCursors, IsComplete}
use Rattle.mp_active.specs.compare.Waking.{numbers_in, slept, AreSourcesOf, HaveOwnWires, HaveOwnLevels}
use Rattle.mp_active.specs.steps.Sleeping.{IsPutToSleep}
use Rattle.mp_active.specs.steps.Taking.{is_gone, taken_in, HasTaken}
use Rattle.mp_redo.specs.declared.rerun.rerun.Rerun.{Rerun}
use Rattle.mp_redo.specs.rerun.Numbered.{ports_at}
use Rattle.mp_redo.specs.rerun.Reruns.{active_of}

-- it is active, stands in both netlists with one record, and its states before a time agree
pub record CanLeaveAt (old new : Circuit) (time : ℕ) (s : Rerun) (m : ℕ) : Type 0 where
  pub active : active_of s m ≡ true
  pub part : ModuleRecord
  pub kept : IsKept old new m part
  pub agree : state old m (time - 1) ≡ state new m (time - 1)

abbrev pub CanLeave : Circuit → Circuit → ℕ → List ModuleId → Rerun → Type 0
CanLeave old new time leaving s = (m : ℕ) → Contains leaving (record { 0 = m }) → CanLeaveAt old new time s m

-- just these are active no longer; the window, and what was seen stay
pub record HaveLeft (leaving : List ModuleId) (s new : Rerun) : Type 0 where
  pub kept : new ≡ record s {
    simulation = new.simulation;
    comparison = new.comparison;
    pending_outputs = new.pending_outputs;
    activity = record (s.activity) { active = new.activity.active };
    recorder = new.recorder;
  }
  pub seen : new.comparison.seen ≡ s.comparison.seen
  pub left : (m : ℕ) → Contains leaving (record { 0 = m }) → active_of new m ≡ false
  pub others : (m : ℕ) → (Contains leaving (record { 0 = m }) → ⊥) → active_of new m ≡ active_of s m

-- a module has its places, its inputs can be compared before the unit of a time, and its wires have levels of their own
pub record CanFallAsleep (run : Outcome) (m time : ℕ) (r : ModuleRecord) (s : Rerun) : Type 0 where
  pub some : 0 < time
  pub low : time + 2 ^ 16 < 2 ^ 32 - 1
  pub within : m < length s.activity.active.items
  pub read_at : m < length s.inputs.items
  pub place : m < length s.simulation.bits.simulator.states.items
  pub seat : m < length s.simulation.modules.places.items
  pub cursors : HasCursors run (time - 1) [] s.comparison
  pub few : (x : ℕ) → asleep_at s.comparison x + listed x (numbers_in (ports_at s.inputs.items m)) < 2 ^ 32
  pub read : All (λ x. x < length s.comparison.numbers.wires.items) (numbers_in (ports_at s.inputs.items m))
  pub outputs : AreSourcesOf r.outputs s.comparison
  pub apart : HaveOwnWires r.outputs
  pub own : HaveOwnLevels r.outputs s.comparison

-- its place sleeps, what it reads is compared from now on, and its wires have the levels of the old run after their delays; the wheels may have
-- changes of these still
pub record HasFallenAsleep (run : Outcome) (m time : ℕ) (r : ModuleRecord) (s new : Rerun) : Type 0 where
  pub kept : new ≡ record s { simulation = new.simulation; comparison = new.comparison; activity = record (s.activity) { active = new.activity.active } }
  pub active : new.activity.active.items ≡ slice_set s.activity.active.items m false
  pub place : IsPutToSleep m s.simulation new.simulation
  pub compared : new.comparison ≡ record (s.comparison) {
    sources = new.comparison.sources;
    asleep = new.comparison.asleep;
    timers = new.comparison.timers;
    places = new.comparison.places;
  }
  pub cursors : HasCursors run (time - 1) [] new.comparison
  pub complete : IsComplete run (time - 1) s.comparison → IsComplete run (time - 1) new.comparison
  pub asleep : (x : ℕ) → asleep_at new.comparison x ≡ asleep_at s.comparison x + listed x (numbers_in (ports_at s.inputs.items m))
  pub sources : (w : ℕ) → source_at new.comparison w ≡ slept r.outputs time w (source_at s.comparison w)

-- the module was active, has fallen asleep, and has left the recorder; its longest delay is this
pub record HasGone (n : Circuit) (run : Outcome) (m time units : ℕ) (s new : Rerun) : Type 0 where
  pub part : ModuleRecord
  pub stands : module_at n m ≡ Some part
  pub awake : active_of s m ≡ true
  pub mid : Rerun
  pub falls : HasFallenAsleep run m time part s mid
  pub kept : new ≡ record mid { recorder = new.recorder }
  pub told : (old other : Circuit) (outcome : Outcome) (kept : ℕ → ℕ) (live now : ℕ → Bool) → LeavesAt other live now m time → kept m ≡ time →
      IsRecorder old other outcome kept time live mid.recorder → IsRecorder old other outcome kept time now new.recorder
  pub all : All (λ (o : Output). o.delay ≤ units) part.outputs
  pub most : (bound : ℕ) → All (λ (o : Output). o.delay ≤ bound) part.outputs → units ≤ bound

-- it slept already, or doesn't stand, and nothing is other
pub record HasStayed (n : Circuit) (m units : ℕ) (s new : Rerun) : Type 0 where
  pub asleep : IsSome (module_at n m) → active_of s m ≡ false
  pub same : new ≡ s
  pub none : units ≡ 0

abbrev pub HasLeftOne : Circuit → Outcome → ℕ → ℕ → ℕ → Rerun → Rerun → Type 0
HasLeftOne n run m time units s new = HasStayed n m units s new ⊎ HasGone n run m time units s new

-- the changes within so many units of wires that no active module drives are tails now, and no longer in the wheels
pub record HasTakenTails (units time : ℕ) (s new : Rerun) : Type 0 where
  pub kept : new ≡ record s { simulation = new.simulation; pending_outputs = new.pending_outputs }
  pub wheels : HasTaken (is_gone s.comparison.sources.items) units s.simulation new.simulation
  pub pending_outputs : IsPermutation (left_of s.pending_outputs ++ taken_in (is_gone s.comparison.sources.items) time s.simulation units) (left_of new.pending_outputs)
  pub order : AreInOrder (left_of new.pending_outputs)
