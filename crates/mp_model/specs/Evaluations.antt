-- A netlist's evaluation, unit by unit: the tracks of its wires and the cells of its modules.
use Rattle.std.specs.Prelude.{◌≡◌, ℕ, Bool, false, not, ◌+◌, ◌<◌, ◌≤◌, List, [], ◌∷◌, ◌||◌, ◌&&◌, ◌==◌, Option, Some, None, option_map, length, nat_lt, if◌then◌else◌, slice_set}
use Rattle.std.specs.Option.{option_map_or}
use Rattle.std.specs.List.{list_any}
use Rattle.mp_wave.specs.Waveform.{IsWaveform, level_from, level_of, last_time}
use Rattle.mp_modules.specs.declared.memory.Memory.{Memory}
use Rattle.mp_modules.specs.storage.AnyModules.{start}
use Rattle.mp_records.specs.declared.wire_record.WireRecord.{WireRecord}
use Rattle.mp_records.specs.declared.module_record.ModuleRecord.{ModuleRecord}
use Rattle.mp_records.specs.declared.ports.Input.{Input}
use Rattle.mp_records.specs.Outputs.{delay_of}
use Rattle.mp_netlist.specs.declared.driver.Driver.{Driver}
use Rattle.mp_netlist.specs.declared.driver.Driver.TheVariants.{Nothing, Stimulus, Port}
use Rattle.mp_netlist.specs.Slots.{slot_at}
use Rattle.mp_netlist.specs.Circuit.{Circuit, wire_at, module_at}
use Rattle.mp_netlist.specs.Drivers.{driver}
use Rattle.mp_model.specs.Levels.{built}
use Rattle.mp_model.specs.Tracks.{Progress, expecting, level_before, event_before}
use Rattle.mp_model.specs.Cells.{after_answer}
use Rattle.mp_model.specs.Waves.{level, state}
use Rattle.mp_model.specs.declared.cell.Cell.{Cell}

abbrev pub delay_in : Option ModuleRecord → ℕ → ℕ
delay_in None p = 1
delay_in (Some r) p = delay_of r p

-- the times rise strictly, from after a time
abbrev pub AreRising : ℕ → List (ℕ × ℕ) → Type 0
AreRising time [] = Unit {0}
AreRising time (change ∷ changes) = (time < change.0) × AreRising change.0 changes

-- where known tells of how many units each port has delivered its state, the level at a time rests on states that were delivered
abbrev pub IsReached : Circuit → (ℕ → ℕ → ℕ) → Driver → ℕ → Type 0
IsReached n known Nothing time = Unit {0}
IsReached n known Stimulus time = Unit {0}
IsReached n known (Port m p) time = time < known m.0 p + delay_in (module_at n m.0) p

-- of a wire that a port drives, all levels from the first that the port hasn't delivered on may still be given
abbrev pub IsOpen : Circuit → (ℕ → ℕ → ℕ) → Driver → ℕ → Progress → Type 0
IsOpen n known Nothing t track = Unit {0}
IsOpen n known Stimulus t track = Unit {0}
IsOpen n known (Port m p) t track =
    (track.next ≤ known m.0 p + delay_in (module_at n m.0) p) × (last_time t track.ahead < known m.0 p + delay_in (module_at n m.0) p)

-- the track has its wire's levels below the horizon as far as they are reached, t is the present time, and the changes later than t are ahead
pub record IsOnTrack (n : Circuit) (known : ℕ → ℕ → ℕ) (t w : ℕ) (track : Progress) : Type 0 where
  pub form : IsWaveform track.wave
  pub over : last_time 0 track.wave.changes < track.next
  pub within : last_time 0 track.wave.changes < n.horizon
  pub levels : (u : ℕ) → u < n.horizon → IsReached n known (driver n w) u → level_of track.wave u ≡ level n w u
  pub present : track.present ≡ level n w t
  pub quiet : track.event ≡ false → (u : ℕ) → u + 1 ≡ t → level n w t ≡ level n w u
  pub rising : AreRising t track.ahead
  pub ahead : (u : ℕ) → t ≤ u → level_from track.present track.ahead u ≡ level_of track.wave u
  pub free : IsOpen n known (driver n w) t track

abbrev pub IsTrackOf : Circuit → (ℕ → ℕ → ℕ) → ℕ → ℕ → Option WireRecord → Option Progress → Type 0
IsTrackOf n known t w None None = Unit {0}
IsTrackOf n known t w None (Some track) = ⊥
IsTrackOf n known t w (Some r) None = ⊥
IsTrackOf n known t w (Some r) (Some track) = IsOnTrack n known t w track

-- a track for each wire that stands
pub record AreTracks (n : Circuit) (known : ℕ → ℕ → ℕ) (t : ℕ) (tracks : List (Option Progress)) : Type 0 where
  pub places : length tracks ≡ length n.wires
  pub each : (w : ℕ) → IsTrackOf n known t w (wire_at n w) (slot_at tracks w)

-- the cell has its module's state after k units
pub record IsInState (n : Circuit) (m k : ℕ) (r : ModuleRecord) (cell : Cell) : Type 0 where
  pub part : cell.part ≡ built n r
  pub memory : (u : ℕ) → u + 1 ≡ k → cell.memory ≡ state n m u

abbrev pub IsCellOf : Circuit → ℕ → ℕ → Option ModuleRecord → Option Cell → Type 0
IsCellOf n m k None None = Unit {0}
IsCellOf n m k None (Some cell) = ⊥
IsCellOf n m k (Some r) None = ⊥
IsCellOf n m k (Some r) (Some cell) = IsInState n m k r cell

-- after the modules below done have answered at the time t, and their ports and those below p of the module done have delivered
abbrev pub delivered : ℕ → ℕ → ℕ → ℕ → ℕ → ℕ
delivered t done p m q = if nat_lt m done || (m == done && nat_lt q p) then t + 1 else t

-- a cell for each module that stands, of which those below done have answered at the time t
pub record AreCells (n : Circuit) (t done : ℕ) (cells : List (Option Cell)) : Type 0 where
  pub places : length cells ≡ length n.modules
  pub each : (m : ℕ) → IsCellOf n m (delivered t done 0 m 0) (module_at n m) (slot_at cells m)

-- the level at an input port at a time, 0 where its wire doesn't stand
abbrev pub present_at : List (Option Progress) → ℕ → Input → ℕ
present_at tracks time i = option_map_or (level_before time i.delay) (slot_at tracks i.wire.0) 0

-- whether the level of a wire changed now
abbrev pub change_at : List (Option Progress) → ℕ → Bool
change_at tracks w = option_map_or (λ (track : Progress). track.event) (slot_at tracks w) false

-- whether an input has a delay
abbrev pub is_late : Input → Bool
is_late i = not (i.delay == 0)

-- no input of a module has a delay
abbrev pub ArePrompt : Circuit → Type 0
ArePrompt n = (m : ℕ) (r : ModuleRecord) → module_at n m ≡ Some r → list_any is_late r.inputs ≡ false

-- whether the level at an input port changed at a time
abbrev pub event_at : List (Option Progress) → ℕ → Input → Bool
event_at tracks time i = option_map_or (event_before time i.delay) (slot_at tracks i.wire.0) false

-- the tracks after another level of a wire is known
abbrev pub with_expected : List (Option Progress) → ℕ → ℕ → ℕ → List (Option Progress)
with_expected tracks w time level = slice_set tracks w (option_map (expecting time level) (slot_at tracks w))

-- the state of a module
abbrev pub memory_at : List (Option Cell) → ℕ → Option Memory
memory_at cells m = option_map (λ (cell : Cell). cell.memory) (slot_at cells m)

-- the cells after a module's answer at a time
abbrev pub with_answer : List (Option Cell) → ℕ → ℕ → List ℕ → List (Option Cell)
with_answer cells m time levels = slice_set cells m (option_map (λ cell. after_answer cell time levels) (slot_at cells m))

-- all levels from this time on may still be given to the track
abbrev pub IsOpenAt : ℕ → Option Progress → Type 0
IsOpenAt time None = Unit {0}
IsOpenAt time (Some track) = track.next ≤ time

-- a module before time 0
abbrev pub first_cell : Circuit → ModuleRecord → Cell
first_cell n r = record { part = built n r; memory = start (built n r) }
