-- The levels and changes that an excerpt shows, in terms of the netlist.
use Rattle.std.specs.Prelude.{◌≡◌, ℕ, ◌+◌, Bool, List, All, Option, Some, None, nat_lt, ◌&&◌, if◌then◌else◌}
use Rattle.mp_netlist.specs.declared.driver.Driver.{Driver}
use Rattle.mp_netlist.specs.declared.driver.Driver.TheVariants.{Nothing, Stimulus, Port}
use Rattle.mp_netlist.specs.Circuit.{Circuit, wire_at, module_at}
use Rattle.mp_netlist.specs.Drivers.{driver}
use Rattle.mp_model.specs.Evaluations.{delay_in}
use Rattle.mp_model.specs.Levels.{initial_of}
use Rattle.mp_model.specs.Waves.{level}
use Rattle.mp_modules.specs.automata.Codes.{bit}
use Rattle.mp_kernel.specs.declared.events.output_port.OutputPort.{OutputPort}
use Rattle.mp_kernel.specs.events.Adding.{listed}
use Rattle.mp_kernel.specs.events.Firing.{copy_at}
use Rattle.mp_simulation.specs.declared.bits.simulator.Simulator.{Simulator}
use Rattle.mp_simulation.specs.declared.bits.delayed_copies.DelayedCopies.{DelayedCopies}
use Rattle.mp_simulation.specs.bits.Changes.{change_at, late_change}
use Rattle.mp_simulation.specs.bits.Simulators.{slot_at}
use Rattle.mp_simulation.specs.bits.Simulations.{copy_slot}
use Rattle.mp_simulation.specs.bits.Copies.{later_by}
use Rattle.mp_kernel.specs.declared.datapath.level_change.LevelChange.{LevelChange}
use Rattle.mp_simulation.specs.units.DataLevels.{is_data, is_bit_wire, late_level, changes_of, IsLevelAt}
use Rattle.mp_simulation.specs.units.DataWheels.{data_slot}
use Rattle.mp_active.specs.excerpt.Numberings.{Numbering}

-- the level of a wire that is on; one that is off stays at its initial level
abbrev pub shown_level : Circuit → (ℕ → Bool) → ℕ → ℕ → ℕ
shown_level n on w u = if on w then level n w u else initial_of (wire_at n w)

-- so of a number, by its source
abbrev pub shown_late : Circuit → (ℕ → Bool) → ℕ × ℕ → ℕ → ℕ
shown_late n on source u = if on source.0 then late_level n source u else initial_of (wire_at n source.0)

abbrev pub shown_change : Circuit → (ℕ → Bool) → ℕ × ℕ → ℕ → Bool
shown_change n on source u = on source.0 && late_change n source u

-- by how many units the changes of a wire are known before: the delay of the port that drives it, if the port's module is active
abbrev pub shown_delay : Circuit → (ℕ → Bool) → Driver → ℕ
shown_delay n active Nothing = 0
shown_delay n active Stimulus = 0
shown_delay n active (Port m p) = if active m.0 then delay_in (module_at n m.0) p else 0

-- by how many units those of a number with data are: of a copy by how much it is later than what it stands after
abbrev pub shown_ahead : Circuit → (ℕ → Bool) → List OutputPort → ℕ → Option ℕ → ℕ
shown_ahead n active next x None = shown_delay n active (driver n x)
shown_ahead n active next x (Some y) = (copy_at next y).delay

-- a wire of width 1 is in a slot after t, once, where it changes then and this is known
abbrev pub IsEventShown : Circuit → (ℕ → Bool) → ℕ → Simulator → ℕ → ℕ → Type 0
IsEventShown n active t s w k = listed w (slot_at s k) ≡ bit ((change_at n w (t + 1 + k) && is_bit_wire n w) && nat_lt k (shown_delay n active (driver n w)))

-- a copy is, where its wire is on
abbrev pub IsCopyShown : Circuit → (ℕ → Bool) → Numbering → ℕ → DelayedCopies → ℕ → ℕ → Type 0
IsCopyShown n on numbering t s x k =
    listed x (copy_slot s k) ≡ bit (shown_change n on (numbering.source x) (t + 1 + k) && nat_lt k (later_by s.next.items (numbering.before x)))

-- and a number with data
abbrev pub IsChangeShown : Circuit → (ℕ → Bool) → (ℕ → Bool) → Numbering → List OutputPort → ℕ → List (List LevelChange) → ℕ → ℕ → Type 0
IsChangeShown n active on numbering next t slots x k =
    changes_of x (data_slot slots k)
    ≡ bit ((shown_change n on (numbering.source x) (t + 1 + k) && is_data n (numbering.source x).0) && nat_lt k (shown_ahead n active next x (numbering.data_before x)))

-- the changes in the slots after t have the levels of the netlist
abbrev pub AreLevelsShown : Circuit → Numbering → ℕ → List (List LevelChange) → Type 0
AreLevelsShown n numbering t slots = (k : ℕ) → All (IsLevelAt n numbering.source (t + 1 + k)) (data_slot slots k)
