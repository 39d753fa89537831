-- A comparison at time 0, when some modules are active.
use Rattle.std.specs.Prelude.{◌≡◌, ◌⊎◌, ◌↔◌, ℕ, ◌<◌, Bool, true, List, Option, [], length}
use Rattle.mp_netlist.specs.declared.driver.Driver.{Driver}
use Rattle.mp_netlist.specs.declared.driver.Driver.TheVariants.{Nothing, Stimulus, Port}
use Rattle.mp_netlist.specs.Circuit.{Circuit}
use Rattle.mp_netlist.specs.Drivers.{driver}
use Rattle.mp_partition.specs.runs.Marks.{is_marked}
use Rattle.mp_depend.specs.work.Revisions.{IsDrivenAlike}
use Rattle.mp_kernel.specs.timers.TimerWheels.{never, time_of, IsTimerWheel}
use Rattle.mp_active.specs.declared.compare.wire_source.WireSource.{WireSource}
use Rattle.mp_active.specs.declared.compare.comparison.Comparison.{Comparison}
use Rattle.mp_active.specs.compare.Comparing.{off, renewed, source_at, asleep_at, seen_at}
use Rattle.mp_active.specs.compare.Reading.{asleep_below, active_below}

-- a wire with this driver comes from the new run alone: an active module drives it, or no port does and it isn't driven as before
abbrev pub IsRenewedBy : Circuit → Circuit → List Bool → ℕ → Driver → Type 0
IsRenewedBy old new active w Nothing = IsDrivenAlike old new w → ⊥
IsRenewedBy old new active w Stimulus = IsDrivenAlike old new w → ⊥
IsRenewedBy old new active w (Port m p) = is_marked active m.0 ≡ true

abbrev pub IsRenewed : Circuit → Circuit → List Bool → ℕ → Type 0
IsRenewed old new active w = IsRenewedBy old new active w (driver new w)

-- such a wire is on, and any other one has its old levels, and is on where an active module reads it
pub record IsFirst (old new : Circuit) (active : List Bool) (w : ℕ) (read : Bool) (source : WireSource) : Type 0 where
  pub either : (source ≡ renewed) ⊎ (source ≡ record off { is_on = read })
  pub never : (source.until ≡ never) ↔ IsRenewed old new active w

-- so it is of each wire, and of each number it is known how many inputs of modules that sleep read it
pub record AreFirst (old new : Circuit) (active : List Bool) (inputs : List (List (Option ℕ))) (c : Comparison) : Type 0 where
  pub places : length c.sources.items ≡ length new.wires
  pub sources : (w : ℕ) → w < length new.wires → IsFirst old new active w (active_below new (is_marked active) inputs c.numbers (length new.modules) w) (source_at c w)
  pub asleep : (x : ℕ) → asleep_at c x ≡ asleep_below new (is_marked active) inputs (length new.modules) x

-- the wire has its old levels always or never
abbrev pub IsNeverOrZero : WireSource → Type 0
IsNeverOrZero source = (source.until ≡ never) ⊎ (source.until ≡ 0)

-- nobody is known to read a number, and nothing is listed
pub record IsUnread (c : Comparison) : Type 0 where
  pub asleep : length c.asleep.items ≡ length c.numbers.wires.items
  pub times : length c.timers.times.items ≡ length c.numbers.wires.items
  pub places : length c.places.items ≡ length c.numbers.wires.items
  pub seen : length c.seen.items ≡ length c.numbers.wires.items
  pub none : (x : ℕ) → asleep_at c x ≡ 0
  pub unseen : (x : ℕ) → seen_at c x ≡ 0
  pub free : (x : ℕ) → time_of c.timers x ≡ never
  pub timers : (t : ℕ) → IsTimerWheel t [] c.timers
