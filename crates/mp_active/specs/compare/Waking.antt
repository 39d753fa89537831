-- A module becomes active or falls asleep: what it reads is compared no longer, or from now on, and its wires have levels of their own or of the old run.
use Rattle.std.specs.Prelude.{◌≡◌, ℕ, ◌+◌, ◌<◌, ◌≤◌, ◌^◌, true, List, [], ◌∷◌, All, Option, Some, None, length, if◌then◌else◌}
use Rattle.mp_records.specs.declared.ids.WireId.{WireId}
use Rattle.mp_records.specs.declared.ports.Output.{Output}
use Rattle.mp_records.specs.NamedWires.{is_wire}
use Rattle.mp_records.specs.Outputs.{output_in}
use Rattle.mp_kernel.specs.events.Adding.{listed}
use Rattle.mp_kernel.specs.timers.TimerWheels.{never}
use Rattle.mp_active.specs.declared.compare.wire_source.WireSource.{WireSource}
use Rattle.mp_active.specs.declared.compare.comparison.Comparison.{Comparison}
use Rattle.mp_active.specs.compare.Comparing.{asleep_at, source_at}

-- the numbers at the ports
abbrev pub number_in : Option ℕ → List ℕ → List ℕ
number_in None rest = rest
number_in (Some x) rest = x ∷ rest

abbrev pub numbers_in : List (Option ℕ) → List ℕ
numbers_in [] = []
numbers_in (port ∷ ports) = number_in port (numbers_in ports)

-- each is a number that is read by so many inputs asleep
pub record AreReadAsleep (numbers : List ℕ) (c : Comparison) : Type 0 where
  pub within : All (λ x. x < length c.numbers.wires.items) numbers
  pub counted : (x : ℕ) → listed x numbers ≤ asleep_at c x

-- each output has a short delay, and its wire, if any, a source
pub record IsSourceOf (c : Comparison) (o : Output) : Type 0 where
  pub late : 0 < o.delay
  pub short : o.delay < 2 ^ 16
  pub within : (w : ℕ) → o.wire ≡ Some (record { 0 = w }) → w < length c.sources.items

abbrev pub AreSourcesOf : List Output → Comparison → Type 0
AreSourcesOf outputs c = All (IsSourceOf c) outputs

-- no two of the outputs have one wire
abbrev pub HaveOwnWires : List Output → Type 0
HaveOwnWires outputs = (p q : ℕ) (w : WireId) → (output_in outputs p).wire ≡ Some w → (output_in outputs q).wire ≡ Some w → p ≡ q

-- the wire of each output, if any, has levels of its own
abbrev pub HasOwnLevels : Comparison → Output → Type 0
HasOwnLevels c o = (w : ℕ) → o.wire ≡ Some (record { 0 = w }) → (source_at c w).until ≡ never

abbrev pub HaveOwnLevels : List Output → Comparison → Type 0
HaveOwnLevels outputs c = All (HasOwnLevels c) outputs

abbrev pub turned_on : WireSource → WireSource
turned_on source = record source { is_on = true }

-- the levels are those of the old run from a time on
abbrev pub from_then : ℕ → WireSource → WireSource
from_then time source = record source { until = time }

-- where one of the outputs drives the wire, it has levels of its own
abbrev pub woken : List Output → ℕ → WireSource → WireSource
woken [] w source = source
woken (o ∷ outputs) w source = if is_wire o.wire w then from_then never source else woken outputs w source

-- where one of them does, the wire has the levels of the old run its delay after a time
abbrev pub slept : List Output → ℕ → ℕ → WireSource → WireSource
slept [] time w source = source
slept (o ∷ outputs) time w source = if is_wire o.wire w then from_then (time + o.delay) source else slept outputs time w source
