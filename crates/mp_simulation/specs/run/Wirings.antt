-- Which inputs read each number.
use Rattle.std.specs.Prelude.{◌≡◌, ℕ, ◌+◌, ◌*◌, ◌^◌, ◌<◌, ◌≤◌, List, [], ◌++◌, All, Option, Some, None, length, map, nat_lt, slice_index_or, ◌==◌, if◌then◌else◌}
use Rattle.mp_records.specs.declared.module_record.ModuleRecord.{ModuleRecord}
use Rattle.mp_records.specs.declared.ports.Input.{Input}
use Rattle.mp_netlist.specs.Circuit.{Circuit, module_at}
use Rattle.mp_kernel.specs.declared.events.fanout_entry.FanoutEntry.{FanoutEntry}
use Rattle.mp_kernel.specs.events.Toggling.{row_at}
use Rattle.mp_kernel.specs.events.Firing.{no_port}
use Rattle.mp_kernel.specs.events.Ports.{HasPorts}
use Rattle.mp_simulation.specs.bits.PortEvents.{source_of}
use Rattle.mp_simulation.specs.declared.run.wiring.Wiring.{Wiring}
use Rattle.mp_simulation.specs.units.DataSeats.{number_at}
use Rattle.mp_simulation.specs.run.Numbers.{AreLinks, AreNumbers, AreOrigins}

-- the rows have just the inputs that places read, so many places and so many wires being there; the ports of a place read these numbers, none of
-- which is later than the longest delay of what is read
pub record AreWired (wires places : ℕ) (reading : ℕ → List Input) (inputs : ℕ → List ℕ) (wiring : Wiring) : Type 0 where
  pub source : ℕ → ℕ × ℕ
  pub before : ℕ → Option ℕ
  pub numbers : AreNumbers wires source before wiring.next.items
  pub origins : AreOrigins source (length wiring.next.items) wiring.wires.items
  pub ports : (q : ℕ) → HasPorts wiring.rows.items q (inputs q)
  pub reads : (q : ℕ) → map source (inputs q) ≡ map source_of (reading q)
  pub low : (q : ℕ) → All (λ x. x < length wiring.next.items) (inputs q)
  pub late : (longest : ℕ) → ((q : ℕ) → All (λ (i : Input). i.delay ≤ longest) (reading q)) → (x : ℕ) → x < length wiring.next.items → (source x).1 ≤ longest
  pub placed : (x : ℕ) → All (λ (l : FanoutEntry). l.module < places) (row_at wiring.rows.items x)
  pub eventful : (x : ℕ) → All (λ (l : FanoutEntry). 0 < l.event) (row_at wiring.rows.items x)

-- each number has a row
abbrev pub HaveRows : Wiring → Type 0
HaveRows wiring = length wiring.rows.items ≡ length wiring.next.items

-- the rows are as they were, and further ones are empty; the wires that are listed stay
pub record KeepsRows (old new : Wiring) : Type 0 where
  pub wires : new.wires.items ≡ old.wires.items
  pub long : HaveRows old → HaveRows new
  pub each : (x : ℕ) → row_at new.rows.items x ≡ row_at old.rows.items x

-- an input can read one of so many numbers
pub record CanRead (numbers : ℕ) (input : Input) : Type 0 where
  pub wire : input.wire.0 < numbers
  pub delay : input.delay < 2 ^ 16

-- a place reads these inputs, and the others what they did
abbrev pub with_inputs : (ℕ → List Input) → ℕ → List Input → ℕ → List Input
with_inputs reading place inputs q = if q == place then inputs else reading q

abbrev pub with_numbers : (ℕ → List ℕ) → ℕ → List ℕ → ℕ → List ℕ
with_numbers inputs place numbers q = if q == place then numbers else inputs q

-- after a place reads inputs behind so many others, by these numbers: there are not many more numbers
pub record AddsInputs (old new : Wiring) (place port : ℕ) (inputs : List Input) (numbers : List ℕ) : Type 0 where
  pub longer : length old.next.items ≤ length new.next.items
  pub few : length new.next.items ≤ length old.next.items + length inputs
  pub count : length numbers ≡ length inputs
  pub rows : HaveRows old → HaveRows new
  pub links : (longest : ℕ) → All (λ (i : Input). i.delay ≤ longest) inputs → AreLinks longest old.next.items → AreLinks longest new.next.items
  pub wired : (wires places : ℕ) (reading : ℕ → List Input) (reads : ℕ → List ℕ) → All (λ (i : Input). i.wire.0 < wires) inputs → place < places → length (reading place) ≡ port → port + length inputs ≤ 4 →
      AreWired wires places reading reads old →
      AreWired wires places (with_inputs reading place (reading place ++ inputs)) (with_numbers reads place (reads place ++ numbers)) new

-- the ports have these numbers, as far as there are so many
abbrev pub AreByPort : List ℕ → List (Option ℕ) → Type 0
AreByPort numbers ports = (p : ℕ) → slice_index_or ports p None ≡ number_at numbers p

-- after a place reads all its inputs, by the numbers at its ports
pub record HasRead (old new : Wiring) (place : ℕ) (inputs : List Input) (ports : List (Option ℕ)) : Type 0 where
  pub numbers : List ℕ
  pub adds : AddsInputs old new place 0 inputs numbers
  pub by_port : AreByPort numbers ports

-- there are just these wires, and nothing reads them
pub record AreUnread (wires : ℕ) (wiring : Wiring) : Type 0 where
  pub next : length wiring.next.items ≡ wires
  pub rows : length wiring.rows.items ≡ wires
  pub listed : length wiring.wires.items ≡ wires
  pub own : (x : ℕ) → x < wires → slice_index_or wiring.wires.items x 0 ≡ x
  pub last : All (λ port. port ≡ no_port) wiring.next.items
  pub empty : (x : ℕ) → row_at wiring.rows.items x ≡ []

-- the inputs of what stands in a module's slot
abbrev pub inputs_in : Option ModuleRecord → List Input
inputs_in None = []
inputs_in (Some r) = r.inputs

-- the inputs that the modules below a number read
abbrev pub reading_below : Circuit → ℕ → ℕ → List Input
reading_below n modules q = if nat_lt q modules then inputs_in (module_at n q) else []

-- no input has a longer delay
abbrev pub AreDelaysWithin : Circuit → ℕ → Type 0
AreDelaysWithin n longest = (m : ℕ) (r : ModuleRecord) → module_at n m ≡ Some r → All (λ (i : Input). i.delay ≤ longest) r.inputs

-- the modules below a number read their inputs, by these numbers
pub record IsWiring (n : Circuit) (modules : ℕ) (inputs : ℕ → List ℕ) (wiring : Wiring) : Type 0 where
  pub few : length wiring.next.items ≤ length n.wires + 4 * modules
  pub rows : HaveRows wiring
  pub links : (longest : ℕ) → 0 < longest → AreDelaysWithin n longest → AreLinks longest wiring.next.items
  pub wired : AreWired (length n.wires) (length n.modules) (reading_below n modules) inputs wiring

-- and each has its numbers by port
pub record AreWiredInputs (n : Circuit) (modules : ℕ) (wiring : Wiring) (ports : List (List (Option ℕ))) : Type 0 where
  pub inputs : ℕ → List ℕ
  pub wired : IsWiring n modules inputs wiring
  pub long : length ports ≡ modules
  pub by_port : (q : ℕ) → q < modules → AreByPort (inputs q) (slice_index_or ports q [])
