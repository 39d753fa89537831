-- The numbers of a netlist's wires and of their delayed copies.
use Rattle.std.specs.Prelude.{◌≡◌, ◌≢◌, ℕ, ◌+◌, ◌<◌, ◌≤◌, Bool, false, not, ◌==◌, List, [], Option, Some, None, length, slice_index_or}
use Rattle.mp_records.specs.declared.wire_record.WireRecord.{WireRecord}
use Rattle.mp_netlist.specs.Circuit.{Circuit, wire_at}
use Rattle.mp_netlist.specs.Limits.{max_delay}
use Rattle.mp_kernel.specs.declared.events.output_port.OutputPort.{OutputPort}
use Rattle.mp_kernel.specs.events.Firing.{copy_at}
use Rattle.mp_active.specs.declared.compare.numbers.Numbers.{Numbers}
use Rattle.mp_active.specs.compare.Comparing.{wire_of, delay_of}
use Rattle.mp_active.specs.compare.Listing.{AreLinked}

-- each number is of a wire, so much later than that: what stands behind it, if anything, is later and of the same wire, and all but the wires' own
-- numbers stand behind another
pub record AreSources (source : ℕ → ℕ × ℕ) (next : List OutputPort) : Type 0 where
  pub within : (x y : ℕ) → (copy_at next x).wire ≡ Some y → y < length next
  pub same : (x y : ℕ) → (copy_at next x).wire ≡ Some y → (source y).0 ≡ (source x).0
  pub delay : (x y : ℕ) → (copy_at next x).wire ≡ Some y → (source y).1 ≡ (source x).1 + (copy_at next x).delay
  pub later : (x y : ℕ) → (copy_at next x).wire ≡ Some y → 0 < (copy_at next x).delay
  pub tied : (x : ℕ) → x < length next → x ≢ (source x).0 → (y : ℕ) × ((copy_at next y).wire ≡ Some x)
  pub low : (x : ℕ) → x < length next → (source x).1 ≤ max_delay

-- so many wires come first, each its own number
pub record HasWires (count : ℕ) (source : ℕ → ℕ × ℕ) (next : List OutputPort) : Type 0 where
  pub sources : AreSources source next
  pub enough : count ≤ length next
  pub own : (w : ℕ) → w < count → source w ≡ (w, 0)
  pub first : (x : ℕ) → x < length next → x ≡ (source x).0 → x < count

-- and it is told of each number which wire it is of
pub record AreNumbered (count : ℕ) (source : ℕ → ℕ × ℕ) (wires : List ℕ) (next : List OutputPort) : Type 0 where
  pub numbers : HasWires count source next
  pub long : length wires ≡ length next
  pub told : (x : ℕ) → x < length next → slice_index_or wires x 0 ≡ (source x).0

-- a wire that stands has data where its width isn't 1
abbrev pub has_data : Option WireRecord → Bool
has_data None = false
has_data (Some wire) = not (wire.width == 1)

-- the numbers are a netlist's
pub record AreNumbersOf (n : Circuit) (numbers : Numbers) : Type 0 where
  pub enough : length n.wires ≤ length numbers.wires.items
  pub delays : length numbers.delays.items ≡ length numbers.wires.items
  pub next : length numbers.next.items ≡ length numbers.wires.items
  pub have_data : length numbers.have_data.items ≡ length n.wires
  pub with_data : (w : ℕ) → w < length n.wires → slice_index_or numbers.have_data.items w false ≡ has_data (wire_at n w)
  pub wires : (x : ℕ) → x < length numbers.wires.items → wire_of numbers x < length n.wires
  pub own : (w : ℕ) → w < length n.wires → (wire_of numbers w ≡ w) × (delay_of numbers w ≡ 0)
  pub low : (x : ℕ) → delay_of numbers x ≤ max_delay
  pub linked : AreLinked numbers

-- the number that an input of a module reads, if any
abbrev pub input_in : List (List (Option ℕ)) → ℕ → ℕ → Option ℕ
input_in inputs m p = slice_index_or (slice_index_or inputs m []) p None

-- each module has the numbers that its inputs read, by port, which are below a count
pub record AreInputs (n : Circuit) (count : ℕ) (inputs : List (List (Option ℕ))) : Type 0 where
  pub modules : length inputs ≡ length n.modules
  pub below : (m p x : ℕ) → input_in inputs m p ≡ Some x → x < count
