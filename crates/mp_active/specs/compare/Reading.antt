-- Which inputs of modules read each number.
use Rattle.std.specs.Prelude.{◌≡◌, ℕ, zero, suc, ◌+◌, ◌<◌, Bool, false, not, ◌&&◌, ◌||◌, ◌==◌, List, [], Option, Some, None, is_some, length, slice_index_or, if◌then◌else◌}
use Rattle.std.specs.List.{count_by, list_any}
use Rattle.mp_netlist.specs.Circuit.{Circuit, module_at}
use Rattle.mp_kernel.specs.events.Adding.{listed}
use Rattle.mp_simulation.specs.run.Wirings.{AreByPort}
use Rattle.mp_active.specs.declared.compare.numbers.Numbers.{Numbers}
use Rattle.mp_active.specs.declared.compare.wire_source.WireSource.{WireSource}
use Rattle.mp_active.specs.declared.compare.comparison.Comparison.{Comparison}
use Rattle.mp_active.specs.compare.Comparing.{wire_of, source_at, asleep_at}

-- the numbers at the inputs of a module, by port
abbrev pub ports_of : List (List (Option ℕ)) → ℕ → List (Option ℕ)
ports_of inputs m = slice_index_or inputs m []

-- an input reads the number
abbrev pub is_at : ℕ → Option ℕ → Bool
is_at x None = false
is_at x (Some y) = y == x

-- an input reads a number of the wire
abbrev pub is_on_wire : Numbers → ℕ → Option ℕ → Bool
is_on_wire numbers w None = false
is_on_wire numbers w (Some y) = wire_of numbers y == w

-- how many of the inputs read the number, and whether one reads the wire
abbrev pub reads : List (Option ℕ) → ℕ → ℕ
reads ports x = count_by (is_at x) ports

abbrev pub reads_wire : Numbers → List (Option ℕ) → ℕ → Bool
reads_wire numbers ports w = list_any (is_on_wire numbers w) ports

-- how many inputs read the number of modules below m that stand and aren't active
abbrev pub asleep_below : Circuit → (ℕ → Bool) → List (List (Option ℕ)) → ℕ → ℕ → ℕ
asleep_below n active inputs zero x = 0
asleep_below n active inputs (suc m) x = (if is_some (module_at n m) && not (active m) then reads (ports_of inputs m) x else 0) + asleep_below n active inputs m x

-- whether a module below m reads the wire that stands and is active
abbrev pub active_below : Circuit → (ℕ → Bool) → List (List (Option ℕ)) → Numbers → ℕ → ℕ → Bool
active_below n active inputs numbers zero w = false
active_below n active inputs numbers (suc m) w =
    ((is_some (module_at n m) && active m) && reads_wire numbers (ports_of inputs m) w) || active_below n active inputs numbers m w

-- a wire is on that was, or where it is told
abbrev pub turned_on_if : Bool → WireSource → WireSource
turned_on_if on source = record source { is_on = on || source.is_on }

-- each number is read by so many inputs more of modules that sleep, and some wires more are on
pub record HasRead (more : ℕ → ℕ) (on : ℕ → Bool) (was is : Comparison) : Type 0 where
  pub kept : is ≡ record was { sources = is.sources; asleep = is.asleep }
  pub long : length is.sources.items ≡ length was.sources.items
  pub places : length is.asleep.items ≡ length was.asleep.items
  pub sources : (w : ℕ) → w < length was.sources.items → source_at is w ≡ turned_on_if (on w) (source_at was w)
  pub asleep : (x : ℕ) → asleep_at is x ≡ more x + asleep_at was x

-- the ports of a module read each number as often as its inputs do
abbrev pub ReadsAreListed : Type 0
ReadsAreListed = (numbers : List ℕ) (ports : List (Option ℕ)) → AreByPort numbers ports → (x : ℕ) → reads ports x ≡ listed x numbers
