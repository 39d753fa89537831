-- The numbers of wires and of their delayed copies, and what is next after each.
use Rattle.std.specs.Prelude.{◌≡◌, ℕ, ◌+◌, ◌-◌, ◌<◌, ◌≤◌, true, List, [], ◌∷◌, ◌++◌, All, Option, Some, None, is_some, length, slice_set, slice_index_or, nat_le, ◌==◌, if◌then◌else◌}
use Rattle.mp_kernel.specs.declared.events.output_port.OutputPort.{OutputPort}
use Rattle.mp_kernel.specs.events.Firing.{HasSlot, copy_at}
use Rattle.mp_simulation.specs.bits.Simulators.{IsBelow}
use Rattle.mp_simulation.specs.bits.Copies.{AreChained}
use Rattle.mp_simulation.specs.declared.run.wiring.CopyPlace.{CopyPlace}

-- what is next after a number is a number, and later by no more than the longest delay
pub record AreLinks (longest : ℕ) (next : List OutputPort) : Type 0 where
  pub below : All (IsBelow (length next)) next
  pub slots : All (HasSlot longest) next

-- the wires are numbers, and each other number is a copy
pub record AreNumbers (wires : ℕ) (source : ℕ → ℕ × ℕ) (before : ℕ → Option ℕ) (next : List OutputPort) : Type 0 where
  pub chained : AreChained source before next
  pub enough : wires ≤ length next
  pub own : (w : ℕ) → w < wires → source w ≡ (w, 0)
  pub first : (w : ℕ) → w < wires → before w ≡ None
  pub tied : (x : ℕ) → wires ≤ x → x < length next → is_some (before x) ≡ true

-- the next copy, where it isn't later than so much
abbrev pub copy_within : OutputPort → ℕ → Option ℕ
copy_within port later = if nat_le port.delay later then port.wire else None

abbrev pub behind_by : Option ℕ → ℕ → ℕ → OutputPort
behind_by None delay later = record { wire = None; delay = delay }
behind_by (Some x) delay later = record { wire = Some x; delay = delay - later }

-- what is next after a copy that is put before it
abbrev pub behind : OutputPort → ℕ → OutputPort
behind port later = behind_by port.wire port.delay later

-- with a copy more, next after a number and so much later
abbrev pub inserted : List OutputPort → ℕ → ℕ → List OutputPort
inserted next number later =
    slice_set (next ++ behind (copy_at next number) later ∷ []) number (record { wire = Some (length next); delay = later })

-- a copy that is so much later than the number comes before what is next after it
abbrev pub HasRoom : List OutputPort → ℕ → ℕ → Type 0
HasRoom next number later = (x : ℕ) → (copy_at next number).wire ≡ Some x → later < (copy_at next number).delay

-- where the copy of a wire with a delay is or belongs
pub record IsPlace (next : List OutputPort) (wire delay : ℕ) (place : CopyPlace) : Type 0 where
  pub within : place.number < length next
  pub low : place.later ≤ delay
  pub room : HasRoom next place.number place.later
  pub same_wire : (source : ℕ → ℕ × ℕ) (before : ℕ → Option ℕ) → AreChained source before next → (source place.number).0 ≡ (source wire).0
  pub sum : (source : ℕ → ℕ × ℕ) (before : ℕ → Option ℕ) → AreChained source before next → (source place.number).1 + place.later ≡ (source wire).1 + delay

-- the numbers of before keep their sources, and one is of a wanted source
pub record Renumbered (wires : ℕ) (wanted : ℕ × ℕ) (old : ℕ → ℕ × ℕ) (kept x : ℕ) (next : List OutputPort) : Type 0 where
  pub source : ℕ → ℕ × ℕ
  pub before : ℕ → Option ℕ
  pub are : AreNumbers wires source before next
  pub same : (y : ℕ) → y < kept → source y ≡ old y
  pub is : source x ≡ wanted

-- the wire of each number is listed
pub record AreOrigins (source : ℕ → ℕ × ℕ) (numbers : ℕ) (wires : List ℕ) : Type 0 where
  pub long : length wires ≡ numbers
  pub each : (x : ℕ) → x < numbers → slice_index_or wires x 0 ≡ (source x).0

-- with the wire of a number, if it is the next one
abbrev pub noted : ℕ → ℕ → List ℕ → List ℕ
noted number wire wires = if number == length wires then wires ++ wire ∷ [] else wires

-- a number is of a wanted source, after at most one copy was added
pub record HasNumber (wanted : ℕ × ℕ) (old next : List OutputPort) (x : ℕ) : Type 0 where
  pub within : x < length next
  pub longer : length old ≤ length next
  pub few : length next ≤ length old + 1
  pub known : x < length old → length next ≡ length old
  pub links : (longest : ℕ) → wanted.1 ≤ longest → AreLinks longest old → AreLinks longest next
  pub numbers : (wires : ℕ) (source : ℕ → ℕ × ℕ) (before : ℕ → Option ℕ) → wanted.0 < wires → AreNumbers wires source before old →
      Renumbered wires wanted source (length old) x next
