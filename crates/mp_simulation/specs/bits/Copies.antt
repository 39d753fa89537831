-- Delayed copies of wires: for each wire a chain, by rising delay.
use Rattle.std.specs.Prelude.{◌≡◌, ℕ, ◌+◌, ◌<◌, ◌≤◌, List, [], Option, Some, None, length, slice_index_or, nat_lt, ◌&&◌}
use Rattle.mp_netlist.specs.Circuit.{Circuit}
use Rattle.mp_modules.specs.automata.Codes.{bit}
use Rattle.mp_kernel.specs.declared.events.output_port.OutputPort.{OutputPort}
use Rattle.mp_kernel.specs.events.Adding.{listed}
use Rattle.mp_kernel.specs.events.Firing.{copy_at}
use Rattle.mp_simulation.specs.bits.Changes.{late_change}

-- each copy stands next after one number, the wire's or another copy's, and is of the same wire, so much later
pub record AreChained (source : ℕ → ℕ × ℕ) (before : ℕ → Option ℕ) (next : List OutputPort) : Type 0 where
  pub last : (y x : ℕ) → (copy_at next y).wire ≡ Some x → before x ≡ Some y
  pub first : (x y : ℕ) → before x ≡ Some y → (copy_at next y).wire ≡ Some x
  pub wire : (x y : ℕ) → before x ≡ Some y → (source x).0 ≡ (source y).0
  pub delay : (x y : ℕ) → before x ≡ Some y → (source x).1 ≡ (source y).1 + (copy_at next y).delay
  pub some : (x y : ℕ) → before x ≡ Some y → 0 < (copy_at next y).delay

-- by how much a copy is later than what it stands after, 0 where it is none
abbrev pub later_by : List OutputPort → Option ℕ → ℕ
later_by next None = 0
later_by next (Some y) = (copy_at next y).delay

-- the slots after t have the changes of the copies that stand after what has changed up to t, each once, and no others
abbrev pub HaveCopies : Circuit → (ℕ → ℕ × ℕ) → (ℕ → Option ℕ) → List OutputPort → ℕ → List (List ℕ) → Type 0
HaveCopies n source before next t slots = (x k : ℕ) → k < length slots →
    listed x (slice_index_or slots k []) ≡ bit (late_change n (source x) (t + 1 + k) && nat_lt k (later_by next (before x)))

-- the slots after t + 1 have no more than that
abbrev pub HaveLaterCopies : Circuit → (ℕ → ℕ × ℕ) → (ℕ → Option ℕ) → List OutputPort → ℕ → List (List ℕ) → Type 0
HaveLaterCopies n source before next t slots = (x k : ℕ) → k < length slots →
    listed x (slice_index_or slots k []) ≡ bit (late_change n (source x) (t + 1 + 1 + k) && nat_lt (k + 1) (later_by next (before x)))

-- what has a copy is listed where it changes at a time, once, and else not
abbrev pub AreOriginals : Circuit → (ℕ → ℕ × ℕ) → (ℕ → Option ℕ) → List ℕ → ℕ → Type 0
AreOriginals n source before heard time = (x y : ℕ) → before x ≡ Some y → listed y heard ≡ bit (late_change n (source y) time)

-- only numbers below a bound are in the slots
abbrev pub AreListedBelow : ℕ → List (List ℕ) → Type 0
AreListedBelow bound slots = (x k : ℕ) → bound ≤ x → listed x (slice_index_or slots k []) ≡ 0
