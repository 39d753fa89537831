-- Numbers are listed for the old changes to come.
use Rattle.std.specs.Prelude.{◌≡◌, ◌≢◌, ℕ, ◌+◌, ◌<◌, ◌≤◌, ◌^◌, List, Option, Some, length}
use Rattle.mp_wave.specs.Faults.{pair_at}
use Rattle.mp_kernel.specs.events.Firing.{copy_at}
use Rattle.mp_active.specs.declared.compare.numbers.Numbers.{Numbers}
use Rattle.mp_active.specs.compare.Comparing.{wire_of, delay_of}

-- so many changes come up to a time
pub record IsCut (time : ℕ) (changes : List (ℕ × ℕ)) (count : ℕ) : Type 0 where
  pub within : count ≤ length changes
  pub over : (k : ℕ) → k < count → (pair_at changes k).0 ≤ time
  pub later : (k : ℕ) → count ≤ k → k < length changes → time < (pair_at changes k).0

-- so many changes come up to a time, when each is so much later than it is listed
pub record IsCount (changes : List (ℕ × ℕ)) (delay time count : ℕ) : Type 0 where
  pub within : count ≤ length changes
  pub over : (k : ℕ) → k < count → (pair_at changes k).0 + delay ≤ time
  pub later : (k : ℕ) → count ≤ k → k < length changes → time < (pair_at changes k).0 + delay

-- the number behind another one, if any
abbrev pub after : Numbers → ℕ → Option ℕ
after numbers x = (copy_at numbers.next.items x).wire

-- behind a number stands another of its wire, later than it, if any; and each number is that of its wire, or stands behind another
pub record AreLinked (numbers : Numbers) : Type 0 where
  pub same : (x y : ℕ) → after numbers x ≡ Some y → wire_of numbers y ≡ wire_of numbers x
  pub later : (x y : ℕ) → after numbers x ≡ Some y → delay_of numbers x < delay_of numbers y
  pub within : (x y : ℕ) → after numbers x ≡ Some y → y < length numbers.wires.items
  pub tied : (x : ℕ) → x < length numbers.wires.items → x ≢ wire_of numbers x → (y : ℕ) × (after numbers y ≡ Some x)
  pub low : (x : ℕ) → delay_of numbers x < 2 ^ 32
