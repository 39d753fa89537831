-- Which numbers come up in the next units.
use Rattle.std.specs.Prelude.{◌≡◌, ◌==◌, ℕ, ◌+◌, ◌<◌, ◌≤◌, ◌^◌, ◌-◌, not, List, [], length, slice_index_or}
use Rattle.std.specs.List.{sum_by}
use Rattle.mp_modules.specs.automata.Codes.{bit}
use Rattle.mp_kernel.specs.events.Adding.{listed}
use Rattle.mp_kernel.specs.events.EventWheels.{with_entry}
use Rattle.mp_kernel.specs.declared.timers.timer_wheel.TimerWheel.{TimerWheel}

-- the time of what isn't listed
abbrev pub never : ℕ
never = 2 ^ 32 - 1

abbrev pub time_in : List ℕ → ℕ → ℕ
time_in times x = slice_index_or times x never

abbrev pub time_of : TimerWheel → ℕ → ℕ
time_of timers x = time_in timers.times.items x

-- the numbers that come up so many units after the next
abbrev pub slot_at : List (List ℕ) → ℕ → List ℕ
slot_at slots k = slice_index_or slots k []

abbrev pub coming : TimerWheel → List ℕ
coming timers = slot_at timers.wheel 0

-- how often a number stands in slots
abbrev pub entries : ℕ → List (List ℕ) → ℕ
entries x slots = sum_by (listed x) slots

-- after the unit t, when these numbers are taken out: each number that is listed stands in one slot, or is taken out; it comes up no later than at
-- its time; and the times of those taken out aren't over before t
pub record IsTimerWheel (t : ℕ) (taken : List ℕ) (timers : TimerWheel) : Type 0 where
  pub some : 0 < length timers.wheel
  pub span : timers.span ≡ length timers.wheel
  pub once : (x : ℕ) → entries x timers.wheel + listed x taken ≡ bit (not (time_of timers x == never))
  pub soon : (x k : ℕ) → 0 < listed x (slot_at timers.wheel k) → t + 1 + k ≤ time_of timers x
  pub due : (x : ℕ) → 0 < listed x taken → t ≤ time_of timers x

-- a number has come into one slot more, which isn't later than so many units
pub record HasEntered (slots new : List (List ℕ)) (number units : ℕ) : Type 0 where
  pub places : length new ≡ length slots
  pub at : ℕ
  pub within : at < length slots
  pub near : at < units
  pub is : new ≡ with_entry slots at number

-- a number comes up in the next unit if that is its time
abbrev pub ComesUp : Type 0
ComesUp = (t : ℕ) (timers : TimerWheel) → IsTimerWheel t [] timers → (x : ℕ) → time_of timers x ≡ t + 1 → t + 1 < never → listed x (coming timers) ≡ 1

-- and what comes up has its time then or later
abbrev pub ListedCome : Type 0
ListedCome = (t : ℕ) (timers : TimerWheel) → IsTimerWheel t [] timers → (x : ℕ) → 0 < listed x (coming timers) → t + 1 ≤ time_of timers x
