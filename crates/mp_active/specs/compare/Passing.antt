-- The unit of a time begins: numbers come up, and wires are set.
use Rattle.std.specs.Prelude.{◌≡◌, ◌==◌, ℕ, ◌+◌, ◌-◌, Bool, true, false, not, ◌&&◌, ◌||◌, List, [], ◌∷◌, ◌++◌, All, slice_index_or, if◌then◌else◌}
use Rattle.mp_modules.specs.automata.Codes.{bit}
use Rattle.mp_kernel.specs.events.Adding.{listed}
use Rattle.mp_kernel.specs.timers.TimerWheels.{time_of}
use Rattle.mp_kernel.specs.declared.datapath.level_change.LevelChange.{LevelChange}
use Rattle.mp_partition.specs.runs.Outcomes.{Outcome}
use Rattle.mp_active.specs.declared.compare.set_wires.SetWires.{SetWires}
use Rattle.mp_active.specs.declared.compare.comparison.Comparison.{Comparison}
use Rattle.mp_active.specs.compare.Comparing.{wire_of, source_at, place_at, follows, changes_of, HasCursors, IsListed, is_following, is_tracked}
use Rattle.mp_active.specs.compare.Meeting.{old_level, is_due}

-- a wire has data
abbrev pub has_data_at : Comparison → ℕ → Bool
has_data_at c w = slice_index_or c.numbers.have_data.items w false

-- a wire follows its old wave, and changes at a time
abbrev pub is_set : (ℕ → ℕ → ℕ) → ℕ → Comparison → ℕ → Bool
is_set before time c w = follows (source_at c w) time && not (before w (time - 1) == before w time)

-- the change has the level of its wire at a time
abbrev pub HasLevel : (ℕ → ℕ → ℕ) → ℕ → LevelChange → Type 0
HasLevel before time change = change.level ≡ before change.number time

-- just the wires that follow their old waves and change at a time are set, each once, and those with data to their levels then
pub record AreSet (before : ℕ → ℕ → ℕ) (time : ℕ) (c : Comparison) (was is : SetWires) : Type 0 where
  pub bits : (x : ℕ) → listed x is.bits.items ≡ listed x was.bits.items + bit (is_set before time c x && not (has_data_at c x))
  pub levels : (x : ℕ) → changes_of x is.levels.items ≡ changes_of x was.levels.items + bit (is_set before time c x && has_data_at c x)
  pub right : All (HasLevel before time) was.levels.items → All (HasLevel before time) is.levels.items

-- a number is that of a wire which follows its old wave, and has an old change at a time
abbrev pub is_up : Comparison → ℕ → ℕ → Bool
is_up c time x = is_due c x time && ((x == wire_of c.numbers x) && follows (source_at c (wire_of c.numbers x)) time)

-- such a number is set
pub record HasSet (run : Outcome) (time number : ℕ) (c : Comparison) (was is : SetWires) : Type 0 where
  pub bits : is.bits.items ≡ (if is_up c time number && not (has_data_at c number) then was.bits.items ++ number ∷ [] else was.bits.items)
  pub levels : is.levels.items ≡ (if is_up c time number && has_data_at c number then was.levels.items ++ (record { number = number; level = old_level run c number }) ∷ [] else was.levels.items)

-- a number that was taken out is listed again, or left out: others stay, and it is listed if its changes are needed
pub record HasPassed (run : Outcome) (time number : ℕ) (was is : Comparison) : Type 0 where
  pub cursors : (rest : List ℕ) → HasCursors run time (number ∷ rest) was → HasCursors run time rest is
  pub others : (x : ℕ) → (number == x) ≡ false → time_of is.timers x ≡ time_of was.timers x
  pub places : (x : ℕ) → (number == x) ≡ false → place_at is x ≡ place_at was x
  pub listed : (is_following was number || is_tracked was number time) ≡ true → IsListed run time is number
