-- A netlist that is evaluated again, against its old run.
use Rattle.std.specs.Prelude.{◌≡◌, ◌≢◌, ◌==◌, ℕ, ◌+◌, ◌-◌, ◌<◌, ◌≤◌, Bool, true, false, not, nat_lt, nat_le, ◌&&◌, ◌||◌, List, [], ◌++◌, All, Option, Some, None, length, slice_index_or}
use Rattle.std.specs.List.{count_by}
use Rattle.mp_wave.specs.Waveform.{Waveform, IsWaveform, level_of}
use Rattle.mp_wave.specs.Faults.{pair_at}
use Rattle.mp_modules.specs.automata.Codes.{bit}
use Rattle.mp_kernel.specs.events.Adding.{listed}
use Rattle.mp_kernel.specs.timers.TimerWheels.{never, time_of, IsTimerWheel}
use Rattle.mp_kernel.specs.declared.datapath.level_change.LevelChange.{LevelChange}
use Rattle.mp_partition.specs.runs.Outcomes.{Outcome, wave_of}
use Rattle.mp_active.specs.declared.compare.numbers.Numbers.{Numbers}
use Rattle.mp_active.specs.declared.compare.wire_source.WireSource.{WireSource}
use Rattle.mp_active.specs.declared.compare.new_changes.NewChanges.{NewChanges}
use Rattle.mp_active.specs.declared.compare.comparison.Comparison.{Comparison}

-- the wire of a number, and how much later than that it is
abbrev pub wire_of : Numbers → ℕ → ℕ
wire_of numbers x = slice_index_or numbers.wires.items x 0

abbrev pub delay_of : Numbers → ℕ → ℕ
delay_of numbers x = slice_index_or numbers.delays.items x 0

-- the level of a number at a time, from those of wires: its wire's so much before, and before time 0 that of time 0
abbrev pub late : (ℕ → ℕ → ℕ) → Numbers → ℕ → ℕ → ℕ
late level numbers x u = level (wire_of numbers x) (u - delay_of numbers x)

-- a number has one level at a time before a change and another after it
abbrev pub departs : (ℕ → ℕ → ℕ) → (ℕ → ℕ → ℕ) → Numbers → ℕ → ℕ → Bool
departs before after numbers x u = not (late before numbers x u == late after numbers x u)

-- a wire that is off
abbrev pub off : WireSource
off = record { until = 0; is_on = false }

-- a wire that is on, and whose levels come from the new run alone
abbrev pub renewed : WireSource
renewed = record { until = never; is_on = true }

-- what is so much later than a wire may have another level at a time than in the old run
abbrev pub may_differ : WireSource → ℕ → ℕ → Bool
may_differ source delay time = nat_lt time (source.until + delay) && nat_lt 0 source.until

-- a wire is on, and has its old level at a time, or from some time on
abbrev pub follows : WireSource → ℕ → Bool
follows source time = source.is_on && nat_le source.until time

abbrev pub is_to_follow : WireSource → Bool
is_to_follow source = source.is_on && not (source.until == never)

abbrev pub source_at : Comparison → ℕ → WireSource
source_at c w = slice_index_or c.sources.items w off

-- how many inputs of modules that sleep read a number
abbrev pub asleep_at : Comparison → ℕ → ℕ
asleep_at c x = slice_index_or c.asleep.items x 0

-- the place of the next old change of a number that is listed
abbrev pub place_at : Comparison → ℕ → ℕ
place_at c x = slice_index_or c.places.items x 0

-- when a change of a number in the new run was seen last
abbrev pub seen_at : Comparison → ℕ → ℕ
seen_at c x = slice_index_or c.seen.items x 0

-- a module that sleeps reads a number that may have another level at a time than in the old run
abbrev pub is_tracked : Comparison → ℕ → ℕ → Bool
is_tracked c x time = nat_lt 0 (asleep_at c x) && may_differ (source_at c (wire_of c.numbers x)) (delay_of c.numbers x) time

-- none of these numbers is tracked at a time
abbrev pub AreUntracked : Comparison → ℕ → List ℕ → Type 0
AreUntracked c time xs = All (λ x. is_tracked c x time ≡ false) xs

-- a number is that of a wire which follows its old wave from some time on
abbrev pub is_following : Comparison → ℕ → Bool
is_following c x = (x == wire_of c.numbers x) && is_to_follow (source_at c (wire_of c.numbers x))

-- all numbers have a place in each list. The first are those of the wires
pub record IsShaped (c : Comparison) : Type 0 where
  pub delays : length c.numbers.delays.items ≡ length c.numbers.wires.items
  pub next : length c.numbers.next.items ≡ length c.numbers.wires.items
  pub have_data : length c.numbers.have_data.items ≡ length c.sources.items
  pub asleep : length c.asleep.items ≡ length c.numbers.wires.items
  pub times : length c.timers.times.items ≡ length c.numbers.wires.items
  pub places : length c.places.items ≡ length c.numbers.wires.items
  pub seen : length c.seen.items ≡ length c.numbers.wires.items
  pub few : length c.sources.items ≤ length c.numbers.wires.items
  pub wires : (x : ℕ) → x < length c.numbers.wires.items → wire_of c.numbers x < length c.sources.items
  pub own : (w : ℕ) → w < length c.sources.items → (wire_of c.numbers w ≡ w) × (delay_of c.numbers w ≡ 0)

-- the changes that a wire had in the old run, and its wave: that of level 0 where no wire stood
abbrev pub changes_of_wave : Option Waveform → List (ℕ × ℕ)
changes_of_wave None = []
changes_of_wave (Some wave) = wave.changes

abbrev pub old_changes : Outcome → ℕ → List (ℕ × ℕ)
old_changes run w = changes_of_wave (wave_of run w)

abbrev pub wave_or_none : Option Waveform → Waveform
wave_or_none None = record { initial = 0; changes = [] }
wave_or_none (Some wave) = wave

abbrev pub old_wave : Outcome → ℕ → Waveform
old_wave run w = wave_or_none (wave_of run w)

-- the old changes of a number, and when it has them
abbrev pub changes_at : Outcome → Comparison → ℕ → List (ℕ × ℕ)
changes_at run c x = old_changes run (wire_of c.numbers x)

abbrev pub change_time : Outcome → Comparison → ℕ → ℕ → ℕ
change_time run c x k = (pair_at (changes_at run c x) k).0 + delay_of c.numbers x

-- the numbers that are listed for a time have an old change then
abbrev pub ArePlaced : Outcome → ℕ → Comparison → Type 0
ArePlaced run time c = (x : ℕ) → time_of c.timers x ≡ time → place_at c x < length (changes_at run c x)

-- the levels before a change are those of the run, up to a time
abbrev pub IsOldRun : (ℕ → ℕ → ℕ) → Outcome → ℕ → Type 0
IsOldRun before run last = (w u : ℕ) → u ≤ last → before w u ≡ level_of (old_wave run w) u

-- after the unit t, when these numbers are taken out of the timer wheel: a number that is listed is listed for its first old change after t, and a
-- number that is taken out for one at t or later
pub record HasCursors (run : Outcome) (t : ℕ) (taken : List ℕ) (c : Comparison) : Type 0 where
  pub shape : IsShaped c
  pub form : (w : ℕ) → IsWaveform (old_wave run w)
  pub timers : IsTimerWheel t taken c.timers
  pub room : (x k : ℕ) → x < length c.numbers.wires.items → k < length (changes_at run c x) → change_time run c x k < never
  pub place : (x : ℕ) → time_of c.timers x ≢ never → place_at c x < length (changes_at run c x)
  pub time : (x : ℕ) → time_of c.timers x ≢ never → time_of c.timers x ≡ change_time run c x (place_at c x)
  pub over : (x k : ℕ) → time_of c.timers x ≢ never → k < place_at c x → change_time run c x k ≤ t
  pub later : (x : ℕ) → time_of c.timers x ≢ never → t < time_of c.timers x + listed x taken

-- no change in the new run was seen at a time or later
abbrev pub AreUnseen : ℕ → Comparison → Type 0
AreUnseen time c = (x : ℕ) → seen_at c x < time

-- the number is listed, or has no old change after t
abbrev pub IsListed : Outcome → ℕ → Comparison → ℕ → Type 0
IsListed run t c x = time_of c.timers x ≡ never → (k : ℕ) → k < length (changes_at run c x) → change_time run c x k ≤ t

-- the numbers are listed of wires that follow their old waves, and those that are tracked in the next unit
abbrev pub IsComplete : Outcome → ℕ → Comparison → Type 0
IsComplete run t c = (x : ℕ) → x < length c.numbers.wires.items → (is_following c x || is_tracked c x (t + 1)) ≡ true → IsListed run t c x

-- from the time on that is told of a wire, it has the same levels before and after, up to a time
abbrev pub AgreeFrom : (ℕ → ℕ → ℕ) → (ℕ → ℕ → ℕ) → ℕ → Comparison → Type 0
AgreeFrom before after last c = (w u : ℕ) → w < length c.sources.items → (source_at c w).until ≤ u → u ≤ last → before w u ≡ after w u

-- what modules read that sleep has the same level before and after, at a time
abbrev pub AgreeAsleep : (ℕ → ℕ → ℕ) → (ℕ → ℕ → ℕ) → ℕ → Comparison → Type 0
AgreeAsleep before after t c = (x : ℕ) → 0 < asleep_at c x → late before c.numbers x t ≡ late after c.numbers x t

-- how often a number is among changes
abbrev pub changes_of : ℕ → List LevelChange → ℕ
changes_of x changes = count_by (λ (change : LevelChange). change.number == x) changes

abbrev pub bits_of : NewChanges → List ℕ
bits_of coming = coming.wires.now ++ coming.copies.now ++ coming.set.now

abbrev pub levels_of : NewChanges → List LevelChange
levels_of coming = coming.levels.now ++ coming.set_levels.now

-- each of them is a number
abbrev pub AreNumbers : Numbers → List ℕ → Type 0
AreNumbers numbers xs = All (λ x. x < length numbers.wires.items) xs

abbrev pub AreOfNumbers : Numbers → List LevelChange → Type 0
AreOfNumbers numbers changes = All (λ (change : LevelChange). change.number < length numbers.wires.items) changes

pub record AreWithin (numbers : Numbers) (coming : NewChanges) : Type 0 where
  pub wires : AreNumbers numbers coming.wires.now
  pub copies : AreNumbers numbers coming.copies.now
  pub set : AreNumbers numbers coming.set.now
  pub levels : AreOfNumbers numbers coming.levels.now
  pub set_levels : AreOfNumbers numbers coming.set_levels.now

-- of the numbers that are tracked they are just those that change at a time, each once, with their levels then
pub record AreNewChanges (after : ℕ → ℕ → ℕ) (time : ℕ) (c : Comparison) (coming : NewChanges) : Type 0 where
  pub once : (x : ℕ) → is_tracked c x time ≡ true → listed x (bits_of coming) + changes_of x (levels_of coming) ≡ bit (not (late after c.numbers x (time - 1) == late after c.numbers x time))
  pub levels : All (λ (change : LevelChange). is_tracked c change.number time ≡ true → change.level ≡ late after c.numbers change.number time) (levels_of coming)

-- what toggles has width 1
abbrev pub HaveLowBits : (ℕ → ℕ → ℕ) → (ℕ → ℕ → ℕ) → Comparison → NewChanges → Type 0
HaveLowBits before after c coming = (x u : ℕ) → 0 < listed x (bits_of coming) → (late before c.numbers x u ≤ 1) × (late after c.numbers x u ≤ 1)
