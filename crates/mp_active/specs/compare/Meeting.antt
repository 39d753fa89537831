-- Changes of a new run, met one by one.
use Rattle.std.specs.Prelude.{◌≡◌, ◌==◌, ℕ, ◌+◌, Bool, not, nat_lt, ◌&&◌, ◌||◌, List, length, if◌then◌else◌}
use Rattle.std.specs.List.{count_by}
use Rattle.mp_wave.specs.Faults.{pair_at}
use Rattle.mp_kernel.specs.events.Adding.{listed}
use Rattle.mp_kernel.specs.timers.TimerWheels.{time_of, coming}
use Rattle.mp_kernel.specs.declared.datapath.level_change.LevelChange.{LevelChange}
use Rattle.mp_partition.specs.runs.Outcomes.{Outcome}
use Rattle.mp_active.specs.compare.Comparing.{changes_at, place_at, seen_at, is_tracked, changes_of, AreUnseen}
use Rattle.mp_active.specs.declared.compare.comparison.Comparison.{Comparison}

-- the level of a number from its next old change on
abbrev pub old_level : Outcome → Comparison → ℕ → ℕ
old_level run c x = (pair_at (changes_at run c x) (place_at c x)).1

-- a number is listed for a time
abbrev pub is_due : Comparison → ℕ → ℕ → Bool
is_due c x time = time_of c.timers x == time

-- how often a number has another level among changes than the one that it comes to in the old run
abbrev pub others_of : Outcome → Comparison → ℕ → List LevelChange → ℕ
others_of run c x changes = count_by (λ (change : LevelChange). (change.number == x) && not (change.level == old_level run c x)) changes

-- how often a number departs by changes in the new run
abbrev pub departures : Outcome → Comparison → ℕ → List ℕ → List LevelChange → ℕ → ℕ
departures run c time bits levels x =
    if is_tracked c x time then (if is_due c x time then others_of run c x levels else listed x bits + changes_of x levels) else 0

-- changes are met: those tracked are seen, and are gathered where they aren't as in the old run
pub record HasMet (run : Outcome) (time : ℕ) (bits : List ℕ) (levels : List LevelChange) (was is : Comparison) : Type 0 where
  pub kept : is ≡ record was { seen = is.seen; departing = is.departing }
  pub places : length is.seen.items ≡ length was.seen.items
  pub seen : (x : ℕ) → (seen_at is x == time) ≡ ((seen_at was x == time) || (is_tracked was x time && nat_lt 0 (listed x bits + changes_of x levels)))
  pub over : AreUnseen (time + 1) was → AreUnseen (time + 1) is
  pub departing : (x : ℕ) → listed x is.departing.items ≡ listed x was.departing.items + departures run was time bits levels x

-- a number is one of those that change in the old run alone
abbrev pub is_old_alone : Comparison → ℕ → ℕ → Bool
is_old_alone c time x = is_due c x time && (not (seen_at c x == time) && is_tracked c x time)

-- the numbers that come up are met: those are gathered that weren't seen
pub record HasMetOld (time : ℕ) (was is : Comparison) : Type 0 where
  pub kept : is ≡ record was { departing = is.departing }
  pub departing : (x : ℕ) → listed x is.departing.items ≡ listed x was.departing.items + (if is_old_alone was time x then listed x (coming was.timers) else 0)
