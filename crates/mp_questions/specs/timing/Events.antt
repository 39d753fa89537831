-- When a level has events: a difference from the unit before, from time 1 on.
use Rattle.std.specs.Prelude.{ℕ, ◌+◌, ◌-◌, List, map, Option, Some, None, zero, suc, unwrap_or, if◌then◌else◌}
use Rattle.std.specs.List.{filter, range_with_len}
use Rattle.mp_modules.specs.Histories.{has_event}

-- the times of the events from one time on to before another
abbrev pub event_times : (ℕ → ℕ) → ℕ → ℕ → List ℕ
event_times f from to = filter (has_event f) (range_with_len from (to - from))

-- the time of the last event up to a time
abbrev pub last_event : (ℕ → ℕ) → ℕ → Option ℕ
last_event f zero = None
last_event f (suc t) = if has_event f (suc t) then Some (suc t) else last_event f t

-- the time of the first event in so many units after a time
abbrev pub first_event : (ℕ → ℕ) → ℕ → ℕ → Option ℕ
first_event f t zero = None
first_event f t (suc units) = if has_event f (t + 1) then Some (t + 1) else first_event f (t + 1) units

-- since when a level is what it is at a time: its last event, or 0 where it had none
abbrev pub since : (ℕ → ℕ) → ℕ → ℕ
since f t = unwrap_or (last_event f t) 0

-- the times of changes
abbrev pub times_of : List (ℕ × ℕ) → List ℕ
times_of changes = map (λ (c : ℕ × ℕ). c.0) changes
