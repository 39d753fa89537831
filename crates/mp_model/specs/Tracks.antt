-- The wave of one wire while time passes.
use Rattle.std.specs.Prelude.{ℕ, Bool, false, not, ◌+◌, ◌-◌, ◌≤◌, ◌<◌, List, [], ◌∷◌, ◌++◌, Option, Some, None, is_some, unwrap_or, ◌==◌, if◌then◌else◌}
use Rattle.mp_wave.specs.Waveform.{Waveform, held_from, last_from, level_of}
use Rattle.mp_wave.specs.Building.{Building}
use Rattle.mp_records.specs.declared.wire_record.WireRecord.{WireRecord}

-- the wave as far as it is known, the first time whose level may still be given, the level now, whether it changed now, and the changes
-- after now
pub record Progress : Type 0 where
  pub wave : Waveform
  pub next : ℕ
  pub present : ℕ
  pub event : Bool
  pub ahead : List (ℕ × ℕ)

-- the times rise strictly, from a first one, and end below another
abbrev pub AreTimesIn : ℕ → ℕ → List (ℕ × ℕ) → Type 0
AreTimesIn first end [] = Unit {0}
AreTimesIn first end (change ∷ changes) = (first ≤ change.0) × (change.0 < end) × AreTimesIn (change.0 + 1) end changes

-- what is built when a level is held from a time on
abbrev pub held_on : Building → ℕ → ℕ → Building
held_on built time level = record { wave = held_from built.wave time level; next = time + 1 }

-- what is built when one level after the other is held
abbrev pub held_all : Building → List (ℕ × ℕ) → Building
held_all built [] = built
held_all built (change ∷ changes) = held_all (held_on built change.0 change.1) changes

abbrev pub unchanged : ℕ → Building
unchanged initial = record { wave = record { initial = initial; changes = [] }; next = 1 }

abbrev pub started : WireRecord → Building
started wire = held_all (unchanged wire.initial) (unwrap_or wire.stimulus [])

-- a wire at time 0
abbrev pub first_progress : WireRecord → Progress
first_progress wire = record {
  wave = (started wire).wave;
  next = (started wire).next;
  present = wire.initial;
  event = false;
  ahead = (started wire).wave.changes;
}

-- the level of a change at this time
abbrev pub due_level : List (ℕ × ℕ) → ℕ → Option ℕ
due_level [] time = None
due_level (change ∷ changes) time = if change.0 == time then Some change.1 else None

-- the changes without one at this time
abbrev pub rest_after : List (ℕ × ℕ) → ℕ → List (ℕ × ℕ)
rest_after [] time = []
rest_after (change ∷ changes) time = if change.0 == time then changes else change ∷ changes

-- a unit of time later, at this time
abbrev pub advanced : ℕ → Progress → Progress
advanced time track = record track {
  present = unwrap_or (due_level track.ahead time) track.present;
  event = is_some (due_level track.ahead time);
  ahead = rest_after track.ahead time;
}

-- one more change, where the level is another than the last
abbrev pub one_more : Waveform → ℕ → ℕ → List (ℕ × ℕ) → List (ℕ × ℕ)
one_more wave time level changes = if last_from wave.initial wave.changes == level then changes else changes ++ (time, level) ∷ []

-- from a time on the level is known
abbrev pub expecting : ℕ → ℕ → Progress → Progress
expecting time level track = record {
  wave = held_from track.wave time level;
  next = time + 1;
  present = track.present;
  event = track.event;
  ahead = one_more track.wave time level track.ahead;
}

-- the level so many units ago, or at time 0 where that is earlier
abbrev pub level_before : ℕ → ℕ → Progress → ℕ
level_before time delay track = if delay == 0 then track.present else level_of track.wave (time - delay)

-- whether the level so many units ago was another than one unit before that
abbrev pub event_before : ℕ → ℕ → Progress → Bool
event_before time delay track =
    if delay == 0 then track.event else not (level_of track.wave (time - delay) == level_of track.wave (time - 1 - delay))
