-- Reading input levels by rising time.
use Rattle.std.specs.Prelude.{◌≡◌, ℕ, ◌<◌, ◌≤◌, List, [], ◌∷◌, slice_index}
use Rattle.mp_wave.specs.Waveform.{level_from}
use Rattle.mp_model.specs.declared.response.cursor.Cursor.{Cursor}
use Rattle.mp_model.specs.declared.response.cursors.Cursors.{Cursors}

-- the level at a time, from the present one on
abbrev pub cursor_level : Cursor → ℕ → ℕ
cursor_level cursor t = level_from cursor.level cursor.rest.now t

-- the first change, if any, is after a time
abbrev pub IsAfter : ℕ → List (ℕ × ℕ) → Type 0
IsAfter time [] = Unit {0}
IsAfter time (change ∷ changes) = time < change.0

-- the present level is that at a time, at a port of a module with the input levels x
pub record IsAt (x : ℕ → List ℕ) (port time : ℕ) (cursor : Cursor) : Type 0 where
  pub levels : (t : ℕ) → time ≤ t → cursor_level cursor t ≡ slice_index (x t) port
  pub ahead : IsAfter time cursor.rest.now

-- the same at each port that a module can have
pub record AreAt (x : ℕ → List ℕ) (time : ℕ) (cursors : Cursors) : Type 0 where
  pub first : IsAt x 0 time cursors.first
  pub second : IsAt x 1 time cursors.second
  pub third : IsAt x 2 time cursors.third
  pub fourth : IsAt x 3 time cursors.fourth
