-- The input levels of a module over a span of time.
use Rattle.std.specs.Prelude.{ℕ, ◌+◌, ◌<◌, List, map}
use Rattle.mp_wave.specs.Waveform.{Waveform, AreChanges, level_from, last_time}
use Rattle.mp_model.specs.declared.response.in_piece.InPiece.{InPiece}

-- changes after the span's first time and before its end, each to another level than the one before
pub record IsInPiece (from to : ℕ) (piece : InPiece) : Type 0 where
  pub form : AreChanges from piece.at_from piece.changes
  pub within : last_time from piece.changes < to

-- the level of an input at a time
abbrev pub piece_level : InPiece → ℕ → ℕ
piece_level piece t = level_from piece.at_from piece.changes t

-- the input levels at a time, by port
abbrev pub levels_at : List InPiece → ℕ → List ℕ
levels_at pieces t = map (λ piece. piece_level piece t) pieces

-- changes, each so much later
abbrev pub put_off : ℕ → List (ℕ × ℕ) → List (ℕ × ℕ)
put_off delay changes = map (λ change. (change.0 + delay, change.1)) changes

-- a wave so much later: the initial level until the delay is over, then the level of so much before
abbrev pub later_by : ℕ → Waveform → Waveform
later_by delay wave = record { initial = wave.initial; changes = put_off delay wave.changes }
