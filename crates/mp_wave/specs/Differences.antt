-- Where two waves differ.
use Rattle.std.specs.Prelude.{◌≡◌, ◌≢◌, ℕ, ◌<◌}
use Rattle.mp_wave.specs.Waveform.{Waveform, level_of}

-- two waves have the same level at each time below this one
abbrev pub AgreeBelow : Waveform → Waveform → ℕ → Type 0
AgreeBelow one other time = (t : ℕ) → t < time → level_of one t ≡ level_of other t

-- the least time, below an end, at which two waves have different levels
pub record IsFirstDifference (one other : Waveform) (upto time : ℕ) : Type 0 where
  pub within : time < upto
  pub differ : level_of one time ≢ level_of other time
  pub first : AgreeBelow one other time
