-- What a list of pairs is refused for as the changes of a wave.
use Rattle.std.specs.Prelude.{◌≡◌, ◌≢◌, ℕ, ◌<◌, ◌≤◌, List, ◌∷◌, length, slice_index_or}
use Rattle.mp_wave.specs.declared.wave_error.WaveCause.{WaveCause}
use Rattle.mp_wave.specs.declared.wave_error.WaveCause.TheVariants.{Time, Order, Same}
use Rattle.mp_wave.specs.declared.wave_error.WaveError.{WaveError}

-- a pair that may follow another: later, with another level
abbrev pub IsChange : ℕ × ℕ → ℕ × ℕ → Type 0
IsChange before pair = (before.0 < pair.0) × (before.1 ≢ pair.1)

-- what is wrong with a time and level after those before it, of several causes the first
abbrev pub IsCause : WaveCause → ℕ × ℕ → ℕ × ℕ → Type 0
IsCause Time before pair = pair.0 ≡ 0
IsCause Order before pair = (pair.0 ≢ 0) × (pair.0 ≤ before.0)
IsCause Same before pair = (before.0 < pair.0) × (pair.1 ≡ before.1)

-- the pair at a place
abbrev pub pair_at : List (ℕ × ℕ) → ℕ → ℕ × ℕ
pair_at pairs place = slice_index_or pairs place (0, 0)

-- the pair before that at a place, or time 0 and the initial level
abbrev pub pair_before : ℕ → List (ℕ × ℕ) → ℕ → ℕ × ℕ
pair_before initial pairs place = pair_at ((0, initial) ∷ pairs) place

-- a cause against the pair at a place
abbrev pub HasCause : ℕ → List (ℕ × ℕ) → ℕ → WaveCause → Type 0
HasCause initial pairs place cause = IsCause cause (pair_before initial pairs place) (pair_at pairs place)

-- the first pair with a cause against it
pub record IsFirstFault (initial : ℕ) (pairs : List (ℕ × ℕ)) (error : WaveError) : Type 0 where
  pub within : error.place < length pairs
  pub caused : HasCause initial pairs error.place error.cause
  pub first : (place : ℕ) (cause : WaveCause) → place < error.place → ¬ HasCause initial pairs place cause
