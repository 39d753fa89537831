-- What a stimulus is.
use Rattle.std.specs.Prelude.{ℕ, Bool, true, ◌&&◌, List, [], ◌∷◌, nat_lt}
use Rattle.mp_modules.specs.Levels.{fits_width}

-- the times rise strictly from above the time before, below the horizon, and each value fits the width
unfoldable pub is_stimulus : ℕ → ℕ → ℕ → List (ℕ × ℕ) → Bool
is_stimulus horizon width before [] = true
is_stimulus horizon width before (change ∷ changes) =
    nat_lt before change.0 && nat_lt change.0 horizon && fits_width width change.1 && is_stimulus horizon width change.0 changes
