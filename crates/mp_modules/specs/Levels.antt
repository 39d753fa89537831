-- What a level is.
use Rattle.std.specs.Prelude.{ℕ, Bool, ◌^◌, nat_lt}

-- the level has no bit above the width
unfoldable pub fits_width : ℕ → ℕ → Bool
fits_width width level = nat_lt level (2 ^ width)
