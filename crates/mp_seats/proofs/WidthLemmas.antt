-- How long lines are.
use Rattle.std.proofs.Common.{◌≡◌, ℕ, List, [], ◌∷◌, length, refl, arith}
use Rattle.mp_seats.specs.Widths.{written_length}

pub none_written : (bytes : List ℕ) → length bytes ≡ 0 → written_length bytes ≡ 0
none_written [] none = refl
none_written (byte ∷ bytes) none = absurd (omega (arith, none))
