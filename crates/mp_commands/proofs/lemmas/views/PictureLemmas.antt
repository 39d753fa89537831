-- The columns of a range.
use Rattle.std.proofs.Common.{◌≡◌, ℕ, ◌-◌, ◌^◌, ◌≤◌, min, ap₂, arith}
use Rattle.mp_netlist.specs.Limits.{max_horizon}
use Rattle.mp_picture.specs.ColumnRanges.{columns_between, columns_in}

-- times beyond 32 bits are beyond the horizon
pub clipped_columns : (horizon from to most : ℕ) → horizon ≤ max_horizon → columns_in horizon (min from (2 ^ 32 - 1)) (min to (2 ^ 32 - 1)) most ≡ columns_in horizon from to most
clipped_columns horizon from to most high =
    let first : min (min from (2 ^ 32 - 1)) (horizon - 1) ≡ min from (horizon - 1) = omega arith in
    let last : min (min to (2 ^ 32 - 1)) horizon ≡ min to horizon = omega arith in
    ap₂ (λ (x y : ℕ). columns_between x y most) first last
