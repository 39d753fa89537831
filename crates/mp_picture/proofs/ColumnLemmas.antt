-- Columns lie in their range.
use Rattle.std.proofs.Common.{ℕ, ◌+◌, ◌-◌, ◌*◌, ◌/◌, ◌%◌, ◌<◌, ◌≤◌, min, arith}
use Rattle.std.proofs.Math.Nat.{mul-le-mul_right}
use Rattle.std.proofs.lemmas.Grind.{div_ceil_times}
use Rattle.mp_picture.specs.declared.columns.Columns.{Columns}
use Rattle.mp_picture.specs.Columns.{count, begin}

-- a column begins in the range
pub begins_within : (c : Columns) (j : ℕ) → c.from < c.to → 0 < c.units → j < count c → begin c j < c.to
begins_within c j some wide below =
    let most = div_ceil_times (c.to - c.from) c.units wide in
    let less : (j + 1) * c.units ≤ ((c.to - c.from) / c.units + min 1 ((c.to - c.from) % c.units)) * c.units = mul-le-mul_right c.units (omega arith) in
    omega (arith, most, less)
