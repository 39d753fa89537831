use Rattle.std.proofs.Common.{◌≡◌, ◌/◌, ◌%◌, ◌^◌, ◌<◌, ◌≤◌, ℕ, sym, ap, arith}
use Rattle.std.proofs.Math.Nat.{pow-le-pow_right, div-eq_of_lt}
use Rattle.mp_modules.proofs.storage.function_module.bit_at.Goals as goal

-- a number of 64 bits has no bit above them
none_above : (level place : ℕ) → 64 ≤ place → level < 2 ^ 64 → level / 2 ^ place % 2 ≡ 0
none_above level place high fits =
    let power : 2 ^ 64 ≤ 2 ^ place = pow-le-pow_right (omega arith) high in
    let below : level < 2 ^ place = omega arith in
    ap (λ n. n % 2) (div-eq_of_lt below)

pub returns-then-place-ge64 : goal.returns-then-place-ge64
returns-then-place-ge64 c = sym (none_above c.args.level c.args.place c.if-place-ge64.true c.ranges.level.fits)
