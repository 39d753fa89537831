-- The faults of a device.
use Rattle.std.specs.Prelude.{ℕ, ◌+◌, ◌-◌, ◌^◌, min, Result, Ok, Err}

-- a device, with the number of its faults
pub record Counted (Device : Type 0) : Type 0 where
  pub device : Device
  pub faults : ℕ

-- one fault more: the count stays where it is at its greatest value
abbrev pub one_more : ℕ → ℕ
one_more faults = min (faults + 1) (2 ^ 64 - 1)

-- the number of faults after a call: `Failed` adds one
abbrev pub counted : {T E : Type 0} → Result T E → ℕ → ℕ
counted (Ok value) faults = faults
counted (Err failed) faults = one_more faults
