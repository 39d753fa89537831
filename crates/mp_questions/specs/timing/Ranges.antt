-- How a netlist reads a time that is asked for.
use Rattle.std.specs.Prelude.{ℕ, ◌-◌, Bool, ◌&&◌, min, nat_le, nat_lt}

-- a time at or above the horizon is its last unit
abbrev pub read_time : ℕ → ℕ → ℕ
read_time horizon time = min time (horizon - 1)

-- the end of a range is the horizon at most
abbrev pub read_end : ℕ → ℕ → ℕ
read_end horizon time = min time horizon

-- a time is one of a range that is asked for
abbrev pub is_in_range : ℕ → ℕ → ℕ → ℕ → Bool
is_in_range horizon from to time = nat_le (read_time horizon from) time && nat_lt time (read_end horizon to)
