-- How many designers and viewers a desk may have.
use Rattle.std.specs.Prelude.{ℕ, Bool, ◌&&◌, nat_le}
use Rattle.mp_desk.specs.declared.desk_size.TheConstants.{MAX_DESIGNERS, MAX_VIEWERS}

-- 1 to 8 designers and 1 to 32 viewers
abbrev pub is_desk_size : ℕ → ℕ → Bool
is_desk_size designers viewers = nat_le 1 designers && (nat_le designers MAX_DESIGNERS && (nat_le 1 viewers && nat_le viewers MAX_VIEWERS))
