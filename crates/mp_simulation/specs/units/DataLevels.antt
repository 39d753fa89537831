-- The levels of numbers of any width, and which of them have data.
use Rattle.std.specs.Prelude.{◌≡◌, ℕ, ◌-◌, Bool, false, not, List, Option, Some, None, length, nat_lt, ◌==◌, ◌&&◌, if◌then◌else◌}
use Rattle.std.specs.List.{count_by}
use Rattle.mp_records.specs.declared.wire_record.WireRecord.{WireRecord}
use Rattle.mp_netlist.specs.Circuit.{Circuit, wire_at}
use Rattle.mp_model.specs.Levels.{initial_of}
use Rattle.mp_model.specs.Waves.{level}
use Rattle.mp_kernel.specs.declared.datapath.level_change.LevelChange.{LevelChange}

abbrev pub has_data : Option WireRecord → Bool
has_data None = false
has_data (Some r) = not (r.width == 1)

-- the wire has another width than 1
abbrev pub is_data : Circuit → ℕ → Bool
is_data n w = has_data (wire_at n w)

-- the number is one of a wire, which has width 1 or doesn't stand
abbrev pub is_bit_wire : Circuit → ℕ → Bool
is_bit_wire n w = nat_lt w (length n.wires) && not (is_data n w)

-- the level of a source at u: the wire's so many units before as the source says, and before time 0 the initial one
abbrev pub late_level : Circuit → ℕ × ℕ → ℕ → ℕ
late_level n source u = if nat_lt u source.1 then initial_of (wire_at n source.0) else level n source.0 (u - source.1)

abbrev pub number_of_change : LevelChange → ℕ
number_of_change c = c.number

-- how often a number is among changes
abbrev pub changes_of : ℕ → List LevelChange → ℕ
changes_of x changes = count_by (λ (c : LevelChange). c.number == x) changes

-- the change has the level of its number at u
abbrev pub IsLevelAt : Circuit → (ℕ → ℕ × ℕ) → ℕ → LevelChange → Type 0
IsLevelAt n source u c = c.level ≡ late_level n (source c.number) u
