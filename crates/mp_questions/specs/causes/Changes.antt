-- The changes of a netlist's wires.
use Rattle.std.specs.Prelude.{ℕ, option_map, Option, Some, None, if◌then◌else◌}
use Rattle.mp_modules.specs.Histories.{has_event}
use Rattle.mp_records.specs.declared.ids.WireId.{WireId}
use Rattle.mp_netlist.specs.Circuit.{Circuit}
use Rattle.mp_model.specs.Waves.{level}
use Rattle.mp_questions.specs.declared.causes.wire_change.WireChange.{WireChange}
use Rattle.mp_questions.specs.timing.Events.{last_event}

-- the wire has a new level from this time on
abbrev pub change_at : Circuit → WireId → ℕ → WireChange
change_at n wire t = record { wire = wire; time = t; level = level n wire.0 t }

-- the change of a wire at a time, if its level differs from that a unit before
abbrev pub change_if : Circuit → WireId → ℕ → Option WireChange
change_if n wire t = if has_event (level n wire.0) t then Some (change_at n wire t) else None

-- the last change of a wire at or before a time
abbrev pub last_change : Circuit → WireId → ℕ → Option WireChange
last_change n wire t = option_map (change_at n wire) (last_event (level n wire.0) t)
