-- The slots of a level wheel.
use Rattle.std.specs.Prelude.{ℕ, ◌-◌, Bool, List, [], ◌∷◌, Option, Some, None, if◌then◌else◌}
use Rattle.std.specs.List.{flat_map}
use Rattle.mp_kernel.specs.declared.events.output_port.OutputPort.{OutputPort}
use Rattle.mp_kernel.specs.events.Firing.{copy_at}
use Rattle.mp_kernel.specs.declared.datapath.level_change.LevelChange.{LevelChange}
pub use Rattle.mp_kernel.specs.events.EventWheels.{with_entry}

-- the wheel with these entries: how many units after the next, and the change
abbrev pub scheduled : List (List LevelChange) → List (ℕ × LevelChange) → List (List LevelChange)
scheduled slots [] = slots
scheduled slots (entry ∷ entries) = scheduled (with_entry slots entry.0 entry.1) entries

abbrev pub entry_at : Option ℕ → ℕ → ℕ → List (ℕ × LevelChange)
entry_at None delay level = []
entry_at (Some wire) delay level = (delay - 1, record { number = wire; level = level }) ∷ []

abbrev pub entry_if : Bool → OutputPort → ℕ → List (ℕ × LevelChange)
entry_if changes port level = if changes then entry_at port.wire port.delay level else []

-- what the next delayed copies of these numbers get
abbrev pub copied_from : List OutputPort → List LevelChange → List (ℕ × LevelChange)
copied_from copies changes = flat_map (λ (c : LevelChange). entry_at (copy_at copies c.number).wire (copy_at copies c.number).delay c.level) changes
