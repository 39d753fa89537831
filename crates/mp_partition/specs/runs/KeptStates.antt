-- The states that a run has of its modules, in one block or in pieces.
use Rattle.std.specs.Prelude.{List, Option, map, option_map}
use Rattle.std.specs.Arc.{arc_value}
use Rattle.mp_modules.specs.declared.memory.Memory.{Memory}
use Rattle.mp_partition.specs.declared.runs.checkpoint.Checkpoint.{Checkpoint}
use Rattle.mp_partition.specs.declared.runs.states.States.{States}
use Rattle.mp_partition.specs.declared.runs.states.States.TheVariants.{Whole, Pieces}

-- the last state of each module
abbrev pub ends_of : States → List (Option Memory)
ends_of (Whole ends kept) = ends.items
ends_of (Pieces ends kept) = ends

-- the states of each module at checkpoints
abbrev pub kept_of : States → List (Option (List Checkpoint))
kept_of (Whole ends kept) = map (option_map arc_value) kept.items
kept_of (Pieces ends kept) = kept
