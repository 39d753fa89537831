-- The merge of two events by an XOR, with its finding.
use Rattle.std.specs.Prelude.{ℕ, Bool, List, ◌&&◌}
use Rattle.mp_modules.specs.declared.memory.Memory.{Memory}
use Rattle.mp_modules.specs.Memories.{is_event}

-- merge-collision: both inputs change
abbrev pub is_collision : Memory → List ℕ → Bool
is_collision memory x = is_event memory x 0 && is_event memory x 1
