-- TOGGLE: an event of its input changes one output, the first one dot, the next one blank, and so on in turn.
use Rattle.std.specs.Prelude.{ℕ, List, ◌==◌, if◌then◌else◌}
use Rattle.mp_modules.specs.declared.memory.Memory.{Memory}
use Rattle.mp_modules.specs.Memories.{output_of, is_event, flipped, seen}

-- whose turn it is: that of dot (0) where the outputs agree, and else that of blank (1)
abbrev pub turn : Memory → ℕ
turn memory = if output_of memory 0 == output_of memory 1 then 0 else 1

abbrev pub toggled : Memory → List ℕ → Memory
toggled memory x = if is_event memory x 0 then flipped (turn memory) memory else memory

abbrev pub toggle_step : Memory → List ℕ → Memory
toggle_step memory x = seen x (toggled memory x)
