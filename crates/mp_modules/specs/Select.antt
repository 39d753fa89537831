-- SELECT: an event of its first input changes one output, by the level of its second input, the diamond. With its finding.
use Rattle.std.specs.Prelude.{ℕ, Bool, List, slice_index, ◌==◌, ◌&&◌, if◌then◌else◌}
use Rattle.mp_modules.specs.declared.memory.Memory.{Memory}
use Rattle.mp_modules.specs.Memories.{is_event, flipped, seen}

-- the output true (0) where the diamond is 1, and else the output false (1)
abbrev pub chosen : List ℕ → ℕ
chosen x = if slice_index x 1 == 1 then 0 else 1

abbrev pub selected : Memory → List ℕ → Memory
selected memory x = if is_event memory x 0 then flipped (chosen x) memory else memory

abbrev pub select_step : Memory → List ℕ → Memory
select_step memory x = seen x (selected memory x)

-- select-unstable: the diamond changes and the first input changes
abbrev pub is_unstable : Memory → List ℕ → Bool
is_unstable memory x = is_event memory x 1 && is_event memory x 0
