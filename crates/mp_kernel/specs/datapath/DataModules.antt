-- A module with data goes on to the next unit.
use Rattle.std.specs.Prelude.{◌≡◌, ℕ, ◌<◌, not, List, [], ◌∷◌, Option, Some, None, slice_index_or, ◌==◌}
use Rattle.mp_modules.specs.declared.memory.Memory.{Memory}
use Rattle.mp_modules.specs.declared.automata.toggles.Toggles.{Toggles}
use Rattle.mp_kernel.specs.events.Firing.{HasSlot, HaveSlots, fired_at}
use Rattle.mp_kernel.specs.declared.datapath.level_change.LevelChange.{LevelChange}
use Rattle.mp_modules.specs.declared.storage.output_levels.OutputLevels.{OutputLevels}
use Rattle.mp_kernel.specs.declared.datapath.data_module.DataModule.{DataModule}
use Rattle.mp_kernel.specs.datapath.Levels.{level_at}
use Rattle.mp_modules.specs.storage.DataParts.{next_outputs, memory_with}
use Rattle.mp_kernel.specs.datapath.LevelWheels.{entry_if}

-- the number that an input reads, if there is such an input
abbrev pub input_of : DataModule → ℕ → Option ℕ
input_of m p = slice_index_or m.inputs p None

abbrev pub ReadsBelow : ℕ → DataModule → Type 0
ReadsBelow numbers m = (p x : ℕ) → input_of m p ≡ Some x → x < numbers

-- the levels at its inputs
abbrev pub inputs_of : List ℕ → DataModule → List ℕ
inputs_of levels m = level_at levels (input_of m 0) ∷ level_at levels (input_of m 1) ∷ level_at levels (input_of m 2) ∷ level_at levels (input_of m 3) ∷ []

-- its outputs in the unit in which numbers have these levels
abbrev pub outputs_after : List ℕ → DataModule → OutputLevels
outputs_after levels m = next_outputs m.part m.outputs (inputs_of levels m)

abbrev pub stepped : List ℕ → DataModule → DataModule
stepped levels m = record m { outputs = outputs_after levels m }

-- its state, where numbers have these levels
abbrev pub memory_of : List ℕ → DataModule → Memory
memory_of levels m = memory_with m.outputs (inputs_of levels m)

-- the outputs whose levels differ
abbrev pub differing : OutputLevels → OutputLevels → Toggles
differing before after = record {
  first = not (before.first == after.first);
  second = not (before.second == after.second);
  third = not (before.third == after.third);
}

-- what it schedules then
abbrev pub events_of : List ℕ → DataModule → List (ℕ × ℕ)
events_of levels m = fired_at m.ports.bits (differing m.outputs (outputs_after levels m))

-- and of its wire with data, if its first output changes
abbrev pub changes_of : List ℕ → DataModule → List (ℕ × LevelChange)
changes_of levels m = entry_if (not (m.outputs.first == (outputs_after levels m).first)) m.ports.level (outputs_after levels m).first

-- its inputs have levels, and its outputs delays of the wheels
pub record CanFire (numbers events changes : ℕ) (m : DataModule) : Type 0 where
  pub reads : ReadsBelow numbers m
  pub bits : HaveSlots events m.ports.bits
  pub level : HasSlot changes m.ports.level
