-- What modules with data do, by their outputs alone.
use Rattle.std.specs.Prelude.{◌≡◌, ℕ, List, [], ◌∷◌, slice_index}
use Rattle.mp_modules.specs.declared.memory.Memory.{Memory}
use Rattle.mp_modules.specs.Memories.{output_of, with_outputs}
use Rattle.mp_modules.specs.declared.storage.any_module.AnyModule.{AnyModule}
use Rattle.mp_modules.specs.declared.storage.any_module.AnyModule.TheVariants as parts
use Rattle.mp_modules.specs.storage.AnyModules.{settle, step}
use Rattle.mp_modules.specs.storage.Functions.{result_of}
use Rattle.mp_modules.specs.storage.Reg.{latched}
use Rattle.mp_modules.specs.declared.storage.output_levels.OutputLevels.{OutputLevels}
use Rattle.mp_modules.specs.declared.storage.data_part.DataPart.{DataPart}
use Rattle.mp_modules.specs.declared.storage.data_part.DataPart.TheVariants.{Reg, Function}

-- what a module does that has data: a kind without data has no part of its own
abbrev pub data_part : AnyModule → DataPart
data_part (parts.Core part) = Reg 0
data_part (parts.Reg part) = Reg part.initial
data_part (parts.Function part) = Function part.function part.width part.constant

-- the module that does so
abbrev pub any_part : DataPart → AnyModule
any_part (Reg initial) = parts.Reg (record { initial = initial })
any_part (Function function width constant) = parts.Function (record { function = function; width = width; constant = constant })

-- the outputs in a state
abbrev pub outputs_in : Memory → OutputLevels
outputs_in memory = record { first = output_of memory 0; second = output_of memory 1; third = output_of memory 2 }

-- the state with these outputs, and these levels at the inputs
abbrev pub memory_with : OutputLevels → List ℕ → Memory
memory_with outputs x = with_outputs x (outputs.first ∷ outputs.second ∷ outputs.third ∷ [])

-- the state that a module with data settles in, or goes on to, is told by its outputs and the levels at its inputs
pub record IsToldByOutputs (part : DataPart) : Type 0 where
  pub settled : (x : List ℕ) → settle (any_part part) x ≡ memory_with (outputs_in (settle (any_part part) x)) x
  pub stepped : (memory : Memory) (x : List ℕ) → step (any_part part) memory x ≡ memory_with (outputs_in (step (any_part part) memory x)) x

-- the outputs after these, with these levels at the inputs: a module that isn't a register has one
abbrev pub next_outputs : DataPart → OutputLevels → List ℕ → OutputLevels
next_outputs (Reg initial) before x = record { first = latched before.first x; second = slice_index x 1; third = slice_index x 2 }
next_outputs (Function function width constant) before x =
    record before { first = result_of function width constant (slice_index x 0) (slice_index x 1) (slice_index x 2) }
