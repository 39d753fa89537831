-- Modules with data go on by their outputs alone, and these tell their states.
use Rattle.std.proofs.Common.{◌≡◌, ℕ, List, refl}
use Rattle.mp_modules.specs.declared.memory.Memory.{Memory}
use Rattle.mp_modules.specs.storage.AnyModules.{settle, step}
use Rattle.mp_modules.specs.declared.storage.data_part.DataPart.{DataPart}
use Rattle.mp_modules.specs.declared.storage.data_part.DataPart.TheVariants.{Reg, Function}
use Rattle.mp_modules.specs.storage.DataParts.{any_part, outputs_in, next_outputs, memory_with, IsToldByOutputs}

-- the outputs of a step after one at time 0
pub first_step : (part : DataPart) (x y : List ℕ) → outputs_in (step (any_part part) (settle (any_part part) x) y) ≡ next_outputs part (outputs_in (settle (any_part part) x)) y
unfolding settle step
first_step (Reg initial) x y = refl
first_step (Function function width constant) x y = refl

-- and of one after another
pub later_step : (part : DataPart) (memory : Memory) (x y : List ℕ) →
    outputs_in (step (any_part part) (step (any_part part) memory x) y) ≡ next_outputs part (outputs_in (step (any_part part) memory x)) y
unfolding step
later_step (Reg initial) memory x y = refl
later_step (Function function width constant) memory x y = refl

settled_with : (part : DataPart) (x : List ℕ) → settle (any_part part) x ≡ memory_with (outputs_in (settle (any_part part) x)) x
unfolding settle
settled_with (Reg initial) x = refl
settled_with (Function function width constant) x = refl

stepped_with : (part : DataPart) (memory : Memory) (x : List ℕ) → step (any_part part) memory x ≡ memory_with (outputs_in (step (any_part part) memory x)) x
unfolding step
stepped_with (Reg initial) memory x = refl
stepped_with (Function function width constant) memory x = refl

pub told_by_outputs : (part : DataPart) → IsToldByOutputs part
told_by_outputs part = record { settled = settled_with part; stepped = stepped_with part }
