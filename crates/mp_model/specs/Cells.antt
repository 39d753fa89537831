-- One module while time passes.
use Rattle.std.specs.Prelude.{ℕ, List, ◌==◌, if◌then◌else◌}
use Rattle.mp_modules.specs.declared.memory.Memory.{Memory}
use Rattle.mp_modules.specs.storage.AnyModules.{settle, step}
use Rattle.mp_model.specs.declared.cell.Cell.{Cell}

-- the state at a time, from the one before
abbrev pub answered : Cell → ℕ → List ℕ → Memory
answered cell time levels = if time == 0 then settle cell.part levels else step cell.part cell.memory levels

-- the module after its answer
abbrev pub after_answer : Cell → ℕ → List ℕ → Cell
after_answer cell time levels = record { part = cell.part; memory = answered cell time levels }
