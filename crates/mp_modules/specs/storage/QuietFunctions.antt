-- Nothing is found at a function in a further unit with the same input levels.
use Rattle.std.specs.Prelude.{◌≡◌, List, ℕ, refl}
use Rattle.mp_modules.specs.declared.function.Function.{Function}
use Rattle.mp_modules.specs.declared.function.Function.TheVariants.{Xor}
use Rattle.mp_modules.specs.declared.memory.Memory.{Memory}
use Rattle.mp_modules.specs.Memories.{seen}
use Rattle.mp_modules.specs.Findings.{no_findings}
use Rattle.mp_modules.specs.Quiet.{no_collision}
use Rattle.mp_modules.specs.storage.Functions.{start, settle, step, found, found_by}
use Rattle.mp_modules.specs.declared.storage.function_module.FunctionModule.{FunctionModule}

none_found : (function : Function) (m : Memory) (x : List ℕ) → found_by function (seen x m) x ≡ no_findings
none_found Xor m x = rw (no_collision m x) refl
none_found _ m x = refl

pub stepped_quiet : (part : FunctionModule) (m : Memory) (x : List ℕ) → found part (step part m x) x ≡ no_findings
stepped_quiet part m x = none_found part.function (step part m x) x

pub settled_quiet : (part : FunctionModule) (x : List ℕ) → found part (settle part x) x ≡ no_findings
settled_quiet part x = stepped_quiet part (seen x (start part)) x
