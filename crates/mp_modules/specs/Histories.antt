-- A module over time: its states, the levels of its ports, and the events of a level.
use Rattle.std.specs.Prelude.{◌≡◌, ◌<◌, ℕ, zero, suc, ◌+◌, Bool, false, not, List, slice_index, ◌==◌, if◌then◌else◌}
use Rattle.mp_modules.specs.declared.core_module.CoreModule.{CoreModule}
use Rattle.mp_modules.specs.declared.memory.Client.{Client}
use Rattle.mp_modules.specs.declared.memory.Memory.{Memory}
use Rattle.mp_modules.specs.Memories.{output_of}
use Rattle.mp_modules.specs.Findings.{no_findings}
use Rattle.mp_modules.specs.Tables.{settle, step, found}

-- the state at each time, settled at time 0 and then a step a unit, where `x t` are the levels at the inputs at time `t`
abbrev pub run : (List ℕ → Memory) → (Memory → List ℕ → Memory) → (ℕ → List ℕ) → ℕ → Memory
run settle step x zero = settle (x zero)
run settle step x (suc t) = step (run settle step x t) (x (suc t))

abbrev pub state_at : CoreModule → (ℕ → List ℕ) → ℕ → Memory
state_at part x t = run (settle part) (step part) x t

-- an event of a level at a time: from 1 on, a difference from the level one unit before
abbrev pub has_event : (ℕ → ℕ) → ℕ → Bool
has_event level zero = false
has_event level (suc t) = not (level t == level (suc t))

-- how many events a level has had up to a time
abbrev pub events : (ℕ → ℕ) → ℕ → ℕ
events level zero = 0
events level (suc t) = events level t + (if has_event level (suc t) then 1 else 0)

-- the level of an input, and that of an output before its delay, at each time
abbrev pub input : (ℕ → List ℕ) → ℕ → ℕ → ℕ
input x port t = slice_index (x t) port

abbrev pub output : CoreModule → (ℕ → List ℕ) → ℕ → ℕ → ℕ
output part x port t = output_of (state_at part x t) port

-- whom the module serves at each time: of an ARBITER the owner
abbrev pub served : CoreModule → (ℕ → List ℕ) → ℕ → Client
served part x t = (state_at part x t).served

-- nothing was found at the module up to a time
abbrev pub FindsNothing : CoreModule → (ℕ → List ℕ) → ℕ → Type 0
FindsNothing part x t = (u : ℕ) → u < t → found part (state_at part x u) (x (suc u)) ≡ no_findings
