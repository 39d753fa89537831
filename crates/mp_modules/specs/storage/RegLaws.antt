-- What a register does over any levels at its inputs.
use Rattle.std.specs.Prelude.{◌≡◌, ℕ, List, IsTrue}
use Rattle.mp_modules.specs.Memories.{output_of}
use Rattle.mp_modules.specs.Histories.{run, has_event, input}
use Rattle.mp_modules.specs.storage.Reg.{is_open, settle, step}
use Rattle.mp_modules.specs.declared.storage.reg.Reg.{Reg}

-- the data output before its delay, at each time
abbrev pub kept : Reg → (ℕ → List ℕ) → ℕ → ℕ
kept reg x t = output_of (run (settle reg) (step reg) x t) 0

-- it has an event only in a unit in which the register is open
abbrev pub ChangesWhileOpen : Type 0
ChangesWhileOpen = (reg : Reg) (x : ℕ → List ℕ) (t : ℕ) → IsTrue (has_event (kept reg x) t) → IsTrue (is_open (x t))

-- and while it is open it has the level of the data input
abbrev pub FollowsWhileOpen : Type 0
FollowsWhileOpen = (reg : Reg) (x : ℕ → List ℕ) (t : ℕ) → IsTrue (is_open (x t)) → kept reg x t ≡ input x 0 t
