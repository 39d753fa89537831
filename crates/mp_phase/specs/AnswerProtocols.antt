-- One question at a time goes to a worker, and one answer to it comes back.
use Rattle.std.specs.Prelude.{◌≡◌, ℕ, List, [], ◌∷◌, IfOk, Result, Vec}
use Rattle.std.specs.Global.{Global}
use Rattle.std.specs.declared.alloc.AllocError.{AllocError}
use mathlib.Core.Option.{some}
use lib.ListN.{get_elem?}
use Rattle.mp_phase.specs.declared.side.Side.{Side}
use Rattle.mp_phase.specs.declared.side.Side.TheVariants.{Idle, Asks, Owes, Spent}
use Rattle.mp_phase.specs.Phase.{AreDone}

-- nothing is asked; tasks are asked for; their answer waits
pub data Stage (T X : Type 0) : Type 0 where
  idle : Stage T X
  out : List T → Stage T X
  back : List T → X → Stage T X

-- what the channel holds
abbrev pub held : {T X : Type 0} → Stage T X → List X
held idle = []
held (out o) = []
held (back o x) = x ∷ []

abbrev pub IsIdle : {T X : Type 0} → Stage T X → Type 0
IsIdle idle = Unit {0}
IsIdle (out o) = ⊥
IsIdle (back o x) = ⊥

abbrev pub IsOut : {T X : Type 0} → List T → Stage T X → Type 0
IsOut o idle = ⊥
IsOut o (out p) = p ≡ o
IsOut o (back p x) = ⊥

-- what an answer of a worker is to the logic
abbrev pub Answer : Type 0 → Type 0
Answer D = Result (Vec D Global) AllocError

module _ {T D : Type 0} (gives : T → D → Type 0) where
  -- the answer is to these tasks
  abbrev pub IsAnswerTo : List T → Answer D → Type 0
  IsAnswerTo tasks x = IfOk x (λ dones. AreDone gives tasks dones.items)

  -- the tasks are asked for, or answered
  abbrev pub IsAsked : List T → Stage T (Answer D) → Type 0
  IsAsked o idle = ⊥
  IsAsked o (out p) = p ≡ o
  IsAsked o (back p x) = IsAnswerTo o x

  -- at most one pass asks or is idle, and at most one owes
  abbrev pub Fits : ℕ → ℕ → Stage T (Answer D) → ℕ → Side T → Type 0
  Fits asker owner s j Idle = (j ≡ asker) × IsIdle s
  Fits asker owner s j (Asks o) = (j ≡ asker) × IsAsked o s
  Fits asker owner s j (Owes o) = (j ≡ owner) × IsOut o s
  Fits asker owner s j Spent = Unit {0}

  abbrev pub Kept : List (Answer D) → List (Side T) → Type 0
  Kept items views =
      (asker : ℕ) × (owner : ℕ) × (s : Stage T (Answer D)) × (items ≡ held s)
      × ((j : ℕ) (v : Side T) → get_elem? views j ≡ some v → Fits asker owner s j v)

  -- what a receive tells
  abbrev pub Taken : Side T → Answer D → Side T → Type 0
  Taken v x w = (w ≡ Idle) × ((o : List T) → v ≡ Asks o → IsAnswerTo o x)
