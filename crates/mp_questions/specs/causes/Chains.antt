-- Chains of causes.
use Rattle.std.specs.Prelude.{ℕ, List, [], ◌∷◌, Option, Some, None, zero, suc}
use Rattle.mp_records.specs.declared.ids.WireId.{WireId}
use Rattle.mp_netlist.specs.Circuit.{Circuit}
use Rattle.mp_questions.specs.declared.causes.wire_change.WireChange.{WireChange}
use Rattle.mp_questions.specs.causes.Changes.{last_change}
use Rattle.mp_questions.specs.causes.Causes.{Cause, Outside, Start, Events, cause_of, followed}

-- a change, the one that it follows, and so on: at most so many
abbrev pub chain_from : Circuit → ℕ → Option WireChange → List WireChange
chain_from n zero next = []
chain_from n (suc count) None = []
chain_from n (suc count) (Some c) = c ∷ chain_from n count (followed (cause_of n c))

-- the chain from the last change of a wire at or before a time. Times fall along it, so it has no more changes than that time
unfoldable pub chain : Circuit → WireId → ℕ → List WireChange
chain n wire t = chain_from n t (last_change n wire t)

-- the time at which a chain begins: that of its first change where that is set from outside, and 0 where it is a start
abbrev pub begin_by : WireChange → Cause → ℕ
begin_by c Outside = c.time
begin_by c (Start g) = 0
begin_by c (Events g es) = 0

abbrev pub begin_of : Circuit → List WireChange → ℕ
begin_of n [] = 0
begin_of n (c ∷ []) = begin_by c (cause_of n c)
begin_of n (c ∷ d ∷ cs) = begin_of n (d ∷ cs)
