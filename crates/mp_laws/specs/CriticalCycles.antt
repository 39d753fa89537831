-- What a critical cycle is: causes that come round.
use Rattle.std.specs.Prelude.{◌≡◌, ℕ, ◌+◌, ◌*◌, ◌<◌, List, [], ◌∷◌, Some}
use Rattle.mp_netlist.specs.Circuit.{Circuit, IsCircuit}
use Rattle.mp_questions.specs.declared.causes.wire_change.WireChange.{WireChange}
use Rattle.mp_questions.specs.causes.Causes.{cause_of, followed}
use Rattle.mp_steady.specs.Cycles.{cycle, cycle_length}

-- the cause of a change is on the wire of another one, so many whole periods before it
pub record IsStep (n : Circuit) (units : ℕ) (c d : WireChange) : Type 0 where
  pub cause : WireChange
  pub follows : followed (cause_of n c) ≡ Some cause
  pub sooner : cause.time < c.time
  pub wire : d.wire ≡ cause.wire
  pub periods : ℕ
  pub later : d.time ≡ cause.time + units * periods

-- each of some changes has its cause in the one behind it, and the last one in a further change
abbrev pub LeadTo : Circuit → ℕ → List WireChange → WireChange → Type 0
LeadTo n units [] d = ⊥
LeadTo n units (c ∷ []) d = IsStep n units c d
LeadTo n units (c ∷ e ∷ cs) d = IsStep n units c e × LeadTo n units (e ∷ cs) d

abbrev pub ComeRound : Circuit → ℕ → List WireChange → Type 0
ComeRound n units [] = Unit {0}
ComeRound n units (c ∷ cs) = LeadTo n units (c ∷ cs) c

-- the critical cycle comes round from cause to cause, and its length is a number of whole periods
abbrev pub CyclesComeRound : Type 0
CyclesComeRound = (n : Circuit) → IsCircuit n → (wires : List ℕ) (units : ℕ) → 0 < units →
    ComeRound n units (cycle n wires units) × ((periods : ℕ) × (cycle_length n (cycle n wires units) ≡ units * periods))
