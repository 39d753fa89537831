-- In a run that is over nothing changes again.
use Rattle.std.specs.Prelude.{◌≡◌, ℕ, ◌≤◌, true}
use Rattle.mp_netlist.specs.Circuit.{Circuit, IsCircuit}
use Rattle.mp_model.specs.Waves.{level}
use Rattle.mp_check.specs.Over.{is_over, last_change}
use Rattle.mp_laws.specs.Stimuli.{AreAlikeUpto}

-- the same modules and wires, stimuli that set the same at all times, and at least the same horizon
pub record RunsLonger (n later : Circuit) : Type 0 where
  pub horizon : n.horizon ≤ later.horizon
  pub alike : (end : ℕ) → AreAlikeUpto end n later

-- no wire changes above the time of the last change
abbrev pub NothingChangesAgain : Type 0
NothingChangesAgain =
    (n later : Circuit) → IsCircuit n → IsCircuit later → RunsLonger n later → is_over n ≡ true → (w t : ℕ) → last_change n ≤ t → level later w t ≡ level later w (last_change n)
