-- Dead ports keep their wires for ever.
use Rattle.std.specs.Prelude.{◌≡◌, ℕ, ◌≤◌, true, List}
use Rattle.std.specs.List.{Contains}
use Rattle.mp_netlist.specs.Circuit.{Circuit, IsCircuit, Drives}
use Rattle.mp_model.specs.Waves.{level}
use Rattle.mp_holding.specs.sets.ClosedSets.{is_in, is_closed}
use Rattle.mp_holding.specs.sets.Laws.{IsWithin}
use Rattle.mp_check.specs.Dead.{dead, is_kept, last_unit, port_number}
use Rattle.mp_check.specs.Deadlocks.{deadlocks}
use Rattle.mp_check.specs.declared.wait.Wait.{Wait}
use Rattle.mp_laws.specs.Stimuli.{AreAlikeUpto}

-- the same modules and wires, with at least the same horizon, and stimuli that set the same up to the last unit of the first netlist
pub record GoesOn (n later : Circuit) : Type 0 where
  pub horizon : n.horizon ≤ later.horizon
  pub alike : AreAlikeUpto (last_unit n) n later

-- the wires of dead ports keep their levels from the last unit on, whatever stimuli set then
abbrev pub DeadStandForEver : Type 0
DeadStandForEver = (n later : Circuit) → IsCircuit n → IsCircuit later → GoesOn n later → (m p w : ℕ) → Drives n m p w → dead n (port_number m p) ≡ true →
    (t : ℕ) → last_unit n ≤ t → level later w t ≡ level n w (last_unit n)

-- so do the wires of a deadlock
abbrev pub StandsForEver : Type 0
StandsForEver = (n later : Circuit) → IsCircuit n → IsCircuit later → GoesOn n later → (waits : List Wait) → Contains (deadlocks n) waits → (w : Wait) → Contains waits w →
    (t : ℕ) → last_unit n ≤ t → level later w.wire.0 t ≡ level n w.wire.0 (last_unit n)

-- the dead ports keep each other, and each set of ports that keeps its members is of dead ports: so they are the greatest such set
pub record AreGreatest (n : Circuit) : Type 0 where
  pub closed : IsWithin (dead n) (is_kept n (dead n))
  pub greatest : (set : List ℕ) → is_closed (is_kept n) set ≡ true → IsWithin (is_in set) (dead n)

abbrev pub DeadAreGreatest : Type 0
DeadAreGreatest = (n : Circuit) → AreGreatest n
