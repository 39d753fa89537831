-- What a simulator has of a netlist.
use Rattle.std.specs.Prelude.{ℕ, Bool, List, Option, Some, None, ◌&&◌}
use Rattle.mp_netlist.specs.Circuit.{Circuit}
use Rattle.mp_netlist.specs.Drivers.{driver}
use Rattle.mp_simulation.specs.bits.Changes.{change_at, is_decided}

-- where each module of width 1 stands that is active, and which places have an active module; the numbers that the inputs at a place read, and
-- the wire and delay of each number; how many units each module has answered; and which changes of wires are made here, and which waves
pub record Scope : Type 0 where
  pub place : ℕ → Option ℕ
  pub is_active : ℕ → Bool
  pub inputs : ℕ → List ℕ
  pub source : ℕ → ℕ × ℕ
  pub known : ℕ → ℕ
  pub owns : ℕ → ℕ → Bool
  pub traces : ℕ → Bool

-- the wire has a change at a time that is known and made here
abbrev pub is_expected : Circuit → Scope → ℕ → ℕ → Bool
is_expected n scope w u = change_at n w u && is_decided n scope.known (driver n w) u && scope.owns w u

abbrev pub known_after : Option ℕ → ℕ → ℕ → ℕ
known_after None units known = known
known_after (Some q) units known = units

-- active modules have answered so many units
abbrev pub with_answers : Scope → ℕ → Scope
with_answers scope units = record scope { known = λ m. known_after (scope.place m) units (scope.known m) }
