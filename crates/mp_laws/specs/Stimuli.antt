-- What stimuli set at a time changes nothing before it.
use Rattle.std.specs.Prelude.{◌≡◌, ℕ, ◌≤◌, Option, Some, None, is_some}
use Rattle.mp_records.specs.declared.wire_record.WireRecord.{WireRecord}
use Rattle.mp_netlist.specs.Circuit.{Circuit, IsCircuit, wire_at}
use Rattle.mp_model.specs.Levels.{stimulus_level}
use Rattle.mp_model.specs.Waves.{level}

-- the same wire, on which a stimulus sets the same levels up to a time, if one does
pub record IsSetAlike (end : ℕ) (r s : WireRecord) : Type 0 where
  pub width : s.width ≡ r.width
  pub initial : s.initial ≡ r.initial
  pub set : is_some s.stimulus ≡ is_some r.stimulus
  pub levels : (t : ℕ) → t ≤ end → stimulus_level s.stimulus s.initial t ≡ stimulus_level r.stimulus r.initial t

-- both stand, or neither does
abbrev pub AreSetAlike : ℕ → Option WireRecord → Option WireRecord → Type 0
AreSetAlike end None None = Unit {0}
AreSetAlike end (Some r) (Some s) = IsSetAlike end r s
AreSetAlike end None (Some s) = ⊥
AreSetAlike end (Some r) None = ⊥

-- two netlists have the same modules and wires, and stimuli set the same up to a time
pub record AreAlikeUpto (end : ℕ) (n other : Circuit) : Type 0 where
  pub modules : other.modules ≡ n.modules
  pub wires : (w : ℕ) → AreSetAlike end (wire_at n w) (wire_at other w)

-- then their levels are the same up to that time, whatever stimuli set after it
abbrev pub LaterChangesNothingBefore : Type 0
LaterChangesNothingBefore =
    (n other : Circuit) → IsCircuit n → IsCircuit other → (end : ℕ) → AreAlikeUpto end n other → (w t : ℕ) → t ≤ end → level other w t ≡ level n w t
