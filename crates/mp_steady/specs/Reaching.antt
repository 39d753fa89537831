-- How the control is reached: from the wires of width 1 on, always what one depends on.
use Rattle.std.specs.Prelude.{◌≡◌, ℕ, ◌<◌, Bool, true, false, List, IsSome, length, count_by, take, slice_index_or}
use Rattle.std.specs.List.{list_all}
use Rattle.mp_records.specs.declared.ids.WireId.{WireId}
use Rattle.mp_netlist.specs.Circuit.{Circuit, wire_at}
use Rattle.mp_steady.specs.WireSets.{has_control, has_events, has_inputs, has_wire, numbers}

-- the mark of a wire, none past the end
abbrev pub mark_at : List Bool → ℕ → Bool
mark_at marks w = slice_index_or marks w false

-- a wire that exists, and that each whole set with all wires of width 1 has
pub record IsNeeded (n : Circuit) (w : ℕ) : Type 0 where
  pub stands : IsSome (wire_at n w)
  pub needed : (wires : List ℕ) → has_control n wires ≡ true → has_wire wires w ≡ true

-- the wires that are listed are those that are marked, each is listed once, and each is needed
pub record AreReached (n : Circuit) (marks : List Bool) (order : List WireId) : Type 0 where
  pub places : length marks ≡ length n.wires
  pub listed : (w : ℕ) → mark_at marks w ≡ has_wire (numbers order) w
  pub once : length order ≡ count_by (λ mark. mark) marks
  pub needed : (w : ℕ) → has_wire (numbers order) w ≡ true → IsNeeded n w

-- the wires of width 1 below a number are listed
abbrev pub HaveEvents : Circuit → ℕ → List WireId → Type 0
HaveEvents n number order = (w : ℕ) → w < number → has_events n w ≡ true → has_wire (numbers order) w ≡ true

-- what the first of the listed wires depend on is listed
abbrev pub AreFollowed : Circuit → ℕ → List WireId → Type 0
AreFollowed n count order = list_all (has_inputs n (numbers order)) (numbers (take count order)) ≡ true
