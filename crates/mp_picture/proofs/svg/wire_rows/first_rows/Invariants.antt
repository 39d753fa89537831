use Rattle.std.proofs.Common.{◌≡◌, ◌≤◌, ◌==◌, ℕ, length, drop}
use Rattle.std.specs.BTreeMap.{get}
use Rattle.std.specs.List.{position_from}
use Rattle.std.specs.Ordering.{nat_cmp}
use Rattle.mp_records.specs.declared.ids.WireId.{WireId}
use Rattle.mp_picture.proofs.svg.wire_rows.first_rows.Given as goal

-- the first of the rows that are noted
abbrev pub invariant-loop-left : goal.invariant-loop-left
invariant-loop-left l = record {
  within : l.left ≤ length l.wires;
  firsts : (w : ℕ) → get nat_cmp l.firsts w ≡ position_from (λ (v : WireId). v.0 == w) l.left (drop l.left l.wires);
}

abbrev pub decreases-loop-left : goal.decreases-loop-left
decreases-loop-left l = l.left
