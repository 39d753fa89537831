use Rattle.std.proofs.Common.{◌≡◌, ◌≤◌, length, drop}
use Rattle.std.specs.List.{position_from}
use Rattle.mp_modules.specs.declared.finding_code.FindingCode.{FindingCode}
use Rattle.mp_model.specs.declared.finding.Place.{Place}
use Rattle.mp_picture.specs.declared.svg.mark_rows.MarkRow.{MarkRow}
use Rattle.mp_picture.specs.svg.MarkNumbers.{is_mark, number_of}
use Rattle.mp_picture.proofs.svg.mark_rows.first_rows.Given as goal

-- the first of the rows that are noted
abbrev pub invariant-loop-left : goal.invariant-loop-left
invariant-loop-left l = record {
  within : l.left ≤ length l.rows;
  firsts : (place : Place) (code : FindingCode) → number_of l.firsts place code ≡ position_from (λ (r : MarkRow). is_mark r.place r.code place code) l.left (drop l.left l.rows);
}

abbrev pub decreases-loop-left : goal.decreases-loop-left
decreases-loop-left l = l.left
