use Rattle.mp_exports.proofs.lemmas.vcd.Names.{◌-◌, ◌<◌, ◌≤◌, ℕ, length, AllWithin, changes_in}
use Rattle.mp_exports.proofs.vcd.parts.count_before.Given as goal

-- the changes so far are earlier
abbrev pub invariant-loop-count : goal.invariant-loop-count
invariant-loop-count l = record {
  within : l.count ≤ length (changes_in l.changes);
  over : AllWithin (λ (c : ℕ × ℕ). c.0 < l.time) (changes_in l.changes) 0 l.count;
}

abbrev pub decreases-loop-count : goal.decreases-loop-count
decreases-loop-count l = length (changes_in l.changes) - l.count
