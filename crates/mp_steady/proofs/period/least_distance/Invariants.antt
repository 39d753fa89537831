use Rattle.std.proofs.Common.{◌≡◌, ℕ, ◌-◌, ◌≤◌, false}
use Rattle.mp_wave.specs.Faults.{pair_at}
use Rattle.mp_wave.specs.WaveChanges.{changes_in}
use Rattle.mp_steady.specs.Periods.{repeats}
use Rattle.mp_steady.specs.WireSets.{numbers}
use Rattle.mp_steady.proofs.period.least_distance.Given as goal

-- no number of units up to the time from the last change that was looked at is a period
abbrev pub invariant-loop-back : goal.invariant-loop-back
invariant-loop-back l = record {
  set : l.trial.set ≡ l.fn.trial.set;
  times : l.trial.times ≡ l.fn.trial.times;
  none : (units : ℕ) → 1 ≤ units → units ≤ (pair_at (changes_in l.changes) l.last).0 - (pair_at (changes_in l.changes) (l.last - l.back)).0
      → repeats l.fn.trial.set.of.netlist.now (numbers l.fn.trial.set.wires.now) units ≡ false;
}
