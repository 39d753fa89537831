use Rattle.std.proofs.Common.{◌≡◌, ℕ, ◌<◌, ◌≤◌, length, drop, get_or}
use Rattle.mp_model.specs.Waves.{level, wave}
use Rattle.mp_wave.specs.WaveChanges.{changes_in}
use Rattle.mp_questions.specs.timing.Events.{times_of}
use Rattle.mp_questions.specs.timing.Measures.{setups, stood_for}
use Rattle.mp_questions.specs.timing.Trails.{IsTrail}
use Rattle.mp_questions.proofs.lemmas.timing.ExtremeLemmas.{widened_by_each}
use Rattle.mp_questions.proofs.timing.margins.setups.Given as goal

-- the trail tells of the times of the requests to come, and with these the extremes so far are those of all
abbrev pub invariant-loop-place : goal.invariant-loop-place
invariant-loop-place l = record {
  within : l.place ≤ length (changes_in l.requests);
  trail : (j : ℕ) → l.place ≤ j → j < length (changes_in l.requests) → IsTrail (wave l.netlist l.fn.payload.0).changes (get_or (changes_in l.requests) j (0, 0)).0 l.trail;
  found : widened_by_each (stood_for (level l.netlist l.fn.payload.0)) l.found (drop l.place (changes_in l.requests)) ≡ setups (level l.netlist l.fn.payload.0) (times_of (changes_in l.requests));
}
