use Rattle.std.proofs.Common.{◌≡◌, take}
use Rattle.std.specs.List.{filter_map}
use Rattle.mp_wave.specs.WaveChanges.{changes_in}
use Rattle.mp_questions.specs.late.Searching.{late_then}
use Rattle.mp_questions.proofs.lemmas.late.BundleLemmas.{times}
use Rattle.mp_questions.proofs.late.bundles.late_among.Given as goal

-- those of the changes so far
abbrev pub invariant-loop-place : goal.invariant-loop-place
invariant-loop-place l = (l.search.of ≡ l.of) × (l.late.items ≡ filter_map (late_then l.of.netlist.now l.id.0 l.bundle) (times (take l.place (changes_in l.changes))))
