use Rattle.std.proofs.Common.{◌≡◌, drop}
use Rattle.mp_questions.specs.timing.Measures.{lateness}
use Rattle.mp_questions.proofs.lemmas.timing.ExtremeLemmas.{widened_late}
use Rattle.mp_questions.proofs.timing.margins.lateness.Given as goal

-- with what is late behind it the extremes so far are those of all
abbrev pub invariant-loop-one : goal.invariant-loop-one
invariant-loop-one l = widened_late l.units.from l.units.to l.found (drop l.one-index l.late) ≡ lateness l.units.from l.units.to l.late
