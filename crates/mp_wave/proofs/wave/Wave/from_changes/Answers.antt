use Rattle.std.proofs.lemmas.Bool.{false≢true}
use Rattle.mp_wave.proofs.FaultsLemmas.{no_fault}
use Rattle.mp_wave.proofs.wave.Wave.from_changes.Goals as goal

pub returns-in-Some-clause-accepted : goal.returns-in-Some-clause-accepted
returns-in-Some-clause-accepted c = (
  λ wrong. absurd (false≢true wrong),
  λ form. absurd (no_fault c.args.initial c.as_slice.result.now c.in-Some.error c.in-Some.ensures.some (rw c.as_slice.ensures.value form)),
)
