use Rattle.std.proofs.Common.{subst, arith}
use Rattle.mp_questions.specs.timing.Hearing.{HearsPort}
use Rattle.mp_questions.proofs.lemmas.timing.HeardLemmas.{constant_since}
use Rattle.mp_questions.proofs.timing.delayed_input.since.Goals as goal

pub returns-in-None-clause-value : goal.returns-in-None-clause-value
returns-in-None-clause-value c f end hears below = let still = subst (HearsPort f end) c.in-None.is hears in constant_since f 0 c.args.time (λ s low. still s (omega (arith, low, below)))
