use Rattle.std.proofs.Common.{subst}
use Rattle.mp_questions.specs.timing.Hearing.{HearsPort}
use Rattle.mp_questions.proofs.timing.delayed_input.next.Goals as goal

pub returns-in-Some-clause-quiet : goal.returns-in-Some-clause-quiet
returns-in-Some-clause-quiet c f most t hears le low high = c.next.ensures.quiet f most t (subst (HearsPort f most) c.in-Some.is hears) le low high
