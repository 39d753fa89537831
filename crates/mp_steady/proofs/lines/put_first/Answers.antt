use Rattle.std.proofs.Common.{ap}
use Rattle.mp_questions.proofs.lemmas.causes.WhyLemmas.{puts_text}
use Rattle.mp_steady.specs.SteadyLines.{repeats_line}
use Rattle.mp_steady.proofs.lines.put_first.Goals as goal

pub returns : goal.returns
returns g c = puts_text (ap (λ from. repeats_line c.args.words.before.now from c.args.of.units) c.start-from.ensures) c.put_to.ensures
