use Rattle.std.proofs.lemmas.Bool.{eqb-true}
use Rattle.mp_redo.proofs.parts.least.is_after.Goals as goal

pub returns-in-Some : goal.returns-in-Some
returns-in-Some c = λ yes. record { wire = c.in-Some.field-0.0; at = c.in-Some.is; same = eqb-true c.args.output.delay c.args.delay yes }
