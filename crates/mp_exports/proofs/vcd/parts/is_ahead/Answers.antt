use Rattle.mp_exports.proofs.lemmas.vcd.Names.{arith, leb-true, get_or_default}
use Rattle.mp_exports.proofs.vcd.parts.is_ahead.Goals as goal

pub returns-else-place-len-clause-ahead : goal.returns-else-place-len-clause-ahead
returns-else-place-len-clause-ahead c = λ late k d low high. grind (arith, leb-true, get_or_default, (c.requires c.args.place k d low high))
