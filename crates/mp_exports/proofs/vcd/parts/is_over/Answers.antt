use Rattle.mp_exports.proofs.lemmas.vcd.Names.{◌-◌, arith, ltb-true, get_or_default}
use Rattle.mp_exports.proofs.vcd.parts.is_over.Goals as goal

pub returns-else-place-eq0 : goal.returns-else-place-eq0
returns-else-place-eq0 c = λ early k d low high. grind (arith, ltb-true, get_or_default, (c.requires.sorted k (c.args.place - 1) d (omega arith) (omega arith)))
