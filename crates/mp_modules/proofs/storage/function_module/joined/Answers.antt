use Rattle.std.proofs.Common.{◌∙◌}
use Rattle.mp_modules.proofs.lemmas.storage.WidthLemmas.{wraps_twice}
use Rattle.mp_modules.proofs.storage.function_module.joined.Goals as goal

pub returns : goal.returns
returns c = c.low_bits.ensures ∙ wraps_twice c.args.a c.args.b c.args.width
