use Rattle.std.proofs.Common.{◌+◌, ◌∙◌}
use Rattle.mp_modules.proofs.lemmas.storage.WidthLemmas.{wraps}
use Rattle.mp_modules.proofs.storage.function_module.wrapping_sum.Goals as goal

pub returns : goal.returns
returns c = c.low_bits.ensures ∙ wraps (c.args.a + c.args.b) c.args.width
