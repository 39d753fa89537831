use Rattle.std.proofs.Common.{◌+◌, ◌-◌, ◌^◌, ◌∙◌}
use Rattle.mp_modules.proofs.lemmas.storage.WidthLemmas.{wraps}
use Rattle.mp_modules.proofs.storage.function_module.wrapping_difference.Goals as goal

pub returns : goal.returns
returns c = c.low_bits.ensures ∙ wraps (c.args.a + (2 ^ 64 - c.args.b)) c.args.width
