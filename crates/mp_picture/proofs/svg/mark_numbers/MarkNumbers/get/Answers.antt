use Rattle.std.proofs.Common.{◌∙◌}
use Rattle.mp_picture.proofs.svg.mark_numbers.MarkNumbers.get.Goals as goal

pub returns : goal.returns
returns c = rw (c.place_key.ensures, c.number.ensures.value) at (c.copied.ensures ∙ c.get.ensures.value)
