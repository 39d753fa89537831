use Rattle.std.proofs.Common.{ap}
use Rattle.std.specs.BTreeMap.{is_at}
use Rattle.std.specs.Map.{lookup}
use Rattle.mp_picture.specs.PlaceKeys.{numbered_order}
use Rattle.mp_picture.specs.svg.MarkNumbers.{mark_key}
use Rattle.mp_picture.proofs.svg.mark_numbers.MarkNumbers.new.Goals as goal

pub returns : goal.returns
returns c = λ place code. ap (lookup (is_at (numbered_order (mark_key place code)))) c.new.ensures.empty
