use Rattle.mp_picture.proofs.EventLemmas.{tells_events}
use Rattle.mp_picture.proofs.laws.tells_events.Goals as goal

pub returns : goal.returns
returns c = tells_events
