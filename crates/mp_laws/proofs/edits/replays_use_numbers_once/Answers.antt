use Rattle.mp_laws.proofs.NumberLemmas.{replays_use_numbers_once}
use Rattle.mp_laws.proofs.edits.replays_use_numbers_once.Goals as goal

pub returns : goal.returns
returns c = replays_use_numbers_once
