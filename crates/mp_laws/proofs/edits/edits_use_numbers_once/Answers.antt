use Rattle.mp_laws.proofs.NumberLemmas.{edits_use_numbers_once}
use Rattle.mp_laws.proofs.edits.edits_use_numbers_once.Goals as goal

pub returns : goal.returns
returns c = edits_use_numbers_once
