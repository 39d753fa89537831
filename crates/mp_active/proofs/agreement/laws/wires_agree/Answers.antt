use Rattle.mp_active.proofs.lemmas.agreement.SourceLemmas.{sleepers_drive_alike, wires_agree}
use Rattle.mp_active.proofs.agreement.laws.wires_agree.Goals as goal

pub returns : goal.returns
returns c = record { sleepers = sleepers_drive_alike; wires = wires_agree }
