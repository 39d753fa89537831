use Rattle.mp_modules.proofs.ToggleLemmas.{dot_has_half, blank_has_half}
use Rattle.mp_modules.proofs.laws.toggle_steers_in_turn.Goals as goal

pub returns-clause-dot : goal.returns-clause-dot
returns-clause-dot c = dot_has_half

pub returns-clause-blank : goal.returns-clause-blank
returns-clause-blank c = blank_has_half
