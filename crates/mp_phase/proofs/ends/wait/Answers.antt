use Rattle.std.proofs.Common.{◌∙◌}
use Rattle.mp_phase.proofs.Moves.{pops}
use Rattle.mp_phase.proofs.ends.wait.Goals as goal

pub recv_as-requires-clause-rule : goal.recv_as-requires-clause-rule
recv_as-requires-clause-rule g c = (pops g.T.Work.gives _ _ c.requires.asks.0 (c.loop.invariant.same ∙ c.requires.asks.1), λ items views h at. tt)
