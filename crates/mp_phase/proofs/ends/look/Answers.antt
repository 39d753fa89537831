use Rattle.std.proofs.Common.{◌∙◌}
use Rattle.mp_phase.proofs.Moves.{pops}
use Rattle.mp_phase.proofs.ends.look.Goals as goal

pub try_recv_as-requires-clause-rule : goal.try_recv_as-requires-clause-rule
try_recv_as-requires-clause-rule g c = (pops g.T.Work.gives _ _ c.requires.asks.0 (c.loop.invariant.same ∙ c.requires.asks.1), λ items views h at. tt)
