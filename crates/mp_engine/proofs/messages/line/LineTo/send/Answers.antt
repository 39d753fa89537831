use Rattle.mp_engine.proofs.lemmas.messages.LineRuleLemmas.{sends}
use Rattle.mp_engine.proofs.messages.line.LineTo.send.Goals as goal

pub send_as-requires-clause-rule : goal.send_as-requires-clause-rule
send_as-requires-clause-rule g c = (sends _ _ _ _ _ c.args.self.now.sends, λ messages views keeps at. tt)
