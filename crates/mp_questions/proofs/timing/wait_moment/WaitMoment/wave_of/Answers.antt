use Rattle.std.proofs.Common.{sym}
use Rattle.mp_questions.proofs.lemmas.causes.EventLemmas.{wave_is}
use Rattle.mp_questions.proofs.timing.wait_moment.WaitMoment.wave_of.Goals as goal

pub returns : goal.returns
returns c = let at = c.args.self.now in wave_is at.netlist.now at.waves.now c.args.wire.0 c.in-Some.wave.now at.are_waves (sym c.in-Some.ensures)
