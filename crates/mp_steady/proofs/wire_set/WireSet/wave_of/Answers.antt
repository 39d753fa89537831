use Rattle.std.proofs.Common.{sym}
use Rattle.mp_questions.proofs.lemmas.causes.EventLemmas.{wave_is}
use Rattle.mp_steady.proofs.wire_set.WireSet.wave_of.Goals as goal

pub returns : goal.returns
returns c = let of = c.args.self.of in wave_is of.netlist.now of.waves.now c.args.wire.0 c.in-Some.wave.now of.are_waves (sym c.in-Some.ensures)
