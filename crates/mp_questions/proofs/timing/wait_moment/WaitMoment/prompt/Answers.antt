use Rattle.std.proofs.Common.{refl}
use Rattle.mp_questions.specs.declared.timing.delayed_input.DelayedInput.{DelayedInput}
use Rattle.mp_questions.proofs.lemmas.timing.EarLemmas.{hears_wire}
use Rattle.mp_questions.proofs.timing.wait_moment.WaitMoment.prompt.Goals as goal

pub returns : goal.returns
returns c =
    let h : DelayedInput = record { wave = c.wave_of.result; delay = 0 } in
    hears_wire c.args.self.now.netlist.now c.args.wire.0 h c.wave_of.ensures refl
