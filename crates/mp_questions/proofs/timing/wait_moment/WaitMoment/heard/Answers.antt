use Rattle.std.proofs.Common.{refl}
use Rattle.mp_questions.specs.declared.timing.delayed_input.DelayedInput.{DelayedInput}
use Rattle.mp_questions.proofs.lemmas.timing.EarLemmas.{hears_at}
use Rattle.mp_questions.proofs.timing.wait_moment.WaitMoment.heard.Goals as goal

pub returns : goal.returns
returns c =
    let h : DelayedInput = record { wave = c.wave_of.result; delay = c.args.input.delay } in
    hears_at c.args.self.now.netlist.now c.horizon-horizon.ensures.form c.args.input h c.wave_of.ensures refl
