use Rattle.std.proofs.Common.{take, ap, length, arith}
use Rattle.std.proofs.lemmas.List.{length-take-le}
use Rattle.mp_questions.proofs.lemmas.causes.EventLemmas.{events_short}
use Rattle.mp_questions.proofs.causes.cause.events_at.Goals as goal

pub push-requires : goal.push-requires
push-requires c =
    let i = c.loop-input.input-index in
    let a = ap length c.loop-input.invariant in
    let b = events_short c.args.levels.netlist.now c.args.time (take i c.args.inputs.now) in
    let e = length-take-le i c.args.inputs.now (omega arith) in
    omega (arith, a, b, e)
