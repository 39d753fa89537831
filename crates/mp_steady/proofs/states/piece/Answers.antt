use Rattle.std.proofs.lemmas.Result.{IfOk-weaker}
use Rattle.mp_steady.proofs.StateLemmas.{heard_piece}
use Rattle.mp_steady.proofs.states.piece.Goals as goal

pub returns : goal.returns
returns c =
    IfOk-weaker c.cut_delayed.result _ _
    (λ piece e. heard_piece c.args.set.of.netlist.now c.horizon-horizon.ensures.form c.args.input c.args.from c.args.to c.wave_of.result.now piece c.wave_of.ensures e c.requires.within)
    c.cut_delayed.ensures.value
