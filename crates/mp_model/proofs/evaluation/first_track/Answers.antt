use Rattle.mp_netlist.proofs.LimitLemmas.{horizon_within}
use Rattle.mp_model.proofs.EndsLemmas.{stimulus_held}
use Rattle.mp_model.proofs.evaluation.first_track.Goals as goal

pub new-requires : goal.new-requires
new-requires c =
    let r = c.in-Some.record.now in
    stimulus_held c.args.netlist.now.horizon r.width r.stimulus (horizon_within _ c.requires) c.in-Some.ensures.form.stimulus
