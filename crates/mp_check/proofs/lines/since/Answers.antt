use Rattle.std.proofs.Common.{ap, sym, ◌∙◌}
use Rattle.mp_model.specs.Waves.{level}
use Rattle.mp_questions.specs.timing.Events.{since}
use Rattle.mp_check.specs.Dead.{last_unit}
use Rattle.mp_check.proofs.LineLemmas.{unset_since}
use Rattle.mp_check.proofs.lines.since.Goals as goal

pub returns-in-Some : goal.returns-in-Some
returns-in-Some c =
    let at = c.args.end.now.at in
    let n = at.netlist.now in
    c.since.ensures.value (level n c.args.wire.0) n.horizon c.prompt.ensures at.within ∙ ap (since (level n c.args.wire.0)) c.args.end.now.last

pub returns-in-None : goal.returns-in-None
returns-in-None c =
    let n = c.args.end.now.at.netlist.now in
    sym (unset_since n c.horizon-horizon.ensures.form c.args.wire.0 (last_unit n) (sym c.in-None.ensures.value))
