use Rattle.std.proofs.Common.{◌<◌, ap, ◌∙◌, arith}
use Rattle.mp_netlist.specs.Limits.{checkpoint_units}
use Rattle.mp_netlist.proofs.DelayLemmas.{delays_are_least}
use Rattle.mp_redo.proofs.lemmas.rerun.LastBeginLemmas.{begin_begins, begin_last}
use Rattle.mp_redo.proofs.rerun.idle.last_begin.Goals as goal

pub nonzero_rem-result-2 : goal.nonzero_rem-result-2
nonzero_rem-result-2 c =
    let positive = (delays_are_least c.args.change.now.new.now c.requires.form).positive in
    let least = c.requires.least in
    omega (arith, positive, least)

pub returns-clause-begins : goal.returns-clause-begins
returns-clause-begins c low =
    let other = c.if-time-horizon.false in
    let within = c.requires.within in
    let horizon = c.horizon-horizon.ensures.value in
    let below : c.args.time < c.args.change.now.new.now.horizon = omega (arith, other, within, horizon) in
    begin_begins c.args.change.now.new.now c.requires.form c.args.time c.checkpoint_units.result c.args.change.now.least below (c.checkpoint_units.ensures.value ∙ ap checkpoint_units horizon) c.requires.least

pub returns-clause-last : goal.returns-clause-last
returns-clause-last c =
    let other = c.if-time-horizon.false in
    let within = c.requires.within in
    let horizon = c.horizon-horizon.ensures.value in
    let below : c.args.time < c.args.change.now.new.now.horizon = omega (arith, other, within, horizon) in
    begin_last c.args.change.now.new.now c.requires.form c.args.time c.checkpoint_units.result c.args.change.now.least below (c.checkpoint_units.ensures.value ∙ ap checkpoint_units horizon) c.requires.least
