use Rattle.std.proofs.Common.{◌-◌, ap, sym, ◌∙◌, arith}
use Rattle.mp_model.specs.Waves.{level}
use Rattle.mp_wave.specs.WaveChanges.{changes_in}
use Rattle.mp_questions.specs.timing.Events.{event_times}
use Rattle.mp_questions.proofs.lemmas.causes.EventLemmas.{last_of as last_in}
use Rattle.mp_steady.proofs.CycleLemmas.{count_is, last_moving, none_last, not_moving}
use Rattle.mp_steady.proofs.cycle.Repeating.last_change.Goals as goal

pub returns-in-None-clause-none : goal.returns-in-None-clause-none
returns-in-None-clause-none c =
    let n = c.args.self.set.of.netlist.now in
    let xs = changes_in c.changes_of.result in
    let count = count_is xs (event_times (level n c.args.wire.0) (n.horizon - c.args.self.units) n.horizon) c.changes_of.ensures.times in
    not_moving n c.args.self.units c.args.narrow c.args.wire.0 (count ∙ none_last xs (sym c.in-None.ensures.value))

pub returns-in-Some-clause-some : goal.returns-in-Some-clause-some
returns-in-Some-clause-some c =
    last_moving c.args.self.set.of.netlist.now c.args.self.units c.args.wire (c.in-Some.time, c.in-Some.level) (omega arith) (sym (ap last_in c.changes_of.ensures.value) ∙ sym c.in-Some.ensures.value)
