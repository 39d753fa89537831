use Rattle.std.proofs.Common.{◌≡◌, ◌+◌, Some, None, sym, ap, ◌∙◌, arith}
use Rattle.mp_wave.specs.Waveform.{between}
use Rattle.mp_questions.specs.timing.Ranges.{read_time}
use Rattle.mp_questions.proofs.lemmas.causes.ChainLemmas.{last_change_is}
use Rattle.mp_questions.proofs.lemmas.causes.EventLemmas.{last_of, last_found, no_last_change}
use Rattle.mp_questions.proofs.causes.levels.Levels.last_change.Goals as goal

pub returns-in-Some-last-clause-value : goal.returns-in-Some-last-clause-value
returns-in-Some-last-clause-value c =
    let n = c.args.self.netlist.now in
    let t = read_time n.horizon c.args.moment.time in
    let time : c.read_time-end.result ≡ t = c.read_time-end.ensures.value ∙ ap (λ h. read_time h c.args.moment.time) c.horizon.ensures.value in
    last_found n c.horizon.ensures.form c.args.self.waves.now c.args.moment.wire c.in-Some.wave.now t (Some (c.in-Some-last.time, c.in-Some-last.level)) c.args.self.are_waves (sym c.in-Some.ensures) (omega (arith, c.horizon.ensures.low, c.horizon.ensures.value))
    (ap (λ k. last_of (between 0 (k + 1) c.in-Some.wave.now.changes)) (sym time) ∙ ap last_of (sym c.changes_between.ensures.value) ∙ sym c.in-Some-last.ensures.value)

pub returns-in-Some-last-clause-from : goal.returns-in-Some-last-clause-from
returns-in-Some-last-clause-from c =
    let n = c.args.self.netlist.now in
    (last_change_is n c.args.moment.wire (read_time n.horizon c.args.moment.time) _ (sym (returns-in-Some-last-clause-value c))).from

pub returns-in-Some-last-clause-within : goal.returns-in-Some-last-clause-within
returns-in-Some-last-clause-within c =
    let n = c.args.self.netlist.now in
    let within = (last_change_is n c.args.moment.wire (read_time n.horizon c.args.moment.time) _ (sym (returns-in-Some-last-clause-value c))).within in
    omega (arith, within, c.horizon.ensures.low, c.horizon.ensures.value)

pub returns-in-None-last-clause-value : goal.returns-in-None-last-clause-value
returns-in-None-last-clause-value c =
    let n = c.args.self.netlist.now in
    let t = read_time n.horizon c.args.moment.time in
    let time : c.read_time-end.result ≡ t = c.read_time-end.ensures.value ∙ ap (λ h. read_time h c.args.moment.time) c.horizon.ensures.value in
    last_found n c.horizon.ensures.form c.args.self.waves.now c.args.moment.wire c.in-Some.wave.now t None c.args.self.are_waves (sym c.in-Some.ensures) (omega (arith, c.horizon.ensures.low, c.horizon.ensures.value))
    (ap (λ k. last_of (between 0 (k + 1) c.in-Some.wave.now.changes)) (sym time) ∙ ap last_of (sym c.changes_between.ensures.value) ∙ sym c.in-None-last.ensures.value)

pub returns-in-None-clause-value : goal.returns-in-None-clause-value
returns-in-None-clause-value c =
    let n = c.args.self.netlist.now in
    no_last_change n c.horizon.ensures.form c.args.self.waves.now c.args.moment.wire (read_time n.horizon c.args.moment.time) c.args.self.are_waves (sym c.in-None.ensures)
