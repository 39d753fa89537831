use Rattle.std.proofs.Common.{ℕ, ◌<◌, sym, ap, subst, ◌∙◌, arith}
use Rattle.std.specs.List.{All}
use Rattle.std.specs.List.Sorted.{IsNonDecreasingBy}
use Rattle.mp_wave.specs.Waveform.{between, level_of}
use Rattle.mp_wave.proofs.WaveformLemmas.{IsNonDecreasingBy-changes}
use Rattle.mp_wave.proofs.PrefixLemmas.{AreChanges-between}
use Rattle.mp_model.specs.Waves.{level}
use Rattle.mp_questions.specs.timing.Events.{times_of}
use Rattle.mp_questions.proofs.lemmas.timing.EventLemmas.{times_within, between_below}
use Rattle.mp_questions.proofs.lemmas.causes.EventLemmas.{wave_level}
use Rattle.mp_questions.proofs.timing.events.events_within.Goals as goal

pub returns-clause-times : goal.returns-clause-times
returns-clause-times c =
    let n = c.args.netlist.now in
    let w = c.args.wire.0 in
    let v = c.in-Some.wave.now in
    let within = c.requires.within in
    ap times_of (c.changes_between.ensures.value ∙ ap (λ a. between a c.args.units.to v.changes) c.saturating_sub.ensures)
    ∙ times_within (level n w) v c.args.units.from c.args.units.to c.changes_between.ensures.form (λ t below. wave_level n c.args.waves.now w v c.requires.waves (sym c.in-Some.ensures) t (omega (arith, below, within)))

pub returns-clause-rising : goal.returns-clause-rising
returns-clause-rising c =
    let v = c.in-Some.wave.now in
    let from = c.saturating_sub.result in
    let to = c.args.units.to in
    subst (IsNonDecreasingBy (λ (x : ℕ × ℕ). x.0)) (sym c.changes_between.ensures.value)
    (IsNonDecreasingBy-changes from (level_of v from) (between from to v.changes) (AreChanges-between v from to c.changes_between.ensures.form))

pub returns-clause-within : goal.returns-clause-within
returns-clause-within c =
    let v = c.in-Some.wave.now in
    let n = c.args.netlist.now in
    subst (All (λ (x : ℕ × ℕ). x.0 < n.horizon)) (sym c.changes_between.ensures.value)
    (between_below v c.saturating_sub.result c.args.units.to n.horizon c.changes_between.ensures.form c.requires.within)
