use Rattle.std.proofs.Common.{ℕ, List, sym, subst, ◌∙◌, arith}
use Rattle.std.specs.List.Sorted.{IsNonDecreasingBy}
use Rattle.mp_wave.proofs.WaveformLemmas.{IsNonDecreasingBy-changes}
use Rattle.mp_questions.proofs.lemmas.late.LastLemmas.{last_before, last_found, no_found, none_upto}
use Rattle.mp_questions.proofs.late.change_counts.ChangeCounts.last_between.Goals as goal

pub count_upto-count-requires : goal.count_upto-count-requires
count_upto-count-requires c =
    subst (λ (xs : List (ℕ × ℕ)). IsNonDecreasingBy (λ (p : ℕ × ℕ). p.0) xs) (sym c.changes-changes.ensures.value)
    (IsNonDecreasingBy-changes 0 c.in_ok-wave.wave.now.initial c.in_ok-wave.wave.now.changes c.changes-changes.ensures.form)

pub returns-in_err-wave : goal.returns-in_err-wave
returns-in_err-wave c = c.from_residual.ensures ∙ no_found c.args.of.netlist.now c.requires.form c.args.of.waves.now c.args.wire.0 c.args.from c.args.upto c.args.of.are_waves (sym c.in_err-wave.ensures)

pub returns-then-count-eq0 : goal.returns-then-count-eq0
returns-then-count-eq0 c =
    none_upto c.args.of.netlist.now c.args.of.waves.now c.args.wire.0 c.in_ok-wave.wave.now c.args.upto c.args.of.are_waves (sym c.in_ok-wave.ensures) c.requires.within _ c.changes-changes.ensures.value
    c.count_upto-count.result c.count_upto-count.ensures.value c.args.from c.if-count-eq0.true

pub returns-then-time-from : goal.returns-then-time-from
returns-then-time-from c =
    last_before c.args.of.netlist.now c.args.of.waves.now c.args.wire.0 c.in_ok-wave.wave.now c.args.upto c.args.of.are_waves (sym c.in_ok-wave.ensures) c.requires.within _ c.changes-changes.ensures.value
    c.count_upto-count.result c.count_upto-count.ensures.value c.args.from c.time_at-time.result (omega (arith, c.if-count-eq0.false)) c.count_upto-count.ensures.within c.time_at-time.ensures c.if-time-from.true

pub returns-else-time-from : goal.returns-else-time-from
returns-else-time-from c =
    last_found c.args.of.netlist.now c.args.of.waves.now c.args.wire.0 c.in_ok-wave.wave.now c.args.upto c.args.of.are_waves (sym c.in_ok-wave.ensures) c.requires.within _ c.changes-changes.ensures.value
    c.count_upto-count.result c.count_upto-count.ensures.value c.args.from c.time_at-time.result (omega (arith, c.if-count-eq0.false)) c.count_upto-count.ensures.within c.time_at-time.ensures c.if-time-from.false
