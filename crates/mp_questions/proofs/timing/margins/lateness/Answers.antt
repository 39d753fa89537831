use Rattle.std.proofs.Common.{◌+◌, drop, Option, sym, ap, ◌∙◌}
use Rattle.std.proofs.lemmas.List.{at_drop_more}
use Rattle.mp_questions.specs.declared.timing.extremes.Extremes.{Extremes}
use Rattle.mp_questions.specs.declared.late.late.Late.{Late}
use Rattle.mp_questions.specs.timing.Extremes.{widened_by}
use Rattle.mp_questions.proofs.lemmas.timing.ExtremeLemmas.{widened_late, late_extreme}
use Rattle.mp_questions.proofs.timing.margins.lateness.Goals as goal

abbrev none : Late
none = record { time = 0; bundle = record { 0 = 0 }; units = 0 }

pub loop-one-init : goal.loop-one-init
loop-one-init c = late_extreme c.args.units.from c.args.units.to c.args.late.now

pub loop-one-preserved : goal.loop-one-preserved
loop-one-preserved c =
    let from = c.args.units.from in
    let to = c.args.units.to in
    let late = c.args.late.now in
    let k = c.loop-one.one-index in
    ap (λ (e : Option Extremes). widened_late from to e (drop (k + 1) late)) (c.widened_by-found.ensures ∙ ap (widened_by c.loop-one.found) c.units_within.ensures)
    ∙ sym (at_drop_more (widened_late from to c.loop-one.found) late k none c.loop-one-test.true)
    ∙ c.loop-one.invariant
