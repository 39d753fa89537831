use Rattle.std.proofs.Common.{arith}
use Rattle.mp_wave.specs.WaveChanges.{changes_in}
use Rattle.mp_questions.proofs.lemmas.timing.HeardLemmas.{change_in, quiet_before, quiet_without}
use Rattle.mp_questions.proofs.timing.delayed_input.DelayedInput.next.Goals as goal

pub overflow_add-result : goal.overflow_add-result
overflow_add-result c =
    let h = c.args.self in
    let a = c.saturating_sub-from.ensures in
    let b = c.saturating_sub-to.ensures in
    let inside =
    change_in h.wave.now c.changes_between.ensures.form h.delay (λ t. t) c.args.time c.args.end c.saturating_sub-from.result c.saturating_sub-to.result a b (changes_in c.changes_between.result) c.changes_between.ensures.value
    c.in-Some.change c.in-Some.ensures.value in
    let below = inside.1 in
    let end = c.ranges.end.fits in
    omega (arith, below, b, end)

pub returns-in-Some-clause-within : goal.returns-in-Some-clause-within
returns-in-Some-clause-within c =
    let h = c.args.self in
    let a = c.saturating_sub-from.ensures in
    let b = c.saturating_sub-to.ensures in
    let inside =
    change_in h.wave.now c.changes_between.ensures.form h.delay (λ t. t) c.args.time c.args.end c.saturating_sub-from.result c.saturating_sub-to.result a b (changes_in c.changes_between.result) c.changes_between.ensures.value
    c.in-Some.change c.in-Some.ensures.value in
    let below = inside.1 in
    omega (arith, below, b)

pub returns-in-Some-clause-later : goal.returns-in-Some-clause-later
returns-in-Some-clause-later c some =
    let h = c.args.self in
    let a = c.saturating_sub-from.ensures in
    let b = c.saturating_sub-to.ensures in
    let inside =
    change_in h.wave.now c.changes_between.ensures.form h.delay (λ t. t) c.args.time c.args.end c.saturating_sub-from.result c.saturating_sub-to.result a b (changes_in c.changes_between.result) c.changes_between.ensures.value
    c.in-Some.change c.in-Some.ensures.value in
    let above = inside.0 in
    omega (arith, above, a)

pub returns-in-Some-clause-quiet : goal.returns-in-Some-clause-quiet
returns-in-Some-clause-quiet c f most t hears le low high =
    let h = c.args.self in
    let form = c.changes_between.ensures.form in
    let a = c.saturating_sub-from.ensures in
    let b = c.saturating_sub-to.ensures in
    let change = c.in-Some.change in
    let inside =
    change_in h.wave.now form h.delay f c.args.time c.args.end c.saturating_sub-from.result c.saturating_sub-to.result a b (changes_in c.changes_between.result) c.changes_between.ensures.value change c.in-Some.ensures.value in
    let below = inside.1 in
    quiet_before h.wave.now form h.delay f c.args.time c.args.end c.saturating_sub-from.result c.saturating_sub-to.result a b (changes_in c.changes_between.result) c.changes_between.ensures.value most t hears.levels le low
    (omega (arith, high, below, b)) change c.in-Some.ensures.value high

pub returns-in-None-clause-quiet : goal.returns-in-None-clause-quiet
returns-in-None-clause-quiet c f most t hears le low high =
    let h = c.args.self in
    quiet_without h.wave.now c.changes_between.ensures.form h.delay f c.args.time c.args.end c.saturating_sub-from.result c.saturating_sub-to.result c.saturating_sub-from.ensures c.saturating_sub-to.ensures
    (changes_in c.changes_between.result) c.changes_between.ensures.value most t hears.levels le low high c.in-None.ensures.value
