use Rattle.std.proofs.Common.{ℕ, ◌+◌, ◌-◌, ◌<◌, refl, subst, sym, arith}
use Rattle.std.specs.List.{All}
use Rattle.mp_questions.proofs.lemmas.timing.EventLemmas.{between_below}
use Rattle.mp_wave.specs.WaveChanges.{changes_in}
use Rattle.mp_questions.proofs.lemmas.timing.HeardLemmas.{last_within, since_early, since_some, since_none}
use Rattle.mp_questions.proofs.timing.delayed_input.DelayedInput.since.Goals as goal

pub returns-then-time-self-clause-value : goal.returns-then-time-self-clause-value
returns-then-time-self-clause-value c f end hears below =
    let h = c.args.self in
    since_early h.wave.now hears.form h.delay f c.args.time (λ s low. hears.levels s (omega (arith, low, below))) c.if-time-self.true

pub overflow_add-result : goal.overflow_add-result
overflow_add-result c =
    let h = c.args.self in
    let upto = c.args.time - h.delay in
    let inside = last_within (changes_in c.changes_between.result) (upto + 1)
    (subst (All (λ (x : ℕ × ℕ). x.0 < upto + 1)) (sym c.changes_between.ensures.value) (between_below h.wave.now 0 (upto + 1) (upto + 1) c.changes_between.ensures.form (omega arith)))
    c.in-Some.change c.in-Some.ensures.value in
    let late = c.if-time-self.false in
    let fits = c.ranges.time.fits in
    omega (arith, inside, late, fits)

pub returns-in-Some-clause-within : goal.returns-in-Some-clause-within
returns-in-Some-clause-within c =
    let h = c.args.self in
    let upto = c.args.time - h.delay in
    let inside = last_within (changes_in c.changes_between.result) (upto + 1)
    (subst (All (λ (x : ℕ × ℕ). x.0 < upto + 1)) (sym c.changes_between.ensures.value) (between_below h.wave.now 0 (upto + 1) (upto + 1) c.changes_between.ensures.form (omega arith)))
    c.in-Some.change c.in-Some.ensures.value in
    let late = c.if-time-self.false in
    omega (arith, inside, late)

pub returns-in-Some-clause-value : goal.returns-in-Some-clause-value
returns-in-Some-clause-value c f end hears below =
    let h = c.args.self in
    since_some h.wave.now c.changes_between.ensures.form h.delay f c.args.time (λ s low. hears.levels s (omega (arith, low, below))) (c.args.time - h.delay) refl (changes_in c.changes_between.result) c.changes_between.ensures.value
    c.in-Some.change c.in-Some.ensures.value

pub returns-in-None-clause-value : goal.returns-in-None-clause-value
returns-in-None-clause-value c f end hears below =
    let h = c.args.self in
    since_none h.wave.now c.changes_between.ensures.form h.delay f c.args.time (λ s low. hears.levels s (omega (arith, low, below))) (c.args.time - h.delay) refl (changes_in c.changes_between.result) c.changes_between.ensures.value
    c.in-None.ensures.value
