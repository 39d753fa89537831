use Rattle.std.proofs.Common.{◌≡◌, ◌+◌, ◌-◌, ◌<◌, ◌≤◌, max, refl, ap, sym, ◌∙◌, arith}
use Rattle.mp_wave.specs.Waveform.{last_from, last_time, level_of}
use Rattle.mp_wave.specs.WaveChanges.{changes_in}
use Rattle.mp_steady.specs.Periods.{repeats_from}
use Rattle.mp_steady.proofs.WaveRepeatLemmas.{apart_at, from_start, looked_back, repeats_before, repeats_low, same_from}
use Rattle.mp_steady.proofs.wave_repeats.repeats_from.Goals as goal

pub loop-late-init : goal.loop-late-init
loop-late-init c =
    let wave = c.args.wave.now in
    record {
      late = c.changes_between-late.ensures.value ∙ from_start (c.args.upto + c.args.units + 1) wave c.requires.form;
      early = c.changes_between-early.ensures.value ∙ from_start (c.args.upto + 1) wave c.requires.form;
      low = omega arith;
      rest = refl;
    }

pub overflow_add-from : goal.overflow_add-from
overflow_add-from c =
    let wave = c.args.wave.now in
    let kept = c.loop-late.invariant in
    let late = changes_in c.loop-late.late in
    let early = changes_in c.loop-late.early in
    let level : last_from wave.initial late ≡ last_from wave.initial early = sym c.level_after.ensures ∙ c.loop-late-test.true ∙ c.level_after-in-loop-late.ensures in
    let is : c.max-from.result ≡ max (last_time 0 late - c.args.units) (last_time 0 early) = omega (arith, c.max-from.ensures, c.saturating_sub-late_from.ensures, c.time_of.ensures, c.time_of-in-loop-late.ensures) in
    let back = same_from wave c.args.units c.loop-late.last c.max-from.result late early c.requires.form kept.late kept.early level is in
    omega (arith, back.low, kept.low, c.requires.short)

pub before-late-requires : goal.before-late-requires
before-late-requires c = omega (arith, c.time_of.ensures, c.saturating_sub-late_from.ensures, c.max-from.ensures)

pub before-early-requires : goal.before-early-requires
before-early-requires c = omega (arith, c.time_of-in-loop-late.ensures, c.max-from.ensures)

pub loop-late-smaller : goal.loop-late-smaller
loop-late-smaller c =
    let wave = c.args.wave.now in
    let kept = c.loop-late.invariant in
    let late = changes_in c.loop-late.late in
    let early = changes_in c.loop-late.early in
    let level : last_from wave.initial late ≡ last_from wave.initial early = sym c.level_after.ensures ∙ c.loop-late-test.true ∙ c.level_after-in-loop-late.ensures in
    let is : c.max-from.result ≡ max (last_time 0 late - c.args.units) (last_time 0 early) = omega (arith, c.max-from.ensures, c.saturating_sub-late_from.ensures, c.time_of.ensures, c.time_of-in-loop-late.ensures) in
    let back = same_from wave c.args.units c.loop-late.last c.max-from.result late early c.requires.form kept.late kept.early level is in
    omega (arith, back.low, c.if-from-least.false)

pub loop-late-preserved : goal.loop-late-preserved
loop-late-preserved c =
    let wave = c.args.wave.now in
    let units = c.args.units in
    let last = c.loop-late.last in
    let from = c.max-from.result in
    let kept = c.loop-late.invariant in
    let late = changes_in c.loop-late.late in
    let early = changes_in c.loop-late.early in
    let level : last_from wave.initial late ≡ last_from wave.initial early = sym c.level_after.ensures ∙ c.loop-late-test.true ∙ c.level_after-in-loop-late.ensures in
    let is : from ≡ max (last_time 0 late - units) (last_time 0 early) = omega (arith, c.max-from.ensures, c.saturating_sub-late_from.ensures, c.time_of.ensures, c.time_of-in-loop-late.ensures) in
    let back = same_from wave units last from late early c.requires.form kept.late kept.early level is in
    let some : 0 < from = omega (arith, c.if-from-least.false) in
    record {
      late = looked_back (from + units) (last + units + 1) (from - 1 + units + 1) wave late (changes_in c.before-late.result) c.requires.form kept.late (omega (arith, back.low)) (omega (arith, some)) c.before-late.ensures;
      early = looked_back from (last + 1) (from - 1 + 1) wave early (changes_in c.before-early.result) c.requires.form kept.early (omega (arith, back.low)) (omega (arith, some)) c.before-early.ensures;
      low = omega (arith, back.low, kept.low);
      rest = ap (max c.args.least) (sym (repeats_before (level_of wave) units from last some back.low back.same)) ∙ kept.rest;
    }

pub returns-then-from-least : goal.returns-then-from-least
returns-then-from-least c =
    let wave = c.args.wave.now in
    let units = c.args.units in
    let last = c.loop-late.last in
    let from = c.max-from.result in
    let kept = c.loop-late.invariant in
    let late = changes_in c.loop-late.late in
    let early = changes_in c.loop-late.early in
    let level : last_from wave.initial late ≡ last_from wave.initial early = sym c.level_after.ensures ∙ c.loop-late-test.true ∙ c.level_after-in-loop-late.ensures in
    let is : from ≡ max (last_time 0 late - units) (last_time 0 early) = omega (arith, c.max-from.ensures, c.saturating_sub-late_from.ensures, c.time_of.ensures, c.time_of-in-loop-late.ensures) in
    let back = same_from wave units last from late early c.requires.form kept.late kept.early level is in
    let low : repeats_from (level_of wave) units last ≤ from = repeats_low (level_of wave) units from last back.low back.same in
    let here : c.args.least ≡ max c.args.least (repeats_from (level_of wave) units last) = omega (arith, low, c.if-from-least.true) in
    here ∙ kept.rest

pub returns : goal.returns
returns c =
    let wave = c.args.wave.now in
    let kept = c.loop-late.invariant in
    let apart = apart_at wave c.args.units c.loop-late.last (changes_in c.loop-late.late) (changes_in c.loop-late.early) c.requires.form kept.late kept.early
    (λ same. c.loop-late-test.false (c.level_after.ensures ∙ same ∙ sym c.level_after-in-loop-late.ensures)) in
    c.max.ensures ∙ ap (max c.args.least) (sym apart) ∙ kept.rest
