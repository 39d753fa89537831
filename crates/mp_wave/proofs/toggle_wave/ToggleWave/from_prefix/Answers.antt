use Rattle.std.proofs.Common.{◌≡◌, ◌≤◌, ◌++◌, ℕ, List, ap, sym, ◌∙◌, subst, arith}
use Rattle.mp_wave.specs.Waveform.{Waveform, earlier_than}
use Rattle.mp_wave.specs.WaveChanges.{changes_in}
use Rattle.mp_wave.specs.ToggleWaves.{times_of, AreTimes, toggle_wave}
use Rattle.mp_wave.proofs.WaveformLemmas.{level_from-before}
use Rattle.mp_wave.proofs.PrefixLemmas.{AreChanges-earlier_than, all_later, kept_low}
use Rattle.mp_wave.proofs.ToggleWaveLemmas.{times_of-rise, toggles_of}
use Rattle.mp_wave.proofs.toggle_wave.ToggleWave.from_prefix.Goals as goal

times_are : (c : goal.After-initial) → c.push_times.new.times.items ≡ times_of (earlier_than c.args.upto c.args.wave.now.changes)
times_are c =
    let wave = c.args.wave.now in
    c.in_ok-push_times.ensures
    ∙ ap (λ (ys : List ℕ). ys ++ times_of (changes_in c.changes_between.result)) c.in_ok-times.ensures.items
    ∙ ap times_of (c.changes_between.ensures.value ∙ ap (earlier_than c.args.upto) (all_later 0 0 wave.initial wave.changes (omega arith) c.initial.ensures.form))

pub invariant_of-result : goal.invariant_of-result
invariant_of-result c =
    let wave = c.args.wave.now in
    let form = c.initial.ensures.form in
    let first : wave.initial ≤ 1 = subst (λ (v : ℕ). v ≤ 1) (level_from-before 0 wave.initial 0 wave.changes form (omega arith)) (c.requires.low 0) in (
      subst (λ (v : ℕ). v ≤ 1) (sym c.initial.ensures.value) first,
      subst (λ (ts : List ℕ). AreTimes 0 ts) (sym (times_are c))
          (times_of-rise 0 wave.initial (earlier_than c.args.upto wave.changes) (AreChanges-earlier_than c.args.upto 0 wave.initial wave.changes form)),
    )

pub returns : goal.returns
returns c =
    let wave = c.args.wave.now in
    let form = c.initial.ensures.form in
    let kept = earlier_than c.args.upto wave.changes in
    ap (λ (level : ℕ). toggle_wave level c.push_times.new.times.items) c.initial.ensures.value
    ∙ ap (λ (ts : List ℕ). toggle_wave wave.initial ts) (times_are c)
    ∙ ap (λ (xs : List (ℕ × ℕ)). let w : Waveform = record { initial = wave.initial; changes = xs } in w)
    (toggles_of 0 wave.initial kept (AreChanges-earlier_than c.args.upto 0 wave.initial wave.changes form)
    (λ t le. kept_low wave c.args.upto t form c.requires.some c.requires.low))
