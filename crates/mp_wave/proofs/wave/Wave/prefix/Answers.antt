use Rattle.std.proofs.Common.{ℕ, List, length, ap, sym, ◌∙◌, arith}
use Rattle.mp_wave.specs.Waveform.{Waveform, kept_before}
use Rattle.mp_wave.specs.WaveChanges.{changes_in}
use Rattle.mp_wave.proofs.WaveformLemmas.{IsNonDecreasingBy-changes}
use Rattle.mp_wave.proofs.HeldLemmas.{length_held, front_is, front_held}
use Rattle.mp_wave.proofs.wave.Wave.prefix.Goals as goal

pub count_before-count-requires : goal.count_before-count-requires
count_before-count-requires c =
    rw c.changes.ensures.value (IsNonDecreasingBy-changes 0 c.args.self.now.initial c.args.self.now.changes c.changes.ensures.form)

pub front-requires : goal.front-requires
front-requires c initial =
    let same = ap length (c.changes.ensures.value ∙ sym (ap (λ (w : Waveform). w.changes) c.self.view_is)) in
    let alike = length_held initial c.self.inside.initial c.self.inside.held in
    omega (arith, same, alike, c.count_before-count.ensures.bound)

pub invariant_of-result : goal.invariant_of-result
invariant_of-result c =
    let initial = c.self.inside.initial in
    let held = c.self.inside.held in
    let front = c.in_ok-front.field-0 in
    let n = c.count_before-count.ensures in
    front_held c.args.upto initial held front
    (front_is c.args.upto c.count_before-count.result initial (changes_in c.changes.result) held front (c.changes.ensures.value ∙ sym (ap (λ (w : Waveform). w.changes) c.self.view_is)) n.bound n.early n.late
    (c.in_ok-front.ensures.value initial))
    (c.in_ok-front.ensures.low initial c.self.invariant.low) c.self.invariant

pub returns : goal.returns
returns c =
    let initial = c.self.inside.initial in
    let held = c.self.inside.held in
    let front = c.in_ok-front.field-0 in
    let n = c.count_before-count.ensures in
    ap (λ (xs : List (ℕ × ℕ)). let w : Waveform = record { initial = initial; changes = xs } in w)
    (front_is c.args.upto c.count_before-count.result initial (changes_in c.changes.result) held front (c.changes.ensures.value ∙ sym (ap (λ (w : Waveform). w.changes) c.self.view_is)) n.bound n.early n.late
    (c.in_ok-front.ensures.value initial))
    ∙ ap (kept_before c.args.upto) c.self.view_is
