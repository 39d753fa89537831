use Rattle.std.proofs.Common.{◌≡◌, ◌<◌, ◌≤◌, ℕ, length, slice_index_or, ap, arith}
use Rattle.std.proofs.lemmas.List.{get_or_default}
use Rattle.mp_wave.specs.WaveChanges.{changes_in}
use Rattle.mp_wave.proofs.search.passed_but.Goals as goal

pub returns-then-time_at-time-clause-early : goal.returns-then-time_at-time-clause-early
returns-then-time_at-time-clause-early c = λ k d low less.
    let changes = changes_in c.args.changes in
    let first = c.args.first in
    let here : first < length changes = omega (arith, c.len.ensures, c.if-first-len.true) in
    let at : c.time_at.result ≡ (slice_index_or changes first (0, 0)).0 = c.time_at.ensures in
    let same : (slice_index_or changes first (0, 0)).0 ≡ (slice_index_or changes first d).0 = ap (λ (p : ℕ × ℕ). p.0) (get_or_default changes first (0, 0) d here) in
    let rise : (slice_index_or changes k d).0 ≤ (slice_index_or changes first d).0 = c.requires k first d (omega (arith, less)) here in
    omega (arith, rise, same, at, c.if-time_at-time.true)
