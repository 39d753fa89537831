use Rattle.std.proofs.Common.{◌≡◌, ◌-◌, ◌<◌, ◌≤◌, ℕ, length, slice_index_or, ap, arith}
use Rattle.std.proofs.lemmas.Bool.{lt-ltb}
use Rattle.std.proofs.lemmas.List.{get_or_default}
use Rattle.mp_wave.specs.WaveChanges.{changes_in}
use Rattle.mp_wave.proofs.search.count_before.Goals as goal

pub returns-then-time_at-time-clause-early : goal.returns-then-time_at-time-clause-early
returns-then-time_at-time-clause-early c = λ k d low less.
    let changes = changes_in c.args.changes in
    let last = c.len-count.result - 1 in
    let here : last < length changes = omega (arith, c.len-count.ensures, c.if-count-gt0.true) in
    let at : c.time_at.result ≡ (slice_index_or changes last (0, 0)).0 = c.time_at.ensures in
    let same : (slice_index_or changes last (0, 0)).0 ≡ (slice_index_or changes last d).0 = ap (λ (p : ℕ × ℕ). p.0) (get_or_default changes last (0, 0) d here) in
    let rise : (slice_index_or changes k d).0 ≤ (slice_index_or changes last d).0 = c.requires k last d (omega (arith, less)) here in
    lt-ltb _ c.args.time (omega (arith, rise, same, at, c.if-time_at-time.true))
