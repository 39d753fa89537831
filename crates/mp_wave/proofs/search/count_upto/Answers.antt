use Rattle.std.proofs.Common.{◌≡◌, ℕ, ◌-◌, ◌≤◌, ◌<◌, true, List, nat_le, slice_index_or, length, ap, arith}
use Rattle.std.specs.List.Sorted.{IsNonDecreasingBy}
use Rattle.std.proofs.lemmas.Bool.{le-leb}
use Rattle.std.proofs.lemmas.List.{get_or_default}
use Rattle.mp_wave.specs.WaveChanges.{changes_in}
use Rattle.mp_wave.proofs.search.count_upto.Goals as goal

-- what comes before a change that isn't later than a time isn't either
upto : (changes : List (ℕ × ℕ)) (time place k : ℕ) (d : ℕ × ℕ) → IsNonDecreasingBy (λ (c : ℕ × ℕ). c.0) changes → place < length changes → k ≤ place
    → (slice_index_or changes place (0, 0)).0 ≤ time → nat_le (slice_index_or changes k d).0 time ≡ true
upto changes time place k d rises within low early =
    let same = ap (λ (c : ℕ × ℕ). c.0) (get_or_default changes place d (0, 0) within) in
    let rise = rises k place d low within in
    le-leb _ time (omega (arith, rise, same, early))

same_place : (changes : List (ℕ × ℕ)) (one other : ℕ) → one ≡ other → (slice_index_or changes one (0, 0)).0 ≡ (slice_index_or changes other (0, 0)).0
same_place changes one other same = ap (λ (k : ℕ). (slice_index_or changes k (0, 0)).0) same

pub returns-then-time-time_at-2-clause-early : goal.returns-then-time-time_at-2-clause-early
returns-then-time-time_at-2-clause-early c = λ k d low less.
    let count = length (changes_in c.args.changes) in
    upto (changes_in c.args.changes) c.args.time (count - 2) k d c.requires (omega (arith, c.if-count-lt2.false)) (omega (arith, less)) (let low = c.if-time-time_at.false in let at = c.time_at.ensures in let n = c.len-count.ensures in omega (arith, low, at, same_place (changes_in c.args.changes) (c.len-count.result - 2) (count - 2) (omega (arith, n))))

pub returns-else-time-time_at-2-clause-early : goal.returns-else-time-time_at-2-clause-early
returns-else-time-time_at-2-clause-early c = λ k d low less.
    let count = length (changes_in c.args.changes) in
    upto (changes_in c.args.changes) c.args.time (count - 1) k d c.requires (omega (arith, c.if-count-lt2.false)) (omega (arith, less)) (let low = c.if-time-time_at-2.false in let at = c.time_at-2.ensures in let n = c.len-count.ensures in omega (arith, low, at, same_place (changes_in c.args.changes) (c.len-count.result - 1) (count - 1) (omega (arith, n))))
