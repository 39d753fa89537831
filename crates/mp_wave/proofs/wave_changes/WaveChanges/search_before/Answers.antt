use Rattle.std.proofs.Common.{◌≡◌, ◌≤◌, ℕ, true, false, nat_lt, length, rules, of_calls, sym, subst, arith}
use Rattle.std.specs.List.Sorted.{IsNonDecreasingBy, IsPartitionPoint}
use Rattle.std.proofs.lemmas.Fn.{always_returns_same}
use Rattle.std.proofs.lemmas.List.Sorted.{IsPartitionedBy-ltb}
use Rattle.mp_wave.specs.declared.wave_changes.WaveChanges.{WaveChanges}
use Rattle.mp_wave.specs.WaveChanges.{changes_in}
use Rattle.mp_wave.proofs.WaveChangesLemmas.{length_toggles, times_rise, parted_toggles}
use Rattle.mp_wave.proofs.wave_changes.WaveChanges.search_before.Goals as goal

abbrev Rises : WaveChanges → Type 0
Rises changes = IsNonDecreasingBy (λ (p : ℕ × ℕ). p.0) (changes_in changes)

abbrev IsParted : ℕ → WaveChanges → ℕ → Type 0
IsParted time changes count = IsPartitionPoint (λ (p : ℕ × ℕ). nat_lt p.0 time ≡ true) (λ (p : ℕ × ℕ). nat_lt p.0 time ≡ false) (changes_in changes) count

pub returns-in-Toggles-clause-bound : goal.returns-in-Toggles-clause-bound
returns-in-Toggles-clause-bound c =
    subst (λ (w : WaveChanges). c.partition_point.result ≤ length (changes_in w)) (sym c.in-Toggles.is) (omega (arith, c.partition_point.ensures.bound, length_toggles c.in-Toggles.level c.in-Toggles.times.now))

pub returns-in-Toggles-clause-early : goal.returns-in-Toggles-clause-early
returns-in-Toggles-clause-early c =
    (subst (λ (w : WaveChanges). IsParted c.args.time w c.partition_point.result) (sym c.in-Toggles.is)
    (parted_toggles (λ (t : ℕ). nat_lt t c.args.time) c.in-Toggles.level c.partition_point.result c.in-Toggles.times.now
    (c.partition_point.ensures.partitioned (λ (t : ℕ). nat_lt t c.args.time) (always_returns_same _ _ _ (λ a r f k. search (rules, of_calls)))
    (IsPartitionedBy-ltb (λ (t : ℕ). t) c.in-Toggles.times.now c.args.time (times_rise c.in-Toggles.level c.in-Toggles.times.now (subst Rises c.in-Toggles.is c.requires)))))).0

pub returns-in-Toggles-clause-late : goal.returns-in-Toggles-clause-late
returns-in-Toggles-clause-late c =
    (subst (λ (w : WaveChanges). IsParted c.args.time w c.partition_point.result) (sym c.in-Toggles.is)
    (parted_toggles (λ (t : ℕ). nat_lt t c.args.time) c.in-Toggles.level c.partition_point.result c.in-Toggles.times.now
    (c.partition_point.ensures.partitioned (λ (t : ℕ). nat_lt t c.args.time) (always_returns_same _ _ _ (λ a r f k. search (rules, of_calls)))
    (IsPartitionedBy-ltb (λ (t : ℕ). t) c.in-Toggles.times.now c.args.time (times_rise c.in-Toggles.level c.in-Toggles.times.now (subst Rises c.in-Toggles.is c.requires)))))).1

pub returns-in-ShortPairs-clause-early : goal.returns-in-ShortPairs-clause-early
returns-in-ShortPairs-clause-early c =
    (subst (λ (w : WaveChanges). IsParted c.args.time w c.partition_point-in-ShortPairs.result) (sym c.in-ShortPairs.is)
    (c.partition_point-in-ShortPairs.ensures.partitioned (λ (p : ℕ × ℕ). nat_lt p.0 c.args.time) (always_returns_same _ _ _ (λ a r f k. search (rules, of_calls)))
    (IsPartitionedBy-ltb (λ (p : ℕ × ℕ). p.0) c.in-ShortPairs.pairs.now c.args.time (subst Rises c.in-ShortPairs.is c.requires)))).0

pub returns-in-ShortPairs-clause-late : goal.returns-in-ShortPairs-clause-late
returns-in-ShortPairs-clause-late c =
    (subst (λ (w : WaveChanges). IsParted c.args.time w c.partition_point-in-ShortPairs.result) (sym c.in-ShortPairs.is)
    (c.partition_point-in-ShortPairs.ensures.partitioned (λ (p : ℕ × ℕ). nat_lt p.0 c.args.time) (always_returns_same _ _ _ (λ a r f k. search (rules, of_calls)))
    (IsPartitionedBy-ltb (λ (p : ℕ × ℕ). p.0) c.in-ShortPairs.pairs.now c.args.time (subst Rises c.in-ShortPairs.is c.requires)))).1

pub returns-in-Pairs-clause-early : goal.returns-in-Pairs-clause-early
returns-in-Pairs-clause-early c =
    (subst (λ (w : WaveChanges). IsParted c.args.time w c.partition_point-in-Pairs.result) (sym c.in-Pairs.is)
    (c.partition_point-in-Pairs.ensures.partitioned (λ (p : ℕ × ℕ). nat_lt p.0 c.args.time) (always_returns_same _ _ _ (λ a r f k. search (rules, of_calls)))
    (IsPartitionedBy-ltb (λ (p : ℕ × ℕ). p.0) c.in-Pairs.pairs.now c.args.time (subst Rises c.in-Pairs.is c.requires)))).0

pub returns-in-Pairs-clause-late : goal.returns-in-Pairs-clause-late
returns-in-Pairs-clause-late c =
    (subst (λ (w : WaveChanges). IsParted c.args.time w c.partition_point-in-Pairs.result) (sym c.in-Pairs.is)
    (c.partition_point-in-Pairs.ensures.partitioned (λ (p : ℕ × ℕ). nat_lt p.0 c.args.time) (always_returns_same _ _ _ (λ a r f k. search (rules, of_calls)))
    (IsPartitionedBy-ltb (λ (p : ℕ × ℕ). p.0) c.in-Pairs.pairs.now c.args.time (subst Rises c.in-Pairs.is c.requires)))).1
