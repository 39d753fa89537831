-- States of which each takes little room, and searches by their times.
use Rattle.std.proofs.Common.{◌≡◌, ℕ, ◌-◌, ◌<◌, ◌≤◌, Bool, List, length, map, slice_index_or, nat_le, true, false, sym, subst, arith}
use Rattle.std.specs.List.Sorted.{IsNonDecreasingBy, IsPartitionPoint}
use Rattle.std.proofs.lemmas.List.{get_or-map, get_or_default, length-map}
use Rattle.mp_wave.proofs.WaveformLemmas.{nat_le-true, nat_le-false}
use Rattle.mp_modules.specs.Memories.{blank}
use Rattle.mp_partition.specs.declared.runs.checkpoint.Checkpoint.{Checkpoint}
use Rattle.mp_partition.specs.declared.runs.state_list.BitCheckpoint.{BitCheckpoint}
use Rattle.mp_partition.specs.runs.StateLists.{opened, IsRising, IsCut, time_in}

-- the one that is opened at a place
opened_at : (bs : List BitCheckpoint) (i : ℕ) (d : Checkpoint) (e : BitCheckpoint) → i < length bs → slice_index_or (map opened bs) i d ≡ opened (slice_index_or bs i e)
opened_at bs i d e low = get_or-map opened bs i e d low

-- what rises where states are opened rises before
pub rising : (bs : List BitCheckpoint) → IsRising (map opened bs) → IsNonDecreasingBy (λ (b : BitCheckpoint). b.time) bs
rising bs up i j d le low =
    let many : length (map opened bs) ≡ length bs = length-map bs opened in
    let first = opened_at bs i (opened d) d (omega (arith, le, low)) in
    let then = opened_at bs j (opened d) d low in
    subst (λ (k : Checkpoint). k.time ≤ (slice_index_or bs j d).time) first (subst (λ (k : Checkpoint). (slice_index_or (map opened bs) i (opened d)).time ≤ k.time) then (up i j (opened d) le (omega (arith, many, low))))

-- where they are parted by a test of their times, so are the states that are opened
pub opened_point : (test : ℕ → Bool) (bs : List BitCheckpoint) (count : ℕ) → count ≤ length bs →
    IsPartitionPoint (λ (b : BitCheckpoint). test b.time ≡ true) (λ (b : BitCheckpoint). test b.time ≡ false) bs count →
    IsPartitionPoint (λ (k : Checkpoint). test k.time ≡ true) (λ (k : Checkpoint). test k.time ≡ false) (map opened bs) count
opened_point test bs count fits point = (
  λ i d late early. subst (λ (k : Checkpoint). test k.time ≡ true) (sym (opened_at bs i d (closed d) (omega (arith, early, fits)))) (point.0 i (closed d) late early),
  λ i d late early.
      let low : i < length bs = omega (arith, early, length-map bs opened) in
      subst (λ (k : Checkpoint). test k.time ≡ false) (sym (opened_at bs i d (closed d) low)) (point.1 i (closed d) late low),
)
  where
    closed : Checkpoint → BitCheckpoint
    closed d = record { time = d.time; bits = d.memory }

-- a list of rising times is cut where the state before the place isn't after a time, and the one at it is
pub cut_at : (ks : List Checkpoint) (place time : ℕ) → IsRising ks → place ≤ length ks → (0 < place → time_in ks (place - 1) ≤ time) → (place < length ks → time < time_in ks place) → IsCut ks time place
cut_at ks place time up fits before after = (
  λ i d late early.
      let last = up i (place - 1) no (omega (arith, early)) (omega (arith, early, fits)) in
      let here = before (omega (arith, early)) in
      subst (λ (k : Checkpoint). nat_le k.time time ≡ true) (get_or_default ks i no d (omega (arith, early, fits))) (nat_le-true _ time (omega (arith, last, here))),
  λ i d late early.
      let first = up place i no late early in
      let here = after (omega (arith, late, early)) in
      subst (λ (k : Checkpoint). nat_le k.time time ≡ false) (get_or_default ks i no d early) (nat_le-false _ time (omega (arith, first, here))),
)
  where
    no : Checkpoint
    no = record { time = 0; memory = blank }
