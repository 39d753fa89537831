-- The place at which the changes of a wave up to a time end.
use Rattle.std.proofs.Common.{◌≡◌, ℕ, ◌+◌, ◌<◌, ◌≤◌, List, take, length, ap, arith}
use Rattle.std.specs.List.{AllWithin}
use Rattle.std.specs.List.Sorted.{IsNonDecreasingBy}
use Rattle.std.proofs.lemmas.Bool.{lt-ltb, le-ltb}
use Rattle.std.proofs.lemmas.List.{get_or_default}
use Rattle.mp_wave.specs.Waveform.{earlier_than}
use Rattle.mp_wave.specs.Faults.{pair_at}
use Rattle.mp_wave.proofs.PrefixLemmas.{earlier_than-take}

-- no change before a place is later than a time, and each from another place on is
pub record Bounds (changes : List (ℕ × ℕ)) (time low high : ℕ) : Type 0 where
  pub order : low ≤ high
  pub within : high ≤ length changes
  pub early : AllWithin (λ (c : ℕ × ℕ). c.0 ≤ time) changes 0 low
  pub late : AllWithin (λ (c : ℕ × ℕ). time < c.0) changes high (length changes)

module _ (changes : List (ℕ × ℕ)) (rises : IsNonDecreasingBy (λ (c : ℕ × ℕ). c.0) changes) (time low high place : ℕ) (bounds : Bounds changes time low high) (before : place < high) where
  here : place < length changes
  here = let w = bounds.within in omega (arith, w, before)

  pub higher : low ≤ place → (pair_at changes place).0 ≤ time → Bounds changes time (place + 1) high
  higher from early = record {
    order = omega (arith, before);
    within = bounds.within;
    early = λ k d lo hi.
        let same = ap (λ (c : ℕ × ℕ). c.0) (get_or_default changes place d (0, 0) here) in
        let rise = rises k place d (omega (arith, hi)) here in
        omega (arith, rise, same, early);
    late = bounds.late;
  }

  pub lower : low ≤ place → time < (pair_at changes place).0 → Bounds changes time low place
  lower from late = record {
    order = from;
    within = (let h = here in omega (arith, h));
    early = bounds.early;
    late = λ k d lo hi.
        let same = ap (λ (c : ℕ × ℕ). c.0) (get_or_default changes place d (0, 0) here) in
        let rise = rises place k d lo hi in
        omega (arith, rise, same, late);
  }

pub met : (changes : List (ℕ × ℕ)) (time low high : ℕ) → Bounds changes time low high → high ≤ low → take low changes ≡ earlier_than (time + 1) changes
met changes time low high bounds end =
    let o = bounds.order in
    let w = bounds.within in
    earlier_than-take (time + 1) low changes (omega (arith, o, w))
    (λ k d lo hi. (let e = bounds.early k d lo hi in lt-ltb _ (time + 1) (omega (arith, e))))
    (λ k d lo hi. (let e = bounds.late k d (omega (arith, lo, o, end)) hi in le-ltb _ (time + 1) (omega (arith, e))))
