-- How many changes come up to a time, told by those about a place.
use Rattle.std.proofs.Common.{◌≡◌, ◌⊎◌, ℕ, suc, ◌+◌, ◌-◌, ◌<◌, ◌≤◌, List, [], ◌∷◌, length, refl, arith, inl, inr}
use Rattle.std.proofs.lemmas.Bool.{cases_lt}
use Rattle.mp_wave.specs.Waveform.{AreChanges, between}
use Rattle.mp_wave.specs.Faults.{pair_at}
use Rattle.mp_wave.proofs.PrefixLemmas.{nat_lt-true, nat_lt-false}
use Rattle.mp_active.specs.compare.Listing.{IsCut}
use Rattle.mp_active.proofs.lemmas.compare.WaveLemmas.{in_order}

-- where the change before a place comes up to a time, and the one at it doesn't, so many do
pub cut_at : (time level count : ℕ) (changes : List (ℕ × ℕ)) → AreChanges 0 level changes → count ≤ length changes → (0 < count → (pair_at changes (count - 1)).0 ≤ time)
    → (count < length changes → time < (pair_at changes count).0) → IsCut time changes count
cut_at time level count changes is within last next = record {
  within = within;
  over = λ k less.
      let order = in_order 0 level changes k (count - 1) is (omega arith) (omega arith) in
      let end = last (omega arith) in
      omega arith;
  later = λ k more low.
      let order = in_order 0 level changes count k is more low in
      let first = next (omega arith) in
      omega arith;
}

-- where each change comes up to a time, or not before another one, none comes between
pub none_between : (from to : ℕ) (changes : List (ℕ × ℕ)) → ((k : ℕ) → k < length changes → ((pair_at changes k).0 ≤ from) ⊎ (to ≤ (pair_at changes k).0)) → between from to changes ≡ []
none_between from to [] each = refl
none_between from to (change ∷ changes) each = by (cases_lt from change.0) (each 0 (omega arith)) (none_between from to changes (λ k low. each (suc k) (omega arith)))
  where
    by : (from < change.0) ⊎ (change.0 ≤ from) → (change.0 ≤ from) ⊎ (to ≤ change.0) → between from to changes ≡ [] → between from to (change ∷ changes) ≡ []
    by (inr early) which rest = rw (nat_lt-false from change.0 early) rest
    by (inl late) (inl early) rest = absurd (omega arith)
    by (inl late) (inr over) rest = rw (nat_lt-true from change.0 late, nat_lt-false change.0 to over) rest

-- so it is where of those up to a time the last comes up to another one
pub none_after : (from upto level count : ℕ) (changes : List (ℕ × ℕ)) → AreChanges 0 level changes → IsCut upto changes count → (0 < count → (pair_at changes (count - 1)).0 ≤ from) → between from (upto + 1) changes ≡ []
none_after from upto level count changes is cut last = none_between from (upto + 1) changes (λ k low. by k low (cases_lt k count))
  where
    by : (k : ℕ) → k < length changes → (k < count) ⊎ (count ≤ k) → ((pair_at changes k).0 ≤ from) ⊎ (upto + 1 ≤ (pair_at changes k).0)
    by k low (inl less) =
        let within = cut.within in
        let order = in_order 0 level changes k (count - 1) is (omega arith) (omega arith) in
        let end = last (omega arith) in
        inl (omega arith)
    by k low (inr more) = let after = cut.later k more low in inr (omega arith)
