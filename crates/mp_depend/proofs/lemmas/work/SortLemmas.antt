-- Work spans of all work in another order are work spans of all work, and their first entries are in order once they are sorted.
use Rattle.std.proofs.Common.{◌≡◌, ◌≢◌, ◌⊎◌, ℕ, ◌+◌, ◌<◌, ◌≤◌, ◌==◌, false, if◌then◌else◌, List, [], length, All, refl, ap, sym, subst, ◌∙◌, arith, inl, inr}
use Rattle.std.specs.List.{swap}
use Rattle.std.specs.List.Sorted.{IsPermutation, IsSortedByKey}
use Rattle.std.specs.declared.cmp.Ordering.{Ordering}
use Rattle.std.specs.declared.cmp.Ordering.TheVariants.{Less, Equal, Greater}
use Rattle.std.specs.Ordering.{MatchOrdering, is_lt, nat_cmp, ordering_then}
use Rattle.std.proofs.lemmas.Bool.{cases_eq, eq-eqb, ne_eqb}
use Rattle.std.proofs.lemmas.Cmp.{ranked}
use Rattle.std.proofs.lemmas.List.Edits.{Swapped, swapped_from_swap, length-swap}
use Rattle.std.proofs.lemmas.List.Sorted.{IsPermutation-keeps}
use Rattle.mp_netlist.specs.Circuit.{Circuit, IsCircuit}
use Rattle.mp_netlist.specs.Delays.{least_delay}
use Rattle.mp_depend.specs.declared.work.work_span.WorkSpan.{WorkSpan}
use Rattle.mp_depend.specs.work.Merges.{IsWorkSpan, entries_left}
use Rattle.mp_depend.specs.work.WorkSpans.{no_work_span, work_span_at, IsIn, IsPart, HasBegun, EndsWithWindow, AreWorkSpans, AreInOrder}
use Rattle.mp_depend.specs.work.Work.{IsWork}
use Rattle.mp_depend.proofs.lemmas.work.WorkSpanLemmas.{each_is, first_once, work_spans_are_work}

-- ---- in another order

-- what stands at a place of the other list stands at this place of the one
record AreMoved (one other : List WorkSpan) (place : ℕ → ℕ) : Type 0 where
  within : (k : ℕ) → k < length other → place k < length one
  back : (k : ℕ) → k < length one → place k < length other
  same : (k : ℕ) → k < length other → work_span_at other k ≡ work_span_at one (place k)
  twice : (k : ℕ) → place (place k) ≡ k

module _ (old new : Circuit) (one other : List WorkSpan) (place : ℕ → ℕ) (moved : AreMoved one other place) (are : AreWorkSpans old new one) where
  from_one : (m from to k : ℕ) → IsIn new one m from to k → IsIn new other m from to (place k)
  from_one m from to k has =
      let within = moved.back k has.within in
      let e : work_span_at one k ≡ work_span_at other (place k) = ap (work_span_at one) (sym (moved.twice k)) ∙ sym (moved.same (place k) within) in
      record {
        within = within;
        part = subst (λ (s : WorkSpan). s.«module».0 ≡ m) e has.part;
        at = subst (λ (s : WorkSpan). IsPart new s from to) e has.at;
      }

  to_one : (m from to k : ℕ) → IsIn new other m from to k → IsIn new one m from to (place k)
  to_one m from to k has =
      let e = moved.same k has.within in
      record {
        within = moved.within k has.within;
        part = subst (λ (s : WorkSpan). s.«module».0 ≡ m) e has.part;
        at = subst (λ (s : WorkSpan). IsPart new s from to) e has.at;
      }

  are_moved : AreWorkSpans old new other
  are_moved = record {
    known = λ m from to low entry. let found = are.known m from to low entry in (place found.0, from_one m from to found.0 found.1);
    only = λ m from to k low has. are.only m from to (place k) low (to_one m from to k has);
    once = λ m from to k j low has also.
        sym (moved.twice k) ∙ ap place (are.once m from to (place k) (place j) low (to_one m from to k has) (to_one m from to j also)) ∙ moved.twice j;
    begun = λ k within. subst (HasBegun new new.horizon) (sym (moved.same k within)) (are.begun (place k) (moved.within k within));
    ends = λ k within. subst (EndsWithWindow new) (sym (moved.same k within)) (are.ends (place k) (moved.within k within));
  }

-- the place from which an exchange takes what it puts at a place
abbrev exchanged : ℕ → ℕ → ℕ → ℕ
exchanged i j k = if k == i then j else (if k == j then i else k)

abbrev IsExchanged : ℕ → ℕ → ℕ → ℕ → Type 0
IsExchanged i j k p = ((k ≡ i) × (p ≡ j)) ⊎ ((k ≢ i) × (k ≡ j) × (p ≡ i)) ⊎ ((k ≢ i) × (k ≢ j) × (p ≡ k))

is_exchanged : (i j k : ℕ) → IsExchanged i j k (exchanged i j k)
is_exchanged i j k = elim (cases_eq k i) as (λ _. IsExchanged i j k (exchanged i j k)) [
  | inl first ↦ inl (first, rw (eq-eqb k i first) refl)
  | inr not ↦ elim (cases_eq k j) as (λ _. IsExchanged i j k (exchanged i j k)) [
    | inl second ↦ inr (inl (not, second, rw (ne_eqb k i not, eq-eqb k j second) refl))
    | inr neither ↦ inr (inr (not, neither, rw (ne_eqb k i not, ne_eqb k j neither) refl))
  ]
]

exchanged_within : (i j k p n : ℕ) → i < n → j < n → k < n → IsExchanged i j k p → p < n
exchanged_within i j k p n low high within (inl a) = omega (arith, a.1)
exchanged_within i j k p n low high within (inr (inl a)) = omega (arith, a.2)
exchanged_within i j k p n low high within (inr (inr a)) = omega (arith, a.2)

exchanged_twice : (i j k p q : ℕ) → IsExchanged i j k p → IsExchanged i j p q → q ≡ k
exchanged_twice i j k p q (inl a) (inl b) = omega (arith, a.0, a.1, b.0, b.1)
exchanged_twice i j k p q (inl a) (inr (inl b)) = omega (arith, a.0, b.2)
exchanged_twice i j k p q (inl a) (inr (inr b)) = absurd (b.1 a.1)
exchanged_twice i j k p q (inr (inl a)) (inl b) = omega (arith, a.1, b.1)
exchanged_twice i j k p q (inr (inl a)) (inr (inl b)) = absurd (b.0 a.2)
exchanged_twice i j k p q (inr (inl a)) (inr (inr b)) = absurd (b.0 a.2)
exchanged_twice i j k p q (inr (inr a)) (inl b) = absurd (a.0 (sym a.2 ∙ b.0))
exchanged_twice i j k p q (inr (inr a)) (inr (inl b)) = absurd (a.1 (sym a.2 ∙ b.1))
exchanged_twice i j k p q (inr (inr a)) (inr (inr b)) = b.2 ∙ a.2

swap_moves : (one : List WorkSpan) (i j : ℕ) → i < length one → j < length one → AreMoved one (swap one i j) (exchanged i j)
swap_moves one i j low high = record {
  within = λ k within. exchanged_within i j k (exchanged i j k) (length one) low high (omega (arith, size, within)) (is_exchanged i j k);
  back = λ k within. let inside = exchanged_within i j k (exchanged i j k) (length one) low high within (is_exchanged i j k) in omega (arith, size, inside);
  same = λ k within. by k (exchanged i j k) (is_exchanged i j k);
  twice = λ k. exchanged_twice i j k (exchanged i j k) (exchanged i j (exchanged i j k)) (is_exchanged i j k) (is_exchanged i j (exchanged i j k));
}
  where
    size : length (swap one i j) ≡ length one
    size = length-swap one i j

    swapped : Swapped (work_span_at one) (work_span_at (swap one i j)) i j
    swapped = swapped_from_swap one (swap one i j) i j no_work_span low high refl

    by : (k p : ℕ) → IsExchanged i j k p → work_span_at (swap one i j) k ≡ work_span_at one p
    by k p (inl a) = ap (work_span_at (swap one i j)) a.0 ∙ swapped.0 ∙ ap (work_span_at one) (sym a.1)
    by k p (inr (inl a)) = ap (work_span_at (swap one i j)) a.1 ∙ swapped.1 ∙ ap (work_span_at one) (sym a.2)
    by k p (inr (inr a)) = swapped.2 k a.0 a.1 ∙ ap (work_span_at one) (sym a.2)

stay : (old new : Circuit) (work_spans sorted : List WorkSpan) → AreWorkSpans old new work_spans → IsPermutation work_spans sorted → AreWorkSpans old new sorted
stay old new work_spans sorted are permutation = IsPermutation-keeps work_spans (AreWorkSpans old new) are (λ one i j low high before. are_moved old new one (swap one i j) (exchanged i j) (swap_moves one i j low high) before) sorted permutation

-- ---- in order

-- what is compared
abbrev pub key_of : WorkSpan → ℕ × ℕ
key_of s = (s.first_end, s.«module».0)

abbrev pub compares : ℕ × ℕ → ℕ × ℕ → Ordering
compares a b = ordering_then (nat_cmp a.0 b.0) (nat_cmp a.1 b.1)

rises : (a b c d : ℕ) → is_lt (ordering_then (nat_cmp c a) (nat_cmp d b)) ≡ false → (a < c) ⊎ ((a ≡ c) × (b ≤ d))
rises a b c d e = by (nat_cmp c a) (nat_cmp d b) (ranked c a (nat_cmp c a) refl) (ranked d b (nat_cmp d b) refl) e
  where
    by : (o p : Ordering) → MatchOrdering o (c < a) (c ≡ a) (a < c) → MatchOrdering p (d < b) (d ≡ b) (b < d) → is_lt (ordering_then o p) ≡ false → (a < c) ⊎ ((a ≡ c) × (b ≤ d))
    by Less p x y e = absurd (let no : ⊥ = cc in no)
    by Equal Less x y e = absurd (let no : ⊥ = cc in no)
    by Equal Equal x y e = inr (sym x, omega (arith, y))
    by Equal Greater x y e = inr (sym x, omega (arith, y))
    by Greater p x y e = inl x

in_order : (old new : Circuit) → IsCircuit new → (work_spans : List WorkSpan) → AreWorkSpans old new work_spans → IsSortedByKey key_of compares work_spans → AreInOrder work_spans
in_order old new ok work_spans are sorted k within = by (rises s.first_end s.«module».0 t.first_end t.«module».0 (sorted k no_work_span (omega arith) within))
  where
    s : WorkSpan
    s = work_span_at work_spans k

    t : WorkSpan
    t = work_span_at work_spans (k + 1)

    by : (s.first_end < t.first_end) ⊎ ((s.first_end ≡ t.first_end) × (s.«module».0 ≤ t.«module».0)) → (s.first_end < t.first_end) ⊎ ((s.first_end ≡ t.first_end) × (s.«module».0 < t.«module».0))
    by (inl before) = inl before
    by (inr (together, below)) = elim (cases_eq t.«module».0 s.«module».0) as (λ _. (s.first_end < t.first_end) ⊎ ((s.first_end ≡ t.first_end) × (s.«module».0 < t.«module».0))) [
      | inl same ↦
          let e = first_once old new ok work_spans are k (k + 1) (omega (arith, within)) within same together in
          absurd (omega (arith, e))
      | inr other ↦ inr (together, omega (arith, below, other))
    ]

-- work spans of all work once they are sorted
module _ (old new : Circuit) (ok : IsCircuit new) (work_spans sorted : List WorkSpan) (are : AreWorkSpans old new work_spans) (permutation : IsPermutation work_spans sorted) where
  pub sorted_each : All (IsWorkSpan new.horizon) sorted
  sorted_each = each_is old new ok sorted (stay old new work_spans sorted are permutation)

  pub sorted_work : IsSortedByKey key_of compares sorted → IsWork old new (entries_left (least_delay new) new.horizon [] sorted)
  sorted_work order =
      let all = stay old new work_spans sorted are permutation in
      work_spans_are_work old new ok sorted all (in_order old new ok sorted all order)
