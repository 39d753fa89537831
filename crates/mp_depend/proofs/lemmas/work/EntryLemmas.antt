-- The entries of one module.
use Rattle.std.proofs.Common.{◌≡◌, ℕ, ◌+◌, ◌<◌, ◌≤◌, refl, ap, sym, subst, ◌∙◌, arith, inl, inr}
use Rattle.std.proofs.lemmas.Bool.{cases_lt, cases_eq}
use Rattle.mp_netlist.specs.Circuit.{Circuit, IsCircuit}
use Rattle.mp_netlist.specs.Limits.{checkpoint_units}
use Rattle.mp_model.specs.Reach.{IsApart}
use Rattle.mp_depend.specs.work.Work.{block_of, window_end, IsWindow, Differs, IsAtWork, WorksFrom, IsEntry, WorksOnce, WorksThroughout}
use Rattle.mp_depend.proofs.lemmas.work.WindowLemmas.{window_within, windows_apart, blocks_apart}

-- a module that works in a window is at work before each later one of the block
at_work_later : (old new : Circuit) → IsCircuit new → (m from to later : ℕ) → (entry : IsEntry old new m from to) → to ≤ later → block_of new.horizon entry.start ≡ block_of new.horizon later → IsAtWork old new m later
at_work_later old new ok m from to later entry over same = by entry.works
  where
    within : (block_of new.horizon entry.start ≤ entry.start) × (entry.start < to) × (to ≤ block_of new.horizon entry.start + checkpoint_units new.horizon)
    within = window_within new ok entry.start to entry.window

    apart : (t : ℕ) → block_of new.horizon entry.start ≤ t → t < to → IsApart old new m t → IsAtWork old new m later
    apart t from_block below is = inr (inr (t, omega (arith, from_block, same), omega (arith, below, over), is))

    at_work : IsAtWork old new m entry.start → IsAtWork old new m later
    at_work (inl touched) = inl touched
    at_work (inr (inl differs)) = inr (inl (subst (Differs old new m) same differs))
    at_work (inr (inr found)) = apart found.0 found.1 (omega (arith, found.2, within.1)) found.3

    by : WorksFrom old new m entry.start from to → IsAtWork old new m later
    by (inl works) = at_work works.0
    by (inr joins) = apart joins.1.0 (omega (arith, joins.1.1, within.0)) joins.1.2 joins.1.3

-- the window that ends earlier ends before the other begins
pub ends_before : (n : Circuit) → IsCircuit n → (start to later end : ℕ) → IsWindow n start to → IsWindow n later end → to < end → to ≤ later
ends_before n ok start to later end first second less = elim (cases_lt start later) as (λ _. to ≤ later) [
  | inl before ↦ windows_apart n ok start to later end first second before
  | inr not ↦ elim (cases_eq later start) as (λ _. to ≤ later) [
    | inl one ↦ let same = ap (window_end n) one in absurd (omega (arith, first.ends, second.ends, same, less))
    | inr other ↦
        let over = windows_apart n ok later end start to second first (omega (arith, not, other)) in
        let some = window_within n ok start to first in
        absurd (omega (arith, over, some.1, less))
  ]
]

pub begins_with : (n : Circuit) → IsCircuit n → (start to later end : ℕ) → IsWindow n start to → IsWindow n later end → to ≡ end → start ≡ later
begins_with n ok start to later end first second same = elim (cases_eq start later) as (λ _. start ≡ later) [
  | inl one ↦ one
  | inr other ↦ elim (cases_lt start later) as (λ _. start ≡ later) [
    | inl before ↦
        let over = windows_apart n ok start to later end first second before in
        let some = window_within n ok later end second in
        absurd (omega (arith, over, some.1, same))
    | inr not ↦
        let over = windows_apart n ok later end start to second first (omega (arith, not, other)) in
        let some = window_within n ok start to first in
        absurd (omega (arith, over, some.1, same))
  ]
]

one_begin : (old new : Circuit) (m start from after to end : ℕ) → WorksFrom old new m start from to → WorksFrom old new m start after end → from ≡ after
one_begin old new m start from after to end (inl one) (inl other) = one.1 ∙ sym other.1
one_begin old new m start from after to end (inl one) (inr other) = absurd (other.0 one.0)
one_begin old new m start from after to end (inr one) (inl other) = absurd (one.0 other.0)
one_begin old new m start from after to end (inr one) (inr other) = one.2 ∙ sym other.2

pub works_once : WorksOnce
works_once old new ok m from to after end one other = (apart, together)
  where
    apart : to < end → to ≤ after
    apart less = by other.works
      where
        over : to ≤ other.start
        over = ends_before new ok one.start to other.start end one.window other.window less

        by : WorksFrom old new m other.start after end → to ≤ after
        by (inl works) = omega (arith, works.1, over)
        by (inr joins) = elim (cases_eq (block_of new.horizon one.start) (block_of new.horizon other.start)) as (λ _. to ≤ after) [
          | inl same ↦ absurd (joins.0 (at_work_later old new ok m from to other.start one over same))
          | inr differ ↦
              let within = window_within new ok one.start to one.window in
              let next = blocks_apart new.horizon one.start other.start (omega (arith, within.1, over)) differ in
              omega (arith, joins.2, next, within.2)
        ]

    together : to ≡ end → from ≡ after
    together same =
        let start = begins_with new ok one.start to other.start end one.window other.window same in
        one_begin old new m other.start from after to end (subst (λ s. WorksFrom old new m s from to) start one.works) other.works

pub works_throughout : WorksThroughout
works_throughout old new m from to touched = (window, λ is. record { start = from; window = is; works = inl (inl touched, refl) })
  where
    window : IsEntry old new m from to → IsWindow new from to
    window entry = by entry.works
      where
        by : WorksFrom old new m entry.start from to → IsWindow new from to
        by (inl works) = subst (λ s. IsWindow new s to) (sym works.1) entry.window
        by (inr joins) = absurd (joins.0 (inl touched))
