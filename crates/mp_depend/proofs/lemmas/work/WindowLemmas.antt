-- Blocks and windows of time.
use Rattle.std.proofs.Common.{◌≡◌, ◌≢◌, ℕ, ◌+◌, ◌-◌, ◌%◌, ◌<◌, ◌≤◌, refl, ap, ◌∙◌, arith, inl, inr}
use Rattle.std.proofs.lemmas.Bool.{cases_lt, cases_eq}
use Rattle.std.proofs.lemmas.Nat.{mod_below}
use Rattle.mp_netlist.specs.Circuit.{Circuit, IsCircuit}
use Rattle.mp_netlist.specs.Delays.{least_delay}
use Rattle.mp_netlist.specs.Limits.{checkpoint_units}
use Rattle.mp_netlist.proofs.DelayLemmas.{delays_are_least}
use Rattle.mp_netlist.proofs.LimitLemmas.{units_positive}
use Rattle.mp_depend.specs.work.Work.{block_of, window_of, IsWindow, WindowsCover, WindowsApart}
use Rattle.mp_partition.proofs.lemmas.runs.MultipleLemmas.{rest_le, whole_rest, rest_above, whole_is, multiples_apart}

-- a window lies in one block
pub window_within : (n : Circuit) → IsCircuit n → (start to : ℕ) → IsWindow n start to → (block_of n.horizon start ≤ start) × (start < to) × (to ≤ block_of n.horizon start + checkpoint_units n.horizon)
window_within n ok start to window =
    let positive = (delays_are_least n ok).positive in
    let rest = mod_below start (checkpoint_units n.horizon) (units_positive n.horizon) in
    let ends = window.ends in
    let below = window.below in
    omega (arith, positive, rest, ends, below)

-- times of a block
pub in_block : (horizon start t : ℕ) → block_of horizon start ≤ t → t < block_of horizon start + checkpoint_units horizon → block_of horizon t ≡ block_of horizon start
in_block horizon start t from below = whole_is (checkpoint_units horizon) (block_of horizon start) t (whole_rest start (checkpoint_units horizon) (units_positive horizon)) from below

pub same_block : (horizon start to : ℕ) → start < to → to ≤ block_of horizon start + checkpoint_units horizon → block_of horizon (to - 1) ≡ block_of horizon start
same_block horizon start to less within = in_block horizon start (to - 1) (omega (arith, less)) (omega (arith, less, within))

-- of two blocks the later one begins where the other ends, or after it
pub blocks_apart : (horizon t later : ℕ) → t ≤ later → block_of horizon t ≢ block_of horizon later → block_of horizon t + checkpoint_units horizon ≤ block_of horizon later
blocks_apart horizon t later le differ =
    let units = checkpoint_units horizon in
    let positive = units_positive horizon in
    let first = whole_rest t units positive in
    let second = whole_rest later units positive in
    elim (cases_lt (block_of horizon t) (block_of horizon later)) as (λ _. block_of horizon t + units ≤ block_of horizon later) [
      | inl less ↦ multiples_apart units (block_of horizon t) (block_of horizon later) first second less
      | inr not ↦ elim (cases_lt (block_of horizon later) (block_of horizon t)) as (λ _. block_of horizon t + units ≤ block_of horizon later) [
        | inl more ↦
            let apart = multiples_apart units (block_of horizon later) (block_of horizon t) second first more in
            let rest = mod_below later units positive in
            absurd (omega (arith, apart, rest, le))
        | inr last ↦ absurd (differ (omega (arith, not, last)))
      ]
    ]

-- the rest of a rest is none where a window begins
begins_at : (n : Circuit) (start : ℕ) → window_of n start ≡ start → start % checkpoint_units n.horizon % least_delay n ≡ 0
begins_at n start begins =
    let rest = rest_le (start % checkpoint_units n.horizon) (least_delay n) in
    let low = rest_le start (checkpoint_units n.horizon) in
    omega (arith, rest, low, begins)

-- a window that begins later begins at the end of the one before, or later
pub windows_apart : WindowsApart
windows_apart n ok start to later end first second less = elim (cases_eq (block_of n.horizon start) (block_of n.horizon later)) as (λ _. to ≤ later) [
  | inl one ↦
      let units = checkpoint_units n.horizon in
      let low = rest_le start units in
      let high = rest_le later units in
      let apart = multiples_apart (least_delay n) (start % units) (later % units) (begins_at n start first.begins) (begins_at n later second.begins) (omega (arith, one, less, low, high)) in
      let ends = first.ends in
      omega (arith, one, apart, ends, low, high)
  | inr other ↦
      let within = window_within n ok start to first in
      let apart = blocks_apart n.horizon start later (omega (arith, less)) other in
      omega (arith, within.2, apart)
]

pub window_cover : WindowsCover
window_cover n ok t below =
    let positive = (delays_are_least n ok).positive in
    let units = checkpoint_units n.horizon in
    let some = units_positive n.horizon in
    let k = least_delay n in
    let r = t % units in
    let low = rest_le t units in
    let high = mod_below t units some in
    let small = rest_le r k in
    let rest = mod_below r k positive in
    let above : window_of n t % units ≡ window_of n t - (t - r) = rest_above units (t - r) (window_of n t) (whole_rest t units some) (omega (arith, small)) (omega (arith, low, high)) in
    let inner : window_of n t % units ≡ r - r % k = omega (arith, above, low, small) in
    let first : window_of n t % units % k ≡ 0 = ap (λ x. x % k) inner ∙ whole_rest r k positive in (
      record { below = omega (arith, below); begins = omega (arith, first); ends = refl },
      omega arith,
      omega (arith, rest, inner, low, high, small, below),
    )
