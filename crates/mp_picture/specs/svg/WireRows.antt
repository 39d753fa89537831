-- The rows of wires.
use Rattle.std.specs.Prelude.{◌≡◌, ℕ, ◌<◌, ◌^◌, ◌==◌, List, length}
use Rattle.std.specs.BTreeMap.{BTreeMap, get}
use Rattle.std.specs.List.{position}
use Rattle.std.specs.Ordering.{nat_cmp}
use Rattle.mp_records.specs.declared.ids.WireId.{WireId}

-- the number of each wire's first row
abbrev pub AreFirstRows : List WireId → BTreeMap ℕ ℕ → Type 0
AreFirstRows wires firsts = (w : ℕ) → get nat_cmp firsts w ≡ position (λ (v : WireId). v.0 == w) wires

-- fewer wires than there are numbers, with their first rows
pub record HaveFirstRows (wires : List WireId) (firsts : BTreeMap ℕ ℕ) : Type 0 where
  pub few : length wires < 2 ^ 32
  pub firsts_are : AreFirstRows wires firsts
