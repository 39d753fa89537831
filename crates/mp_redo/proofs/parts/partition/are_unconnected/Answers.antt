use Rattle.std.proofs.Common.{◌≡◌, ◌<◌, ℕ, length, subst, arith, inl, inr}
use Rattle.std.proofs.lemmas.Bool.{cases_lt}
use Rattle.mp_model.proofs.SlotLemmas.{slot_within}
use Rattle.mp_netlist.specs.Circuit.{Drives}
use Rattle.mp_partition.specs.regions.Readers.{Reads}
use Rattle.mp_partition.specs.regions.Regions.{partition_of}
use Rattle.mp_redo.proofs.parts.partition.are_unconnected.Goals as goal

pub loop-m-preserved : goal.loop-m-preserved
loop-m-preserved c = λ m low.
    let n = c.args.netlist.now in
    let homes = c.args.homes.now in
    elim (cases_lt m c.loop-m.m) as (λ _. (w q p : ℕ) → Reads n m w → Drives n q p w → partition_of homes m ≡ partition_of homes q) [
      | inl before ↦ c.loop-m.invariant m before
      | inr now ↦
          let same : c.loop-m.m ≡ m = omega (arith, low, now) in
          subst (λ k. (w q p : ℕ) → Reads n k w → Drives n q p w → partition_of homes k ≡ partition_of homes q) same (c.is_unconnected.ensures c.if-not-is_unconnected.false)
    ]

pub returns : goal.returns
returns c = λ _ m w q p reads drives.
    let n = c.args.netlist.now in
    let within : m < length n.modules = slot_within n.modules m reads.part reads.stands in
    c.loop-m.invariant m (omega (arith, within)) w q p reads drives
