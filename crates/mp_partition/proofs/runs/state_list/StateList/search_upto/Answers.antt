use Rattle.std.proofs.Common.{List, map, nat_le, ◌≡◌, rules, of_calls, arith, sym, subst, ap, ◌∙◌}
use Rattle.std.proofs.lemmas.Fn.{always_returns_same}
use Rattle.std.proofs.lemmas.List.Sorted.{IsPartitionedBy-leb}
use Rattle.mp_partition.specs.declared.runs.checkpoint.Checkpoint.{Checkpoint}
use Rattle.mp_partition.specs.declared.runs.state_list.BitCheckpoint.{BitCheckpoint}
use Rattle.mp_partition.specs.runs.StateLists.{opened, states_of, IsRising, IsCut}
use Rattle.mp_partition.proofs.lemmas.runs.StateListLemmas.{rising, opened_point}
use Rattle.mp_partition.proofs.runs.state_list.StateList.search_upto.Goals as goal

pub returns-in-Bits-clause-parted : goal.returns-in-Bits-clause-parted
returns-in-Bits-clause-parted c =
    let time = c.args.time in
    let bs : List BitCheckpoint = c.as_slice.result.now in
    let same : states_of c.args.self.now ≡ map opened bs = ap states_of c.in-Bits.is ∙ ap (map opened) (sym c.as_slice.ensures.value) in
    subst (λ (xs : List Checkpoint). IsCut xs time c.partition_point.result) (sym same)
    (opened_point (λ t. nat_le t time) bs c.partition_point.result (omega (arith, c.partition_point.ensures.bound))
    (c.partition_point.ensures.partitioned (λ (b : BitCheckpoint). nat_le b.time time) (always_returns_same _ _ _ (λ a r f k. search (rules, of_calls)))
    (IsPartitionedBy-leb (λ (b : BitCheckpoint). b.time) bs time (rising bs (subst IsRising same c.requires)))))

pub returns-in-Wide-clause-parted : goal.returns-in-Wide-clause-parted
returns-in-Wide-clause-parted c =
    let time = c.args.time in
    let ks : List Checkpoint = c.as_slice-in-Wide.result.now in
    let same : states_of c.args.self.now ≡ ks = ap states_of c.in-Wide.is ∙ sym c.as_slice-in-Wide.ensures.value in
    subst (λ (xs : List Checkpoint). IsCut xs time c.partition_point-in-Wide.result) (sym same)
    (c.partition_point-in-Wide.ensures.partitioned (λ (k : Checkpoint). nat_le k.time time) (always_returns_same _ _ _ (λ a r f k. search (rules, of_calls)))
    (IsPartitionedBy-leb (λ (k : Checkpoint). k.time) ks time (subst IsRising same c.requires)))
