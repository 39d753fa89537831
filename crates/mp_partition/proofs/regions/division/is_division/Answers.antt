use Rattle.std.proofs.Common.{◌≡◌, ◌<◌, ℕ, All, subst, arith, inl, inr}
use Rattle.std.proofs.lemmas.Bool.{cases_lt}
use Rattle.mp_partition.specs.regions.Divisions.{IsAtHome}
use Rattle.mp_partition.proofs.lemmas.regions.DivisionLemmas.{division_is}
use Rattle.mp_partition.proofs.regions.division.is_division.Goals as goal

pub loop-m-preserved : goal.loop-m-preserved
loop-m-preserved c = λ m low.
    let n = c.args.netlist.now in
    let division = c.args.division.now in
    elim (cases_lt m c.loop-m.m) as (λ _. IsAtHome n division.homes.items division.wires.items division.heard.items division.parts m) [
      | inl before ↦ c.loop-m.invariant m before
      | inr now ↦
          let same : c.loop-m.m ≡ m = omega (arith, low, now) in
          subst (IsAtHome n division.homes.items division.wires.items division.heard.items division.parts) same (c.is_at_home.ensures c.if-not-is_at_home.false)
    ]

pub returns : goal.returns
returns c = λ _.
    let division = c.args.division.now in
    division_is c.args.netlist.now division.homes.items division.wires.items division.heard.items division.parts c.requires
    (subst (All (λ (home : ℕ). home < division.parts)) c.as_slice.ensures.value (c.are_below.ensures c.if-not-are_below.false))
    (λ m low. c.loop-m.invariant m (omega (arith, low))) (c.are_heard_there.ensures c.if-not-are_heard_there.false)
