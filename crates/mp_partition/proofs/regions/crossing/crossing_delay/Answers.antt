use Rattle.std.proofs.Common.{◌≡◌, ◌≤◌, ℕ, true, subst, arith, inl, inr}
use Rattle.std.proofs.lemmas.Bool.{cases_lt}
use Rattle.mp_records.specs.Outputs.{delay_of}
use Rattle.mp_netlist.specs.Circuit.{Drives}
use Rattle.mp_netlist.proofs.DelayLemmas.{delays_are_least}
use Rattle.mp_partition.specs.runs.Marks.{is_marked}
use Rattle.mp_partition.specs.regions.Divisions.{heard_by}
use Rattle.mp_partition.proofs.lemmas.regions.CrossingLemmas.{has_slot}
use Rattle.mp_partition.proofs.regions.crossing.crossing_delay.Goals as goal

pub loop-m-preserved : goal.loop-m-preserved
loop-m-preserved c k m p w drives low marked =
    let least = c.min-delay.ensures in
    elim (cases_lt m c.loop-m.m) as (λ _. c.min-delay.result ≤ delay_of drives.part p) [
      | inl before ↦ let known = c.loop-m.invariant k m p w drives before marked in omega (arith, known, least)
      | inr now ↦
          let same : c.loop-m.m ≡ m = omega (arith, low, now) in
          subst (λ j. (l q v : ℕ) (d : Drives c.args.netlist.now j q v) → is_marked (heard_by c.args.heards.now l) v ≡ true → c.min-delay.result ≤ delay_of d.part q) same
          (λ l q v d is. let known = c.module_delay.ensures l q v d is in omega (arith, known, least)) k p w drives marked
    ]

pub returns : goal.returns
returns c =
    let n = c.args.netlist.now in
    let delays = delays_are_least n c.horizon-delay.ensures.form in
    let positive = delays.positive in
    let least = c.least_delay.ensures in
    let most = c.max.ensures in
    let slots = c.module_slots-m-end.ensures.value in
    let end = c.loop-m-test.false in
    record {
      some = omega (arith, positive, least, most);
      least = λ k m p w drives marked.
          let stands = has_slot n m p w drives in
          let here = c.loop-m.invariant k m p w drives (omega (arith, stands, slots, end)) marked in
          let all = delays.least m p w drives in
          omega (arith, here, all, least, most);
    }
