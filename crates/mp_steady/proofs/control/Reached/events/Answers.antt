use Rattle.std.proofs.Common.{◌≡◌, ◌≤◌, Bool, false, List, [], length, replicate, sym, subst, rules, arith}
use Rattle.mp_records.specs.declared.ids.WireId.{WireId}
use Rattle.mp_steady.specs.Reaching.{AreReached}
use Rattle.mp_steady.proofs.ControlLemmas.{reached_none}
use Rattle.mp_steady.proofs.control.Reached.events.Goals as goal

pub loop-number-init : goal.loop-number-init
loop-number-init c =
    let n = c.args.netlist.now in
    let marks : c.in_ok-marks.marks.items ≡ replicate (length n.wires) false = search rules in
    record {
      reached =
          subst (λ (order : List WireId). AreReached n c.in_ok-marks.marks.items order) (sym c.new-order.ensures.items)
          (subst (λ (ms : List Bool). AreReached n ms []) (sym marks) (reached_none n));
      events = λ w low is. absurd (omega (arith, low));
    }

pub returns-clause-events : goal.returns-clause-events
returns-clause-events c =
    let over : length c.args.netlist.now.wires ≤ c.loop-number.number = omega (arith, c.loop-number-test.false, c.wire_slots-number-end.ensures.value) in
    λ w low is. c.loop-number.invariant.events w (omega (arith, low, over)) is
