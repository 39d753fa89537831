use Rattle.std.proofs.Common.{◌≡◌, ◌≤◌, ◌++◌, ◌∙◌, length, vec_len, rules, arith}
use Rattle.mp_simulation.proofs.lemmas.bits.CopyLemmas.{scheduled_both, copies_next, copies_none, low_next}
use Rattle.mp_simulation.proofs.bits.delayed_copies.DelayedCopies.advance.Goals as goal

pub returns-clause-next : goal.returns-clause-next
returns-clause-next c n source before t chained have originals =
    let next = c.args.self.now.next.items in
    let rest = c.args.self.now.wheel in
    let slot = c.args.self.now.present in
    let wires = c.args.wires.now in
    let slots = c.schedule_copies-2.new.wheel in
    let is = scheduled_both next c.as_slice.result.now c.as_slice-3.result.now rest c.schedule_copies.new.wheel slots slot c.as_slice-2.result.now wires
    c.as_slice.ensures.value c.as_slice-3.ensures.value c.as_slice-2.ensures c.in_ok-schedule_copies.ensures.scheduled c.in_ok-schedule_copies-2.ensures.scheduled in
    copies_next n source before next t rest (slot ++ wires) chained c.requires.within have originals slots is
    (c.in_ok-schedule_copies-2.ensures.places ∙ c.in_ok-schedule_copies.ensures.places)

pub returns-clause-low : goal.returns-clause-low
returns-clause-low c bound below none =
    let next = c.args.self.now.next.items in
    let rest = c.args.self.now.wheel in
    let slot = c.args.self.now.present in
    let wires = c.args.wires.now in
    let slots = c.schedule_copies-2.new.wheel in
    let is = scheduled_both next c.as_slice.result.now c.as_slice-3.result.now rest c.schedule_copies.new.wheel slots slot c.as_slice-2.result.now wires
    c.as_slice.ensures.value c.as_slice-3.ensures.value c.as_slice-2.ensures c.in_ok-schedule_copies.ensures.scheduled c.in_ok-schedule_copies-2.ensures.scheduled in
    low_next next rest slots (slot ++ wires) bound below is
    (c.in_ok-schedule_copies-2.ensures.places ∙ c.in_ok-schedule_copies.ensures.places) none

pub returns-then-len-count-clause-next : goal.returns-then-len-count-clause-next
returns-then-len-count-clause-next c n source before t chained have originals =
    let old = c.args.self.now in
    let long : vec_len old.next ≡ length old.next.items = search rules in
    let few : length old.next.items ≤ c.args.count = omega (arith, long) in
    copies_none n source before old.next.items t c.args.count old.wheel few c.requires.below c.requires.behind chained c.requires.within have
