use Rattle.std.proofs.Common.{◌≡◌, ◌+◌, ◌-◌, ◌≤◌, take, slice_index_or, subst, ◌∙◌, arith}
use Rattle.std.proofs.lemmas.List.{get_or_read, take_all}
use Rattle.mp_kernel.specs.timers.TimerWheels.{never, time_of}
use Rattle.mp_kernel.proofs.lemmas.timers.SlackLemmas.{AllLate, slot_within, slot_has, none_late, sooner, more_late, slots_sooner, one_slot, late_calendar, listed_later}
use Rattle.mp_kernel.proofs.timers.timer_wheel.TimerWheel.slack.Goals as goal

pub loop-k-init : goal.loop-k-init
loop-k-init c = record { most = omega arith; slots = λ j low. absurd (omega (arith, low)) }

pub loop-number-init : goal.loop-number-init
loop-number-init c = record {
  most = c.loop-k.invariant.most;
  slots = c.loop-k.invariant.slots;
  numbers = none_late (c.args.time + c.loop-k.slack + c.loop-k.k) c.args.self.now;
  items = c.slot-number-items.ensures;
}

pub index-requires : goal.index-requires
index-requires c =
    let within = slot_within (c.args.time - 1) c.loop-k.k (slice_index_or c.slot-number-items.result.now c.loop-number.number-index 0) c.args.self.now c.requires.is
    (slot_has c.slot-number-items.result.now c.loop-k.k c.loop-number.number-index 0 c.args.self.now c.slot-number-items.ensures c.loop-number-test.true) in
    let long = c.args.self.now.times.ok.0 in
    omega (arith, within, long)

pub overflow_cast-k : goal.overflow_cast-k
overflow_cast-k c =
    let number = slice_index_or c.slot-number-items.result.now c.loop-number.number-index 0 in
    let there = slot_has c.slot-number-items.result.now c.loop-k.k c.loop-number.number-index 0 c.args.self.now c.slot-number-items.ensures c.loop-number-test.true in
    let low = slot_within (c.args.time - 1) c.loop-k.k number c.args.self.now c.requires.is there in
    let soon = c.requires.is.soon number c.loop-k.k there in
    let value : c.index.result.now ≡ time_of c.args.self.now number = get_or_read c.args.self.now.times.items number c.index.result.now low c.index.ensures never in
    omega (arith, soon, value)

pub overflow_add-time : goal.overflow_add-time
overflow_add-time c =
    let number = slice_index_or c.slot-number-items.result.now c.loop-number.number-index 0 in
    let there = slot_has c.slot-number-items.result.now c.loop-k.k c.loop-number.number-index 0 c.args.self.now c.slot-number-items.ensures c.loop-number-test.true in
    let low = slot_within (c.args.time - 1) c.loop-k.k number c.args.self.now c.requires.is there in
    let soon = c.requires.is.soon number c.loop-k.k there in
    let value : c.index.result.now ≡ time_of c.args.self.now number = get_or_read c.args.self.now.times.items number c.index.result.now low c.index.ensures never in
    let some = c.requires.some in
    omega (arith, soon, value, some)

pub overflow_sub-index : goal.overflow_sub-index
overflow_sub-index c =
    let number = slice_index_or c.slot-number-items.result.now c.loop-number.number-index 0 in
    let there = slot_has c.slot-number-items.result.now c.loop-k.k c.loop-number.number-index 0 c.args.self.now c.slot-number-items.ensures c.loop-number-test.true in
    let low = slot_within (c.args.time - 1) c.loop-k.k number c.args.self.now c.requires.is there in
    let soon = c.requires.is.soon number c.loop-k.k there in
    let value : c.index.result.now ≡ time_of c.args.self.now number = get_or_read c.args.self.now.times.items number c.index.result.now low c.index.ensures never in
    let some = c.requires.some in
    omega (arith, soon, value, some)

pub loop-number-preserved : goal.loop-number-preserved
loop-number-preserved c =
    let inner = c.loop-number.invariant in
    let timers = c.args.self.now in
    let number = slice_index_or c.slot-number-items.result.now c.loop-number.number-index 0 in
    let there = slot_has c.slot-number-items.result.now c.loop-k.k c.loop-number.number-index 0 timers c.slot-number-items.ensures c.loop-number-test.true in
    let low = slot_within (c.args.time - 1) c.loop-k.k number timers c.requires.is there in
    let soon = c.requires.is.soon number c.loop-k.k there in
    let value : c.index.result.now ≡ time_of timers number = get_or_read timers.times.items number c.index.result.now low c.index.ensures never in
    let some = c.requires.some in
    let least = c.min-slack.ensures in
    let less : c.min-slack.result ≤ c.loop-number.slack = omega (arith, least) in
    let most = inner.most in
    record {
      most = omega (arith, less, most);
      slots = slots_sooner (c.args.time + c.loop-number.slack) (c.args.time + c.min-slack.result) c.loop-k.k timers (omega (arith, less)) inner.slots;
      numbers = more_late (c.args.time + c.min-slack.result + c.loop-k.k) timers c.slot-number-items.result.now c.loop-number.number-index 0 c.loop-number-test.true
          (sooner (c.args.time + c.loop-number.slack + c.loop-k.k) (c.args.time + c.min-slack.result + c.loop-k.k) timers (take c.loop-number.number-index c.slot-number-items.result.now) (omega (arith, less)) inner.numbers)
          (omega (arith, soon, value, some, least));
      items = inner.items;
    }

pub loop-k-preserved : goal.loop-k-preserved
loop-k-preserved c =
    let inner = c.loop-number.invariant in
    record {
      most = inner.most;
      slots = one_slot (c.args.time + c.loop-number.slack) c.loop-k.k c.args.self.now inner.slots
          (subst (AllLate (c.args.time + c.loop-number.slack + c.loop-k.k) c.args.self.now) (take_all c.loop-number.number-index c.slot-number-items.result.now c.loop-number-test.false ∙ inner.items) inner.numbers);
    }

pub returns-clause-late : goal.returns-clause-late
returns-clause-late c =
    let timers = c.args.self.now in
    let over = c.loop-k-test.false in
    let some = c.requires.some in
    let span = c.requires.is.span in
    late_calendar (c.args.time - 1) (c.args.time - 1 + c.loop-k.slack) timers c.requires.is
    (λ j low. λ x there. let late = c.loop-k.invariant.slots j (omega (arith, over, span, low)) x there in omega (arith, late, some))

pub returns-clause-times : goal.returns-clause-times
returns-clause-times c x listed =
    let timers = c.args.self.now in
    let over = c.loop-k-test.false in
    let some = c.requires.some in
    let span = c.requires.is.span in
    listed_later (c.args.time - 1 + c.loop-k.slack) x timers
    (late_calendar (c.args.time - 1) (c.args.time - 1 + c.loop-k.slack) timers c.requires.is
    (λ j low. λ y there. let late = c.loop-k.invariant.slots j (omega (arith, over, span, low)) y there in omega (arith, late, some))) listed
