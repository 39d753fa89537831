use Rattle.std.proofs.Common.{◌≡◌, ◌≤◌, ◌+◌, take}
use Rattle.mp_kernel.specs.timers.TimerWheels.{slot_at}
use Rattle.mp_kernel.proofs.lemmas.timers.SlackLemmas.{AllLate, SlotsLate}
use Rattle.mp_kernel.proofs.timers.timer_wheel.TimerWheel.slack.Given as goal

-- numbers so far are late enough in this slot
abbrev pub invariant-loop-number : goal.invariant-loop-number
invariant-loop-number l = record {
  most : l.slack ≤ l.most;
  slots : SlotsLate (l.time + l.slack) l.k l.self;
  numbers : AllLate (l.time + l.slack + l.k) l.self (take l.number-index l.number-items);
  items : l.number-items ≡ slot_at l.self.wheel l.k;
}

-- and all in the slots before
abbrev pub invariant-loop-k : goal.invariant-loop-k
invariant-loop-k l = record {
  most : l.slack ≤ l.most;
  slots : SlotsLate (l.time + l.slack) l.k l.self;
}
