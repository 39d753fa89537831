use Rattle.std.proofs.Common.{◌≡◌, take}
use Rattle.mp_engine.specs.messages.Lines.{readers_of, AreSent}
use Rattle.mp_engine.proofs.messages.channels.Channels.send.Given as goal

-- each line so far was sent the message
abbrev pub invariant-loop-line : goal.invariant-loop-line
invariant-loop-line g l = record {
  sent : AreSent l.fn.self.part l.window (take l.line-index l.line-items);
  readers : readers_of l.line-items ≡ readers_of l.fn.self.to.items;
}
