use Rattle.std.proofs.Common.{◌≡◌, length}
use Rattle.mp_engine.specs.messages.Mails.{AreNumbered}
use Rattle.mp_engine.proofs.messages.lines.Lines.between.Given as goal

-- those so far are numbered
abbrev pub invariant-loop-part : goal.invariant-loop-part
invariant-loop-part g l = record {
  places : length l.mails.items ≡ l.part;
  numbered : AreNumbered l.mails.items;
}
