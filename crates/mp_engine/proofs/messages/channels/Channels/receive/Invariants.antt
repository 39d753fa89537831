use Rattle.std.proofs.Common.{◌≡◌, take}
use Rattle.mp_partition.specs.regions.Divisions.{heard_by}
use Rattle.mp_engine.specs.messages.Messages.{AreTold}
use Rattle.mp_engine.specs.messages.Lines.{parts_of}
use Rattle.mp_engine.proofs.messages.channels.Channels.receive.Given as goal

-- those so far have told, and the lines are the same
abbrev pub invariant-loop-line : goal.invariant-loop-line
invariant-loop-line g l = record {
  told : AreTold g.J.Subject.netlist g.J.Subject.wires (heard_by g.J.Subject.heards l.fn.self.part) (parts_of (take l.line-index l.line-items)) l.window l.changes.items;
  same : parts_of l.line-items ≡ parts_of l.fn.self.from.items;
}
