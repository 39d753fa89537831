use Rattle.std.proofs.Common.{◌≤◌, [], ◌∷◌}
use Rattle.mp_partition.specs.regions.Divisions.{heard_by}
use Rattle.mp_engine.specs.messages.Messages.{AreTold}
use Rattle.mp_engine.proofs.messages.message.Message.of.Given as goal

-- the units so far are told
abbrev pub invariant-loop-time : goal.invariant-loop-time
invariant-loop-time g l = record {
  some : l.from ≤ l.time;
  told : AreTold g.J.Subject.netlist g.J.Subject.wires (heard_by g.J.Subject.heards l.heading.to) (l.heading.by ∷ []) (record { from = l.from; until = l.time }) l.changes.items;
}
