use Rattle.std.proofs.Common.{◌≡◌}
use Rattle.crossbeam_channel.specs.Claims.{view, IsSeatAt}
use Rattle.crossbeam_channel.specs.Ends.{receives_on}
use Rattle.mp_engine.specs.declared.messages.line_rule.Known.TheVariants.{Takes}
use Rattle.mp_engine.specs.messages.LineRules.{heading_of}
use Rattle.mp_engine.proofs.messages.line.LineFrom.message_for.Given as goal

-- the line is the same
abbrev pub invariant-loop : goal.invariant-loop
invariant-loop g l = record {
  can : (goal.iterator-loop g).can_next l.iterator';
  ends_so : (goal.iterator-loop g).is_finite l.iterator';
  seat : IsSeatAt (receives_on l.self.messages) l.self.pass;
  takes : view l.self.pass ≡ Takes (heading_of (view l.self.pass));
  same : l.self.by ≡ l.initial.self.by;
}
