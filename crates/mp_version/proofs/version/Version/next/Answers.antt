use Rattle.std.specs.Arc.{arc_value}
use Rattle.mp_version.proofs.StoryLemmas.{AreNext, next_version, next_present}
use Rattle.mp_version.proofs.version.Version.next.Goals as goal

parts : (c : goal.In_ok-edits)
    → AreNext (record { base = arc_value c.self.inside.base; edits = c.self.inside.edits }) c.args.self.now (arc_value c.args.edit)
    (record { base = arc_value c.in_ok-base.base; edits = c.in_ok-edits.edits }) (arc_value c.in_ok-netlist.netlist) c.args.netlist
parts c = record {
  seen_is = c.self.view_is;
  base_is = c.in_ok-base.ensures;
  edits_are = c.in_ok-edits.ensures;
  here_is = c.in_ok-netlist.ensures.ok;
  accepted = c.requires.accepted;
}

pub invariant_of-result : goal.invariant_of-result
invariant_of-result c =
    next_version (record { base = arc_value c.self.inside.base; edits = c.self.inside.edits }) c.args.self.now
    (record { base = arc_value c.in_ok-base.base; edits = c.in_ok-edits.edits }) (arc_value c.self.inside.netlist) (arc_value c.in_ok-netlist.netlist) c.args.netlist
    (arc_value c.args.edit) c.self.inside.waves c.args.waves (parts c) c.self.invariant c.requires.waves

pub returns-clause-now : goal.returns-clause-now
returns-clause-now c =
    next_present (record { base = arc_value c.self.inside.base; edits = c.self.inside.edits }) c.args.self.now
    (record { base = arc_value c.in_ok-base.base; edits = c.in_ok-edits.edits }) (arc_value c.self.inside.netlist) (arc_value c.in_ok-netlist.netlist) c.args.netlist
    (arc_value c.args.edit) c.self.inside.waves (parts c) c.self.invariant
