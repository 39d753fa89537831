use Rattle.std.proofs.Common.{◌<◌, ◌≤◌, take}
use Rattle.std.specs.Prelude.{IfNone, IfSome}
use Rattle.std.specs.List.{Contains}
use Rattle.mp_model.specs.Waves.{level}
use Rattle.mp_questions.specs.timing.Events.{since}
use Rattle.mp_steady.specs.declared.period.Candidate.{Candidate}
use Rattle.mp_steady.specs.Periods.{last_change, last_unit}
use Rattle.mp_steady.specs.WireSets.{numbers}
use Rattle.mp_steady.proofs.period.guide.Given as goal

-- what was found is one of the wires and changes late, or none of the wires so far does
abbrev pub invariant-loop-wire : goal.invariant-loop-wire
invariant-loop-wire l = record {
  none : IfNone l.found (last_change l.set.of.netlist.now (numbers (take l.wire-index l.set.wires.now)) ≤ l.from);
  some : IfSome l.found (λ (c : Candidate). Contains l.set.wires.now c.wire);
  late : IfSome l.found (λ (c : Candidate). l.from < since (level l.set.of.netlist.now c.wire.0) (last_unit l.set.of.netlist.now));
}
