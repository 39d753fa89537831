use Rattle.std.proofs.Common.{◌≡◌, ◌<◌, Ok, Some, drop, take}
use Rattle.std.specs.List.{flat_map}
use Rattle.mp_streams.specs.Outgoing.{Writes}
use Rattle.mp_questions.specs.causes.Shares.{time_of}
use Rattle.mp_questions.specs.causes.Why.{step_line}
use Rattle.mp_questions.proofs.lemmas.causes.ChainLemmas.{HasTime, rest}
use Rattle.mp_questions.proofs.causes.why.put_chain.Given as goal

-- the lines so far are written, and the chain goes on from the next change
abbrev pub invariant-loop : goal.invariant-loop
invariant-loop g l = record {
  levels : l.tracer.levels ≡ l.fn.tracer.levels;
  from : HasTime l.next;
  within : time_of l.next < l.fn.tracer.levels.netlist.now.horizon;
  left : drop l.counter (rest l.fn.tracer.levels.netlist.now (Some l.fn.last)) ≡ rest l.fn.tracer.levels.netlist.now l.next;
  written : Writes {T = Unit {0}} (Ok tt) l.fn.out l.out
      (flat_map (step_line l.fn.tracer.levels.netlist.now) (take l.counter (take l.steps (rest l.fn.tracer.levels.netlist.now (Some l.fn.last)))));
}
