use Rattle.mp_engine.specs.region_runs.StateHistories.{AreFirst}
use Rattle.mp_engine.proofs.region_runs.state_history.first_states.Given as goal

-- those so far
abbrev pub invariant-loop-m : goal.invariant-loop-m
invariant-loop-m l = AreFirst l.netlist l.m l.kept.items
