use Rattle.std.proofs.Common.{refl}
use Rattle.mp_simulation.proofs.run.beginning.begin.Goals as goal

pub begin-requires-clause-can : goal.begin-requires-clause-can
begin-requires-clause-can c =
    record {
      all = c.args.netlist.now;
      form = c.requires;
      part = record { wires = refl; modules = refl; same = λ m r at. at };
      laid = c.in_ok-layout.ensures;
      driven = c.in_ok-outputs.ensures;
    }
