use Rattle.std.proofs.Common.{refl}
use Rattle.mp_simulation.specs.run.Beginnings.{IsPartOf}
use Rattle.mp_simulation.proofs.lemmas.run.BeginningLemmas.{evaluated}
use Rattle.mp_simulation.proofs.run.beginning.begin_bits.Goals as goal

pub first_bits-requires-clause-can : goal.first_bits-requires-clause-can
first_bits-requires-clause-can c =
    record {
      all = c.args.netlist.now;
      form = c.requires.form;
      part = record { wires = refl; modules = refl; same = λ m r at. at };
      laid = c.in_ok-layout.ensures;
      driven = c.in_ok-outputs.ensures;
    }

pub returns : goal.returns
returns c =
    let n = c.args.netlist.now in
    let own : IsPartOf n n = record { wires = refl; modules = refl; same = λ m r at. at } in
    evaluated n n c.requires.form c.requires.form own c.in_ok-layout.layout c.in_ok-bits.bits
    (record { laid = c.in_ok-layout.ensures; bits = c.in_ok-bits.ensures n c.requires.form own c.in_ok-outputs.ensures }) c.requires.narrow
