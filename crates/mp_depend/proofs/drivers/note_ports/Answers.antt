use Rattle.std.proofs.Common.{ℕ, None, ◌∙◌, get_or, refl, arith}
use Rattle.mp_records.specs.declared.ports.Output.{Output}
use Rattle.mp_depend.specs.Drivers.{driver_in}
use Rattle.mp_depend.proofs.DriverLemmas.{noted_more}
use Rattle.mp_depend.proofs.drivers.note_ports.Goals as goal

pub loop-port-preserved : goal.loop-port-preserved
loop-port-preserved c =
    let none : Output = record { wire = None; delay = 0 } in
    let i : ℕ = c.loop-port.port in
    let places = c.loop-port.invariant.places in
    record {
      places = c.note_port.ensures.places ∙ places;
      noted = λ w low.
          noted_more c.args.id c.args.outputs.now i w (driver_in c.args.drivers.now.items w) (driver_in c.loop-port.drivers.items w) (driver_in c.note_port.new.drivers.items w)
          (get_or c.args.outputs.now i none) none c.loop-port-test.true refl (c.loop-port.invariant.noted w low)
          (c.note_port.ensures.here w (omega (arith, low, places))) (c.note_port.ensures.others w);
    }
