use Rattle.std.proofs.Common.{ℕ, ◌<◌, length, sym, subst}
use Rattle.mp_records.specs.declared.ports.Output.{Output}
use Rattle.std.proofs.Common.{List}
use Rattle.mp_depend.specs.Drivers.{driver_in, IsNoted}
use Rattle.mp_depend.proofs.DriverLemmas.{below_more, below_none}
use Rattle.mp_depend.proofs.drivers.note_module.Goals as goal

pub returns-in-Some : goal.returns-in-Some
returns-in-Some c =
    let old = c.args.drivers.now.items in
    let new = c.note_ports.new.drivers.items in
    below_more c.args.netlist.now c.args.id c.in-Some.found.now old new (sym c.in-Some.ensures.value) c.note_ports.ensures.places c.requires.before
    (subst (λ (os : List Output). (w : ℕ) → w < length old → IsNoted c.args.id os (length os) w (driver_in old w) (driver_in new w)) c.as_slice.ensures c.note_ports.ensures.noted)

pub returns-in-None : goal.returns-in-None
returns-in-None c = below_none c.args.netlist.now c.args.id.0 c.args.drivers.now.items (sym c.in-None.ensures.value) c.requires.before
