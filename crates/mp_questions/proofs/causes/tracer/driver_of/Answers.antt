use Rattle.std.proofs.Common.{◌≡◌, Some, None, sym, ◌∙◌}
use Rattle.mp_netlist.specs.Slots.{slot_at}
use Rattle.mp_questions.proofs.causes.tracer.driver_of.Goals as goal

pub returns-in-Some-Some-clause-driver : goal.returns-in-Some-Some-clause-driver
returns-in-Some-Some-clause-driver c =
    let slot : slot_at c.args.known.now c.args.wire.0 ≡ Some c.in-Some-Some.driver = sym (c.in-Some-Some.ensures.lookup.3.1 None) ∙ c.in-Some-Some.field-0-is in
    c.requires c.args.wire.0 c.in-Some-Some.driver slot
