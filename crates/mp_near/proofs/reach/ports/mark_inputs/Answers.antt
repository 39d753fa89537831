use Rattle.std.proofs.Common.{length, sym}
use Rattle.mp_near.proofs.lemmas.reach.MarkLemmas.{module_read, none_read}
use Rattle.mp_near.proofs.reach.ports.mark_inputs.Goals as goal

pub returns-in-Some-clause-read : goal.returns-in-Some-clause-read
returns-in-Some-clause-read c =
    module_read c.args.netlist.now c.args.id.0 c.in-Some.found.now c.as_slice.result.now (length c.args.marks.now.items) c.mark_read.new.marks.items (sym c.in-Some.ensures.value) c.as_slice.ensures c.mark_read.ensures.read

pub returns-in_default-clause-read : goal.returns-in_default-clause-read
returns-in_default-clause-read c = λ w reads low. absurd (none_read c.args.netlist.now c.args.id.0 (sym c.in_default.ensures.value) w reads)
