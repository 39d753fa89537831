use Rattle.std.proofs.Common.{length, sym}
use Rattle.mp_near.proofs.lemmas.reach.MarkLemmas.{module_driven, module_only, none_driven}
use Rattle.mp_near.proofs.reach.ports.mark_outputs.Goals as goal

pub returns-in-Some-clause-driven : goal.returns-in-Some-clause-driven
returns-in-Some-clause-driven c =
    module_driven c.args.netlist.now c.args.id.0 c.in-Some.found.now c.as_slice.result.now (length c.args.marks.now.items) c.mark_driven.new.marks.items (sym c.in-Some.ensures.value) c.as_slice.ensures c.mark_driven.ensures.driven

pub returns-in-Some-clause-only : goal.returns-in-Some-clause-only
returns-in-Some-clause-only c =
    module_only c.args.netlist.now c.args.id.0 c.in-Some.found.now c.as_slice.result.now c.args.marks.now.items c.mark_driven.new.marks.items (sym c.in-Some.ensures.value) c.as_slice.ensures c.mark_driven.ensures.only

pub returns-in_default-clause-driven : goal.returns-in_default-clause-driven
returns-in_default-clause-driven c = λ p w drives low. absurd (none_driven c.args.netlist.now c.args.id.0 (sym c.in_default.ensures.value) p w drives)
