use Rattle.std.proofs.Common.{◌==◌, ◌||◌, List, Option, ap, refl, ◌∙◌}
use Rattle.std.specs.List.{list_any}
use Rattle.mp_records.specs.declared.module_record.ModuleRecord.{ModuleRecord}
use Rattle.mp_records.specs.declared.ports.Input.{Input}
use Rattle.mp_netlist.specs.Slots.{stands_and}
use Rattle.mp_check.specs.Notes.{module_reads}
use Rattle.mp_check.specs.ReadWires.{mark_at}
use Rattle.mp_check.proofs.ReadLemmas.{module_more, or_false}
use Rattle.mp_check.proofs.read_wires.mark_module.Goals as goal

pub returns-in-Some : goal.returns-in-Some
returns-in-Some c =
    let old = c.args.marks.now.items in
    module_more c.args.netlist.now c.args.id.0 old c.mark_inputs.new.marks.items c.requires.within c.mark_inputs.ensures.places c.requires.before
    (λ w low.
    c.mark_inputs.ensures.each w low ∙ ap (λ (is : List Input). mark_at old w || list_any (λ (i : Input). i.wire.0 == w) is) c.as_slice.ensures
    ∙ ap (λ (slot : Option ModuleRecord). mark_at old w || stands_and (module_reads w) slot) c.in-Some.ensures.value)

pub returns-in-None : goal.returns-in-None
returns-in-None c =
    let old = c.args.marks.now.items in
    module_more c.args.netlist.now c.args.id.0 old old c.requires.within refl c.requires.before
    (λ w low. or_false (mark_at old w) ∙ ap (λ (slot : Option ModuleRecord). mark_at old w || stands_and (module_reads w) slot) c.in-None.ensures.value)
