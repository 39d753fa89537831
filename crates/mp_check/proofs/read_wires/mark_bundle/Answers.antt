use Rattle.std.proofs.Common.{◌||◌, Option, ap, refl, ◌∙◌}
use Rattle.mp_records.specs.declared.bundle_record.BundleRecord.{BundleRecord}
use Rattle.mp_records.specs.NamedWires.{bundle_names}
use Rattle.mp_netlist.specs.Slots.{stands_and}
use Rattle.mp_check.specs.ReadWires.{mark_at}
use Rattle.mp_check.proofs.ReadLemmas.{bundle_more, or_false}
use Rattle.mp_check.proofs.read_wires.mark_bundle.Goals as goal

pub returns-in-Some : goal.returns-in-Some
returns-in-Some c =
    let old = c.args.marks.now.items in
    bundle_more c.args.netlist.now c.args.id.0 old c.mark_named.new.marks.items c.requires.within c.mark_named.ensures.places c.requires.before
    (λ w low. c.mark_named.ensures.each w low ∙ ap (λ (slot : Option BundleRecord). mark_at old w || stands_and (bundle_names w) slot) c.in-Some.ensures.value)

pub returns-in-None : goal.returns-in-None
returns-in-None c =
    let old = c.args.marks.now.items in
    bundle_more c.args.netlist.now c.args.id.0 old old c.requires.within refl c.requires.before
    (λ w low. or_false (mark_at old w) ∙ ap (λ (slot : Option BundleRecord). mark_at old w || stands_and (bundle_names w) slot) c.in-None.ensures.value)
