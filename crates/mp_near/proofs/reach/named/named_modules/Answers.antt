use Rattle.std.proofs.Common.{List, length, ◌∙◌, ◌≤◌, subst, arith}
use Rattle.mp_records.specs.declared.single_edit.SingleEdit.{SingleEdit}
use Rattle.mp_netlist.proofs.NameLemmas.{module_name}
use Rattle.mp_near.specs.reach.Named.{module_changed_by}
use Rattle.mp_near.proofs.lemmas.reach.MarkLemmas.{grown_none, grown_more}
use Rattle.mp_near.proofs.lemmas.reach.NameMarkLemmas.{AreNoted, noted_none, noted_next, modules_same}
use Rattle.mp_near.proofs.reach.named.named_modules.Goals as goal

pub loop-place-init : goal.loop-place-init
loop-place-init c = record {
  grown = grown_none c.in_ok-marks.marks.items;
  noted = noted_none module_name c.args.old.now.modules module_changed_by c.edits_of-edits.result.now (length c.args.new.now.modules) c.in_ok-marks.marks.items;
}

pub loop-place-preserved : goal.loop-place-preserved
loop-place-preserved c =
    let before = c.loop-place.marks.items in
    let next = c.mark_module.new.marks.items in
    let is = c.loop-place.invariant in
    let low = c.loop-place-test.true in
    record {
      grown = grown_more c.in_ok-marks.marks.items before next is.grown c.mark_module.ensures.grown;
      noted = noted_next module_name c.args.old.now.modules module_changed_by c.edits_of-edits.result.now c.loop-place.place (length c.args.new.now.modules) before next c.index-edits-place.result (omega (arith, low)) c.index-edits-place.is
          (is.grown.places ∙ c.in_ok-marks.ensures.places ∙ c.module_slots-2.ensures.value) c.mark_module.ensures.grown c.mark_module.ensures.named is.noted;
    }

pub returns-clause-same : goal.returns-clause-same
returns-clause-same c =
    let old = c.args.old.now in
    let new = c.args.new.now in
    let edits = c.edits_of-edits.ensures in
    let over = c.loop-place-test.false in
    let first = c.module_slots.ensures.value in
    let count = c.module_slots-2.ensures.value in
    let marks = c.loop-place.marks.items in
    modules_same old new c.args.edit.now c.requires c.in_ok-marks.marks.items marks c.loop-place.place (λ k at low. c.in_ok-marks.ensures.marked k (omega (arith, first, at)) (omega (arith, count, low))) c.loop-place.invariant.grown
    (subst (λ (xs : List SingleEdit). length xs ≤ c.loop-place.place) edits (omega (arith, over)))
    (subst (λ (xs : List SingleEdit). AreNoted module_name old.modules module_changed_by xs c.loop-place.place (length new.modules) marks) edits c.loop-place.invariant.noted)
