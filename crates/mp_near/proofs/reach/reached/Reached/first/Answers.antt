use Rattle.std.proofs.Common.{◌≡◌, false, ◌∙◌, arith, rules}
use Rattle.mp_partition.specs.runs.Marks.{is_marked}
use Rattle.mp_near.proofs.lemmas.reach.ReachLemmas.{driven_marked, first_none, first_more, first_same, first_reach}
use Rattle.mp_near.proofs.reach.reached.Reached.first.Goals as goal
use Rattle.mp_near.proofs.reach.reached.Reached.first.Goals.{then-index, else-index}

pub loop-m-init : goal.loop-m-init
loop-m-init c = first_none c.args.old.now c.args.new.now c.in_ok-modules.modules.items c.in_ok-wires.wires.items

pub loop-m-preserved : goal.loop-m-preserved
loop-m-preserved c =
    let old = c.args.old.now in
    let new = c.args.new.now in
    let modules = c.in_ok-modules.modules.items in
    let first = c.in_ok-wires.wires.items in
    let wires = c.loop-m.wires.items in
    let i = c.loop-m.m in
    let is = c.loop-m.invariant in
    elim c.if-index.branch [
      | then-index w ↦
          let one = w.mark_outputs.ensures in
          let two = w.mark_outputs-then-index.ensures in
          let size = is.grown.places ∙ c.in_ok-wires.ensures.places in
          let before = driven_marked old new c.horizon-old_horizon.ensures.form c.requires.revision.wires i wires w.mark_outputs.new.marks.items size one.driven in
          let after = driven_marked new new c.horizon-new_horizon.ensures.form (omega arith) i w.mark_outputs.new.marks.items w.mark_outputs-then-index.new.marks.items (one.grown.places ∙ size) two.driven in
          rw w.wires-is (first_more old new modules first wires w.mark_outputs.new.marks.items w.mark_outputs-then-index.new.marks.items i one.grown two.grown before after is)
      | else-index w ↦
          let not : is_marked modules i ≡ false = search rules in
          rw w.wires-is (first_same old new modules first wires i not is)
    ]

pub returns : goal.returns
returns c =
    first_reach c.args.old.now c.args.new.now c.requires.revision c.in_ok-modules.modules.items c.in_ok-wires.wires.items c.loop-m.wires.items c.loop-m.m
    c.in_ok-modules.ensures.places c.in_ok-wires.ensures.places c.in_ok-modules.ensures.same c.in_ok-wires.ensures.same
    (let value = c.module_slots-m-end.ensures.value in let over = c.loop-m-test.false in omega (arith, value, over)) c.loop-m.invariant
