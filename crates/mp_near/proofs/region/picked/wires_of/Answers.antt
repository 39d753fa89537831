use Rattle.std.proofs.Common.{◌≡◌, false, arith, rules}
use Rattle.mp_partition.specs.runs.Marks.{is_marked}
use Rattle.mp_near.proofs.lemmas.region.PickLemmas.{Known, spread_all, spread_more, spread_same}
use Rattle.mp_near.proofs.region.picked.wires_of.Goals as goal
use Rattle.mp_near.proofs.region.picked.wires_of.Goals.{then-index, else-index}

pub loop-m-preserved : goal.loop-m-preserved
loop-m-preserved c =
    let old = c.args.change.now.old.now in
    let new = c.args.change.now.new.now in
    let modules = c.args.reached.now.modules.items in
    let wires = c.args.reached.now.wires.items in
    let marks = c.loop-m.marks.items in
    let m = c.loop-m.m in
    let known : Known old new modules wires = record { old_ok = c.requires.change.old; new_ok = c.requires.change.new; revision = c.requires.change.revision; reach = c.requires.reach } in
    elim c.if-index.branch [
      | then-index w ↦
          let one = w.mark_inputs.ensures in
          let two = w.mark_inputs-then-index.ensures in
          rw w.marks-is (spread_more old new modules wires marks w.mark_inputs.new.marks.items w.mark_inputs-then-index.new.marks.items m known one.grown two.grown one.read two.read c.loop-m.invariant)
      | else-index w ↦
          let not : is_marked modules m ≡ false = search rules in
          rw w.marks-is (spread_same old new modules wires marks m not c.loop-m.invariant)
    ]

pub returns : goal.returns
returns c =
    let size = c.requires.reach.module_count in
    let value = c.module_slots-m-end.ensures.value in
    let over = c.loop-m-test.false in
    spread_all c.args.change.now.old.now c.args.change.now.new.now c.args.reached.now.modules.items c.args.reached.now.wires.items c.loop-m.marks.items c.loop-m.m (omega (arith, size, value, over)) c.loop-m.invariant
