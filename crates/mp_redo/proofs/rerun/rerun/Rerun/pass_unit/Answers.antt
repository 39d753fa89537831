use Rattle.std.proofs.Common.{◌≡◌, ℕ, ◌+◌, ◌-◌, sym, ap, subst, ◌∙◌, arith}
use Rattle.mp_netlist.proofs.LimitLemmas.{horizon_within}
use Rattle.mp_active.specs.compare.Comparing.{AreUnseen}
use Rattle.mp_depend.specs.work.Work.{block_of}
use Rattle.mp_redo.specs.declared.rerun.rerun.Rerun.{Rerun}
use Rattle.mp_redo.specs.rerun.Windows.{IsInWindow}
use Rattle.mp_redo.specs.rerun.Entering.{AllWork}
use Rattle.mp_redo.proofs.lemmas.rerun.EnteringLemmas.{joining_work}
use Rattle.mp_redo.proofs.lemmas.rerun.UnitLemmas.{same_active, none_apart, unit_over, can_pass, unit_shown}
use Rattle.mp_redo.proofs.rerun.rerun.Rerun.pass_unit.Goals as goal

pub is_quiet-requires-clause-is : goal.is_quiet-requires-clause-is
is_quiet-requires-clause-is g c =
    let before = c.requires.before in
    (block_of c.args.change.now.new.now.horizon before.from, before.is.is)

pub find_joining-requires-clause-is : goal.find_joining-requires-clause-is
find_joining-requires-clause-is g c =
    let before = c.requires.before in
    (block_of c.args.change.now.new.now.horizon before.from, before.is.is)

pub find_joining-requires-clause-unseen : goal.find_joining-requires-clause-unseen
find_joining-requires-clause-unseen g c =
    let some = c.requires.some in
    let next : c.args.time - 1 + 1 ≡ c.args.time = omega (arith, some) in
    subst (λ (t : ℕ). AreUnseen t c.args.self.now.comparison) next c.requires.before.is.unseen

pub activate_all-requires-clause-is : goal.activate_all-requires-clause-is
activate_all-requires-clause-is g c κs within =
    let before = c.requires.before in
    let block = block_of c.args.change.now.new.now.horizon before.from in
    (block, c.in_ok-find_joining.ensures.is block before.is.is)

pub activate_all-requires-clause-stand : goal.activate_all-requires-clause-stand
activate_all-requires-clause-stand g c κs within = c.in_ok-find_joining.ensures.joining.stand

pub activate_all-requires-clause-asleep : goal.activate_all-requires-clause-asleep
activate_all-requires-clause-asleep g c κs within = λ m has. same_active c.args.self.now c.find_joining.new.self c.in_ok-find_joining.ensures.looked m ∙ c.in_ok-find_joining.ensures.joining.asleep m has

pub activate_all-requires-clause-work : goal.activate_all-requires-clause-work
activate_all-requires-clause-work g c κs within =
    let change = c.args.change.now in
    let new = change.new.now in
    let s = c.args.self.now in
    let looked = c.find_joining.new.self in
    let before = c.requires.before in
    let found = c.in_ok-find_joining.ensures in
    let same : looked.window_end ≡ s.window_end = ap (λ (x : Rerun). x.window_end) found.looked in
    subst (λ (end : ℕ). AllWork change.old.now new (block_of new.horizon c.args.time) end looked.activity.joining.items) (sym same)
    (joining_work change.old.now new c.requires.change.form change.run.now before.from c.args.time s c.requires.some before.is c.requires.within looked.activity.joining.items found.joining)

pub set_wires-requires-clause-is : goal.set_wires-requires-clause-is
set_wires-requires-clause-is g c =
    let before = c.requires.before in
    let block = block_of c.args.change.now.new.now.horizon before.from in
    (block, c.in_ok-activate_all.ensures.is block (c.in_ok-find_joining.ensures.is block before.is.is))

pub set_wires-requires-clause-quiet : goal.set_wires-requires-clause-quiet
set_wires-requires-clause-quiet g c =
    let change = c.args.change.now in
    let before = c.requires.before in
    let found = c.in_ok-find_joining.ensures in
    let woken = c.in_ok-activate_all.ensures in
    none_apart change.old.now change.new.now change.run.now before.from c.args.time c.args.self.now c.find_joining.new.self c.activate_all.new.self c.requires.some before.is found.looked found.joining woken.woken woken.active

pub run_unit-requires-clause-fit : goal.run_unit-requires-clause-fit
run_unit-requires-clause-fit g c =
    let change = c.args.change.now in
    let new = change.new.now in
    let before = c.requires.before in
    let block = block_of new.horizon before.from in
    let again = c.in_ok-activate_all.ensures.is block (c.in_ok-find_joining.ensures.is block before.is.is) in
    let set = c.set_wires.new.self in
    let done = c.in_ok-set_wires.ensures in
    can_pass change.old.now new c.requires.change.form change.run.now c.args.time block c.requires.some c.requires.below c.activate_all.new.self set done.kept again done.followed
    set.set.bits.items set.set.levels.items done.set

pub run_unit-requires-clause-low : goal.run_unit-requires-clause-low
run_unit-requires-clause-low g c =
    let high = horizon_within c.args.change.now.new.now c.requires.change.form in
    let below = c.requires.below in
    omega (arith, high, below)

pub returns-clause-end : goal.returns-clause-end
returns-clause-end g c =
    ap (λ (x : Rerun). x.window_end) c.in_ok-run_unit.ensures.kept
    ∙ ap (λ (x : Rerun). x.window_end) c.in_ok-set_wires.ensures.kept
    ∙ ap (λ (x : Rerun). x.window_end) c.in_ok-activate_all.ensures.woken.kept
    ∙ ap (λ (x : Rerun). x.window_end) c.in_ok-find_joining.ensures.looked

pub returns-clause-after : goal.returns-clause-after
returns-clause-after g c =
    let change = c.args.change.now in
    let old = change.old.now in
    let new = change.new.now in
    let run = change.run.now in
    let time = c.args.time in
    let before = c.requires.before in
    let block = block_of new.horizon before.from in
    let found = c.in_ok-find_joining.ensures in
    let woken = c.in_ok-activate_all.ensures in
    let again = woken.is block (found.is block before.is.is) in
    let looked = c.find_joining.new.self in
    let mid = c.activate_all.new.self in
    let set = c.set_wires.new.self in
    let done = c.in_ok-set_wires.ensures in
    let ran = c.in_ok-run_unit.ensures in
    let simulation = c.run_unit.new.self.simulation in
    let over = unit_shown old new c.requires.change.form run time block c.requires.some c.requires.below mid set done.kept again done.followed set.set.bits.items set.set.levels.items done.set simulation
    ran.simulated ran.numbers in
    record {
      from = before.from;
      is = subst (λ (x : Rerun). IsInWindow old new run before.from time x) (sym ran.kept)
          (unit_over old new run before.from time c.args.self.now looked mid c.requires.some before.is found.looked found.joining woken.woken woken.active
          woken.joined set done.kept found.unseen c.requires.within simulation over);
    }
