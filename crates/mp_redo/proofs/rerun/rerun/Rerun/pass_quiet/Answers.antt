use Rattle.std.proofs.Common.{ap, sym, subst, ◌∙◌, arith}
use Rattle.mp_netlist.proofs.LimitLemmas.{horizon_within}
use Rattle.mp_depend.specs.work.Work.{block_of}
use Rattle.mp_redo.specs.declared.rerun.rerun.Rerun.{Rerun}
use Rattle.mp_redo.specs.rerun.Windows.{IsInWindow}
use Rattle.mp_redo.proofs.lemmas.rerun.UnitLemmas.{can_pass, unit_shown, quiet_over}
use Rattle.mp_redo.proofs.rerun.rerun.Rerun.pass_quiet.Goals as goal

pub set_nothing-requires-clause-is : goal.set_nothing-requires-clause-is
set_nothing-requires-clause-is c =
    let before = c.requires.before in
    (block_of c.args.change.now.new.now.horizon before.from, before.is.is)

pub run_unit-requires-clause-fit : goal.run_unit-requires-clause-fit
run_unit-requires-clause-fit c =
    let change = c.args.change.now in
    let new = change.new.now in
    let before = c.requires.before in
    let set = c.set_nothing.new.self in
    let done = c.set_nothing.ensures in
    can_pass change.old.now new c.requires.change.form change.run.now c.args.time (block_of new.horizon before.from) c.requires.some c.requires.below c.args.self.now set done.kept before.is.is done.followed
    set.set.bits.items set.set.levels.items done.set

pub run_unit-requires-clause-low : goal.run_unit-requires-clause-low
run_unit-requires-clause-low c =
    let high = horizon_within c.args.change.now.new.now c.requires.change.form in
    let below = c.requires.below in
    omega (arith, high, below)

pub returns-clause-end : goal.returns-clause-end
returns-clause-end c = ap (λ (x : Rerun). x.window_end) c.in_ok-run_unit.ensures.kept ∙ ap (λ (x : Rerun). x.window_end) c.set_nothing.ensures.kept

pub returns-clause-after : goal.returns-clause-after
returns-clause-after c =
    let change = c.args.change.now in
    let old = change.old.now in
    let new = change.new.now in
    let run = change.run.now in
    let time = c.args.time in
    let before = c.requires.before in
    let set = c.set_nothing.new.self in
    let done = c.set_nothing.ensures in
    let ran = c.in_ok-run_unit.ensures in
    let simulation = c.run_unit.new.self.simulation in
    let over = unit_shown old new c.requires.change.form run time (block_of new.horizon before.from) c.requires.some c.requires.below c.args.self.now set done.kept before.is.is done.followed
    set.set.bits.items set.set.levels.items done.set simulation ran.simulated ran.numbers in
    record {
      from = before.from;
      is = subst (λ (x : Rerun). IsInWindow old new run before.from time x) (sym ran.kept)
          (quiet_over old new run before.from time c.args.self.now set c.requires.some before.is done.kept c.requires.within simulation over);
    }
