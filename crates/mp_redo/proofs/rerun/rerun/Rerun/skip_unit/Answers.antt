use Rattle.std.proofs.Common.{ℕ, ◌+◌, ◌<◌, [], List, length, ap, sym, subst}
use Rattle.mp_simulation.specs.bits.Simulations.{IsSoundRun}
use Rattle.mp_kernel.specs.declared.datapath.level_change.LevelChange.{LevelChange}
use Rattle.mp_simulation.specs.units.NetlistSimulations.{AreStimuli, IsStill}
use Rattle.mp_depend.specs.work.Work.{block_of}
use Rattle.mp_redo.specs.declared.rerun.rerun.Rerun.{Rerun}
use Rattle.mp_redo.proofs.lemmas.rerun.IdleLemmas.{still_quiet}
use Rattle.mp_redo.proofs.lemmas.rerun.UnitLemmas.{unit_shown, quiet_over}
use Rattle.mp_redo.proofs.rerun.rerun.Rerun.skip_unit.Goals as goal

pub set_nothing-requires-clause-is : goal.set_nothing-requires-clause-is
set_nothing-requires-clause-is c =
    let before = c.requires.before in
    (block_of c.args.change.now.new.now.horizon before.from, before.is.is)

pub set_nothing-requires-clause-quiet : goal.set_nothing-requires-clause-quiet
set_nothing-requires-clause-quiet c = still_quiet c.args.time c.args.self.now c.requires.unset c.requires.still

pub skip_unit-requires-clause-bits : goal.skip_unit-requires-clause-bits
skip_unit-requires-clause-bits c = subst (λ (x : Rerun). IsSoundRun x.simulation.bits) (sym c.set_nothing.ensures.kept) c.requires.before.is.is.is.shows.bits.sound

pub skip_unit-requires-clause-wheel : goal.skip_unit-requires-clause-wheel
skip_unit-requires-clause-wheel c = subst (λ (x : Rerun). 0 < length x.simulation.wires.wheel) (sym c.set_nothing.ensures.kept) c.requires.before.is.is.is.shows.wires.some

pub skip_unit-requires-clause-still : goal.skip_unit-requires-clause-still
skip_unit-requires-clause-still c = subst (λ (x : Rerun). IsStill x.simulation) (sym c.set_nothing.ensures.kept) c.requires.still

pub returns-clause-end : goal.returns-clause-end
returns-clause-end c = ap (λ (x : Rerun). x.window_end) c.set_nothing.ensures.kept

pub returns-clause-after : goal.returns-clause-after
returns-clause-after c =
    let change = c.args.change.now in
    let old = change.old.now in
    let new = change.new.now in
    let run = change.run.now in
    let time = c.args.time in
    let before = c.requires.before in
    let set = c.set_nothing.new.self in
    let done = c.set_nothing.ensures in
    let over = unit_shown old new c.requires.change.form run time (block_of new.horizon before.from) c.requires.some c.requires.below c.args.self.now set done.kept before.is.is done.followed
    set.set.bits.items set.set.levels.items done.set c.skip_unit.new.self
    (λ n t ok now is stimuli. c.skip_unit.ensures.passed n t ok is
    (subst (λ (xs : List ℕ). AreStimuli n xs [] (t + 1)) done.bits
    (subst (λ (cs : List LevelChange). AreStimuli n set.set.bits.items cs (t + 1)) done.levels
    (subst (λ k. AreStimuli n set.set.bits.items set.set.levels.items k) now stimuli))))
    c.skip_unit.ensures.numbers in
    record {
      from = before.from;
      is = quiet_over old new run before.from time c.args.self.now set c.requires.some before.is done.kept c.requires.within c.skip_unit.new.self over;
    }
